-- The calls on a dock over a board of a known kind: its memory takes neither of the two freedoms, so that a
-- call is one function of the game.
--
--   game    the board's kind, and the world: dock, memory, trays and book
--
-- Assumes nothing.
use Rattle.std.specs.Prelude.{Some, None, Option}
use Rattle.slot_memory.specs.Meaning.{Meaning}
use Rattle.slot_memory.specs.Rules.{Operation, Free}
use Rattle.mark_memory.specs.Exact.{accepting}
use Rattle.dock_rules.specs.declared.Refusal.{Refusal}
use Rattle.dock_rules.specs.Calls.{World, Call, Answer, refusal, touches, does}
use Rattle.board.specs.Kinds.{Kind, takes, kind_after}

pub record Game (E : Type 0) : Type 0 where
  pub kind : Kind
  pub world : World E

module _ {E : Type 0} where
  -- the operation that a call makes on the memory: none if it is turned down
  abbrev pub made : Option Refusal → Option (Operation E) → Option (Operation E)
  made None o = o
  made (Some r) o = None

  abbrev pub makes : World E → Call E → Option (Operation E)
  makes w c = made (refusal w c) (touches w c)

  -- the free results at that operation; where there is none, none is used
  abbrev pub taken : Kind → Meaning E → Option (Operation E) → Free
  taken k m None = accepting
  taken k m (Some o) = takes k m o

  abbrev pub kind_then : Kind → Meaning E → Option (Operation E) → Kind
  kind_then k m None = k
  kind_then k m (Some o) = kind_after k m o

  -- one call: its answer, and the game afterwards
  abbrev pub called : Game E → Call E → Answer × Game E
  called g c =
      let o = makes g.world c in
      let t = does g.world c (taken g.kind g.world.memory o) in
      (t.0, record { kind = kind_then g.kind g.world.memory o; world = t.1 })
