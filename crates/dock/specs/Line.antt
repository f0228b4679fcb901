-- What running one line of a call is.
--
--   line, index, held     where the call stands and what it notes, before and after
--   reply                 what the memory answered to the line's one operation
--
-- Assumes nothing.
use Rattle.std.specs.Prelude.{◌≡◌, ℕ, Bool, List, length}
use Rattle.std.specs.List.{slice_get}
use Rattle.slot_memory.specs.declared.SlotMemory.{Ghosts}
use Rattle.slot_memory.specs.Rules.{Operation, Reply, Keeps}
use Rattle.dock_rules.specs.declared.Line.{Line}
use Rattle.dock_rules.specs.declared.Attempt.{Attempt}
use Rattle.dock_rules.specs.declared.Stepped.{Stepped}
use Rattle.dock_rules.specs.declared.Stepped.TheVariants.{At, Ended}
use Rattle.dock_rules.specs.Lines.{Next, To, Ends, operation, next, trays_after}

abbrev pub leads : Stepped → ℕ → Bool → Next
leads (At l) i held = To l i held
leads (Ended o) i held = Ends o

module _ {M E : Type 0} (of : Ghosts M E) where
  -- the one operation of a line on this memory
  abbrev pub line_operation : M → ℕ → Line → ℕ → List E → Operation E
  line_operation m b l i t = operation l b (length (of.meaning m).slots) i (slice_get t b)

  pub record Runs (m : M) (b : ℕ) (l : Line) (a : Attempt) (t : List E) (s : Stepped) (n : M) (z : Attempt) (u : List E) : Type 0 where
    pub reply : Reply E
    pub exact : of.exactly m (line_operation m b l a.index t) reply n
    pub rules : Keeps (of.limit m) (of.meaning m) (line_operation m b l a.index t) reply (of.meaning n)
    pub fixed : of.limit n ≡ of.limit m
    pub goes : leads s z.index z.held ≡ next l (length (of.meaning m).slots) a.index a.held reply
    pub serial : z.serial ≡ a.serial
    pub trays : u ≡ trays_after l t b reply
