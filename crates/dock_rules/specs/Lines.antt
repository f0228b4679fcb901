-- The numbered lines, as a table: which one operation a line makes on the memory, and where the call
-- goes by the reply.
--
--   b      the bay
--   L      the number of slots
--   i      the index that the call noted: Tail at E5, Head at D5
--   held   whether the slot held an element when it was last marked
--   e      what lies in the bay's tray
--   r      the reply, by its readings: its number, whether it holds an element, whether it accepts
--
-- Sums of indices wrap at 2 ^ 32.
-- Assumes nothing.
use Rattle.std.specs.Prelude.{ℕ, ◌+◌, ◌%◌, ◌^◌, Bool, true, false, cond, ◌&&◌, List, is_some, Some, None, Option, ◌==◌, slice_set}
use Rattle.slot_memory.specs.declared.Cell.TheVariants.{Slot, At}
use Rattle.slot_memory.specs.declared.Index.TheVariants.{Tail, Head}
use Rattle.slot_memory.specs.declared.Stored.{Stored}
use Rattle.slot_memory.specs.declared.Stored.TheVariants.{Accepted, Refused}
use Rattle.slot_memory.specs.Rules.{InSlot, InIndex, Operation, Read, Mark, Store, Reply, Done, Number, Content, Verdict}
use Rattle.dock_rules.specs.declared.Line.{Line}
use Rattle.dock_rules.specs.declared.Line.TheVariants.{E5, E6, E9, E10, E12, E13, E15, E16, E17, D5, D6, D9, D10, D12, D13, D15, D16, D17}
use Rattle.dock_rules.specs.declared.Outcome.{Outcome}
use Rattle.dock_rules.specs.declared.Outcome.TheVariants.{Full, Stored as HasStored, Empty, Taken}
use Rattle.dock_rules.specs.Words.{is_taking, side, number}

abbrev pub wrap : ℕ → ℕ
wrap n = n % 2 ^ 32

abbrev pub is_accepted : Stored → Bool
is_accepted Accepted = true
is_accepted Refused = false

-- the readings of a reply
module _ {E : Type 0} where
  abbrev pub number_in : Reply E → ℕ
  number_in Done = 0
  number_in (Number n) = n
  number_in (Content o) = 0
  number_in (Verdict s) = 0

  abbrev pub content_in : Reply E → Option E
  content_in Done = None
  content_in (Number n) = None
  content_in (Content o) = o
  content_in (Verdict s) = None

  abbrev pub accepts : Reply E → Bool
  accepts Done = false
  accepts (Number n) = false
  accepts (Content o) = false
  accepts (Verdict s) = is_accepted s

  -- the one operation that a line makes
  abbrev pub operation : Line → ℕ → ℕ → ℕ → Option E → Operation E
  operation E5 b L i e = Read Tail
  operation E6 b L i e = Read Head
  operation E9 b L i e = Mark b (Slot (i % L))
  operation E10 b L i e = Read Tail
  operation E12 b L i e = Mark b (At Tail)
  operation E13 b L i e = Store b (InIndex Tail (wrap (i + 1)))
  operation E15 b L i e = Store b (InSlot (i % L) e)
  operation E16 b L i e = Mark b (At Tail)
  operation E17 b L i e = Store b (InIndex Tail (wrap (i + 1)))
  operation D5 b L i e = Read Head
  operation D6 b L i e = Read Tail
  operation D9 b L i e = Mark b (Slot (i % L))
  operation D10 b L i e = Read Head
  operation D12 b L i e = Mark b (At Head)
  operation D13 b L i e = Store b (InIndex Head (wrap (i + 1)))
  operation D15 b L i e = Store b (InSlot (i % L) None)
  operation D16 b L i e = Mark b (At Head)
  operation D17 b L i e = Store b (InIndex Head (wrap (i + 1)))

-- where a call goes: to a line, with what it notes, or to its end
pub data Next : Type 0 where
  To : Line → ℕ → Bool → Next
  Ends : Outcome → Next

module _ {E : Type 0} where
  abbrev pub next : Line → ℕ → ℕ → Bool → Reply E → Next
  next E5 L i held r = To E6 (number_in r) held
  next E6 L i held r = cond (wrap (number_in r + L) == i) (Ends Full) (To E9 i held)
  next E9 L i held r = To E10 i (is_some (content_in r))
  next E10 L i held r = cond (number_in r == i) (cond held (To E12 i held) (To E15 i held)) (To E5 i held)
  next E12 L i held r = cond (number_in r == i) (To E13 i held) (To E5 i held)
  next E13 L i held r = To E5 i held
  next E15 L i held r = cond (accepts r) (To E16 i held) (To E5 i held)
  next E16 L i held r = cond (number_in r == i) (To E17 i held) (Ends HasStored)
  next E17 L i held r = cond (accepts r) (Ends HasStored) (To E16 i held)
  next D5 L i held r = To D6 (number_in r) held
  next D6 L i held r = cond (number_in r == i) (Ends Empty) (To D9 i held)
  next D9 L i held r = To D10 i (is_some (content_in r))
  next D10 L i held r = cond (number_in r == i) (cond held (To D15 i held) (To D12 i held)) (To D5 i held)
  next D12 L i held r = cond (number_in r == i) (To D13 i held) (To D5 i held)
  next D13 L i held r = To D5 i held
  next D15 L i held r = cond (accepts r) (To D16 i held) (To D5 i held)
  next D16 L i held r = cond (number_in r == i) (To D17 i held) (Ends Taken)
  next D17 L i held r = cond (accepts r) (Ends Taken) (To D16 i held)

-- D9 copies an element that it finds into the bay's tray
abbrev pub copies : Line → Bool
copies l = is_taking (side l) && number l == 9

module _ {E : Type 0} where
  abbrev pub found : List E → ℕ → Option E → List E
  found trays b None = trays
  found trays b (Some e) = slice_set trays b e

  abbrev pub trays_after : Line → List E → ℕ → Reply E → List E
  trays_after l trays b r = cond (copies l) (found trays b (content_in r)) trays
