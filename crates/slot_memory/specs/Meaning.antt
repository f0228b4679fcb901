-- What a slot memory means, whatever board keeps it.
--
--   cell      a slot, Tail or Head: what can be marked and stored in
--   mark      a load-linked reservation: none, or one cell; a bay has at most one
--   live      a store is live when the storing bay's mark is on the cell that it stores in
--   spare     how many more live stores may fail before one must be accepted
--   bay       0 to 15, by number; the interface knows a mark for each
--
-- Assumes nothing.
use Rattle.std.specs.Prelude.{ℕ, Bool, true, false, cond, ◌&&◌, List, length, Some, None, Option, ◌==◌, nat_lt, slice_index_or}
use Rattle.slot_memory.specs.declared.Cell.{Cell}
use Rattle.slot_memory.specs.declared.Cell.TheVariants.{Slot, At}
use Rattle.slot_memory.specs.declared.Index.{Index}
use Rattle.slot_memory.specs.declared.Index.TheVariants.{Tail, Head}

-- how many bays the interface knows: a mark for each
abbrev pub bays : ℕ
bays = 16

-- the largest spare that a memory may have
abbrev pub most_spare : ℕ
most_spare = 15

pub record Meaning (E : Type 0) : Type 0 where
  pub slots : List (Option E)
  pub tail : ℕ
  pub head : ℕ
  pub marks : List (Option Cell)
  pub spare : ℕ

abbrev pub same_index : Index → Index → Bool
same_index Tail Tail = true
same_index Tail Head = false
same_index Head Tail = false
same_index Head Head = true

abbrev pub same_cell : Cell → Cell → Bool
same_cell (Slot i) (Slot j) = i == j
same_cell (Slot i) (At j) = false
same_cell (At i) (Slot j) = false
same_cell (At i) (At j) = same_index i j

-- the mark is on the cell
abbrev pub is_on : Cell → Option Cell → Bool
is_on c None = false
is_on c (Some d) = same_cell d c

-- the mark, unless it is on the cell
abbrev pub unless_on : Cell → Option Cell → Option Cell
unless_on c k = cond (is_on c k) None k

module _ {E : Type 0} where
  abbrev pub index : Meaning E → Index → ℕ
  index m Tail = m.tail
  index m Head = m.head

  -- the cell is one of this memory's
  abbrev pub exists : Meaning E → Cell → Bool
  exists m (Slot i) = nat_lt i (length m.slots)
  exists m (At i) = true

  -- both the bay and the cell are within the memory's range
  abbrev pub known : Meaning E → ℕ → Cell → Bool
  known m b c = nat_lt b bays && exists m c

  abbrev pub mark : Meaning E → ℕ → Option Cell
  mark m b = slice_index_or m.marks b None

  abbrev pub live : Meaning E → ℕ → Cell → Bool
  live m b c = is_on c (mark m b)
