-- Rows of cells, and what an accepted store does to a mark.
--
--   row      slots 4j to 4j + 3 form a row, and Tail and Head form a row
--   spoilt   a mark on whose row, but not on whose cell, a store was accepted since it was made
--
-- Assumes nothing.
use Rattle.std.specs.Prelude.{◌≡◌, ◌/◌, Bool, true, false, cond, Some, None, Option, ◌==◌, refl}
use Rattle.std.specs.Option.{option_map}
use Rattle.slot_memory.specs.declared.Cell.{Cell}
use Rattle.slot_memory.specs.declared.Cell.TheVariants.{Slot, At}
use Rattle.slot_memory.specs.Meaning.{same_cell, unless_on}
use Rattle.cell_memory.specs.declared.marking.Marking.{Ghosts}
use Rattle.cell_memory.specs.Laws.{MarkLaws}
use Rattle.row_memory.specs.declared.RowMark.{RowMark}

abbrev pub same_row : Cell → Cell → Bool
same_row (Slot i) (Slot j) = i / 4 == j / 4
same_row (Slot i) (At j) = false
same_row (At i) (Slot j) = false
same_row (At i) (At j) = true

abbrev pub place : RowMark → Cell
place k = k.cell

abbrev pub is_spoilt : RowMark → Bool
is_spoilt k = k.spoilt

abbrev pub sound : Cell → RowMark
sound c = record { cell = c; spoilt = false }

abbrev pub spoil : RowMark → RowMark
spoil k = record { cell = k.cell; spoilt = true }

-- what an accepted store on the cell leaves of a mark
abbrev pub struck : Cell → RowMark → Option RowMark
struck c k = cond (same_cell k.cell c) None (cond (same_row k.cell c) (Some (spoil k)) (Some k))

stays : (c : Cell) (k : RowMark) → option_map place (struck c k) ≡ unless_on c (Some (place k))
stays c k = go (same_cell k.cell c) (same_row k.cell c)
  where
    go : (t beside : Bool) → option_map place (cond t None (cond beside (Some (spoil k)) (Some k))) ≡ cond t None (Some k.cell)
    go true beside = refl
    go false true = refl
    go false false = refl

pub mark_laws : MarkLaws place is_spoilt sound struck true
mark_laws = record { there = λ c. refl; sound = λ c. refl; stays = stays; calm = λ e k. absurd (cc) }

-- what marks are like that neighbours spoil
abbrev pub spoiling : Ghosts RowMark
spoiling = record { place = place; spoilt = is_spoilt; made = sound; struck = struck; balks = true }
