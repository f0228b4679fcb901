-- What the mark memory means and what it does, exactly: of the two free results it takes neither.
-- Every live store is accepted, and the spare is always 0.
-- Assumes nothing.
use Rattle.std.specs.Prelude.{◌≡◌, Bool, true, false, cond, List, Some, None, Option, refl}
use Rattle.std.specs.Option.{option_map}
use Rattle.slot_memory.specs.declared.Cell.{Cell}
use Rattle.slot_memory.specs.Meaning.{Meaning, same_cell, unless_on}
use Rattle.slot_memory.specs.Rules.{Operation, Reply, Free, touched}
use Rattle.cell_memory.specs.declared.marking.Marking.{Ghosts}
use Rattle.cell_memory.specs.declared.CellMemory.{CellMemory}
use Rattle.cell_memory.specs.Laws.{MarkLaws}
use Rattle.cell_memory.specs.Exact as cells
use Rattle.mark_memory.specs.declared.PlainMark.{PlainMark}

abbrev pub place : PlainMark → Cell
place k = k.cell

abbrev pub spoilt : PlainMark → Bool
spoilt k = false

abbrev pub made : Cell → PlainMark
made c = record { cell = c }

-- what an accepted store on the cell leaves of a mark
abbrev pub struck : Cell → PlainMark → Option PlainMark
struck c k = cond (same_cell k.cell c) None (Some k)

stays : (c : Cell) (k : PlainMark) → option_map place (struck c k) ≡ unless_on c (Some (place k))
stays c k = go (same_cell k.cell c)
  where
    go : (t : Bool) → option_map place (cond t None (Some k)) ≡ cond t None (Some k.cell)
    go true = refl
    go false = refl

pub mark_laws : MarkLaws place spoilt made struck false
mark_laws = record { there = λ c. refl; sound = λ c. refl; stays = stays; calm = λ e k. refl }

-- what marks are like that nothing spoils
abbrev pub plain : Ghosts PlainMark
plain = record { place = place; spoilt = spoilt; made = made; struck = struck; balks = false }

abbrev pub accepting : Free
accepting = record { refuse = false; spare = 0 }

module _ {E : Type 0} where
  abbrev pub meaning_of : CellMemory E PlainMark → Meaning E
  meaning_of = cells.meaning_of plain

  -- a memory just made over this row of slots
  abbrev pub fresh : List (Option E) → Meaning E
  fresh = cells.fresh

  abbrev pub Accepts : Meaning E → Operation E → Reply E → Meaning E → Type 0
  Accepts m o r n = (r, n) ≡ touched m o accepting

  -- whatever a mark memory does, it accepts
  pub accepts_live : {m n : CellMemory E PlainMark} {o : Operation E} {r : Reply E} → cells.Does plain m o r n → Accepts (meaning_of m) o r (meaning_of n)
  accepts_live does = does.is
