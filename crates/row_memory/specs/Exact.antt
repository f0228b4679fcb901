-- What the row memory means and what it does, exactly: a live store is refused where the mark is
-- spoilt and accepted where it is not, and the spare is the number of spoilt marks.
--
--   ks     the marks as the memory notes them: for each bay none, or a cell and whether it is spoilt
--
-- Assumes nothing.
use Rattle.std.specs.Prelude.{List, Option}
use Rattle.slot_memory.specs.Meaning.{Meaning}
use Rattle.slot_memory.specs.Rules.{Operation, Reply, Free}
use Rattle.cell_memory.specs.declared.CellMemory.{CellMemory}
use Rattle.cell_memory.specs.Exact as cells
use Rattle.row_memory.specs.declared.RowMark.{RowMark}
use Rattle.row_memory.specs.Row.{spoiling}

module _ {E : Type 0} where
  abbrev pub meaning_of : CellMemory E RowMark → Meaning E
  meaning_of = cells.meaning_of spoiling

  -- a memory just made over this row of slots
  abbrev pub fresh : List (Option E) → Meaning E
  fresh = cells.fresh

  -- the marks after an operation
  abbrev pub marks_after : Meaning E → List (Option RowMark) → Operation E → List (Option RowMark)
  marks_after = cells.marks_after spoiling

  -- the free results that a memory of this meaning takes with these marks
  abbrev pub chosen : Meaning E → List (Option RowMark) → Operation E → Free
  chosen = cells.chosen spoiling

  abbrev pub Balks : CellMemory E RowMark → Operation E → Reply E → CellMemory E RowMark → Type 0
  Balks = cells.Does spoiling
