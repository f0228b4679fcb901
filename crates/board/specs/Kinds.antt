-- What a board of either kind means, and what it does, exactly.
--
--   kind    which memory it is, with what it notes besides its meaning: the row memory notes of each
--           mark whether it is spoilt
--
-- Assumes nothing.
use Rattle.std.specs.Prelude.{◌≡◌, ℕ, ◌≤◌, List, replicate, None, Option}
use Rattle.std.proofs.Common.{zero-le, lit≤}
use Rattle.slot_memory.specs.declared.SlotMemory.{Ghosts}
use Rattle.slot_memory.specs.Meaning.{Meaning, bays, most_spare}
use Rattle.slot_memory.specs.Rules.{Operation, Reply, Free, touched}
use Rattle.cell_memory.specs.Exact as cells
use Rattle.mark_memory.specs.Exact as marks
use Rattle.row_memory.specs.declared.RowMark.{RowMark}
use Rattle.row_memory.specs.Exact as rows
use Rattle.board.specs.declared.BoardKind.{BoardKind}
use Rattle.board.specs.declared.BoardKind.TheVariants as kind
use Rattle.board.specs.declared.Board.{Board}
use Rattle.board.specs.declared.Board.TheVariants.{Marks, Rows}

pub data Kind : Type 0 where
  OnMarks : Kind
  OnRows : List (Option RowMark) → Kind

-- a board that was just made has no mark
abbrev pub fresh_kind : BoardKind → Kind
fresh_kind kind.Marks = OnMarks
fresh_kind kind.Rows = OnRows (replicate bays None)

-- the largest spare
abbrev pub most : Kind → ℕ
most OnMarks = 0
most (OnRows ks) = most_spare

module _ {E : Type 0} where
  abbrev pub meaning_of : Board E → Meaning E
  meaning_of (Marks m) = marks.meaning_of m
  meaning_of (Rows m) = rows.meaning_of m

  abbrev pub kind_of : Board E → Kind
  kind_of (Marks m) = OnMarks
  kind_of (Rows m) = OnRows (cells.marks_of m)

  -- the lent slots that it does not use
  abbrev pub rest_of : Board E → List (Option E)
  rest_of (Marks m) = cells.rest_of m
  rest_of (Rows m) = cells.rest_of m

  abbrev pub limit_of : Board E → ℕ
  limit_of b = most (kind_of b)

  abbrev pub bounded : (b : Board E) → limit_of b ≤ most_spare
  bounded (Marks m) = zero-le
  bounded (Rows m) = lit≤ tt

  -- the free results that a board of this kind takes at an operation
  abbrev pub takes : Kind → Meaning E → Operation E → Free
  takes OnMarks m o = marks.accepting
  takes (OnRows ks) m o = rows.chosen m ks o

  -- the kind after an operation
  abbrev pub kind_after : Kind → Meaning E → Operation E → Kind
  kind_after OnMarks m o = OnMarks
  kind_after (OnRows ks) m o = OnRows (rows.marks_after m ks o)

  pub record Plays (b : Board E) (o : Operation E) (r : Reply E) (n : Board E) : Type 0 where
    pub is : (r, meaning_of n) ≡ touched (meaning_of b) o (takes (kind_of b) (meaning_of b) o)
    pub kind : kind_of n ≡ kind_after (kind_of b) (meaning_of b) o

  -- a board as a slot memory
  abbrev pub memory : Ghosts (Board E) E
  memory = record { meaning = meaning_of; limit = limit_of; bounded = bounded; exactly = Plays }
