-- The marks of all bays.
--
--   k, K   what the marks are like, and their type: which cell a mark is on, whether it is spoilt, the mark just
--          made on a cell, what an accepted store on a cell leaves of a mark, and whether a mark can be
--          spoilt at all
--   ks     the marks as the memory notes them: for each bay one or none
--
-- Assumes nothing.
use Rattle.std.specs.Prelude.{ℕ, ◌+◌, ◌≤◌, Bool, true, false, cond, not, ◌&&◌, List, [], ◌∷◌, Some, None, Option, slice_index_or}
use Rattle.std.proofs.Common.{zero-le, lit≤}
use Rattle.slot_memory.specs.declared.Cell.{Cell}
use Rattle.slot_memory.specs.Meaning.{most_spare, is_on}
use Rattle.cell_memory.specs.declared.marking.Marking.{Ghosts}
use Rattle.cell_memory.specs.Laws.{MarkLaws}

module _ {K : Type 0} (k : Ghosts K) where
  abbrev pub Laws : Type 0
  Laws = MarkLaws k.place k.spoilt k.made k.struck k.balks

  abbrev pub cell_of : Option K → Option Cell
  cell_of None = None
  cell_of (Some m) = Some (k.place m)

  abbrev pub is_spoilt : Option K → Bool
  is_spoilt None = false
  is_spoilt (Some m) = k.spoilt m

  -- what an accepted store on the cell leaves of a bay's mark
  abbrev pub struck : Cell → Option K → Option K
  struck c None = None
  struck c (Some m) = k.struck c m

  -- how many marks are spoilt
  abbrev pub spoilt_in : List (Option K) → ℕ
  spoilt_in [] = 0
  spoilt_in (m ∷ ms) = cond (is_spoilt m) 1 0 + spoilt_in ms

  -- the spare with these marks, and the largest
  abbrev pub spare_of : List (Option K) → ℕ
  spare_of ks = cond k.balks (spoilt_in ks) 0

  abbrev pub most : ℕ
  most = cond k.balks most_spare 0

  pub most_within : most ≤ most_spare
  most_within = go k.balks
    where
      go : (t : Bool) → cond t most_spare 0 ≤ most_spare
      go true = lit≤ tt
      go false = zero-le

  -- whether the bay's mark is spoilt
  abbrev pub balks : List (Option K) → ℕ → Bool
  balks ks b = is_spoilt (slice_index_or ks b None)

  -- a store by the bay on the cell is accepted
  abbrev pub accepts : List (Option K) → ℕ → Cell → Bool
  accepts ks b c = is_on c (cell_of (slice_index_or ks b None)) && not (balks ks b)
