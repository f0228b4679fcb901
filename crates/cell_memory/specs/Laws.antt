-- What every kind of mark keeps.
--
--   place    the cell that a mark is on
--   spoilt   the next store on the mark is refused, live or not
--   made     the mark just made on a cell
--   struck   what an accepted store on a cell leaves of a mark
--   balks    whether a mark can be spoilt at all
--
-- Assumes nothing.
use Rattle.std.specs.Prelude.{◌≡◌, Bool, false, Some, Option}
use Rattle.std.specs.Option.{option_map}
use Rattle.slot_memory.specs.declared.Cell.{Cell}
use Rattle.slot_memory.specs.Meaning.{unless_on}

pub record MarkLaws {K : Type 0} (place : K → Cell) (spoilt : K → Bool) (made : Cell → K) (struck : Cell → K → Option K) (balks : Bool) : Type 0 where
  -- a mark is made on its cell, and is sound
  pub there : (c : Cell) → place (made c) ≡ c
  pub sound : (c : Cell) → spoilt (made c) ≡ false
  -- an accepted store takes the marks on its cell, and leaves every other on the cell where it is
  pub stays : (c : Cell) (k : K) → option_map place (struck c k) ≡ unless_on c (Some (place k))
  -- a memory that never balks has no spoilt mark
  pub calm : balks ≡ false → (k : K) → spoilt k ≡ false
