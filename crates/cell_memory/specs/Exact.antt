-- What a memory over cells means and what it does, exactly, given what its marks are like.
--
--   k, K   what the marks are like, and their type, as in Marks.antt
--   ks     the marks as the memory notes them: for each bay one or none
--
-- Assumes nothing.
use Rattle.std.specs.Prelude.{◌≡◌, Bool, false, cond, not, ◌&&◌, List, map, replicate, Some, None, Option, slice_set}
use Rattle.slot_memory.specs.Lent.{contents, used, rest}
use Rattle.slot_memory.specs.Meaning.{Meaning, bays, known, live}
use Rattle.slot_memory.specs.Rules.{Operation, Clear, Read, Mark, Store, Reply, Free, target, touched}
use Rattle.cell_memory.specs.declared.marking.Marking.{Ghosts}
use Rattle.cell_memory.specs.declared.CellMemory.{CellMemory}
use Rattle.cell_memory.specs.Marks.{cell_of, struck, spoilt_in, spare_of, balks}

module _ {K E : Type 0} where
  abbrev pub marks_of : CellMemory E K → List (Option K)
  marks_of m = m.marks.bays

  -- the lent slots that it does not use
  abbrev pub rest_of : CellMemory E K → List (Option E)
  rest_of m = rest m.slots

module _ {K : Type 0} (k : Ghosts K) {E : Type 0} where
  abbrev pub meaning_of : CellMemory E K → Meaning E
  meaning_of m =
      record { slots = contents m.slots; tail = m.tail; head = m.head; marks = map (cell_of k) (marks_of m); spare = spare_of k (marks_of m) }

  -- the marks after an operation
  abbrev pub marks_after : Meaning E → List (Option K) → Operation E → List (Option K)
  marks_after m ks (Clear base) = replicate bays None
  marks_after m ks (Read i) = ks
  marks_after m ks (Mark b c) = cond (known m b c) (slice_set ks b (Some (k.made c))) ks
  marks_after m ks (Store b w) =
      cond (known m b (target w)) (cond (live m b (target w) && not (balks k ks b)) (map (struck k (target w)) ks) (slice_set ks b None)) ks

  abbrev pub refuses : List (Option K) → Operation E → Bool
  refuses ks (Clear base) = false
  refuses ks (Read i) = false
  refuses ks (Mark b c) = false
  refuses ks (Store b w) = balks k ks b

  -- the free results that a memory of this meaning takes with these marks
  abbrev pub chosen : Meaning E → List (Option K) → Operation E → Free
  chosen m ks o =
      record { refuse = cond k.balks (refuses ks o) false; spare = cond k.balks (spoilt_in k (marks_after m ks o)) 0 }

  pub record Does (m : CellMemory E K) (o : Operation E) (r : Reply E) (n : CellMemory E K) : Type 0 where
    pub is : (r, meaning_of n) ≡ touched (meaning_of m) o (chosen (meaning_of m) (marks_of m) o)
    pub marks : marks_of n ≡ marks_after (meaning_of m) (marks_of m) o

module _ {E : Type 0} where
  -- what a memory that was just made over this row of slots means
  abbrev pub fresh : List (Option E) → Meaning E
  fresh row = record { slots = used row; tail = 0; head = 0; marks = replicate bays None; spare = 0 }
