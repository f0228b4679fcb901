-- The free results that a memory over cells takes are among those that may be. Assumes nothing.
use Rattle.std.proofs.Common.{◌≡◌, ℕ, ◌<◌, ◌≤◌, Bool, true, false, cond, not, ◌&&◌, ltb, List, map, length, get_or, set, Some, None, MatchBool, Option, sym, refl, ap, ◌∙◌, arith}
use Rattle.std.proofs.lemmas.List.{length-map}
use Rattle.slot_memory.specs.declared.Cell.{Cell}
use Rattle.std.proofs.lemmas.Bool.{ltb-true, and_parts}
use Rattle.slot_memory.specs.Lent.{contents}
use Rattle.slot_memory.specs.Meaning.{Meaning, known, live, is_on}
use Rattle.slot_memory.specs.Rules.{Operation, Clear, Read, Mark, Store, Reply, Free, target, May, MayStore, Keeps}
use Rattle.slot_memory.proofs.Kept.{keeps_from}
use Rattle.cell_memory.specs.declared.marking.Marking.{Ghosts}
use Rattle.cell_memory.specs.declared.CellMemory.{CellMemory}
use Rattle.cell_memory.specs.Marks.{Laws, struck, cell_of, is_spoilt, spoilt_in, most, balks}
use Rattle.cell_memory.specs.Exact.{meaning_of, refuses, marks_after, chosen, Does}
use Rattle.cell_memory.proofs.Spoilt.{worth, spoilt_set, spoilt_less, marked_cell, get_or-struck, struck_own}

abbrev counted : Bool → ℕ
counted t = cond t 1 0

module _ {K : Type 0} (k : Ghosts K) (laws : Laws k) {E : Type 0} (m : CellMemory E K) (sixteen : length m.marks.bays ≡ 16) where
  -- the storing bay's mark goes with the others on the cell, so that at most fifteen are left
  accepted_spare : (b : ℕ) (c : Cell) → b < 16 → is_on c (cell_of k (get_or m.marks.bays b None)) ≡ true → spoilt_in k (map (struck k c) m.marks.bays) ≤ 15
  accepted_spare b c h e =
      let long = length-map m.marks.bays (struck k c) in
      let none = ap (is_spoilt k) (get_or-struck k c m.marks.bays b ∙ struck_own k laws c (get_or m.marks.bays b None) e) in
      omega (arith, spoilt_less k (map (struck k c) m.marks.bays) b (omega (arith, long)) none)

  abbrev stored-marks : ℕ → Cell → Bool → List (Option K)
  stored-marks b c accepted = cond accepted (map (struck k c) m.marks.bays) (set m.marks.bays b None)

  -- what the memory means, and the free results that it takes, where it balks or where it never does
  abbrev meant : Bool → Meaning E
  meant t = record { slots = contents m.slots; tail = m.tail; head = m.head; marks = map (cell_of k) m.marks.bays; spare = cond t (spoilt_in k m.marks.bays) 0 }

  abbrev taken : Bool → Operation E → Free
  taken t o = record { refuse = cond t (refuses k m.marks.bays o) false; spare = cond t (spoilt_in k (marks_after k (meaning_of k m) m.marks.bays o)) 0 }

  may_store_lem : (b : ℕ) (c : Cell) (l s : Bool) → b < 16 → live (meaning_of k m) b c ≡ l → balks k m.marks.bays b ≡ s → MayStore 15 (meant true) l (record { refuse = s; spare = spoilt_in k (stored-marks b c (l && not s)) })
  may_store_lem b c true true h on spoilt =
      let one : worth k (get_or m.marks.bays b None) ≡ 1 = ap counted spoilt in
      omega (arith, spoilt_set k m.marks.bays b None (omega arith))
  may_store_lem b c true false h on spoilt = accepted_spare b c h (ap (is_on c) (sym (marked_cell k m.marks.bays b)) ∙ on)
  may_store_lem b c false s h on spoilt = omega (arith, spoilt_set k m.marks.bays b None (omega arith))

  may-balk : (o : Operation E) → May 15 (meant true) o (taken true o)
  may-balk (Clear base) = omega arith
  may-balk (Read i) = tt
  may-balk (Mark b c) = go (known (meaning_of k m) b c) refl
    where
      go : (t : Bool) → known (meaning_of k m) b c ≡ t → MatchBool t (spoilt_in k (cond t (set m.marks.bays b (Some (k.made c))) m.marks.bays) ≤ spoilt_in k m.marks.bays) (Unit {0})
      go true e =
          let none : worth k (Some (k.made c)) ≡ 0 = ap counted (laws.sound c) in
          omega (arith, spoilt_set k m.marks.bays b (Some (k.made c)) (omega (arith, ltb-true b 16 (and_parts (ltb b 16) _ e).0)))
      go false e = tt
  may-balk (Store b w) = go (known (meaning_of k m) b (target w)) refl
    where
      accepted : Bool
      accepted = live (meaning_of k m) b (target w) && not (balks k m.marks.bays b)

      go : (t : Bool) → known (meaning_of k m) b (target w) ≡ t → MatchBool t (MayStore 15 (meant true) (live (meaning_of k m) b (target w)) (record { refuse = balks k m.marks.bays b; spare = spoilt_in k (cond t (stored-marks b (target w) accepted) m.marks.bays) })) (Unit {0})
      go true e = may_store_lem b (target w) (live (meaning_of k m) b (target w)) (balks k m.marks.bays b) (ltb-true b 16 (and_parts (ltb b 16) _ e).0) refl refl
      go false e = tt

  may-accept : (o : Operation E) → May 0 (meant false) o (taken false o)
  may-accept (Clear base) = omega arith
  may-accept (Read i) = tt
  may-accept (Mark b c) = go (known (meaning_of k m) b c)
    where
      go : (t : Bool) → MatchBool t (0 ≤ 0) (Unit {0})
      go true = omega arith
      go false = tt
  may-accept (Store b w) = go (known (meaning_of k m) b (target w)) (live (meaning_of k m) b (target w))
    where
      go : (t l : Bool) → MatchBool t (MayStore 0 (meant false) l (record { refuse = false; spare = 0 })) (Unit {0})
      go true true = omega arith
      go true false = omega arith
      go false l = tt

  may-take : (t : Bool) (o : Operation E) → May (cond t 15 0) (meant t) o (taken t o)
  may-take true o = may-balk o
  may-take false o = may-accept o

  pub keeps : (o : Operation E) (r : Reply E) (n : CellMemory E K) → Does k m o r n → Keeps (most k) (meaning_of k m) o r (meaning_of k n)
  keeps o r n e = keeps_from (most k) (meaning_of k m) o r (meaning_of k n) (chosen k (meaning_of k m) m.marks.bays o) (may-take k.balks o) e.is
