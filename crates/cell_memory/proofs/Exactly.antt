-- What the code leaves is what a memory over cells does, exactly. Assumes nothing.
use Rattle.std.proofs.Common.{◌≡◌, ℕ, Bool, true, false, cond, not, ◌&&◌, map, set, Some, None, Option, sym, ap, ◌∙◌}
use Rattle.std.proofs.lemmas.List.{map-set}
use Rattle.slot_memory.specs.declared.Cell.{Cell}
use Rattle.slot_memory.specs.declared.Index.TheVariants.{Tail, Head}
use Rattle.slot_memory.specs.declared.Stored.TheVariants.{Accepted, Refused}
use Rattle.slot_memory.specs.Lent.{contents}
use Rattle.slot_memory.specs.Meaning.{Meaning, known, live, is_on}
use Rattle.slot_memory.specs.Rules.{Write, InSlot, InIndex, Mark, Store, Reply, Free, Verdict, target, reading, nothing, marked, written, stored, touched}
use Rattle.cell_memory.specs.declared.marking.Marking.{Ghosts}
use Rattle.cell_memory.specs.declared.CellMemory.{CellMemory}
use Rattle.cell_memory.specs.Marks.{Laws, struck, cell_of, balks, accepts, spare_of}
use Rattle.cell_memory.specs.Exact.{meaning_of, marks_after, chosen, Does}
use Rattle.cell_memory.proofs.Spoilt.{struck_cells, marked_cell, balks_alone}

-- a store in range is what `stored` says, and a mark in range is made
module _ {E : Type 0} (m : Meaning E) (b : ℕ) (f : Free) where
  stored_known : (w : Write E) (accepted : Bool) → known m b (target w) ≡ true → (live m b (target w) && not f.refuse) ≡ accepted → touched m (Store b w) f ≡ cond accepted (Verdict Accepted, written m w f.spare) (Verdict Refused, marked m b None f.spare)
  stored_known w accepted kn e =
      ap (λ t. cond t (stored m b w f) (Verdict Refused, m)) kn
      ∙ ap (λ t. cond {A = Reply E × Meaning E} t (Verdict Accepted, written m w f.spare) (Verdict Refused, marked m b None f.spare)) e

  marked_known : (c : Cell) → known m b c ≡ true → touched m (Mark b c) f ≡ (reading m c, marked m b (Some c) f.spare)
  marked_known c kn = ap (λ t. cond {A = Reply E × Meaning E} t (reading m c, marked m b (Some c) f.spare) (nothing c, m)) kn

module _ {K : Type 0} (k : Ghosts K) (laws : Laws k) {E : Type 0} where
  -- slots and indices of n are those of m, but for the write
  abbrev pub Wrote : CellMemory E K → Write E → CellMemory E K → Type 0
  Wrote m (InSlot i content) n = (contents n.slots ≡ set (contents m.slots) i content) × (n.tail ≡ m.tail) × (n.head ≡ m.head)
  Wrote m (InIndex Tail number) n = (contents n.slots ≡ contents m.slots) × (n.tail ≡ number) × (n.head ≡ m.head)
  Wrote m (InIndex Head number) n = (contents n.slots ≡ contents m.slots) × (n.tail ≡ m.tail) × (n.head ≡ number)

  -- a store is accepted by the code exactly if it is live and the free results let it through
  allowed : (m : CellMemory E K) (b : ℕ) (w : Write E) (accepted : Bool) → accepts k m.marks.bays b (target w) ≡ accepted → (live (meaning_of k m) b (target w) && not (balks k m.marks.bays b)) ≡ accepted
  allowed m b w accepted e = ap (λ o. is_on (target w) o && not (balks k m.marks.bays b)) (marked_cell k m.marks.bays b) ∙ e

  freely : (m : CellMemory E K) (b : ℕ) (w : Write E) (accepted : Bool) → accepts k m.marks.bays b (target w) ≡ accepted → (live (meaning_of k m) b (target w) && not (chosen k (meaning_of k m) m.marks.bays (Store b w)).refuse) ≡ accepted
  freely m b w accepted e = ap (λ t. live (meaning_of k m) b (target w) && not t) (balks_alone k laws m.marks.bays b) ∙ allowed m b w accepted e

  left : (m : CellMemory E K) (b : ℕ) (w : Write E) (accepted : Bool) → known (meaning_of k m) b (target w) ≡ true → accepts k m.marks.bays b (target w) ≡ accepted → marks_after k (meaning_of k m) m.marks.bays (Store b w) ≡ cond accepted (map (struck k (target w)) m.marks.bays) (set m.marks.bays b None)
  left m b w accepted kn e =
      ap (λ t. cond t (cond (live (meaning_of k m) b (target w) && not (balks k m.marks.bays b)) (map (struck k (target w)) m.marks.bays) (set m.marks.bays b None)) m.marks.bays) kn
      ∙ ap (λ t. cond t (map (struck k (target w)) m.marks.bays) (set m.marks.bays b None)) (allowed m b w accepted e)

  wrote_meaning : (m n : CellMemory E K) (w : Write E) (s : ℕ) → n.marks.bays ≡ map (struck k (target w)) m.marks.bays → spare_of k n.marks.bays ≡ s → Wrote m w n → meaning_of k n ≡ written (meaning_of k m) w s
  wrote_meaning m n (InSlot i content) s mk sp wr =
      λ x. record { slots = wr.0 x; tail = wr.1 x; head = wr.2 x; marks = (ap (map (cell_of k)) mk ∙ struck_cells k laws _ _) x; spare = sp x }
  wrote_meaning m n (InIndex Tail number) s mk sp wr =
      λ x. record { slots = wr.0 x; tail = wr.1 x; head = wr.2 x; marks = (ap (map (cell_of k)) mk ∙ struck_cells k laws _ _) x; spare = sp x }
  wrote_meaning m n (InIndex Head number) s mk sp wr =
      λ x. record { slots = wr.0 x; tail = wr.1 x; head = wr.2 x; marks = (ap (map (cell_of k)) mk ∙ struck_cells k laws _ _) x; spare = sp x }

  marked_meaning : (m n : CellMemory E K) (b : ℕ) (o : Option K) (s : ℕ) → n.marks.bays ≡ set m.marks.bays b o → spare_of k n.marks.bays ≡ s → (n.slots ≡ m.slots) × (n.tail ≡ m.tail) × (n.head ≡ m.head) → meaning_of k n ≡ marked (meaning_of k m) b (cell_of k o) s
  marked_meaning m n b o s mk sp wr =
      λ x. record { slots = contents (wr.0 x); tail = wr.1 x; head = wr.2 x; marks = (ap (map (cell_of k)) mk ∙ map-set (cell_of k) m.marks.bays b o) x; spare = sp x }

  pub accepted_exactly : (m n : CellMemory E K) (b : ℕ) (w : Write E) → known (meaning_of k m) b (target w) ≡ true → accepts k m.marks.bays b (target w) ≡ true → n.marks.bays ≡ map (struck k (target w)) m.marks.bays → Wrote m w n → Does k m (Store b w) (Verdict Accepted) n
  accepted_exactly m n b w kn ac mk wr =
      let after = mk ∙ sym (left m b w true kn ac) in
      let is = wrote_meaning m n w _ mk (ap (spare_of k) after) wr in
      record {
        is = ap (λ x. (Verdict Accepted, x)) is ∙ sym (stored_known (meaning_of k m) b _ w true kn (freely m b w true ac));
        marks = after;
      }

  pub refused_exactly : (m n : CellMemory E K) (b : ℕ) (w : Write E) → known (meaning_of k m) b (target w) ≡ true → accepts k m.marks.bays b (target w) ≡ false → n.marks.bays ≡ set m.marks.bays b None → (n.slots ≡ m.slots) × (n.tail ≡ m.tail) × (n.head ≡ m.head) → Does k m (Store b w) (Verdict Refused) n
  refused_exactly m n b w kn ac mk wr =
      let after = mk ∙ sym (left m b w false kn ac) in
      let is = marked_meaning m n b None _ mk (ap (spare_of k) after) wr in
      record {
        is = ap (λ x. (Verdict Refused, x)) is ∙ sym (stored_known (meaning_of k m) b _ w false kn (freely m b w false ac));
        marks = after;
      }

  pub marked_exactly : (m n : CellMemory E K) (b : ℕ) (c : Cell) (r : Reply E) → known (meaning_of k m) b c ≡ true → r ≡ reading (meaning_of k m) c → n.marks.bays ≡ set m.marks.bays b (Some (k.made c)) → (n.slots ≡ m.slots) × (n.tail ≡ m.tail) × (n.head ≡ m.head) → Does k m (Mark b c) r n
  marked_exactly m n b c r kn rd mk wr =
      let free : Free = chosen k (meaning_of k m) m.marks.bays (Mark b c) in
      let after = mk ∙ sym (ap (λ t. cond t (set m.marks.bays b (Some (k.made c))) m.marks.bays) kn) in
      let is : meaning_of k n ≡ marked (meaning_of k m) b (Some c) free.spare =
      marked_meaning m n b (Some (k.made c)) free.spare mk (ap (spare_of k) after) wr
      ∙ ap (λ x. marked (meaning_of k m) b (Some x) free.spare) (laws.there c) in
      record { is = (λ x. (rd x, is x)) ∙ sym (marked_known (meaning_of k m) b free c kn); marks = after }
