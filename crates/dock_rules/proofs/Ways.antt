-- The ways in which an operation in range can go. Assumes nothing.
use Rattle.std.proofs.Common.{◌≡◌, ℕ, ◌≤◌, Bool, true, false, cond, not, ◌&&◌, Some, None, MatchBool, sym, refl, subst, arith}
use Rattle.slot_memory.specs.declared.Cell.{Cell}
use Rattle.slot_memory.specs.declared.Index.{Index}
use Rattle.slot_memory.specs.declared.Stored.TheVariants.{Accepted, Refused}
use Rattle.slot_memory.specs.Meaning.{Meaning, index, known, live}
use Rattle.slot_memory.specs.Rules.{Write, Operation, Clear, Read, Mark, Store, Reply, Number, Verdict, Free, target, reading, nothing, marked, written, stored, touched, May, MayStore}

module _ {E : Type 0} where
  -- at memory m, over a memory with spares up to K: the operation, its reply and the memory afterwards
  pub data Way (K : ℕ) (m : Meaning E) (b : ℕ) : Operation E → Reply E → Meaning E → Type 0 where
    was_read : (i : Index) → Way K m b (Read i) (Number (index m i)) m
    was_marked : (c : Cell) (spare : ℕ) → spare ≤ K → Way K m b (Mark b c) (reading m c) (marked m b (Some c) spare)
    was_accepted : (w : Write E) (spare : ℕ) → spare ≤ K → live m b (target w) ≡ true → Way K m b (Store b w) (Verdict Accepted) (written m w spare)
    was_refused : (w : Write E) (spare : ℕ) → spare ≤ K → Way K m b (Store b w) (Verdict Refused) (marked m b None spare)

  -- the same of a reply and a memory as a pair
  abbrev pub WayTo : ℕ → Meaning E → ℕ → Operation E → Reply E × Meaning E → Type 0
  WayTo K m b o x = Way K m b o x.0 x.1

  -- the operation is bay b's, and in range
  abbrev pub InRange : Meaning E → ℕ → Operation E → Type 0
  InRange m b (Clear base) = ⊥
  InRange m b (Read i) = Unit {0}
  InRange m b (Mark c cell) = (c ≡ b) × (known m b cell ≡ true)
  InRange m b (Store c w) = (c ≡ b) × (known m b (target w) ≡ true)

  module _ (K : ℕ) (m : Meaning E) (b : ℕ) (f : Free) (low : m.spare ≤ K) where
    -- a store is accepted only live, and may be refused
    store_way : (w : Write E) (l r : Bool) → live m b (target w) ≡ l → f.refuse ≡ r → MayStore K m l (record { refuse = r; spare = f.spare }) → WayTo K m b (Store b w) (cond (l && not r) (Verdict Accepted, written m w f.spare) (Verdict Refused, marked m b None f.spare))
    store_way w true true on e h = was_refused w f.spare (omega arith)
    store_way w true false on e h = was_accepted w f.spare h on
    store_way w false r on e h = was_refused w f.spare (omega arith)

    -- every operation in range goes one of these ways
    pub way_of : (o : Operation E) → InRange m b o → May K m o f → WayTo K m b o (touched m o f)
    way_of (Clear base) range h = absurd range
    way_of (Read i) range h = was_read i
    way_of (Mark c cell) range h =
        subst (λ x. May K m (Mark x cell) f → WayTo K m b (Mark x cell) (touched m (Mark x cell) f)) (sym range.0)
        (λ h. go (known m b cell) range.1 h)
        h
      where
        go : (k : Bool) → k ≡ true → MatchBool k (f.spare ≤ m.spare) (Unit {0}) → WayTo K m b (Mark b cell) (cond k (reading m cell, marked m b (Some cell) f.spare) (nothing cell, m))
        go true e h = was_marked cell f.spare (omega arith)
        go false e h = cc
    way_of (Store c w) range h =
        subst (λ x. May K m (Store x w) f → WayTo K m b (Store x w) (touched m (Store x w) f)) (sym range.0)
        (λ h. go (known m b (target w)) range.1 h)
        h
      where
        go : (k : Bool) → k ≡ true → MatchBool k (MayStore K m (live m b (target w)) f) (Unit {0}) → WayTo K m b (Store b w) (cond k (stored m b w f) (Verdict Refused, m))
        go true e h = store_way w (live m b (target w)) f.refuse refl refl h
        go false e h = cc
