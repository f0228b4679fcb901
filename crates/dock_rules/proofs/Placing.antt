-- One call more is placed: what the plain queue holds and answers then. Assumes nothing.
use Rattle.std.proofs.Common.{◌≡◌, ℕ, ◌<◌, eqb, List, [], ◌∷◌, ◌++◌, length, Some, None, sym, refl, ap, ◌∙◌, arith}
use Rattle.std.specs.List.{slice_get}
use Rattle.std.proofs.lemmas.Bool.{eq-eqb, ne_eqb, cond-true, cond-false}
use Rattle.dock_rules.specs.declared.Outcome.TheVariants.{Full, Stored}
use Rattle.dock_rules.specs.History.{PutOf, Placed}
use Rattle.dock_rules.specs.Law.{plain, queue, gives, places}

module _ {E : Type 0} (L : ℕ) where
  -- a put into a queue that is not full
  pub plain_put : (q : List E) (e : E) → length q < L → plain L q (PutOf e) ≡ ((Stored, None), q ++ e ∷ [])
  plain_put q e h = cond-false (eqb (length q) L) _ _ (ne_eqb (length q) L (omega arith))

  -- a put on a full queue is turned away
  pub plain-full : (q : List E) (e : E) → length q ≡ L → plain L q (PutOf e) ≡ ((Full, None), q)
  plain-full q e h = cond-true (eqb (length q) L) _ _ (eq-eqb (length q) L h)

  module _ (p : Placed E) (ps : List (Placed E)) (s : ℕ) where
    -- the newly placed call has that one place
    pub places_self : p.serial ≡ s → places s ps ≡ [] → places s (p ∷ ps) ≡ p.moment ∷ []
    places_self e none = cond-true (eqb p.serial s) _ _ (eq-eqb p.serial s e) ∙ ap (λ l. p.moment ∷ l) none

    -- another serial's places stay
    pub places_other : (p.serial ≡ s → ⊥) → places s (p ∷ ps) ≡ places s ps
    places_other n = cond-false (eqb p.serial s) _ _ (ne_eqb p.serial s n)

    -- the newly placed call is answered by the queue before it
    pub gives_self : p.serial ≡ s → gives L s (p ∷ ps) ≡ Some (plain L (queue L ps) p.request).0
    gives_self e = cond-true (eqb p.serial s) _ _ (eq-eqb p.serial s e)

    -- another serial's answer stays
    pub gives_other : (p.serial ≡ s → ⊥) → gives L s (p ∷ ps) ≡ gives L s ps
    gives_other n = cond-false (eqb p.serial s) _ _ (ne_eqb p.serial s n)

    -- a call with a place is none that has none yet
    pub placed_other : (k : ℕ) → places p.serial ps ≡ [] → places s ps ≡ k ∷ [] → p.serial ≡ s → ⊥
    placed_other k none one e = let z : ◌≡◌ {A = ℕ} 0 1 = sym (ap length none) ∙ ap (λ x. length (places x ps)) e ∙ ap length one in omega arith

  -- the first of a queue that is not empty stays the first
  pub nth_push : (q : List E) (e : E) → 0 < length q → slice_get (q ++ e ∷ []) 0 ≡ slice_get q 0
  nth_push [] e h = absurd (omega arith)
  nth_push (x ∷ q) e h = refl
