-- A call that waits, or whose slot store is still to come, has no place yet. Assumes nothing.
use Rattle.std.proofs.Common.{◌≡◌, ℕ, ◌+◌, ◌<◌, ◌≤◌, Bool, true, false, cond, eqb, ltb, leb, List, [], ◌∷◌, length, refl, ap, ◌∙◌, arith}
use Rattle.std.proofs.lemmas.List.{nil_from_length}
use Rattle.std.proofs.lemmas.Bool.{cond-true, eq-eqb, leb-true}
use Rattle.dock_rules.specs.declared.Attempt.{Attempt}
use Rattle.dock_rules.specs.declared.BayRecord.TheVariants.{UnderWay}
use Rattle.dock_rules.specs.Words.{Side, number}
use Rattle.dock_rules.specs.Calls.{record_of}
use Rattle.dock_rules.specs.History.{Running, Placed, place}
use Rattle.dock_rules.specs.Law.{places}
use Rattle.dock_rules.specs.Runs.{Start, State}
use Rattle.dock_rules.proofs.Sums.{sum_has}
use Rattle.dock_rules.proofs.Knows.{View, wait}
use Rattle.dock_rules.proofs.Invariant.{early_by, hits, weight}

-- what a test weighs is at most one
pub at_most_one : (t : Bool) → cond t 1 0 ≤ 1
at_most_one t = grind arith

-- a call before its slot store weighs one
pub early_own : (a : Attempt) → ltb (number a.line) 16 ≡ true → early_by a.serial (UnderWay a) ≡ 1
early_own a e = cond-true (eqb a.serial a.serial) _ 0 (eq-eqb _ _ refl) ∙ cond-true (ltb (number a.line) 16) 1 0 e

module _ {E : Type 0} where
  -- one call more is placed
  pub placed_words : (w : Running E) (now : ℕ) (ps : List (Placed E)) (x : ℕ) → length (places x (place now w ∷ ps)) ≡ cond (eqb w.serial x) 1 0 + length (places x ps)
  placed_words w now ps x = go (eqb w.serial x)
    where
      go : (t : Bool) → length (cond t (now ∷ places x ps) (places x ps)) ≡ cond t 1 0 + length (places x ps)
      go true = omega arith
      go false = omega arith

  module _ (st : Start) (v : View E) (s : State E) (once : (x : ℕ) → weight st.bays v s x ≤ cond (leb x s.dock.started) 1 0) where
    -- a call that waits has no place yet, since it weighs one already
    pub waits_weigh : (d : Side) (w : Running E) → wait v d ≡ w ∷ [] → (places w.serial v.ps ≡ []) × (0 < weight st.bays v s w.serial)
    waits_weigh d w e =
        let one = once w.serial in
        let most = at_most_one (leb w.serial s.dock.started) in
        let has = hits_wait d e in
        (nil_from_length (places w.serial v.ps) (omega arith), omega arith)
      where
        hits_wait : (d : Side) → wait v d ≡ w ∷ [] → 0 < hits w.serial v.puts + hits w.serial v.takes
        hits_wait d e = grind arith

    -- nor has a call before its slot store, and its serial has been started
    pub early_weighs : (b : ℕ) (a : Attempt) → b < st.bays → record_of s.dock b ≡ UnderWay a → ltb (number a.line) 16 ≡ true → (places a.serial v.ps ≡ []) × (0 < weight st.bays v s a.serial) × (a.serial ≤ s.dock.started)
    early_weighs b a inside is e =
        let x = a.serial in
        let one = once x in
        let most = at_most_one (leb x s.dock.started) in
        let mine : early_by x (record_of s.dock b) ≡ 1 = ap (early_by x) is ∙ early_own a e in
        let has = sum_has st.bays b (λ c. early_by x (record_of s.dock c)) inside in
        (nil_from_length (places x v.ps) (omega arith), omega arith, known x (omega arith))
      where
        known : (x : ℕ) → 0 < weight st.bays v s x → x ≤ s.dock.started
        known x h = go (leb x s.dock.started) refl (once x)
          where
            go : (t : Bool) → leb x s.dock.started ≡ t → weight st.bays v s x ≤ cond t 1 0 → x ≤ s.dock.started
            go true e k = leb-true x s.dock.started e
            go false e k = absurd (omega arith)
