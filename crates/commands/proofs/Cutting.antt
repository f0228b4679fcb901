-- Where a text is cut: at the first such byte. Assumes nothing.
use Rattle.std.proofs.Common.{◌≡◌, ℕ, zero, suc, ◌+◌, ◌-◌, ◌<◌, ◌≤◌, Bool, true, false, eqb, ltb, cond, List, [], ◌∷◌, length, get_or, take, drop, Some, None, sym, refl, ap, ◌∙◌, add-one, arith}
use Rattle.std.proofs.lemmas.Bool.{cond-true, cond-false}
use Rattle.std.proofs.lemmas.List.{take_rest}
use Rattle.std.proofs.lemmas.List.Quantifiers.{position-Some}
use Rattle.std.proofs.lemmas.List.Sums.{fails_before_first}
use Rattle.std.proofs.lemmas.Bool.Decides.{nat_tests}
use Rattle.std.specs.List.{position, position_or_len}
use Rattle.commands.specs.Text.{front, back}

module _ (c : ℕ) where
  abbrev pub is_cut : ℕ → Bool
  is_cut b = eqb b c

  -- the byte is not among the first n
  abbrev None-below : List ℕ → ℕ → Type 0
  None-below t n = (k : ℕ) → k < n → is_cut (get_or t k 0) ≡ false

  first_at : (t : List ℕ) (i : ℕ) → i < length t → None-below t i → is_cut (get_or t i 0) ≡ true → (front c t ≡ take i t) × (back c t ≡ Some (drop (suc i) t))
  first_at [] i h none here = absurd (omega arith)
  first_at (b ∷ bs) zero h none here = (cond-true _ _ _ here, cond-true _ _ _ here)
  first_at (b ∷ bs) (suc i) h none here =
      let e = none 0 (omega arith) in
      let rest = first_at bs i (omega arith) (λ k l. none (suc k) (omega arith)) here in
      (cond-false _ _ _ e ∙ ap (λ x. b ∷ x) rest.0, cond-false _ _ _ e ∙ rest.1)

  not_at : (t : List ℕ) → None-below t (length t) → (t ≡ front c t) × (None ≡ back c t)
  not_at [] none = (refl, refl)
  not_at (b ∷ bs) none =
      let e = none 0 (omega arith) in
      let rest = not_at bs (λ k l. none (suc k) (omega arith)) in
      (ap (λ x. b ∷ x) rest.0 ∙ sym (cond-false _ _ _ e), rest.1 ∙ sym (cond-false _ _ _ e))

  -- the parts of a text that is cut at its first such byte
  pub cut_at : (t : List ℕ) (i : ℕ) → position is_cut t ≡ Some i → (take i t ≡ front c t) × (Some (take (length t - (i + 1)) (drop (i + 1) t)) ≡ back c t)
  cut_at t i e =
      let found = position-Some is_cut t i 0 e in
      let parts = first_at t i found.0 found.2 found.1 in
      (sym parts.0, ap Some (take_rest t (i + 1)) ∙ rw add-one (sym parts.1))

  past_end : (n m : ℕ) → cond (ltb n m) (Some n) None ≡ None → m ≤ n
  past_end n m e = grind (arith, nat_tests)

  -- a text without such a byte is not cut
  pub not_cut : (t : List ℕ) → position is_cut t ≡ None → (t ≡ front c t) × (None ≡ back c t)
  not_cut t e =
      let past = past_end (position_or_len is_cut t) (length t) e in
      not_at t (λ k l. fails_before_first is_cut t k 0 (omega arith))
