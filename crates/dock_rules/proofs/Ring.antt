-- A ring of slots, read from a count on, as a list. Assumes nothing.
use Rattle.std.proofs.Common.{◌≡◌, ℕ, suc, ◌+◌, ◌-◌, ◌%◌, ◌<◌, ◌≤◌, List, [], ◌∷◌, ◌++◌, length, get_or, set, replicate, None, Option, sym, refl, ◌∙◌, inl, inr, arith}
use Rattle.std.proofs.lemmas.List.{get_or-set_same, get_or-set_other, get_or-replicate, get_or_past, get_or_push, get_or_append_left, length_push}
use Rattle.std.proofs.lemmas.Bool.{cases_order, cases_eq, cases_lt}
use Rattle.dock_rules.proofs.Wrap.{slot_in, slot_apart, slot_again}

-- two counts of one window have two slots, whichever comes first
window_apart : (L H j k : ℕ) → j < L → k < L → (j ≡ k → ⊥) → (H + j) % L ≡ (H + k) % L → ⊥
window_apart L H j k lj lk n e = elim (cases_lt j k) [
  | inl lt ↦ slot_apart L (H + j) (H + k) (omega arith) (omega arith) e
  | inr le ↦ slot_apart L (H + k) (H + j) (omega arith) (omega arith) (sym e)
]

module _ {E : Type 0} where
  -- the slots, read from count H on, hold the list and then nothing
  abbrev pub Ring : ℕ → ℕ → List (Option E) → List (Option E) → Type 0
  Ring L H slots contents = (j : ℕ) → j < L → get_or slots ((H + j) % L) None ≡ get_or contents j None

  -- a slot of the window, read at its count
  pub ring_read : (L H i : ℕ) (slots contents : List (Option E)) → Ring L H slots contents → H ≤ i → i < H + L → get_or slots (i % L) None ≡ get_or contents (i - H) None
  ring_read L H i slots contents r l u =
      let e : H + (i - H) ≡ i = omega arith in
      rw e at (r (i - H) (omega arith))

  -- a store in a slot leaves the slots of other counts of the window as they were
  pub ring_other : (L i j : ℕ) (slots : List (Option E)) (x : Option E) → (i % L ≡ j % L → ⊥) → get_or (set slots (i % L) x) (j % L) None ≡ get_or slots (j % L) None
  ring_other L i j slots x n = get_or-set_other slots (i % L) (j % L) x None (λ e. n (sym e))

  -- a store in the slot of count H + k, within the contents
  pub ring_set : (L H k : ℕ) (slots contents : List (Option E)) (x : Option E) → 0 < L → length slots ≡ L → Ring L H slots contents → k < L → k < length contents → Ring L H (set slots ((H + k) % L) x) (set contents k x)
  ring_set L H k slots contents x p n r lk lc j lj = elim (cases_eq j k) [
    | inl e ↦
        let s = get_or-set_same slots ((H + k) % L) x None (rw n (slot_in L (H + k) p)) in
        let t = get_or-set_same contents k x None lc in
        rw e (s ∙ sym t)
    | inr ne ↦
        ring_other L (H + k) (H + j) slots x (λ e. window_apart L H j k lj lk ne (sym e))
        ∙ r j lj
        ∙ sym (get_or-set_other contents k j x None ne)
  ]

  -- a store in the first slot after the contents
  pub ring_push : (L H : ℕ) (slots contents : List (Option E)) (x : Option E) → 0 < L → length slots ≡ L → Ring L H slots contents → length contents < L → Ring L H (set slots ((H + length contents) % L) x) (contents ++ x ∷ [])
  ring_push L H slots contents x p n r l j lj = elim (cases_order j (length contents)) [
    | inl e ↦
        let s = get_or-set_same slots ((H + length contents) % L) x None (rw n (slot_in L (H + length contents) p)) in
        rw e (s ∙ sym (get_or_push contents x None (length contents) refl))
    | inr (inl lt) ↦
        other (omega arith) ∙ sym (get_or_append_left contents (x ∷ []) None j lt)
    | inr (inr gt) ↦
        other (omega arith)
        ∙ get_or_past contents j None (omega arith)
        ∙ sym (get_or_past (contents ++ x ∷ []) j None (omega (arith, length_push contents x)))
  ]
    where
      other : (j ≡ length contents → ⊥) → get_or (set slots ((H + length contents) % L) x) ((H + j) % L) None ≡ get_or contents j None
      other ne = ring_other L (H + length contents) (H + j) slots x (λ e. window_apart L H j (length contents) lj l ne (sym e)) ∙ r j lj

  -- the start moves on past an empty first
  pub ring_next : (L H : ℕ) (slots rest : List (Option E)) → 0 < L → Ring L H slots (None ∷ rest) → length rest < L → Ring L (H + 1) slots rest
  ring_next L H slots rest p r l j lj = elim (cases_lt (suc j) L) [
    | inl lt ↦
        let e : H + 1 + j ≡ H + suc j = omega arith in
        rw e (r (suc j) lt)
    | inr le ↦
        let e : H + 1 + j ≡ H + 0 + L = omega arith in
        rw (e, slot_again L (H + 0) p) (r 0 p ∙ sym (get_or_past rest j None (omega arith)))
  ]

  -- a ring of empty slots holds nothing
  pub ring_empty : (L H : ℕ) → Ring L H (replicate L None) []
  ring_empty L H j lj = get_or-replicate L ((H + j) % L) None None (slot_in L (H + j) (omega arith))
