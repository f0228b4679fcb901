-- Sums of a function over the numbers below n. Assumes nothing.
use Rattle.std.proofs.Common.{◌≡◌, ℕ, zero, suc, ◌+◌, ◌*◌, ◌<◌, ◌≤◌, refl, inl, inr, arith}
use Rattle.std.proofs.lemmas.Bool.{cases_eq}

-- f 0 + .. + f (n - 1)
abbrev pub sum_to : ℕ → (ℕ → ℕ) → ℕ
sum_to zero f = 0
sum_to (suc n) f = f n + sum_to n f

-- a sum of equal parts is the same sum
pub sum_same : (n : ℕ) (f g : ℕ → ℕ) → ((c : ℕ) → c < n → f c ≡ g c) → sum_to n f ≡ sum_to n g
sum_same zero f g e = refl
sum_same (suc n) f g e =
    let rest = sum_same n f g (λ c l. e c (omega arith)) in
    omega (arith, e n (omega arith))

-- a sum of n parts of at most k is at most k n
pub sum-most : (n k : ℕ) (f : ℕ → ℕ) → ((c : ℕ) → f c ≤ k) → sum_to n f ≤ k * n
sum-most zero k f l = omega arith
sum-most (suc n) k f l =
    let rest = sum-most n k f l in
    omega (arith, l n)

-- where two functions differ at b alone, so do their sums, by as much
pub sum_change : (n b : ℕ) (f g : ℕ → ℕ) → b < n → ((c : ℕ) → (c ≡ b → ⊥) → f c ≡ g c) → sum_to n f + g b ≡ sum_to n g + f b
sum_change zero b f g l e = omega arith
sum_change (suc n) b f g l e = elim (cases_eq b n) [
  | inl same ↦
      let rest = sum_same n f g (λ c k. e c (omega arith)) in
      rw same (omega arith)
  | inr other ↦
      let rest = sum_change n b f g (omega arith) e in
      omega (arith, e n (omega arith))
]

-- a sum is no less than each of its parts
pub sum_has : (n b : ℕ) (f : ℕ → ℕ) → b < n → f b ≤ sum_to n f
sum_has zero b f l = omega arith
sum_has (suc n) b f l = elim (cases_eq b n) [
  | inl same ↦ rw same (omega arith)
  | inr other ↦ let rest = sum_has n b f (omega arith) in omega arith
]
