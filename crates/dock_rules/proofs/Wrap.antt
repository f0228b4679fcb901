-- Counts that wrap at 2 ^ 32, and slots as counts modulo the ring's length. Assumes nothing.
use Rattle.std.proofs.Common.{◌≡◌, ℕ, suc, ◌+◌, ◌*◌, ◌/◌, ◌%◌, ◌<◌, ◌≤◌, inl, inr, mul-le-mul_right, mod-lt, suc-mul, div-add-mod', arith}
use native.Mathlib.Nat.{mod-add-mod, mod-mod_of_dvd, dvd_of_mod-eq-zero, add-mod_right}
use Rattle.dock_rules.specs.Lines.{wrap}
use Rattle.std.proofs.lemmas.Bool.{cases_lt}

-- two counts less than 2^32 apart that wrap alike are one count
pub wrap_same : (a b : ℕ) → a ≤ b → b < a + 4294967296 → wrap a ≡ wrap b → a ≡ b
wrap_same a b l u e = omega arith

-- a step from a wrapped count wraps to the step from the count
pub wrap_add : (i k : ℕ) → wrap (wrap i + k) ≡ wrap (i + k)
wrap_add i k = mod-add-mod i 4294967296 k

-- a wrapped count has its slot, in a ring whose length divides 2^32
pub wrap-mod : (L i : ℕ) → 0 < L → 4294967296 % L ≡ 0 → wrap i % L ≡ i % L
wrap-mod L i p z = mod-mod_of_dvd L i (dvd_of_mod-eq-zero L z)

-- two counts less than L apart have two slots
pub slot_apart : (L i j : ℕ) → i < j → j < i + L → i % L ≡ j % L → ⊥
slot_apart L i j l u e =
    let di = div-add-mod' i L in
    let dj = div-add-mod' j L in
    elim (cases_lt (i / L) (j / L)) [
      | inl lt ↦ let m : suc (i / L) * L ≤ j / L * L = mul-le-mul_right L lt in omega (arith, suc-mul (i / L) L)
      | inr le ↦ let m : j / L * L ≤ i / L * L = mul-le-mul_right L le in omega arith
    ]

-- a slot is in the ring
pub slot_in : (L i : ℕ) → 0 < L → i % L < L
slot_in L i p = mod-lt i p

-- a count one ring further on has the same slot
pub slot_again : (L i : ℕ) → 0 < L → (i + L) % L ≡ i % L
slot_again L i p = add-mod_right i L
