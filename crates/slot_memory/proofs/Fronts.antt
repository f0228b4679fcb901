-- The first n elements of a list, overwritten. Assumes nothing.
use Rattle.std.proofs.Common.{◌≡◌, ℕ, List, ◌++◌, length, take, drop, replicate, ap, ◌∙◌, ⊎_elim, append-nil, arith, length-take}
use lib.ListN.{length-replicate}
use Rattle.std.proofs.lemmas.List.{take_at, take_all, drop_all}
use Rattle.std.proofs.lemmas.Slice.{drop-append-drop}
use Rattle.std.proofs.lemmas.Bool.{cases_lt}

module _ {X : Type 0} where
  -- the front is overwritten, and no more
  pub fill_front : (n : ℕ) (xs : List X) (v : X) (end : ℕ) → end ≡ length (take n xs) → take n (replicate end v ++ drop end xs) ≡ replicate (length (take n xs)) v
  fill_front n xs v end long =
      ⊎_elim
      (λ h. let none = drop_all end xs (omega (arith, length-take n xs)) in ap (λ rest. take n (replicate end v ++ rest)) none ∙ ap (take n) (append-nil (replicate end v)) ∙ take_all n (replicate end v) (omega (arith, length-replicate end v, length-take n xs)))
      (λ h. take_at (replicate end v) (drop end xs) n (length-replicate end v ∙ omega (arith, length-take n xs)))
      (cases_lt (length xs) n)
      ∙ ap (λ k. replicate k v) long

  -- and what lies behind it stays
  pub behind_front : (n : ℕ) (xs : List X) (v : X) (end : ℕ) → end ≡ length (take n xs) → drop n (replicate end v ++ drop end xs) ≡ drop n xs
  behind_front n xs v end long = drop-append-drop end xs (replicate end v) n (omega (arith, long, length-take n xs)) (length-replicate end v)
