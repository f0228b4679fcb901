-- Which words are numbers, as they are read digit by digit. Assumes nothing.
use Rattle.std.proofs.Common.{◌≡◌, ℕ, ◌+◌, ◌-◌, ◌*◌, ◌<◌, ◌≤◌, Bool, true, false, cond, ◌&&◌, ltb, leb, nat_le, List, [], ◌∷◌, length, Some, None, Option, sym, refl, ap, subst, ◌∙◌, arith}
use denote.Param.Members.{Mut, Called}
use Rattle.std.specs.Char.{is_ascii_digit}
use Rattle.std.specs.Option.{option_and_then}
use Rattle.std.specs.ControlFlow.{continue_value}
use Rattle.std.specs.Iterator.{AlwaysYields, TryFoldsItems}
use Rattle.std.proofs.lemmas.Iterator.{YieldsList}
use Rattle.std.proofs.lemmas.Bool.Decides.{nat_tests}
use Rattle.std.proofs.lemmas.Bool.{cond-true}
use Rattle.commands.specs.Text.{value_from, value_next, at_most, most_number, number_of}

-- h over a list, from a value on, as long as there is a next value
abbrev pub try_all : {B C : Type 0} → (C → B → Option C) → C → List B → Option C
try_all h a [] = Some a
try_all h a (y ∷ ys) = option_and_then (λ c. try_all h c ys) (h a y)

module _ (E : Type 0) {S A B C F : Type 0} (steps : S → Option A → S → Type 0) {v : A → B} (g : Mut F (C × (A × Unit {0})) (Option C)) (h : C → B → Option C) {f : F}
    (k : (a : C) (x : A) (r : Option C) (q : F) → Called g f (a, (x, tt)) r q → (q ≡ f) × (r ≡ h a (v x))) where
  tried : (ys : List B) (s u : S) (p : F) (a : C) (r : Option C) → p ≡ f → AlwaysYields steps v s ys → TryFoldsItems steps {E = E} g (λ o c. o ≡ continue_value c) (λ e o. o ≡ None) s p a r u → r ≡ try_all h a ys
  tried [] s u p a r same gives ([], None, p', c, (t, at, step), fold, last) = last ∙ ap (λ w. Some w.1) (sym fold)
  tried [] s u p a r same gives ([], Some x, p', c, (t, at, step), fold, last) = absurd (gives x u (subst (λ z. steps z (Some x) u) (sym at) step))
  tried [] s u p a r same gives (x ∷ xs, o, p', c, (t, (j, step, more), end), fold, last) = absurd (gives x j step)
  tried (y ∷ ys) s u p a r same gives ([], None, p', c, (t, at, step), fold, last) = absurd (gives.0 u (subst (λ z. steps z None u) (sym at) step))
  tried (y ∷ ys) s u p a r same gives ([], Some x, p', c, (t, at, step), fold, (w, q, e, called, breaks, none)) =
      let here = gives.1 x u (subst (λ z. steps z (Some x) u) (sym at) step) in
      let own = subst (λ z. Called g z (a, (x, tt)) w q) same (subst (λ (z : F × C). Called g z.0 (z.1, (x, tt)) w q) (sym fold) called) in
      let stops : h a y ≡ None = ap (h a) (sym here.0) ∙ sym (k a x w q own).1 ∙ breaks in
      none ∙ ap (option_and_then (λ d. try_all h d ys)) (sym stops)
  tried (y ∷ ys) s u p a r same gives (x ∷ xs, o, p', c, (t, (j, step, more), end), (m, (w, called, on), folds), last) =
      let here = gives.1 x j step in
      let told = k a x w m.0 (subst (λ z. Called g z (a, (x, tt)) w m.0) same called) in
      let next : h a y ≡ Some m.1 = ap (h a) (sym here.0) ∙ sym told.1 ∙ on in
      tried ys j u m.0 m.1 r told.0 here.1 (xs, o, p', c, (t, more, end), folds, last)
      ∙ ap (option_and_then (λ d. try_all h d ys)) (sym next)

  -- what `try_fold` gives over the items of a list
  pub try_fold_from_yields_List : {s : S} {all : List B} (u : S) (a : C) (r : Option C) → TryFoldsItems steps {E = E} g (λ o c. o ≡ continue_value c) (λ e o. o ≡ None) s f a r u → YieldsList steps v s all → r ≡ try_all h a all
  try_fold_from_yields_List {s} {all} u a r ran e = tried all s u f a r refl e.runs ran

-- a value that is too large stays so
over : (v : ℕ) (w : List ℕ) → most_number < v → at_most most_number (value_from v w) ≡ None
over v [] h = grind (arith, nat_tests)
over v (b ∷ bs) h = go (is_ascii_digit b) (over (v * 10 + (b - 48)) bs (omega (arith, h)))
  where
    go : (t : Bool) → at_most most_number (value_from (v * 10 + (b - 48)) bs) ≡ None → at_most most_number (cond t (value_from (v * 10 + (b - 48)) bs) None) ≡ None
    go true e = e
    go false e = refl

within : (v : ℕ) (w : List ℕ) → v ≤ most_number → try_all value_next v w ≡ at_most most_number (value_from v w)
within v [] h = grind (arith, nat_tests)
within v (b ∷ bs) h = go (is_ascii_digit b) (λ k. within (v * 10 + (b - 48)) bs k)
  where
    u : ℕ
    u = v * 10 + (b - 48)

    fits : (t : Bool) → nat_le u most_number ≡ t → (u ≤ most_number → try_all value_next u bs ≡ at_most most_number (value_from u bs)) → option_and_then (λ c. try_all value_next c bs) (cond (nat_le u most_number) (Some u) None) ≡ at_most most_number (value_from u bs)
    fits true e more = ap (λ t. option_and_then (λ c. try_all value_next c bs) (cond t (Some u) None)) e ∙ more (grind (arith, nat_tests))
    fits false e more = ap (λ t. option_and_then (λ c. try_all value_next c bs) (cond t (Some u) None)) e ∙ sym (over u bs (grind (arith, nat_tests)))

    go : (t : Bool) → (u ≤ most_number → try_all value_next u bs ≡ at_most most_number (value_from u bs)) → option_and_then (λ c. try_all value_next c bs) (cond t (at_most most_number (Some u)) None) ≡ at_most most_number (cond t (value_from u bs) None)
    go true more = fits (nat_le u most_number) refl more
    go false more = refl

-- a word of a length that a number may have, read from the front
pub number_read : (w : List ℕ) → 0 < length w → length w ≤ 10 → try_all value_next 0 w ≡ number_of w
number_read w h k =
    let t : (ltb 0 (length w) && leb (length w) 10) ≡ true = grind (arith, nat_tests) in
    within 0 w (omega arith) ∙ sym (cond-true _ _ _ t)
