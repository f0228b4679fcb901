-- Which words are verbs. Assumes nothing.
use Rattle.std.proofs.Common.{◌≡◌, ℕ, Bool, true, false, List, [], ◌∷◌, None, IsUtf8, sym, refl, ◌∙◌, subst}
use lib.Utf8.{encode}
use Rattle.std.specs.Str.{bytes_eq}
use Rattle.std.proofs.lemmas.Slice.Eq.{bytes_eq-Decides}
use Rattle.std.proofs.lemmas.Bool.{cond-false}
use Rattle.commands.specs.declared.parse.Verb.{Verb}
use Rattle.commands.specs.declared.parse.Verb.TheVariants.{Marks, Rows, Put, Take, Step, Collect, Leave}
use Rattle.commands.specs.Commands.{spelled, among, verbs, verb_of}

fails : (b : Bool) → (b ≡ true → ⊥) → b ≡ false
fails true n = absurd (n refl)
fails false n = refl

module _ (w : List ℕ) (unlike : (v : Verb) → w ≡ spelled v → ⊥) where
  none-among : (vs : List Verb) → None ≡ among vs w
  none-among [] = refl
  none-among (v ∷ vs) = none-among vs ∙ sym (cond-false _ _ _ (fails (bytes_eq w (spelled v)) (λ t. unlike v ((bytes_eq-Decides w (spelled v)).0 t))))

  pub no_verb : None ≡ verb_of w
  no_verb = none-among verbs

spelled_utf8 : (v : Verb) → IsUtf8 (spelled v)
unfolding encode
spelled_utf8 Marks = (spelled Marks, (refl, refl))
spelled_utf8 Rows = (spelled Rows, (refl, refl))
spelled_utf8 Put = (spelled Put, (refl, refl))
spelled_utf8 Take = (spelled Take, (refl, refl))
spelled_utf8 Step = (spelled Step, (refl, refl))
spelled_utf8 Collect = (spelled Collect, (refl, refl))
spelled_utf8 Leave = (spelled Leave, (refl, refl))

pub not_text : (w : List ℕ) → (IsUtf8 w → ⊥) → None ≡ verb_of w
not_text w bad = no_verb w (λ v e. bad (subst IsUtf8 (sym e) (spelled_utf8 v)))
