-- The command of a line, from what its tokens were read as. Assumes nothing.
use Rattle.std.proofs.Common.{◌≡◌, ℕ, List, [], ◌∷◌, Some, None, Ok, Err, Option, sym, refl, ap, ◌∙◌, arith}
use Rattle.std.specs.Option.{ok_or}
use Rattle.commands.specs.declared.Command.{Command}
use Rattle.commands.specs.declared.Fault.TheVariants as fault
use Rattle.commands.specs.declared.parse.Verb.{Verb}
use Rattle.commands.specs.Text.{words_of, number_of}
use Rattle.commands.specs.Tokens.{Lexeme, Word, lexed, next_token}
use Rattle.commands.specs.Commands.{verb_of, led, following, only, command_in, command_of}

word_of : (w v : List ℕ) (o : Option ℕ) → lexed w o ≡ Word v → w ≡ v
word_of w v None e = cc
word_of w v (Some n) e = let z : ◌≡◌ {A = ℕ} 0 1 = cc in absurd (omega arith)

-- the line of a first word
word_leads : (ws us : List (List ℕ)) (w : List ℕ) → ◌≡◌ {A = Option Lexeme × List (List ℕ)} (Some (Word w), us) (next_token ws) → command_in ws ≡ led (verb_of w) us
word_leads [] us w e = let z : ◌≡◌ {A = ℕ} 0 1 = cc (ap (λ (p : Option Lexeme × List (List ℕ)). p.0) e) in absurd (omega arith)
word_leads (v ∷ vs) us w e =
    let first : lexed v (number_of v) ≡ Word w = cc (ap (λ (p : Option Lexeme × List (List ℕ)). p.0) e) in
    let rest : us ≡ vs = ap (λ (p : Option Lexeme × List (List ℕ)). p.1) e in
    (λ i. led (verb_of (word_of v w (number_of v) first i)) (sym rest i))

its_verb : (o : Option Verb) (v : Verb) → Ok v ≡ ok_or o fault.Command → o ≡ Some v
its_verb None v e = let z : ◌≡◌ {A = ℕ} 0 1 = cc in absurd (omega arith)
its_verb (Some u) v e = cc

-- a verb's command was read, and then came what came
pub commanded : (line : List ℕ) {ws us : List (List ℕ)} (vs : List (List ℕ)) {w : List ℕ} {v : Verb} (c : Command) → ws ≡ words_of line → ◌≡◌ {A = Option Lexeme × List (List ℕ)} (Some (Word w), us) (next_token ws) → Ok v ≡ ok_or (verb_of w) fault.Command → only c vs ≡ following v us → only c vs ≡ command_of line
commanded line {ws} {us} vs {w} {v} c words first verb read =
    read
    ∙ ap (λ o. led o us) (sym (its_verb (verb_of w) v verb))
    ∙ sym (word_leads ws us w first)
    ∙ ap command_in words

pub no_more : (c : Command) {us : List (List ℕ)} (vs : List (List ℕ)) → ◌≡◌ {A = Option Lexeme × List (List ℕ)} (None, us) (next_token vs) → Ok c ≡ only c vs
no_more c [] e = refl
no_more c (v ∷ vs) e = let z : ◌≡◌ {A = ℕ} 0 1 = cc (ap (λ (p : Option Lexeme × List (List ℕ)). p.0) e) in absurd (omega arith)

pub one_more : (c : Command) {us : List (List ℕ)} {x : Lexeme} (vs : List (List ℕ)) → ◌≡◌ {A = Option Lexeme × List (List ℕ)} (Some x, us) (next_token vs) → Err fault.Rest ≡ only c vs
one_more c [] e = let z : ◌≡◌ {A = ℕ} 0 1 = cc (ap (λ (p : Option Lexeme × List (List ℕ)). p.0) e) in absurd (omega arith)
one_more c (v ∷ vs) e = refl
