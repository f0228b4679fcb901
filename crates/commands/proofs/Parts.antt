-- A line and its words, a text and its lines: the first part is the front, and the others are those of the back.
-- Assumes nothing.
use Rattle.std.proofs.Common.{◌≡◌, ℕ, ◌<◌, Bool, true, false, cond, eqb, List, [], ◌∷◌, length, Some, None, Option, unwrap_or, sym, refl, ap, ◌∙◌, subst, arith, Bor}
use Rattle.std.specs.Bool.{⊤}
use Rattle.std.specs.Option.{option_map, MatchOption}
use Rattle.std.specs.Iterator.{MakesProgress, item_count}
use Rattle.commands.specs.Text.{lines_of, words_of, front, back, glued, line_feed, space, number_of}
use Rattle.commands.specs.Commands.{Read, command_of, next_command}
use Rattle.commands.specs.Tokens.{Lexeme, lexed, words_in, next_token}

-- the parts of a text that is not empty, by those of the text behind its first byte
module _ (parts : List ℕ → List (List ℕ)) (others : Option (List ℕ) → List (List ℕ)) (some : (t : List ℕ) → others (Some t) ≡ parts t) (c b : ℕ) (bs : List ℕ) where
  first_part : glued b (parts bs) ≡ (b ∷ front c bs) ∷ others (back c bs) → (e : Bool) → cond e ([] ∷ parts bs) (glued b (parts bs)) ≡ cond e [] (b ∷ front c bs) ∷ others (cond e (Some bs) (back c bs))
  first_part so true = ap (λ x. [] ∷ x) (sym (some bs))
  first_part so false = so

words_cut : (t : List ℕ) → words_of t ≡ front space t ∷ words_in (back space t)
words_cut [] = refl
words_cut (b ∷ bs) = first_part words_of words_in (λ t. refl) space b bs (ap (glued b) (words_cut bs)) (eqb b space)

abbrev lines_in : Option (List ℕ) → List (List ℕ)
lines_in None = []
lines_in (Some t) = lines_of t

lines_cut : (b : ℕ) (bs : List ℕ) → lines_of (b ∷ bs) ≡ front line_feed (b ∷ bs) ∷ lines_in (back line_feed (b ∷ bs))
lines_cut b [] = first_part lines_of lines_in (λ t. refl) line_feed b [] refl (eqb b line_feed)
lines_cut b (x ∷ xs) = first_part lines_of lines_in (λ t. refl) line_feed b (x ∷ xs) (ap (glued b) (lines_cut x xs)) (eqb b line_feed)

-- the token of a line's front
pub token_is : (t w : List ℕ) (o : Option (List ℕ)) (n : Option ℕ) → w ≡ front space t → o ≡ back space t → n ≡ number_of w → ◌≡◌ {A = Option Lexeme × List (List ℕ)} (Some (lexed w n), words_in o) (next_token (words_of t))
token_is t w o n f b e =
    let first : ◌≡◌ {A = Option Lexeme × List (List ℕ)} (Some (lexed w n), words_in o) (Some (lexed (front space t) (number_of (front space t))), words_in (back space t)) = cc in
    first ∙ ap next_token (sym (words_cut t))

lines_rest : (o : Option (List ℕ)) → lines_of (unwrap_or o []) ≡ lines_in o
lines_rest None = refl
lines_rest (Some t) = refl

pub now_or : (o : Option (Bor (List ℕ))) (d : Bor (List ℕ)) → (unwrap_or o d).now ≡ unwrap_or (option_map (λ x. x.now) o) d.now
now_or None d = refl
now_or (Some t) d = refl

-- the command of a text's front
pub command_next : (t line rest : List ℕ) (o : Option (List ℕ)) (r : Read) → 0 < length t → line ≡ front line_feed t → o ≡ back line_feed t → rest ≡ unwrap_or o [] → r ≡ command_of line → ◌≡◌ {A = Option Read × List (List ℕ)} (Some r, lines_of rest) (next_command (lines_of t))
command_next [] line rest o r h f b v e = absurd (omega arith)
command_next (x ∷ xs) line rest o r h f b v e =
    let lines : lines_of rest ≡ lines_in (back line_feed (x ∷ xs)) = ap lines_of v ∙ lines_rest o ∙ ap lines_in b in
    let command : r ≡ command_of (front line_feed (x ∷ xs)) = e ∙ ap command_of f in
    (λ i. (Some (command i), lines i)) ∙ ap next_command (sym (lines_cut x xs))

-- an iterator over lists of which one goes with each item makes progress
pub goes : {S A B : Type 0} (left : S → List (List ℕ)) (next : List (List ℕ) → Option B × List (List ℕ)) → ((ls : List (List ℕ)) → MatchOption (next ls).0 ⊤ (λ _. length (next ls).1 < length ls)) → (s t : S) (r : A) (b : B) → ◌≡◌ {A = Option B × List (List ℕ)} (Some b, left t) (next (left s)) → MakesProgress {S = S} {A = A} (λ _. ⊤) (item_count left) s (Some r) t
goes {S} {A} {B} left next fewer s t r b e =
    let less : length (left t) < length (left s) = subst (λ (p : Option B × List (List ℕ)). MatchOption p.0 ⊤ (λ _. length p.1 < length (left s))) (sym e) (fewer (left s)) in
    record { on = λ f. (tt, f, less); keeps = tt; rests = λ f. tt }

pub token_fewer : (ws : List (List ℕ)) → MatchOption (next_token ws).0 ⊤ (λ _. length (next_token ws).1 < length ws)
token_fewer [] = tt
token_fewer (w ∷ ws) = omega arith

pub line_fewer : (ls : List (List ℕ)) → MatchOption (next_command ls).0 ⊤ (λ _. length (next_command ls).1 < length ls)
line_fewer [] = tt
line_fewer (l ∷ ls) = omega arith
