-- The tokens of a line.
--
--   word      a part of the line that is no number
--   number    a part that is one
--
-- Behind the last part there is no token.
-- Assumes nothing.
use Rattle.std.specs.Prelude.{ℕ, List, [], ◌∷◌, Some, None, Option}
use Rattle.std.specs.Option.{option_map}
use Rattle.commands.specs.declared.lexer.Token.{Token}
use Rattle.commands.specs.declared.lexer.Token.TheVariants as token
use Rattle.commands.specs.declared.lexer.Lexer.{Lexer}
use Rattle.commands.specs.Text.{words_of, number_of}

-- a token without its place in the text
pub data Lexeme : Type 0 where
  Word : List ℕ → Lexeme
  Number : ℕ → Lexeme

abbrev pub lexeme : Token → Lexeme
lexeme (token.Word w) = Word w.now
lexeme (token.Number n) = Number n

abbrev pub option_lexeme : Option Token → Option Lexeme
option_lexeme None = None
option_lexeme (Some t) = Some (lexeme t)

abbrev pub words_in : Option (List ℕ) → List (List ℕ)
words_in None = []
words_in (Some line) = words_of line

-- the words that a lexer has still to give
abbrev pub words_left : Lexer → List (List ℕ)
words_left l = words_in (option_map (λ x. x.now) l.rest)

abbrev pub lexed : List ℕ → Option ℕ → Lexeme
lexed w None = Word w
lexed w (Some n) = Number n

-- the next token, and the words that are left then
abbrev pub next_token : List (List ℕ) → Option Lexeme × List (List ℕ)
next_token [] = (None, [])
next_token (w ∷ ws) = (Some (lexed w (number_of w)), ws)
