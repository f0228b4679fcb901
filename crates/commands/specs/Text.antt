-- A schedule text in lines and words.
--
--   line     what stands before a line feed, or before the end of the text; a line feed that is the last
--            byte starts no further line, and an empty text has no line
--   word     a part of a line; words are parted by one space, so that two spaces have an empty word between
--            them, and a line has at least one word
--   front    what stands before the first byte c, or all of it
--   back     what stands behind the first byte c; nothing if there is none
--   number   a word of 1 to 10 digits that is below 2 ^ 32
--
-- Assumes nothing.
use Rattle.std.specs.Prelude.{ℕ, ◌+◌, ◌-◌, ◌*◌, cond, ◌&&◌, List, [], ◌∷◌, length, Some, None, Option, ◌==◌, nat_le, nat_lt}
use Rattle.std.specs.Char.{is_ascii_digit}

abbrev pub line_feed : ℕ
line_feed = 10

abbrev pub space : ℕ
space = 32

-- the byte goes in front of the first part
abbrev pub glued : ℕ → List (List ℕ) → List (List ℕ)
glued b [] = (b ∷ []) ∷ []
glued b (p ∷ ps) = (b ∷ p) ∷ ps

abbrev pub lines_of : List ℕ → List (List ℕ)
lines_of [] = []
lines_of (b ∷ bs) = cond (b == line_feed) ([] ∷ lines_of bs) (glued b (lines_of bs))

abbrev pub words_of : List ℕ → List (List ℕ)
words_of [] = [] ∷ []
words_of (b ∷ bs) = cond (b == space) ([] ∷ words_of bs) (glued b (words_of bs))

abbrev pub front : ℕ → List ℕ → List ℕ
front c [] = []
front c (b ∷ bs) = cond (b == c) [] (b ∷ front c bs)

abbrev pub back : ℕ → List ℕ → Option (List ℕ)
back c [] = None
back c (b ∷ bs) = cond (b == c) (Some bs) (back c bs)

-- numbers

-- the value of digits that follow on a value
abbrev pub value_from : ℕ → List ℕ → Option ℕ
value_from v [] = Some v
value_from v (b ∷ bs) = cond (is_ascii_digit b) (value_from (v * 10 + (b - 48)) bs) None

-- a value of at most this
abbrev pub at_most : ℕ → Option ℕ → Option ℕ
at_most most None = None
at_most most (Some v) = cond (nat_le v most) (Some v) None

abbrev pub most_digits : ℕ
most_digits = 10

abbrev pub most_number : ℕ
most_number = 4294967295

-- what a byte makes of a value: a digit behind it, where that is still a number
abbrev pub value_next : ℕ → ℕ → Option ℕ
value_next v b = cond (is_ascii_digit b) (at_most most_number (Some (v * 10 + (b - 48)))) None

abbrev pub number_of : List ℕ → Option ℕ
number_of w = cond (nat_lt 0 (length w) && nat_le (length w) most_digits) (at_most most_number (value_from 0 w)) None
