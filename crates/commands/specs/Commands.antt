-- The commands of a schedule, a line each.
--
--   verb      the first word of a line, which says what is to be done
--   fault     why a line is no command: 1, its first word is no verb; 2, a number is missing, is none, or is
--             too large for its place; 3, something follows the last number
--
-- A line is read from the left, and its first fault counts.
-- Assumes nothing.
use Rattle.std.specs.Prelude.{ℕ, cond, List, [], ◌∷◌, Some, None, Ok, Err, codes, Option, Result}
use Rattle.std.specs.Str.{bytes_eq}
use Rattle.commands.specs.declared.Command.{Command}
use Rattle.commands.specs.declared.Command.TheVariants.{Marks, Rows, Put, Take, Step, Collect, Leave}
use Rattle.commands.specs.declared.Fault.{Fault}
use Rattle.commands.specs.declared.Fault.TheVariants as fault
use Rattle.commands.specs.declared.parse.Verb.{Verb}
use Rattle.commands.specs.declared.parse.Verb.TheVariants as verb
use Rattle.commands.specs.declared.Schedule.{Schedule}
use Rattle.commands.specs.Text.{lines_of, words_of, number_of, at_most, most_number}

-- the largest ring that can be named, and the largest bay and number of bays
abbrev pub most_length : ℕ
most_length = 1024

abbrev pub most_bay : ℕ
most_bay = 255

abbrev pub spelled : Verb → List ℕ
spelled verb.Marks = codes "marks"
spelled verb.Rows = codes "rows"
spelled verb.Put = codes "put"
spelled verb.Take = codes "take"
spelled verb.Step = codes "step"
spelled verb.Collect = codes "collect"
spelled verb.Leave = codes "leave"

abbrev pub verbs : List Verb
verbs = verb.Marks ∷ verb.Rows ∷ verb.Put ∷ verb.Take ∷ verb.Step ∷ verb.Collect ∷ verb.Leave ∷ []

-- the verb that is spelled so
abbrev pub among : List Verb → List ℕ → Option Verb
among [] w = None
among (v ∷ vs) w = cond (bytes_eq w (spelled v)) (Some v) (among vs w)

abbrev pub verb_of : List ℕ → Option Verb
verb_of w = among verbs w

-- what follows a verb, from the left

abbrev pub Read : Type 0
Read = Result Command Fault

abbrev pub or_fault : Option ℕ → (ℕ → Read) → Read
or_fault None next = Err fault.Number
or_fault (Some n) next = next n

-- the number that comes next, if it is at most this
abbrev pub number_next : ℕ → List (List ℕ) → Option ℕ
number_next most [] = None
number_next most (w ∷ ws) = at_most most (number_of w)

abbrev pub others : List (List ℕ) → List (List ℕ)
others [] = []
others (w ∷ ws) = ws

-- a number of at most this, and what follows it
abbrev pub number : ℕ → List (List ℕ) → (ℕ → List (List ℕ) → Read) → Read
number most ws next = or_fault (number_next most ws) (λ n. next n (others ws))

-- nothing more
abbrev pub only : Command → List (List ℕ) → Read
only c [] = Ok c
only c (w ∷ ws) = Err fault.Rest

-- what was read so far, and then nothing more
abbrev pub then_only : Read → List (List ℕ) → Read
then_only (Ok c) ws = only c ws
then_only (Err f) ws = Err f

abbrev pub following : Verb → List (List ℕ) → Read
following verb.Marks ws = number most_length ws (λ l ws. number most_bay ws (λ n ws. only (Marks l n) ws))
following verb.Rows ws = number most_length ws (λ l ws. number most_bay ws (λ n ws. only (Rows l n) ws))
following verb.Put ws = number most_bay ws (λ b ws. number most_number ws (λ w ws. only (Put b w) ws))
following verb.Take ws = number most_bay ws (λ b ws. only (Take b) ws)
following verb.Step ws = number most_bay ws (λ b ws. only (Step b) ws)
following verb.Collect ws = number most_bay ws (λ b ws. only (Collect b) ws)
following verb.Leave ws = number most_bay ws (λ b ws. only (Leave b) ws)

abbrev pub led : Option Verb → List (List ℕ) → Read
led None ws = Err fault.Command
led (Some v) ws = following v ws

abbrev pub command_in : List (List ℕ) → Read
command_in [] = Err fault.Command
command_in (w ∷ ws) = led (verb_of w) ws

-- the command of a line
abbrev pub command_of : List ℕ → Read
command_of line = command_in (words_of line)

abbrev pub fault_number : Fault → ℕ
fault_number fault.Command = 1
fault_number fault.Number = 2
fault_number fault.Rest = 3

-- the lines of a schedule that are still to be read
abbrev pub lines_left : Schedule → List (List ℕ)
lines_left s = lines_of s.text.now

abbrev pub next_command : List (List ℕ) → Option Read × List (List ℕ)
next_command [] = (None, [])
next_command (l ∷ ls) = (Some (command_of l), ls)
