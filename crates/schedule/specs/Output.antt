-- The output of a schedule's text, and the run that the text drives.
--
--   stage     a text has no open dock before its first granted open, and then a desk
--   desk      see Desks.antt
--
-- Assumes nothing.
use Rattle.std.specs.Prelude.{ℕ, ◌+◌, Bool, cond, List, [], ◌∷◌, ◌++◌, length, replicate, None, Ok, Err, codes, decimal, nat_lt}
use Rattle.slot_memory.specs.Meaning.{bays}
use Rattle.mark_memory.specs.Exact.{fresh}
use Rattle.board.specs.declared.BoardKind.{BoardKind}
use Rattle.board.specs.declared.BoardKind.TheVariants as kind
use Rattle.board.specs.Kinds.{Kind, fresh_kind, most}
use Rattle.board.specs.Game.{Game, called}
use Rattle.commands.specs.declared.Command.{Command}
use Rattle.commands.specs.declared.Command.TheVariants as say
use Rattle.commands.specs.Text.{lines_of, space, line_feed}
use Rattle.commands.specs.Commands.{Read, command_of}
use Rattle.dock_rules.specs.declared.Refusal.TheVariants.{Shut}
use Rattle.dock_rules.specs.Calls.{Open, Answer}
use Rattle.dock_rules.specs.Runs.{Start, Reached, Lawful, carrying}
use Rattle.dock_rules.specs.Runs as runs
use Rattle.dock.specs.Does.{shut_state}
use Rattle.schedule.specs.declared.Response.{Response}
use Rattle.schedule.specs.declared.Response.TheVariants.{Refused, Fault}
use Rattle.schedule.specs.Responses.{response_to, response_text, is_refused}
use Rattle.schedule.specs.Desks.{Desk, lifetime, base, heeded}

-- the longest text, and the length of the book
abbrev pub most_text : ℕ
most_text = 4096

abbrev pub book_length : ℕ
book_length = 64

pub data Stage : Type 0 where
  NotOpen : Stage
  At : Desk → Stage

-- a dock that was never opened, over a fresh board of that kind, with n trays and an empty book
abbrev pub shut_game : Kind → ℕ → ℕ → Game ℕ
shut_game k l n =
    record {
      kind = k;
      world = record {
        dock = shut_state;
        memory = fresh (replicate l None);
        trays = replicate n 0;
        book = record { row = replicate book_length 0; entered = 0 };
      };
    }

abbrev pub from_start : Start → Game ℕ → Desk
from_start st g = record { game = g; last = replicate bays 0; start = st; history = [] }

-- an open: granted, it gives a desk, and otherwise it leaves nothing behind
abbrev pub opens : Start → Answer × Game ℕ → Response × Stage
opens st t = (response_to t.0 0, cond (is_refused t.0) NotOpen (At (from_start st t.1)))

abbrev pub opened_on : Game ℕ → ℕ → Response × Stage
opened_on g n = opens (runs.opening g.world n base) (called g (Open n lifetime base))

abbrev pub opening : BoardKind → ℕ → ℕ → Response × Stage
opening k l n = opened_on (shut_game (fresh_kind k) l n) n

abbrev pub before_open : Command → Response × Stage
before_open (say.Marks l n) = opening kind.Marks l n
before_open (say.Rows l n) = opening kind.Rows l n
before_open (say.Put b w) = (Refused Shut, NotOpen)
before_open (say.Take b) = (Refused Shut, NotOpen)
before_open (say.Step b) = (Refused Shut, NotOpen)
before_open (say.Collect b) = (Refused Shut, NotOpen)
before_open (say.Leave b) = (Refused Shut, NotOpen)

abbrev pub stayed : Response × Desk → Response × Stage
stayed t = (t.0, At t.1)

-- a line's response; a fault touches nothing
abbrev pub responds : Stage → Read → Response × Stage
responds NotOpen (Ok c) = before_open c
responds NotOpen (Err f) = (Fault f, NotOpen)
responds (At d) r = stayed (heeded d r)

abbrev pub after : Stage → List ℕ → Response × Stage
after s line = responds s (command_of line)

-- a line's number, its response and a line feed
abbrev pub line_text : ℕ → Response → List ℕ
line_text i r = decimal i ++ (space ∷ (response_text r ++ line_feed ∷ []))

-- what is printed of lines, the first of which has this number
abbrev pub printed : ℕ → Stage → List (List ℕ) → List ℕ
printed i s [] = []
printed i s (l ∷ ls) = line_text i (after s l).0 ++ printed (i + 1) (after s l).1 ls

abbrev pub is_too_long : List ℕ → Bool
is_too_long text = nat_lt most_text (length text)

abbrev pub output_of : List ℕ → List ℕ
output_of text = cond (is_too_long text) (codes "too long" ++ line_feed ∷ []) (printed 1 NotOpen (lines_of text))

-- the run of a desk is a reached one, and so it is lawful
pub record Driven (d : Desk) : Type 0 where
  pub reached : Reached (most d.game.kind) d.start d.history (carrying d.game.world)
  pub lawful : Lawful (most d.game.kind) d.start d.history

abbrev pub DrivenAt : Stage → Type 0
DrivenAt NotOpen = Unit {0}
DrivenAt (At d) = Driven d

-- and so after each line
abbrev pub Lawfully : Stage → List (List ℕ) → Type 0
Lawfully s [] = DrivenAt s
Lawfully s (l ∷ ls) = DrivenAt s × Lawfully (after s l).1 ls

-- the lines that are obeyed
abbrev pub obeyed_lines : List ℕ → List (List ℕ)
obeyed_lines text = cond (is_too_long text) [] (lines_of text)

-- the law of the run that a text drives
abbrev pub LawfulText : List ℕ → Type 0
LawfulText text = Lawfully NotOpen (obeyed_lines text)
