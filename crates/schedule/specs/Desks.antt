-- What commands do on an open dock, one after the other.
--
--   desk      the game (board, dock, memory, trays, book); for each bay the serial of its last started call,
--             0 before the first; and the run so far: what it started with, and its history
--   receipt   a take that is collected or left as TAKEN is entered in the book, or waived if that is refused
--
-- Assumes nothing.
use Rattle.std.specs.Prelude.{ℕ, cond, List, ◌∷◌, Ok, Err, slice_index, slice_set}
use Rattle.board.specs.Game.{Game, called}
use Rattle.commands.specs.declared.Command.{Command}
use Rattle.commands.specs.declared.Command.TheVariants as say
use Rattle.commands.specs.Commands.{Read}
use Rattle.dock_rules.specs.Calls.{Call, Open, Put, Take, Step, Collect, Abandon, Enter, Waive, Answer, Refused, Opened, Began, Stands, End, Left, Settled}
use Rattle.dock_rules.specs.History.{Moment}
use Rattle.dock_rules.specs.Runs.{Start, carrying, moment_of}
use Rattle.schedule.specs.declared.Response.{Response}
use Rattle.schedule.specs.declared.Response.TheVariants.{Fault}
use Rattle.schedule.specs.Responses.{response_to, is_taken, is_refused}

-- how many calls a text may start, and where both indices begin
abbrev pub lifetime : ℕ
lifetime = 1000

abbrev pub base : ℕ
base = 0

pub record Desk : Type 0 where
  pub game : Game ℕ
  pub last : List ℕ
  pub start : Start
  pub history : List (Moment ℕ)

-- one call of the run
abbrev pub make : Desk → Call ℕ → Answer × Desk
make d c =
    let t = called d.game c in (
      t.0,
      record {
        game = t.1;
        last = d.last;
        start = d.start;
        history = moment_of c t.0 (carrying t.1.world) ∷ d.history;
      },
    )

abbrev pub last_of : Desk → ℕ → ℕ
last_of d b = slice_index d.last b

abbrev pub tray_of : Desk → ℕ → ℕ
tray_of d b = slice_index d.game.world.trays b

abbrev pub response : ℕ → Answer × Desk → Response
response b t = response_to t.0 (tray_of t.1 b)

-- the serials, once a start was answered so
abbrev pub noted : Answer → ℕ → List ℕ → List ℕ
noted (Refused r) b last = last
noted Opened b last = last
noted (Began s) b last = slice_set last b s
noted (Stands l) b last = last
noted (End o) b last = last
noted (Left a) b last = last
noted Settled b last = last

abbrev pub noted_at : ℕ → Answer × Desk → Desk
noted_at b t =
    record { game = t.1.game; last = noted t.0 b t.1.last; start = t.1.start; history = t.1.history }

-- enters the receipt of a bay and a serial, or waives it
abbrev pub waived : ℕ → ℕ → Answer × Desk → Desk
waived b s t = cond (is_refused t.0) (make t.1 (Waive b s)).1 t.1

abbrev pub settled : Desk → ℕ → ℕ → Desk
settled d b s = waived b s (make d (Enter b s))

-- after a collect or an abandon
abbrev pub cleared : ℕ → ℕ → Answer × Desk → Desk
cleared b s t = cond (is_taken t.0) (settled t.1 b s) t.1

abbrev pub starts : ℕ → Answer × Desk → Response × Desk
starts b t = (response b t, noted_at b t)

abbrev pub finishes : ℕ → ℕ → Answer × Desk → Response × Desk
finishes b s t = (response b t, cleared b s t)

abbrev pub obeyed : Desk → Command → Response × Desk
obeyed d (say.Marks l n) = let t = make d (Open n lifetime base) in (response 0 t, t.1)
obeyed d (say.Rows l n) = let t = make d (Open n lifetime base) in (response 0 t, t.1)
obeyed d (say.Put b w) = starts b (make d (Put b w))
obeyed d (say.Take b) = starts b (make d (Take b))
obeyed d (say.Step b) = let t = make d (Step b) in (response b t, t.1)
obeyed d (say.Collect b) = finishes b (last_of d b) (make d (Collect b (last_of d b)))
obeyed d (say.Leave b) = finishes b (last_of d b) (make d (Abandon b (last_of d b)))

-- a line's command, or its fault, which touches nothing
abbrev pub heeded : Desk → Read → Response × Desk
heeded d (Ok c) = obeyed d c
heeded d (Err f) = (Fault f, d)
