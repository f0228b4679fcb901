-- The desk at which a session stands, how its methods move it, and what becomes of a transcript.
--
--   F     what is to happen at a desk
--
-- Assumes nothing.
use Rattle.std.specs.Prelude.{◌≡◌, ℕ, ◌+◌, ◌≤◌, List, ◌++◌, length, Ok, Err, Result, vec_items, string_bytes}
use Rattle.board.specs.Kinds.{kind_of, most, memory}
use Rattle.board.specs.Game.{Game, called}
use Rattle.commands.specs.Commands.{lines_left}
use Rattle.dock_rules.specs.declared.Refusal.{Refusal}
use Rattle.dock_rules.specs.Calls.{Call, Answer}
use Rattle.dock_rules.specs.Runs.{GoesOn}
use Rattle.dock.specs.Does.{world, book_of}
use Rattle.schedule.specs.declared.Response.{Response}
use Rattle.schedule.specs.declared.Response.TheVariants.{Refused}
use Rattle.schedule.specs.declared.session.Session.{Session}
use Rattle.schedule.specs.declared.transcript.Transcript.{Transcript}
use Rattle.schedule.specs.Desks.{Desk}
use Rattle.schedule.specs.Output.{Stage, NotOpen, At, Driven, line_text, printed, Lawfully}

abbrev pub game_of : Session → Game ℕ
game_of s =
    record { kind = kind_of s.dock.memory; world = world memory s.dock (vec_items s.trays) (book_of s.book) }

pub record Stands (d : Desk) (s : Session) : Type 0 where
  pub game : d.game ≡ game_of s
  pub last : d.last ≡ s.last

-- the session made a call, which answered so
pub record Made (s : Session) (c : Call ℕ) (a : Answer) (t : Session) : Type 0 where
  pub is : ◌≡◌ {A = Answer × Game ℕ} (a, game_of t) (called (game_of s) c)
  pub law : GoesOn (most (game_of s).kind) (game_of s).world c a (game_of t).world
  pub last : t.last ≡ s.last

-- the session moves as its desk does, and so does the run
pub record Moved (F : Desk → Desk) (s t : Session) : Type 0 where
  pub stands : (d : Desk) → Stands d s → Stands (F d) t
  pub driven : (d : Desk) → Stands d s → Driven d → Driven (F d)

-- and responds so
pub record Turned (F : Desk → Response × Desk) (s : Session) (r : Response) (t : Session) : Type 0 where
  pub response : (d : Desk) → Stands d s → r ≡ (F d).0
  pub moved : Moved (λ d. (F d).1) s t

-- how a command that may be refused is answered
abbrev pub said : Result Response Refusal → Response
said (Ok r) = r
said (Err q) = Refused q

-- lines that were read and printed: what was printed, and what is printed of those that are left, is as it was to be;
-- and where the run is lawful after each of those that are left, it is so after each
--
--   o, i, s, ls     the output, the number of the next line, the stage and the lines that are left, before
--   p, j, t, ms     the same after
pub record Through (o : List ℕ) (i : ℕ) (s : Stage) (ls : List (List ℕ)) (p : List ℕ) (j : ℕ) (t : Stage) (ms : List (List ℕ)) : Type 0 where
  pub output : p ++ printed j t ms ≡ o ++ printed i s ls
  pub law : Lawfully t ms → Lawfully s ls
  pub fewer : length ms ≤ length ls

-- the same of a transcript, before at one stage and after at another
abbrev pub Passes : Stage → Transcript → Stage → Transcript → Type 0
Passes s x t y = Through (string_bytes x.out) (x.number + 1) s (lines_left x.schedule) (string_bytes y.out) (y.number + 1) t (lines_left y.schedule)

-- the lines of a session that starts at the desk
abbrev pub Ends : Session → Transcript → Transcript → Type 0
Ends s x y = (d : Desk) → Stands d s → Driven d → Passes (At d) x NotOpen y

-- the line of an open that was just read, which leads to this response and stage, and the lines behind it
abbrev pub Opens : Response × Stage → Transcript → Transcript → Type 0
Opens a x y = Through (string_bytes x.out ++ line_text x.number a.0) (x.number + 1) a.1 (lines_left x.schedule) (string_bytes y.out) (y.number + 1) NotOpen (lines_left y.schedule)
