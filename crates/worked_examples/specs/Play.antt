-- Plays: lists of calls, made one after another on a dock over a board of either kind, by the
-- definitions alone. Elements are numbers.
--
--   kind      which memory the board is, with what it notes besides its meaning
--   game      the board's kind and the world
--   opened    a game in which nothing but the open has been called: L empty slots, both indices the
--             base, a lifetime of 1,000 calls, n trays with 0 in each, a book for 4 elements
--
-- Assumes nothing.
use Rattle.std.specs.Prelude.{ℕ, false, List, [], ◌∷◌, replicate, None}
use Rattle.mark_memory.specs.Exact.{fresh}
use Rattle.board.specs.declared.BoardKind.TheVariants as board
use Rattle.board.specs.Kinds.{Kind, fresh_kind}
use Rattle.board.specs.Game.{Game, called}
use Rattle.dock_rules.specs.declared.BayRecord.TheVariants.{Free as Idle}
use Rattle.dock_rules.specs.declared.DockState.{DockState}
use Rattle.dock_rules.specs.Calls.{World, Book, Call, Open, Step, Answer, most_bays}

-- the answers of a play, in their order
abbrev pub answers : Game ℕ → List (Call ℕ) → List Answer
answers g [] = []
answers g (c ∷ cs) = let t = called g c in t.0 ∷ answers t.1 cs

-- the game after a play
abbrev pub after : Game ℕ → List (Call ℕ) → Game ℕ
after g [] = g
after g (c ∷ cs) = after (called g c).1 cs

-- so many steps of a bay, with nothing between them
abbrev pub steps : ℕ → ℕ → List (Call ℕ)
steps b n = replicate n (Step b)

abbrev pub shut_dock : DockState
shut_dock = record { opened = false; bays = 0; lifetime = 0; started = 0; records = replicate most_bays Idle }

abbrev pub empty_book : Book ℕ
empty_book = record { row = replicate 4 0; entered = 0 }

-- a world whose dock was never opened, with n trays and L slots
abbrev pub shut_world : ℕ → ℕ → World ℕ
shut_world n L = record { dock = shut_dock; memory = fresh (replicate L None); trays = replicate n 0; book = empty_book }

abbrev pub open_call : ℕ → ℕ → Call ℕ
open_call n base = Open n 1000 base

abbrev pub opened : Kind → ℕ → ℕ → ℕ → Game ℕ
opened k n L base = (called (record { kind = k; world = shut_world n L }) (open_call n base)).1

abbrev pub over_marks : ℕ → ℕ → ℕ → Game ℕ
over_marks n L base = opened (fresh_kind board.Marks) n L base

abbrev pub over_rows : ℕ → ℕ → ℕ → Game ℕ
over_rows n L base = opened (fresh_kind board.Rows) n L base
