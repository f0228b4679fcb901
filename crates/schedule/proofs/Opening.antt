-- The line of an open. Assumes nothing.
use Rattle.std.proofs.Common.{◌≡◌, ℕ, List, [], length, replicate, None, Option, sym, refl, ap, ◌∙◌, subst}
use Rattle.slot_memory.specs.Meaning.{bays}
use Rattle.mark_memory.specs.Exact.{fresh}
use Rattle.board.specs.declared.Board.{Board}
use Rattle.board.specs.declared.BoardKind.{BoardKind}
use Rattle.board.specs.Kinds.{kind_of, fresh_kind, meaning_of, most}
use Rattle.board.specs.Game.{Game, makes}
use Rattle.dock_rules.specs.declared.Refusal.{Refusal}
use Rattle.dock_rules.specs.Calls.{Open, Answer, Refused, Opened}
use Rattle.dock_rules.specs.Runs.{Start, Reached, Lawful, Begins, carrying, opening}
use Rattle.dock.specs.Does.{shut_state}
use Rattle.schedule.specs.declared.Response.TheVariants as say
use Rattle.schedule.specs.Desks.{Desk, lifetime, base}
use Rattle.schedule.specs.Output.{NotOpen, At, Driven, book_length, shut_game, from_start, opens, opened_on}
use Rattle.schedule.specs.declared.session.Session.{Session}
use Rattle.schedule.specs.declared.transcript.Transcript.{Transcript}
use Rattle.schedule.specs.Sessions.{game_of, Made, Ends, Opens}
use Rattle.schedule.proofs.Calling.{most-after}
use Rattle.schedule.proofs.Lines.{nothing_read, Printed, once_printed}

module _ (s t : Session) (n : ℕ) where
  abbrev st : Start
  st = opening (game_of s).world n base

  module _ {a : Answer} (so : Made s (Open n lifetime base) a t) where
    opened_so : opened_on (game_of s) n ≡ opens st (a, game_of t)
    opened_so = ap (opens st) (sym so.is)

    same_spare : most (game_of s).kind ≡ most (game_of t).kind
    same_spare = sym (ap (λ (p : Answer × Game ℕ). most p.1.kind) so.is ∙ most-after (game_of s).kind (game_of s).world.memory (makes (game_of s).world (Open n lifetime base)))

  -- a refused open leaves nothing behind
  pub not_opened : (q : Refusal) → Made s (Open n lifetime base) (Refused q) t → (x y : Transcript) → Printed x (say.Refused q) y → Opens (opened_on (game_of s) n) x y
  not_opened q so x y printed = subst (λ a. Opens a x y) (sym (opened_so so)) (once_printed printed NotOpen nothing_read)

  module _ (so : Made s (Open n lifetime base) Opened t) where
    abbrev desk : Desk
    desk = from_start st (game_of t)

    drives : Begins (most (game_of s).kind) (game_of s).world n base Opened (game_of t).world → length (game_of s).world.trays ≡ n → Driven desk
    drives begins long =
        let run = begins refl long in
        record {
          reached = subst (λ K. Reached K st [] (carrying (game_of t).world)) (same_spare so) run.0;
          lawful = subst (λ K. Lawful {E = ℕ} K st []) (same_spare so) run.1;
        }

    -- a granted open, and the lines behind it
    pub opened : Begins (most (game_of s).kind) (game_of s).world n base Opened (game_of t).world → length (game_of s).world.trays ≡ n → s.last ≡ replicate bays 0 → (x y z : Transcript) → Printed x say.Open y → Ends t y z → Opens (opened_on (game_of s) n) x z
    opened begins long zeros x y z printed ends =
        let through = ends desk (record { game = refl; last = sym (so.last ∙ zeros) }) (drives begins long) in
        subst (λ a. Opens a x z) (sym (opened_so so)) (once_printed printed (At desk) through)

-- a session just made over a board just made is the shut game
pub fresh-game : (b : Board ℕ) (kind : BoardKind) (t x : List ℕ) (row : List (Option ℕ)) (slots n : ℕ) → kind_of b ≡ fresh_kind kind → meaning_of b ≡ fresh row → row ≡ replicate slots None → t ≡ replicate n 0 → x ≡ replicate book_length 0 → ◌≡◌ {A = Game ℕ} (record { kind = kind_of b; world = record { dock = shut_state; memory = meaning_of b; trays = t; book = record { row = x; entered = 0 } } }) (shut_game (fresh_kind kind) slots n)
fresh-game b kind t x row slots n is means lent trays book =
    let same : meaning_of b ≡ fresh (replicate slots None) = means ∙ ap fresh lent in
    λ i. record { kind = is i; world = record { dock = shut_state; memory = same i; trays = trays i; book = record { row = book i; entered = 0 } } }
