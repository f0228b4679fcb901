-- A session that makes a call moves as its desk does. Assumes nothing.
use Rattle.std.proofs.Common.{◌≡◌, ℕ, true, List, ◌∷◌, get_or, Ok, Err, vec_items, Result, sym, refl, ap, ◌∙◌, subst, MatchResult}
use Rattle.slot_memory.specs.Rules.{Clear, Done}
use Rattle.board.specs.declared.Board.{Board}
use Rattle.board.specs.Kinds.{Kind, kind_of, most, memory, Plays}
use Rattle.board.specs.Game.{Game, makes, called}
use Rattle.dock_rules.specs.declared.Refusal.{Refusal}
use Rattle.dock_rules.specs.declared.Stepped.{Stepped}
use Rattle.dock_rules.specs.Calls.{World, Book, Call, Open, Step, Enter, Waive, Answer, Refused, Opened}
use Rattle.dock_rules.specs.History.{Moment}
use Rattle.dock_rules.specs.Runs.{Start, Reached, Lawful, GoesOn, carrying, moment_of}
use Rattle.dock_rules.proofs.Contracts.{continues}
use Rattle.dock.specs.declared.Dock.{Dock}
use Rattle.dock.specs.Answered.{open_answer, stood, step_answer}
use Rattle.dock.specs.Does.{Does, Carries, DoesAlone, DoesOver, CarriesAlone, CarriesOver, StartsAlone, Ran, book_of, world}
use Rattle.schedule.specs.declared.Response.{Response}
use Rattle.schedule.specs.Responses.{response_to, is_refused}
use Rattle.schedule.specs.Desks.{Desk, make, response, noted, starts, waived, settled}
use Rattle.schedule.specs.Output.{Driven}
use Rattle.schedule.specs.Sessions.{game_of, Stands, Made, Moved, Turned}
use Rattle.schedule.specs.declared.session.Session.{Session}
use Rattle.std.proofs.lemmas.Bool.{cond-true}
use Rattle.schedule.proofs.Calling.{Dry, dry, turned_away_lem, ran, cleared, most-after}

module _ (last : List ℕ) (start : Start) (h : List (Moment ℕ)) where
  abbrev at : Game ℕ → List (Moment ℕ) → Desk
  at g h = record { game = g; last = last; start = start; history = h }

  -- the run goes on through a call
  runs_on : (g n : Game ℕ) (c : Call ℕ) (a : Answer) → ◌≡◌ {A = Answer × Game ℕ} (a, n) (called g c) → GoesOn (most g.kind) g.world c a n.world → Driven (at g h) → Driven (make (at g h) c).1
  runs_on g n c a is goes run =
      let on = continues (most g.kind) g.world c a n.world goes start h run.reached in
      let spare : most g.kind ≡ most n.kind = sym (ap (λ (p : Answer × Game ℕ). most p.1.kind) is ∙ most-after g.kind g.world.memory (makes g.world c)) in
      subst (λ (p : Answer × Game ℕ). Driven (at p.1 (moment_of c p.0 (carrying p.1.world) ∷ h))) is
      (record {
        reached = subst (λ K. Reached K start (moment_of c a (carrying n.world) ∷ h) (carrying n.world)) spare on.0;
        lawful = subst (λ K. Lawful K start (moment_of c a (carrying n.world) ∷ h)) spare on.1;
      })

module _ {s t : Session} {c : Call ℕ} {a : Answer} (made : Made s c a t) where
  pub answers : (d : Desk) → Stands d s → a ≡ (make d c).0
  answers d stands = ap (λ (p : Answer × Game ℕ). p.0) made.is ∙ ap (λ g. (called g c).0) (sym stands.game)

  pub moves : Moved (λ d. (make d c).1) s t
  moves =
      record {
        stands = λ d stands.
            record {
              game = ap (λ g. (called g c).1) stands.game ∙ sym (ap (λ (p : Answer × Game ℕ). p.1) made.is);
              last = stands.last ∙ sym made.last;
            };
        driven = λ d stands.
            subst (λ g. Driven (at d.last d.start d.history g d.history) → Driven (make (at d.last d.start d.history g d.history) c).1) (sym stands.game)
            (runs_on d.last d.start d.history (game_of s) (game_of t) c a made.is made.law);
      }

-- one after the other
pub then : {F G : Desk → Desk} {s t u : Session} → Moved F s t → Moved G t u → Moved (λ d. G (F d)) s u
then {F} f g =
    record {
      stands = λ d at. g.stands (F d) (f.stands d at);
      driven = λ d at run. g.driven (F d) (f.stands d at) (f.driven d at run);
    }

-- by what is the same at every desk that the session may stand at
pub alike : {F G : Desk → Desk} {s t : Session} → ((d : Desk) → Stands d s → F d ≡ G d) → Moved F s t → Moved G s t
alike {F} {G} {s} {t} same f =
    record {
      stands = λ d at. subst (λ x. Stands x t) (same d at) (f.stands d at);
      driven = λ d at run. subst Driven (same d at) (f.driven d at run);
    }

pub stays : {s : Session} → Moved (λ d. d) s s
stays = record { stands = λ d at. at; driven = λ d at run. run }

-- a call that did as it is to do, between two sessions that stand before it and after it
module _ (s t : Session) (c : Call ℕ) (a : Answer) {w v : World ℕ} (before : w ≡ (game_of s).world) (after : v ≡ (game_of t).world) (law : Carries (most (game_of s).kind) w c a v) (last : t.last ≡ s.last) where
  goes : GoesOn (most (game_of s).kind) (game_of s).world c a (game_of t).world
  goes = subst (λ x. GoesOn (most (game_of s).kind) (game_of s).world c a x) after (subst (λ x. GoesOn (most (game_of s).kind) x c a v) before law.law)

  -- it does not touch the memory
  pub made_dry : Dry c → Does (most (game_of s).kind) w c a v → (game_of t).kind ≡ (game_of s).kind → Made s c a t
  made_dry d does kind =
      record {
        is =
            ap (λ (x : Kind × World ℕ). (a, record { kind = x.0; world = x.1 })) (λ i. (kind i, sym after i))
            ∙ dry (game_of s).kind c d does
            ∙ ap (λ x. called (record { kind = (game_of s).kind; world = x }) c) before;
        law = goes;
        last = last;
      }

module _ {s m : Session} {c : Call ℕ} {a : Answer} (made : Made s c a m) where
  -- what is printed of a call's answer
  pub responds : (b : ℕ) {r : Response} → r ≡ response_to a (get_or (game_of m).world.trays b 0) → (d : Desk) → Stands d s → r ≡ response b (make d c)
  responds b says d stands =
      says
      ∙ ap (λ a. response_to a (get_or (game_of m).world.trays b 0)) (answers made d stands)
      ∙ ap (λ g. response_to (make d c).0 (get_or g.world.trays b 0)) (sym ((moves made).stands d stands).game)

  -- a call after which nothing more is done
  pub turns : (b : ℕ) {r : Response} → r ≡ response_to a (get_or (game_of m).world.trays b 0) → Turned (λ d. (response b (make d c), (make d c).1)) s r m
  turns b says = record { response = responds b says; moved = moves made }

  -- a start, after which the session has noted the serial
  pub turns_start : {t : Session} (b : ℕ) → game_of t ≡ game_of m → t.last ≡ noted a b m.last → {r : Response} → ((e : ℕ) → r ≡ response_to a e) → Turned (λ d. starts b (make d c)) s r t
  turns_start b game last says =
      record {
        response = responds b (says _);
        moved = record {
          stands = λ d stands.
              let on = (moves made).stands d stands in
              record { game = on.game ∙ sym game; last = (λ i. noted (sym (answers made d stands) i) b (on.last i)) ∙ sym last };
          driven = λ d stands run. let on = (moves made).driven d stands run in record { reached = on.reached; lawful = on.lawful };
        };
      }

  -- an enter that was refused, and a waive after it
  pub settles_waived : {t : Session} {x : Answer} (b n : ℕ) → c ≡ Enter b n → is_refused a ≡ true → Made m (Waive b n) x t → Moved (λ d. settled d b n) s t
  settles_waived b n is refused waives =
      alike
      (λ d stands.
      let so : is_refused (make d c).0 ≡ true = ap is_refused (sym (answers made d stands)) ∙ refused in
      sym (ap (λ e. waived b n (make d e)) (sym is) ∙ cond-true _ _ _ so))
      (then (moves made) (moves waives))

module _ (s t : Session) (b : ℕ) where
  -- what a dock's step tells, handed these trays and leaving those
  pub record Stepping (r : Result Stepped Refusal) (x y : List ℕ) : Type 0 where
    pub does : DoesOver memory s.dock x (Step b) (step_answer r) t.dock y
    pub law : CarriesOver memory s.dock x (Step b) (step_answer r) t.dock y
    pub exact : MatchResult r (λ z. Ran memory s.dock x b z t.dock y) (λ _. t.dock.memory ≡ s.dock.memory)

  module _ (book : t.book ≡ s.book) (last : t.last ≡ s.last) where
    abbrev k : Book ℕ
    k = book_of s.book

    same_book : world memory t.dock (vec_items t.trays) k ≡ (game_of t).world
    same_book = ap (λ x. world memory t.dock (vec_items t.trays) (book_of x)) (sym book)

    made_by : (a : Answer) → CarriesOver memory s.dock (vec_items s.trays) (Step b) a t.dock (vec_items t.trays) → ◌≡◌ {A = Answer × Game ℕ} (a, record { kind = (game_of t).kind; world = world memory t.dock (vec_items t.trays) k }) (called (game_of s) (Step b)) → Made s (Step b) a t
    made_by a law is =
        record {
          is = ap (λ (w : World ℕ). (a, record { kind = (game_of t).kind; world = w })) (sym same_book) ∙ is;
          law = goes s t (Step b) a refl same_book (law k) last;
          last = last;
        }

    own_trays_lem : (r : Result Stepped Refusal) → Stepping r (vec_items s.trays) (vec_items t.trays) → Made s (Step b) (step_answer r) t
    own_trays_lem (Ok z) told = made_by (stood z) told.law (ran k (told.does k) told.exact)
    own_trays_lem (Err q) told =
        made_by (Refused q) told.law
        (ap (λ m. (Refused q, record { kind = kind_of m; world = world memory t.dock (vec_items t.trays) k })) told.exact ∙ turned_away_lem (told.does k) (game_of s).kind refl)

    pub made-step : {r : Result Stepped Refusal} {x y : List ℕ} → x ≡ vec_items s.trays → y ≡ vec_items t.trays → Stepping r x y → Made s (Step b) (step_answer r) t
    made-step {r} {x} {y} ex ey facts = own_trays_lem r (subst (λ x. Stepping r x (vec_items t.trays)) ex (subst (λ y. Stepping r x y) ey facts))

-- the session with its dock after a call
abbrev pub with_dock : Session → Dock (Board ℕ) ℕ memory → Session
with_dock s e = record { dock = e; trays = s.trays; book = s.book; last = s.last }

-- a call that is handed neither trays nor a book, and does not touch the memory
pub made_alone : (s : Session) (e : Dock (Board ℕ) ℕ memory) (c : Call ℕ) (a : Answer) → Dry c → DoesAlone memory s.dock c a e → CarriesAlone memory s.dock c a e → e.memory ≡ s.dock.memory → Made s c a (with_dock s e)
made_alone s e c a is-dry does law kept =
    let t = vec_items s.trays in
    let k = book_of s.book in
    made_dry s (with_dock s e) c a refl refl (law t k) refl is-dry (does t k) (ap kind_of kept)

-- an open, with the session's own trays and book
module _ (s : Session) (e : Dock (Board ℕ) ℕ memory) (n life base : ℕ) where
  made_open : StartsAlone memory s.dock n life base Opened e → DoesAlone memory s.dock (Open n life base) Opened e → Plays s.dock.memory (Clear base) Done e.memory → Made s (Open n life base) Opened (with_dock s e)
  made_open law does plays =
      record {
        is = cleared s.dock e (book_of s.book) (does (vec_items s.trays) (book_of s.book)) plays;
        law = (law (vec_items s.trays) (book_of s.book)).law;
        last = refl;
      }

  made_refused : (q : Refusal) → StartsAlone memory s.dock n life base (Refused q) e → DoesAlone memory s.dock (Open n life base) (Refused q) e → e.memory ≡ s.dock.memory → Made s (Open n life base) (Refused q) (with_dock s e)
  made_refused q law does kept =
      let t = vec_items s.trays in
      let k = book_of s.book in
      record {
        is = ap (λ m. (Refused q, record { kind = kind_of m; world = world memory e t k })) kept ∙ turned_away_lem (does t k) (game_of s).kind refl;
        law = (law t k).law;
        last = refl;
      }

  pub made_opening : (r : Result (Unit {0}) Refusal) → StartsAlone memory s.dock n life base (open_answer r) e → DoesAlone memory s.dock (Open n life base) (open_answer r) e → MatchResult r (λ _. Plays s.dock.memory (Clear base) Done e.memory) (λ _. e.memory ≡ s.dock.memory) → Made s (Open n life base) (open_answer r) (with_dock s e)
  made_opening (Ok u) law does exact = made_open law does exact
  made_opening (Err q) law does exact = made_refused q law does exact
