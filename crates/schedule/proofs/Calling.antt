-- A call on a dock over a board of a known kind answers and leaves what `called` says. Assumes nothing.
use Rattle.std.proofs.Common.{◌≡◌, ℕ, true, false, List, Some, None, Option, sym, refl, ap, ◌∙◌, arith}
use Rattle.slot_memory.specs.Meaning.{Meaning}
use Rattle.slot_memory.specs.Rules.{Operation, Clear, Done, Free, touched}
use Rattle.board.specs.declared.Board.{Board}
use Rattle.board.specs.Kinds.{Kind, OnMarks, OnRows, most, kind_of, takes, kind_after, memory, Plays}
use Rattle.board.specs.Game.{Game, made, taken, kind_then, called}
use Rattle.dock_rules.specs.declared.Attempt.{Attempt}
use Rattle.dock_rules.specs.declared.Outcome.{Outcome}
use Rattle.dock_rules.specs.declared.Refusal.{Refusal}
use Rattle.dock_rules.specs.declared.Stepped.{Stepped}
use Rattle.dock_rules.specs.declared.Stepped.TheVariants.{At, Ended}
use Rattle.dock_rules.specs.Lines.{Next, To, Ends}
use Rattle.dock_rules.specs.Calls.{World, Book, Call, Open, Put, Take, Step, Collect, Abandon, Enter, Waive, Answer, Opened, record_of, attempt, outcome, refusal, answer_of, stepped, step, collect, abandon, granted, answered, does, touches, attempted, next_operation, opened}
use Rattle.dock.specs.declared.Dock.{Dock}
use Rattle.dock.specs.Answered.{stood}
use Rattle.dock.specs.Does.{Does, Ran, world}
use Rattle.schedule.specs.Responses.{is_refused}

abbrev game : Kind → World ℕ → Game ℕ
game k w = record { kind = k; world = w }

-- a call that does not touch the memory
abbrev pub Dry : Call ℕ → Type 0
Dry (Open n life base) = ⊥
Dry (Put b e) = Unit {0}
Dry (Take b) = Unit {0}
Dry (Step b) = ⊥
Dry (Collect b s) = Unit {0}
Dry (Abandon b s) = Unit {0}
Dry (Enter b s) = Unit {0}
Dry (Waive b s) = Unit {0}

-- a call's answer and game, once it is known what turns it down and which operation it makes
abbrev turn : Kind → World ℕ → Call ℕ → Option Refusal → Option (Operation ℕ) → Answer × Game ℕ
turn k w c r o =
    let t = answered w c (taken k w.memory (made r o)) r in
    (t.0, game (kind_then k w.memory (made r o)) t.1)

turn_dry : (k : Kind) (w : World ℕ) (f : Free) (c : Call ℕ) → Dry c → (r : Option Refusal) → turn k w c r (touches w c) ≡ ((answered w c f r).0, game k (answered w c f r).1)
turn_dry k w f (Open n life base) d r = absurd d
turn_dry k w f (Put b e) d None = refl
turn_dry k w f (Put b e) d (Some r) = refl
turn_dry k w f (Take b) d None = refl
turn_dry k w f (Take b) d (Some r) = refl
turn_dry k w f (Step b) d r = absurd d
turn_dry k w f (Collect b s) d None = refl
turn_dry k w f (Collect b s) d (Some r) = refl
turn_dry k w f (Abandon b s) d None = refl
turn_dry k w f (Abandon b s) d (Some r) = refl
turn_dry k w f (Enter b s) d None = refl
turn_dry k w f (Enter b s) d (Some r) = refl
turn_dry k w f (Waive b s) d None = refl
turn_dry k w f (Waive b s) d (Some r) = refl

pub dry : {K : ℕ} (k : Kind) {w v : World ℕ} (c : Call ℕ) {a : Answer} → Dry c → Does K w c a v → ◌≡◌ {A = Answer × Game ℕ} (a, game k v) (called (game k w) c)
dry k {w} c d does =
    ap (λ (p : Answer × World ℕ). (p.0, game k p.1)) does.is ∙ sym (turn_dry k w does.free c d (refusal w c))

-- a granted call is not answered by a refusal

next-answers : (n : Next) → is_refused (answer_of n) ≡ false
next-answers (To l i held) = refl
next-answers (Ends o) = refl

step-answers : (w : World ℕ) (b : ℕ) (a : Option Attempt) (f : Free) → is_refused (step w b a f).0 ≡ false
step-answers w b None f = refl
step-answers w b (Some a) f = next-answers _

collect-answers : (w : World ℕ) (b s : ℕ) (o : Option Outcome) → is_refused (collect w b s o).0 ≡ false
collect-answers w b s None = refl
collect-answers w b s (Some o) = refl

abandon-answers : (w : World ℕ) (b s : ℕ) (a : Option Attempt) → is_refused (abandon w b s a).0 ≡ false
abandon-answers w b s None = refl
abandon-answers w b s (Some a) = refl

granted-answers : (w : World ℕ) (c : Call ℕ) (f : Free) → is_refused (granted w c f).0 ≡ false
granted-answers w (Open n life base) f = refl
granted-answers w (Put b e) f = refl
granted-answers w (Take b) f = refl
granted-answers w (Step b) f = step-answers w b (attempt (record_of w.dock b)) f
granted-answers w (Collect b s) f = collect-answers w b s (outcome (record_of w.dock b))
granted-answers w (Abandon b s) f = abandon-answers w b s (attempt (record_of w.dock b))
granted-answers w (Enter b s) f = refl
granted-answers w (Waive b s) f = refl

module _ {K : ℕ} {w v : World ℕ} {c : Call ℕ} {a : Answer} (d : Does K w c a v) where
  -- an answer that is no refusal was granted
  pub not_turned : is_refused a ≡ false → refusal w c ≡ None
  not_turned n = go (refusal w c) refl d.is
    where
      go : (r : Option Refusal) → refusal w c ≡ r → (a, v) ≡ answered w c d.free r → r ≡ None
      go None e is = refl
      go (Some r) e is = let same = ap (λ (p : Answer × World ℕ). is_refused p.0) is in let z : ◌≡◌ {A = ℕ} 0 1 = cc in absurd (omega arith)

  -- a refused call leaves all as it was
  pub turned_away_lem : (k : Kind) → is_refused a ≡ true → ◌≡◌ {A = Answer × Game ℕ} (a, game k v) (called (game k w) c)
  turned_away_lem k n = go (refusal w c) refl d.is
    where
      go : (r : Option Refusal) → refusal w c ≡ r → (a, v) ≡ answered w c d.free r → ◌≡◌ {A = Answer × Game ℕ} (a, game k v) (called (game k w) c)
      go None e is =
          let same = ap (λ (p : Answer × World ℕ). is_refused p.0) is in
          let not = granted-answers w c d.free in
          let z : ◌≡◌ {A = ℕ} 0 1 = cc in absurd (omega arith)
      go (Some r) e is =
          ap (λ (p : Answer × World ℕ). (p.0, game k p.1)) is ∙ sym (ap (λ r. turn k w c r (touches w c)) e)

stood-answers : (s : Stepped) → is_refused (stood s) ≡ false
stood-answers (At l) = refl
stood-answers (Ended o) = refl

-- a granted step
pub ran : {K : ℕ} {d e : Dock (Board ℕ) ℕ memory} {t u : List ℕ} {b : ℕ} {s : Stepped} (k : Book ℕ) → Does K (world memory d t k) (Step b) (stood s) (world memory e u k) → Ran memory d t b s e u → ◌≡◌ {A = Answer × Game ℕ} (stood s, game (kind_of e.memory) (world memory e u k)) (called (game (kind_of d.memory) (world memory d t k)) (Step b))
ran {K} {d} {e} {t} {u} {b} {s} k does run =
    let w = world memory d t k in
    let kind = kind_of d.memory in
    let o = next_operation w b run.call in
    let none = not_turned does (stood-answers s) in
    let has : attempt (record_of w.dock b) ≡ Some run.call = ap attempt run.under in
    let first : ◌≡◌ {A = Answer × Game ℕ} (stood s, game (kind_of e.memory) (world memory e u k)) ((stepped w b run.call (touched w.memory o (takes kind w.memory o))).0, game (kind_after kind w.memory o) (stepped w b run.call (touched w.memory o (takes kind w.memory o))).1) =
    λ i. (((run.is k ∙ ap (stepped w b run.call) run.exact.is) i).0, game (run.exact.kind i) ((run.is k ∙ ap (stepped w b run.call) run.exact.is) i).1) in
    let second : ◌≡◌ {A = Answer × Game ℕ} (turn kind w (Step b) None (touches w (Step b))) ((stepped w b run.call (touched w.memory o (takes kind w.memory o))).0, game (kind_after kind w.memory o) (stepped w b run.call (touched w.memory o (takes kind w.memory o))).1) =
    ap (λ a. let t = step w b a (taken kind w.memory (attempted w b a)) in (t.0, game (kind_then kind w.memory (attempted w b a)) t.1)) has in
    first ∙ sym second ∙ sym (ap (λ r. turn kind w (Step b) r (touches w (Step b))) none)

-- a granted open
pub cleared : {K : ℕ} (d e : Dock (Board ℕ) ℕ memory) {t : List ℕ} {n life base : ℕ} (k : Book ℕ) → Does K (world memory d t k) (Open n life base) Opened (world memory e t k) → Plays d.memory (Clear base) Done e.memory → ◌≡◌ {A = Answer × Game ℕ} (Opened, game (kind_of e.memory) (world memory e t k)) (called (game (kind_of d.memory) (world memory d t k)) (Open n life base))
cleared d e {t} {n} {life} {base} k told plays =
    let w = world memory d t k in
    let none = not_turned told refl in
    let state : e.state ≡ opened n life = ap (λ (p : Answer × World ℕ). p.1.dock) (told.is ∙ ap (answered w (Open n life base) told.free) none) in
    (λ i. (Opened, game (plays.kind i) (record { dock = state i; memory = (plays.is i).1; trays = t; book = k })))
    ∙ sym (ap (λ r. turn (kind_of d.memory) w (Open n life base) r (touches w (Open n life base))) none)

-- the largest spare stays
pub most-after : (k : Kind) (m : Meaning ℕ) (o : Option (Operation ℕ)) → most (kind_then k m o) ≡ most k
most-after k m None = refl
most-after OnMarks m (Some o) = refl
most-after (OnRows ks) m (Some o) = refl
