-- Three histories with their places, computed by the words of the law's readers.
--
--   told     the history of a play: its moments, the newest first, before those that were there
--   start    the bays, slots and base that a run starts with
--   put_at    a placed put: its serial, its element, and the moment of its place; take_at the same
--   end_at    an ended call: its serial, the moments of its start and its end, its outcome and element
--
-- Assumes nothing.
use Rattle.std.specs.Prelude.{◌≡◌, ℕ, List, [], ◌∷◌, ◌++◌, Some, None, Option}
use Rattle.dock_rules.specs.declared.Outcome.{Outcome}
use Rattle.dock_rules.specs.declared.Outcome.TheVariants.{Full, Stored, Taken}
use Rattle.dock_rules.specs.declared.Abandoned.TheVariants.{Stored as StoredAway}
use Rattle.dock_rules.specs.declared.Line.TheVariants.{E5, E6, E9, E10, E12, E13, E15, E16}
use Rattle.dock_rules.specs.Calls.{World, Call, Put, Step, Began, Stands, End, Left}
use Rattle.dock_rules.specs.History.{Moment, PutOf, TakeOf, Placed, EndedCall, placed, ended}
use Rattle.dock_rules.specs.Law.{queue, gives}
use Rattle.dock_rules.specs.Runs.{Start, State, Reached, moment_of}
use Rattle.board.specs.Game.{Game, called}
use Rattle.worked_examples.specs.Play.{answers, after, steps, over_rows}
use Rattle.worked_examples.specs.Alone.{one_slot, given_up}
use Rattle.worked_examples.specs.Together.{two_slots, stopped, helping, one_in, beside_head}

abbrev pub state_of : World ℕ → State ℕ
state_of w = record { dock = w.dock; memory = w.memory; trays = w.trays }

abbrev pub told : Game ℕ → List (Moment ℕ) → List (Call ℕ) → List (Moment ℕ)
told g h [] = h
told g h (c ∷ cs) = let t = called g c in told t.1 (moment_of c t.0 (state_of t.1.world) ∷ h) cs

abbrev pub start_of : ℕ → ℕ → Start
start_of n L = record { bays = n; length = L; base = 0 }

abbrev pub put_at : ℕ → ℕ → ℕ → Placed ℕ
put_at s e now = record { serial = s; request = PutOf e; moment = now }

abbrev pub take_at : ℕ → ℕ → Placed ℕ
take_at s now = record { serial = s; request = TakeOf; moment = now }

abbrev pub end_at : ℕ → ℕ → ℕ → Outcome → Option ℕ → EndedCall ℕ
end_at s since now o e = record { serial = s; since = since; moment = now; outcome = o; element = e }

-- On a ring of one slot bay 0's put of 5 is abandoned at E16, at moment 7. Bay 1's put of 6 starts at
-- moment 8, helps at moment 14, its step from E13, and ends FULL at moment 16.
abbrev pub abandoned_calls : List (Call ℕ)
abandoned_calls = given_up 5 ++ (Put 1 6 ∷ steps 1 8)

abbrev pub abandoned_history : List (Moment ℕ)
abandoned_history = told one_slot [] abandoned_calls

abbrev pub AbandonedAnswers : Type 0
AbandonedAnswers =
    answers one_slot abandoned_calls
    ≡ Began 1 ∷ Stands E6 ∷ Stands E9 ∷ Stands E10 ∷ Stands E15 ∷ Stands E16 ∷ Left StoredAway
    ∷ Began 2 ∷ Stands E6 ∷ Stands E9 ∷ Stands E10 ∷ Stands E12 ∷ Stands E13 ∷ Stands E5 ∷ Stands E6 ∷ End Full ∷ []

-- The abandoned put has its place where bay 1 helps, after it was given up; the FULL has its place at
-- its own moment.
abbrev pub AbandonedPlaced : Type 0
AbandonedPlaced = placed 0 abandoned_history ≡ put_at 2 6 16 ∷ put_at 1 5 14 ∷ []

-- The plain queue holds the abandoned put's element, and answers FULL to bay 1's put.
abbrev pub AbandonedCounts : Type 0
AbandonedCounts =
    (queue 1 (placed 0 abandoned_history) ≡ 5 ∷ []) × (gives 1 2 (placed 0 abandoned_history) ≡ Some (Full, None))

-- On a ring of two slots bay 0's put of 5 stands at E16. Bay 1's put of 6 starts at moment 7 and makes
-- Tail 1 at moment 13. Bay 0's put ends STORED at moment 14.
abbrev pub helped_calls : List (Call ℕ)
helped_calls = stopped ++ (helping ++ Step 0 ∷ [])

abbrev pub helped_history : List (Moment ℕ)
helped_history = told two_slots [] helped_calls

abbrev pub HelpedAnswers : Type 0
HelpedAnswers =
    answers two_slots helped_calls
    ≡ Began 1 ∷ Stands E6 ∷ Stands E9 ∷ Stands E10 ∷ Stands E15 ∷ Stands E16
    ∷ Began 2 ∷ Stands E6 ∷ Stands E9 ∷ Stands E10 ∷ Stands E12 ∷ Stands E13 ∷ Stands E5 ∷ End Stored ∷ []

-- The helped put has its place where bay 1 makes Tail 1, one moment before its end.
abbrev pub HelpedPlaced : Type 0
HelpedPlaced =
    (placed 0 helped_history ≡ put_at 1 5 13 ∷ []) × (ended 0 helped_history ≡ end_at 1 1 14 Stored None ∷ [])

-- Over rows on a ring of two slots, the play of example 8: an element put in alone, a take, and a put
-- whose live store at E17 is refused at moment 25.
abbrev pub balked_calls : List (Call ℕ)
balked_calls = one_in ++ beside_head

abbrev pub balked_history : List (Moment ℕ)
balked_history = told (over_rows 2 2 0) [] balked_calls

-- Each call has its place where it alters its index itself, which ends it; the take has the element that
-- was put first, and the plain queue is left with the other.
abbrev pub BalkedPlaced : Type 0
BalkedPlaced =
    (placed 0 balked_history ≡ put_at 3 6 27 ∷ take_at 2 24 ∷ put_at 1 5 8 ∷ [])
    × (ended 0 balked_history ≡ end_at 3 17 27 Stored None ∷ end_at 2 10 24 Taken (Some 5) ∷ end_at 1 1 8 Stored None ∷ [])
    × (queue 2 (placed 0 balked_history) ≡ 6 ∷ [])

-- All three are histories of runs, so that the law speaks of them: two over a memory whose spare is
-- always 0, and one over a memory with spares up to 15.
abbrev pub AbandonedReached : Type 0
AbandonedReached = Reached 0 (start_of 2 1) abandoned_history (state_of (after one_slot abandoned_calls).world)

abbrev pub HelpedReached : Type 0
HelpedReached = Reached 0 (start_of 2 2) helped_history (state_of (after two_slots helped_calls).world)

abbrev pub BalkedReached : Type 0
BalkedReached = Reached 15 (start_of 2 2) balked_history (state_of (after (over_rows 2 2 0) balked_calls).world)
