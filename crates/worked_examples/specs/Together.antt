-- Plays in which the calls of two bays are under way together.
--
--   stopped    a put that stands at E16 and is not stepped: its element is in its slot, Tail is as it was
--   helps      a put that finds its slot held stores Tail in the other's place, at E13
--   rows       slots 0 to 3 are one row, Tail and Head another: an accepted store spoils the marks on
--              the rest of its row, and a store on a spoilt mark is refused
--
-- Assumes nothing.
use Rattle.std.specs.Prelude.{◌≡◌, ℕ, List, [], ◌∷◌, ◌++◌}
use Rattle.dock_rules.specs.declared.Line.TheVariants.{E5, E6, E9, E10, E12, E13, E15, E16, E17, D5, D6, D9, D10, D15, D16, D17}
use Rattle.dock_rules.specs.declared.Outcome.TheVariants.{Stored, Empty, Taken}
use Rattle.dock_rules.specs.Calls.{Call, Put, Take, Step, Collect, Answer, Began, Stands, End}
use Rattle.board.specs.Game.{Game}
use Rattle.worked_examples.specs.Play.{answers, after, steps, over_marks, over_rows}

-- two bays and two slots
abbrev pub two_slots : Game ℕ
two_slots = over_marks 2 2 0

-- bay 0's put is stopped
abbrev pub stopped : List (Call ℕ)
stopped = Put 0 5 ∷ steps 0 5

abbrev pub at_e16 : Game ℕ
at_e16 = after two_slots stopped

-- 5. While that put stands there, bay 1's take ends EMPTY at its 2nd step.
abbrev pub TakeBesideStopped : Type 0
TakeBesideStopped =
    (answers two_slots stopped ≡ Began 1 ∷ Stands E6 ∷ Stands E9 ∷ Stands E10 ∷ Stands E15 ∷ Stands E16 ∷ [])
    × (answers at_e16 (Take 1 ∷ steps 1 2) ≡ Began 2 ∷ Stands D6 ∷ End Empty ∷ [])

-- bay 1's put, to its 6th step
abbrev pub helping : List (Call ℕ)
helping = Put 1 6 ∷ steps 1 6

-- 6. While that put stands there, bay 1's put finds the slot held and helps: its 6th step, and no
-- earlier one, makes Tail 1. Bay 0's put then ends STORED at its next step.
abbrev pub PutHelpsStopped : Type 0
PutHelpsStopped =
    (answers at_e16 (helping ++ Step 0 ∷ [])
    ≡ Began 2 ∷ Stands E6 ∷ Stands E9 ∷ Stands E10 ∷ Stands E12 ∷ Stands E13 ∷ Stands E5 ∷ End Stored ∷ [])
    × ((after at_e16 (Put 1 6 ∷ steps 1 5)).world.memory.tail ≡ 0)
    × ((after at_e16 helping).world.memory.tail ≡ 1)

-- bay 1 puts one element in, alone
abbrev pub one_in : List (Call ℕ)
one_in = Put 1 5 ∷ steps 1 7 ++ Collect 1 1 ∷ []

-- bay 0's take stands at D15, bay 1's put passes E15, and bay 0 steps
abbrev pub beside_take : List (Call ℕ)
beside_take = (Take 0 ∷ steps 0 4) ++ (Put 1 6 ∷ steps 1 5) ++ Step 0 ∷ []

-- what these calls answer, up to the last, and then this
abbrev pub beside_take_then : Answer → List Answer
beside_take_then a =
    Began 2 ∷ Stands D6 ∷ Stands D9 ∷ Stands D10 ∷ Stands D15
    ∷ Began 3 ∷ Stands E6 ∷ Stands E9 ∷ Stands E10 ∷ Stands E15 ∷ Stands E16
    ∷ a ∷ []

-- 7. With rows and one element in a ring of four, bay 1's store in slot 1 spoils the mark that bay 0 has
-- on slot 0: the take's store at D15 is refused, and it goes back to D5. With marks the same calls have
-- it accepted, and it goes on to D16.
abbrev pub TakeBesidePut : Type 0
TakeBesidePut =
    (answers (after (over_rows 2 4 0) one_in) beside_take ≡ beside_take_then (Stands D5))
    × (answers (after (over_marks 2 4 0) one_in) beside_take ≡ beside_take_then (Stands D16))

-- bay 1's take stands at D17, bay 0's put reaches E17, bay 1 steps, and bay 0 steps thrice
abbrev pub beside_head : List (Call ℕ)
beside_head = (Take 1 ∷ steps 1 6) ++ (Put 0 6 ∷ steps 0 6) ++ Step 1 ∷ steps 0 3

-- 8. With rows and one element in a ring of two, bay 1's store in Head ends its take TAKEN and spoils the
-- mark that bay 0 has on Tail: bay 0's store at E17 is refused, and two more steps end its put STORED.
abbrev pub PutBesideTake : Type 0
PutBesideTake =
    answers (after (over_rows 2 2 0) one_in) beside_head
    ≡ Began 2 ∷ Stands D6 ∷ Stands D9 ∷ Stands D10 ∷ Stands D15 ∷ Stands D16 ∷ Stands D17
    ∷ Began 3 ∷ Stands E6 ∷ Stands E9 ∷ Stands E10 ∷ Stands E15 ∷ Stands E16 ∷ Stands E17
    ∷ End Taken
    ∷ Stands E16 ∷ Stands E17 ∷ End Stored ∷ []
