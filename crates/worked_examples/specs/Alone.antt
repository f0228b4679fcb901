-- Plays in which one call is under way at a time. The answers of a play are its calls' in their order:
-- the serial with which a put or a take begins, the line where each step then stands, and the end.
--
--   alone    while no other bay has a call under way
--
-- Assumes nothing.
use Rattle.std.specs.Prelude.{◌≡◌, ℕ, List, [], ◌∷◌, ◌++◌, Some, None}
use Rattle.dock_rules.specs.declared.Line.TheVariants.{E6, E9, E10, E15, E16, E17, D6, D9, D10, D15, D16, D17}
use Rattle.dock_rules.specs.declared.Outcome.TheVariants.{Full, Stored, Empty, Taken}
use Rattle.dock_rules.specs.declared.Abandoned.TheVariants.{Untouched, Stored as StoredAway}
use Rattle.dock_rules.specs.Calls.{Call, Put, Take, Collect, Abandon, Opened, Began, Stands, End, Left}
use Rattle.board.specs.Kinds.{OnMarks}
use Rattle.board.specs.Game.{Game, called}
use Rattle.worked_examples.specs.Play.{answers, after, steps, shut_world, open_call, over_marks}

-- the open itself is granted
abbrev pub OpenIsGranted : Type 0
OpenIsGranted = (called (record { kind = OnMarks; world = shut_world 2 1 }) (open_call 2 0)).0 ≡ Opened

-- two bays and one slot
abbrev pub one_slot : Game ℕ
one_slot = over_marks 2 1 0

-- 1. On a ring of one slot a put of 5, alone, ends STORED at its 7th step.
abbrev pub PutAlone : Type 0
PutAlone =
    answers one_slot (Put 0 5 ∷ steps 0 7) ≡ Began 1 ∷ Stands E6 ∷ Stands E9 ∷ Stands E10 ∷ Stands E15 ∷ Stands E16 ∷ Stands E17 ∷ End Stored ∷ []

-- that put has ended and is collected
abbrev pub filled : Game ℕ
filled = after one_slot (Put 0 5 ∷ steps 0 7 ++ Collect 0 1 ∷ [])

abbrev pub one_take : List (Call ℕ)
one_take = Take 1 ∷ steps 1 7

-- 2. After that put a take by the other bay, alone, ends TAKEN at its 7th step. Its tray held 0 and
-- then holds 5, and the slot is empty.
abbrev pub TakeAlone : Type 0
TakeAlone =
    (answers filled one_take
    ≡ Began 2 ∷ Stands D6 ∷ Stands D9 ∷ Stands D10 ∷ Stands D15 ∷ Stands D16 ∷ Stands D17 ∷ End Taken ∷ [])
    × (filled.world.trays ≡ 5 ∷ 0 ∷ [])
    × ((after filled one_take).world.trays ≡ 5 ∷ 5 ∷ [])
    × (filled.world.memory.slots ≡ Some 5 ∷ [])
    × ((after filled one_take).world.memory.slots ≡ None ∷ [])

-- 3. After that put a second put ends FULL at its 2nd step.
abbrev pub PutOnFull : Type 0
PutOnFull = answers filled (Put 0 6 ∷ steps 0 2) ≡ Began 2 ∷ Stands E6 ∷ End Full ∷ []

-- 4. A take on a new dock ends EMPTY at its 2nd step.
abbrev pub TakeOnNew : Type 0
TakeOnNew = answers one_slot (Take 0 ∷ steps 0 2) ≡ Began 1 ∷ Stands D6 ∷ End Empty ∷ []

-- the indices are at the top of 32 bits
abbrev pub at_top : Game ℕ
at_top = over_marks 1 2 4294967295

abbrev pub one_put : List (Call ℕ)
one_put = Put 0 5 ∷ steps 0 7

-- 9. With both indices at 4,294,967,295 the first put on a ring of two slots ends STORED at its 7th
-- step as any other. It uses slot 1, and Tail becomes 0.
abbrev pub PutAtTop : Type 0
PutAtTop =
    (answers at_top one_put
    ≡ Began 1 ∷ Stands E6 ∷ Stands E9 ∷ Stands E10 ∷ Stands E15 ∷ Stands E16 ∷ Stands E17 ∷ End Stored ∷ [])
    × ((after at_top one_put).world.memory.slots ≡ None ∷ Some 5 ∷ [])
    × ((after at_top one_put).world.memory.tail ≡ 0)

-- a put of 5 that is given up after so many steps
abbrev pub given_up : ℕ → List (Call ℕ)
given_up n = Put 0 5 ∷ steps 0 n ++ Abandon 0 1 ∷ []

-- 10. A put that is abandoned at E15 answers UNTOUCHED, and its slot stays empty. One that is abandoned
-- at E16 answers STORED, and its slot has its element.
abbrev pub PutGivenUp : Type 0
PutGivenUp =
    (answers one_slot (given_up 4) ≡ Began 1 ∷ Stands E6 ∷ Stands E9 ∷ Stands E10 ∷ Stands E15 ∷ Left Untouched ∷ [])
    × ((after one_slot (given_up 4)).world.memory.slots ≡ None ∷ [])
    × (answers one_slot (given_up 5)
    ≡ Began 1 ∷ Stands E6 ∷ Stands E9 ∷ Stands E10 ∷ Stands E15 ∷ Stands E16 ∷ Left StoredAway ∷ [])
    × ((after one_slot (given_up 5)).world.memory.slots ≡ Some 5 ∷ [])
