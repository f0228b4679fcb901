-- The words and numbers of what callers see.
--
--   side     a put or a take
--   number   of a line: that behind its letter; of a refusal: its place in the order of reasons
--
-- Assumes nothing.
use Rattle.std.specs.Prelude.{ℕ, Bool, true, false, List, codes}
use Rattle.dock_rules.specs.declared.Line.{Line}
use Rattle.dock_rules.specs.declared.Line.TheVariants.{E5, E6, E9, E10, E12, E13, E15, E16, E17, D5, D6, D9, D10, D12, D13, D15, D16, D17}
use Rattle.dock_rules.specs.declared.Outcome.{Outcome}
use Rattle.dock_rules.specs.declared.Outcome.TheVariants.{Full, Stored, Empty, Taken}
use Rattle.dock_rules.specs.declared.Abandoned.{Abandoned}
use Rattle.dock_rules.specs.declared.Abandoned.TheVariants.{Untouched, Stored as StoredAway, Taken as TakenAway}
use Rattle.dock_rules.specs.declared.Refusal.{Refusal}
use Rattle.dock_rules.specs.declared.Refusal.TheVariants.{Open, Length, Bays, Life, Shut, Trays, Bay, Busy, Worn, Idle, Serial, Early, Late, Book}

pub data Side : Type 0 where
  Putting : Side
  Taking : Side

abbrev pub is_taking : Side → Bool
is_taking Putting = false
is_taking Taking = true

abbrev pub side : Line → Side
side E5 = Putting
side E6 = Putting
side E9 = Putting
side E10 = Putting
side E12 = Putting
side E13 = Putting
side E15 = Putting
side E16 = Putting
side E17 = Putting
side D5 = Taking
side D6 = Taking
side D9 = Taking
side D10 = Taking
side D12 = Taking
side D13 = Taking
side D15 = Taking
side D16 = Taking
side D17 = Taking

abbrev pub number : Line → ℕ
number E5 = 5
number E6 = 6
number E9 = 9
number E10 = 10
number E12 = 12
number E13 = 13
number E15 = 15
number E16 = 16
number E17 = 17
number D5 = 5
number D6 = 6
number D9 = 9
number D10 = 10
number D12 = 12
number D13 = 13
number D15 = 15
number D16 = 16
number D17 = 17

abbrev pub label : Line → List ℕ
label E5 = codes "E5"
label E6 = codes "E6"
label E9 = codes "E9"
label E10 = codes "E10"
label E12 = codes "E12"
label E13 = codes "E13"
label E15 = codes "E15"
label E16 = codes "E16"
label E17 = codes "E17"
label D5 = codes "D5"
label D6 = codes "D6"
label D9 = codes "D9"
label D10 = codes "D10"
label D12 = codes "D12"
label D13 = codes "D13"
label D15 = codes "D15"
label D16 = codes "D16"
label D17 = codes "D17"

abbrev pub outcome_word : Outcome → List ℕ
outcome_word Full = codes "FULL"
outcome_word Stored = codes "STORED"
outcome_word Empty = codes "EMPTY"
outcome_word Taken = codes "TAKEN"

abbrev pub abandoned_word : Abandoned → List ℕ
abandoned_word Untouched = codes "UNTOUCHED"
abandoned_word StoredAway = codes "STORED"
abandoned_word TakenAway = codes "TAKEN"

abbrev pub refusal_number : Refusal → ℕ
refusal_number Open = 1
refusal_number Length = 2
refusal_number Bays = 3
refusal_number Life = 4
refusal_number Shut = 5
refusal_number Trays = 6
refusal_number Bay = 7
refusal_number Busy = 8
refusal_number Worn = 9
refusal_number Idle = 10
refusal_number Serial = 11
refusal_number Early = 12
refusal_number Late = 13
refusal_number Book = 14

abbrev pub refusal_word : Refusal → List ℕ
refusal_word Open = codes "OPEN"
refusal_word Length = codes "LENGTH"
refusal_word Bays = codes "BAYS"
refusal_word Life = codes "LIFE"
refusal_word Shut = codes "SHUT"
refusal_word Trays = codes "TRAYS"
refusal_word Bay = codes "BAY"
refusal_word Busy = codes "BUSY"
refusal_word Worn = codes "WORN"
refusal_word Idle = codes "IDLE"
refusal_word Serial = codes "SERIAL"
refusal_word Early = codes "EARLY"
refusal_word Late = codes "LATE"
refusal_word Book = codes "BOOK"
