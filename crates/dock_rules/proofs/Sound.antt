-- What is known of every reached state, as far as the progress bound needs it. Assumes nothing.
use Rattle.std.proofs.Common.{◌≡◌, ℕ, ◌<◌, ◌≤◌, true, List, length, Some, None, Option}
use Rattle.slot_memory.specs.declared.Cell.TheVariants.{At}
use Rattle.slot_memory.specs.declared.Index.{Index}
use Rattle.slot_memory.specs.declared.Index.TheVariants.{Tail, Head}
use Rattle.slot_memory.specs.Meaning.{index, live}
use Rattle.dock_rules.specs.declared.Attempt.{Attempt}
use Rattle.dock_rules.specs.declared.BayRecord.{BayRecord}
use Rattle.dock_rules.specs.declared.BayRecord.TheVariants.{Free as Idle, UnderWay, Ended, Owed}
use Rattle.dock_rules.specs.Words.{Side, Putting, Taking, side, number}
use Rattle.dock_rules.specs.Calls.{record_of}
use Rattle.dock_rules.specs.History.{Moment, Running, index_in, running, waiting}
use Rattle.dock_rules.specs.Runs.{Start, State}

-- the index of a side
abbrev pub own : Side → Index
own Putting = Tail
own Taking = Head

module _ {E : Type 0} where
  -- a bay's record and the call that the history tells of it
  abbrev pub Tied : Option (Running E) → BayRecord → Type 0
  Tied None Idle = Unit {0}
  Tied None (UnderWay a) = ⊥
  Tied None (Ended s o) = Unit {0}
  Tied None (Owed s) = Unit {0}
  Tied (Some r) Idle = ⊥
  Tied (Some r) (UnderWay a) = (r.serial ≡ a.serial) × (r.line ≡ a.line)
  Tied (Some r) (Ended s o) = ⊥
  Tied (Some r) (Owed s) = ⊥

  -- what progress needs of a reached state
  pub record Sound (K : ℕ) (st : Start) (h : List (Moment E)) (s : State E) : Type 0 where
    pub few : st.bays ≤ 16
    pub bays : s.dock.bays ≡ st.bays
    pub opened : s.dock.opened ≡ true
    pub records : length s.dock.records ≡ 16
    pub marks : length s.memory.marks ≡ 16
    pub slots : length s.memory.slots ≡ st.length
    pub some : 0 < st.length
    pub spare : s.memory.spare ≤ K
    -- at most one call waits on either side
    pub one : (d : Side) → length (waiting st.base h d) ≤ 1
    pub indices : (d : Side) → index s.memory (own d) ≡ index_in st.base h d
    pub tied : (b : ℕ) → b < st.bays → Tied (running st.base h b) (record_of s.dock b)
    -- a live store at line 13 finds a call that waits
    pub behind : (b : ℕ) → b < st.bays → (a : Attempt) → record_of s.dock b ≡ UnderWay a → number a.line ≡ 13 → live s.memory b (At (own (side a.line))) ≡ true → 0 < length (waiting st.base h (side a.line))
    -- and the index is still as the call read it
    pub still : (b : ℕ) → b < st.bays → (a : Attempt) → record_of s.dock b ≡ UnderWay a → number a.line ≡ 13 → live s.memory b (At (own (side a.line))) ≡ true → a.index ≡ index s.memory (own (side a.line))
