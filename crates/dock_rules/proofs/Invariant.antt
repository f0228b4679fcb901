-- What holds of every reached history and state. Assumes nothing.
--
--   weight    of a serial: how often it may still be placed, or has been; at most once
use Rattle.std.proofs.Common.{◌≡◌, ℕ, ◌+◌, ◌%◌, ◌^◌, ◌<◌, ◌≤◌, true, cond, eqb, ltb, leb, List, [], ◌∷◌, length, is_some, Some, None, Option}
use Rattle.std.specs.List.{slice_get}
use Rattle.slot_memory.specs.declared.Cell.{Cell}
use Rattle.slot_memory.specs.Meaning.{index, mark}
use Rattle.dock_rules.specs.declared.Attempt.{Attempt}
use Rattle.dock_rules.specs.declared.BayRecord.{BayRecord}
use Rattle.dock_rules.specs.declared.BayRecord.TheVariants.{Free as Idle, UnderWay, Ended, Owed}
use Rattle.dock_rules.specs.Words.{Side, Putting, Taking, side, number}
use Rattle.dock_rules.specs.Lines.{wrap}
use Rattle.dock_rules.specs.Calls.{record_of, most_lifetime}
use Rattle.dock_rules.specs.History.{Moment, Request, PutOf, TakeOf, Running, index_in, alterations, running, waiting, placed, untouched}
use Rattle.dock_rules.specs.Law.{Each, places, Linearizable}
use Rattle.dock_rules.specs.Runs.{Start, State}
use Rattle.dock_rules.proofs.Sound.{own}
use Rattle.dock_rules.proofs.Stages.{Stage, S5, S6, S9, S10, S12, S13, S15, S16, S17, stage}
use Rattle.dock_rules.proofs.Sums.{sum_to}
use Rattle.dock_rules.proofs.Knows.{View, count, wait, pos, Stands}
use Rattle.dock_rules.proofs.Changes.{Sharing}

-- what the index says counts from the second line on
abbrev pub Noted : Stage → Type 0 → Type 0
Noted S5 P = Unit {0}
Noted S6 P = P
Noted S9 P = P
Noted S10 P = P
Noted S12 P = P
Noted S13 P = P
Noted S15 P = P
Noted S16 P = P
Noted S17 P = P

-- 1 for a call whose slot store is still to come
abbrev pub early : BayRecord → ℕ
early Idle = 0
early (UnderWay a) = cond (ltb (number a.line) 16) 1 0
early (Ended s o) = 0
early (Owed s) = 0

-- the same, for the call of one serial
abbrev pub early_by : ℕ → BayRecord → ℕ
early_by x Idle = 0
early_by x (UnderWay a) = cond (eqb a.serial x) (cond (ltb (number a.line) 16) 1 0) 0
early_by x (Ended s o) = 0
early_by x (Owed s) = 0

module _ {E : Type 0} where
  -- the side that a request is of
  abbrev pub side_of : Request E → Side
  side_of (PutOf e) = Putting
  side_of TakeOf = Taking

  -- the tray of a put under way holds its element
  abbrev pub TrayOf : Request E → Option E → Type 0
  TrayOf (PutOf e) tr = tr ≡ Some e
  TrayOf TakeOf tr = is_some tr ≡ true

  -- how often a serial is among the calls
  abbrev pub hits : ℕ → List (Running E) → ℕ
  hits x [] = 0
  hits x (r ∷ rs) = cond (eqb r.serial x) 1 0 + hits x rs

  module _ (L base : ℕ) where
    -- the call that runs and the bay's note of it agree, and what its line knows holds
    pub record Stood (v : View E) (now : ℕ) (r : Running E) (a : Attempt) (mk : Option Cell) (tr : Option E) : Type 0 where
      pub serial : r.serial ≡ a.serial
      pub line : r.line ≡ a.line
      pub index : Noted (stage a.line) (a.index ≡ wrap (pos L base r))
      pub asks : side_of r.request ≡ side a.line
      pub tray : TrayOf r.request tr
      pub since : r.since ≤ now
      pub stands : Stands L base v (side a.line) (stage a.line) r a.held mk tr

    -- a bay has a call that runs exactly while its record is under way
    abbrev pub Knows : View E → ℕ → Option (Running E) → BayRecord → Option Cell → Option E → Type 0
    Knows v now None Idle mk tr = Unit {0}
    Knows v now None (UnderWay a) mk tr = ⊥
    Knows v now None (Ended s o) mk tr = Unit {0}
    Knows v now None (Owed s) mk tr = Unit {0}
    Knows v now (Some r) Idle mk tr = ⊥
    Knows v now (Some r) (UnderWay a) mk tr = Stood v now r a mk tr
    Knows v now (Some r) (Ended s o) mk tr = ⊥
    Knows v now (Some r) (Owed s) mk tr = ⊥

  -- the view of a history and a state
  abbrev pub view_of : Start → List (Moment E) → State E → View E
  view_of st h s =
      record {
        T = st.base + alterations st.base h Putting;
        H = st.base + alterations st.base h Taking;
        slots = s.memory.slots;
        puts = waiting st.base h Putting;
        takes = waiting st.base h Taking;
        ps = placed st.base h;
      }

  -- what no call changes
  pub record Static (K : ℕ) (st : Start) (s : State E) : Type 0 where
    pub few : st.bays ≤ 16
    pub some : 0 < st.length
    pub short : st.length ≤ 1024
    pub divides : 2 ^ 32 % st.length ≡ 0
    pub opened : s.dock.opened ≡ true
    pub bays : s.dock.bays ≡ st.bays
    pub life : s.dock.lifetime ≤ most_lifetime
    pub started : s.dock.started ≤ s.dock.lifetime
    pub records : length s.dock.records ≡ 16
    pub marks : length s.memory.marks ≡ 16
    pub slots : length s.memory.slots ≡ st.length
    pub trays : length s.trays ≡ st.bays
    pub spare : s.memory.spare ≤ K

  -- how often a serial waits or is placed
  abbrev pub words : View E → ℕ → ℕ
  words v x = hits x v.puts + (hits x v.takes + length (places x v.ps))

  -- over all bays: a call is early in one, waits, or is placed
  abbrev pub weight : ℕ → View E → State E → ℕ → ℕ
  weight n v s x = sum_to n (λ b. early_by x (record_of s.dock b)) + words v x

  -- the slot stores that have been accepted, each once while it waits and once when it is counted
  abbrev pub extent : View E → ℕ
  extent v = length v.puts + length v.takes + (v.T + v.H)

  -- of a state, with the view of it and the calls that run
  pub record Inner (K : ℕ) (st : Start) (v : View E) (now : ℕ) (s : State E) (run : ℕ → Option (Running E)) : Type 0 where
    pub static : Static K st s
    pub wraps : (d : Side) → index s.memory (own d) ≡ wrap (count v d)
    pub same : v.slots ≡ s.memory.slots
    pub shared : Sharing st.length st.base now v
    pub asks : (d : Side) → Each (λ w. side_of w.request ≡ d) (wait v d)
    pub knows : (b : ℕ) → b < st.bays → Knows st.length st.base v now (run b) (record_of s.dock b) (mark s.memory b) (slice_get s.trays b)
    pub once : (x : ℕ) → weight st.bays v s x ≤ cond (leb x s.dock.started) 1 0
    pub room : sum_to st.bays (λ b. early (record_of s.dock b)) + extent v ≤ s.dock.started + (st.base + st.base)

  -- of a history and a state: what holds within, and the law
  pub record Inv (K : ℕ) (st : Start) (h : List (Moment E)) (s : State E) : Type 0 where
    pub inner : Inner K st (view_of st h s) (length h) s (running st.base h)
    pub indices : (d : Side) → index s.memory (own d) ≡ index_in st.base h d
    pub past : Each (λ p. p.moment ≤ length h) (placed st.base h)
    pub given_up_lem : Each (λ r. (r.serial ≤ s.dock.started) × (weight st.bays (view_of st h s) s r.serial ≡ 0)) (untouched st.base h)
    pub law : Linearizable st.length st.base h
