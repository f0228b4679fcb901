-- The calls on a dock, as one function of the world, the call and the free results.
--
--   world    the dock's record, the memory's meaning, the trays that are handed over, and the book
--   row      of refusals: tests in their order, and the first that holds turns the call down
--   book     the caller's row of elements with the number entered
--   free     whether the memory refuses a live store, and its new spare: the only freedoms
--
-- Assumes nothing.
use Rattle.std.specs.Prelude.{ℕ, ◌+◌, ◌%◌, ◌^◌, Bool, true, false, cond, not, ◌&&◌, ◌||◌, List, [], ◌∷◌, length, replicate, IfSome, IfNone, Some, None, Option, ◌==◌, nat_le, nat_lt, slice_index_or, slice_set}
use Rattle.std.specs.List.{slice_get}
use Rattle.std.specs.Option as options
use Rattle.slot_memory.specs.Meaning.{Meaning, bays}
use Rattle.slot_memory.specs.Rules.{Operation, Clear, Reply, Free, touched, May}
use Rattle.dock_rules.specs.declared.Line.{Line}
use Rattle.dock_rules.specs.declared.Line.TheVariants.{E5, D5}
use Rattle.dock_rules.specs.declared.Outcome.{Outcome}
use Rattle.dock_rules.specs.declared.Outcome.TheVariants.{Full, Stored, Empty, Taken}
use Rattle.dock_rules.specs.declared.Abandoned.{Abandoned}
use Rattle.dock_rules.specs.declared.Abandoned.TheVariants.{Untouched, Stored as StoredAway, Taken as TakenAway}
use Rattle.dock_rules.specs.declared.Refusal.{Refusal}
use Rattle.dock_rules.specs.declared.Refusal.TheVariants as why
use Rattle.dock_rules.specs.declared.Attempt.{Attempt}
use Rattle.dock_rules.specs.declared.BayRecord.{BayRecord}
use Rattle.dock_rules.specs.declared.BayRecord.TheVariants.{Free as Idle, UnderWay, Ended, Owed}
use Rattle.dock_rules.specs.declared.DockState.{DockState}
use Rattle.dock_rules.specs.Words.{side, is_taking, number}
use Rattle.dock_rules.specs.Lines.{Next, To, Ends, operation, next, trays_after}

-- the longest ring, the most bays, the longest lifetime
abbrev pub most_length : ℕ
most_length = 1024

abbrev pub most_bays : ℕ
most_bays = bays

abbrev pub most_lifetime : ℕ
most_lifetime = 2147483648

-- a power of two from 1 to 1,024: it divides 2 ^ 32
abbrev pub good_length : ℕ → Bool
good_length l = nat_lt 0 l && (nat_le l most_length && 2 ^ 32 % l == 0)

pub record Book (E : Type 0) : Type 0 where
  pub row : List E
  pub entered : ℕ

pub record World (E : Type 0) : Type 0 where
  pub dock : DockState
  pub memory : Meaning E
  pub trays : List E
  pub book : Book E

pub data Call (E : Type 0) : Type 0 where
  Open : ℕ → ℕ → ℕ → Call E
  Put : ℕ → E → Call E
  Take : ℕ → Call E
  Step : ℕ → Call E
  Collect : ℕ → ℕ → Call E
  Abandon : ℕ → ℕ → Call E
  Enter : ℕ → ℕ → Call E
  Waive : ℕ → ℕ → Call E

pub data Answer : Type 0 where
  Refused : Refusal → Answer
  Opened : Answer
  Began : ℕ → Answer
  Stands : Line → Answer
  End : Outcome → Answer
  Left : Abandoned → Answer
  Settled : Answer

-- what a bay's record tells

abbrev pub record_of : DockState → ℕ → BayRecord
record_of d b = slice_index_or d.records b Idle

abbrev pub is_free : BayRecord → Bool
is_free Idle = true
is_free (UnderWay a) = false
is_free (Ended s o) = false
is_free (Owed s) = false

abbrev pub attempt : BayRecord → Option Attempt
attempt Idle = None
attempt (UnderWay a) = Some a
attempt (Ended s o) = None
attempt (Owed s) = None

abbrev pub outcome : BayRecord → Option Outcome
outcome Idle = None
outcome (UnderWay a) = None
outcome (Ended s o) = Some o
outcome (Owed s) = None

-- the serial of the call under way or ended and not yet collected
abbrev pub serial_of : BayRecord → Option ℕ
serial_of Idle = None
serial_of (UnderWay a) = Some a.serial
serial_of (Ended s o) = Some s
serial_of (Owed s) = None

-- the serial of the receipt that is out
abbrev pub owed_of : BayRecord → Option ℕ
owed_of Idle = None
owed_of (UnderWay a) = None
owed_of (Ended s o) = None
owed_of (Owed s) = Some s

abbrev pub is_it : ℕ → Option ℕ → Bool
is_it s None = false
is_it s (Some r) = r == s

-- the row of refusals

abbrev pub bad_bays : ℕ → Bool
bad_bays n = n == 0 || nat_lt most_bays n

abbrev pub bad_life : ℕ → Bool
bad_life life = life == 0 || nat_lt most_lifetime life

abbrev pub first : List (Bool × Refusal) → Option Refusal
first [] = None
first (t ∷ ts) = cond t.0 (Some t.1) (first ts)

module _ {E : Type 0} where
  abbrev pub shut : World E → Bool × Refusal
  shut w = (not w.dock.opened, why.Shut)

  abbrev pub trays : World E → Bool × Refusal
  trays w = (not (length w.trays == w.dock.bays), why.Trays)

  abbrev pub bay : World E → ℕ → Bool × Refusal
  bay w b = (nat_le w.dock.bays b, why.Bay)

  abbrev pub busy : World E → ℕ → Bool × Refusal
  busy w b = (not (is_free (record_of w.dock b)), why.Busy)

  abbrev pub worn : World E → Bool × Refusal
  worn w = (nat_le w.dock.lifetime w.dock.started, why.Worn)

  abbrev pub idle : World E → ℕ → Bool × Refusal
  idle w b = (not (options.is_some (attempt (record_of w.dock b))), why.Idle)

  abbrev pub serial : World E → ℕ → ℕ → Bool × Refusal
  serial w b s = (not (is_it s (serial_of (record_of w.dock b))), why.Serial)

  abbrev pub receipt : World E → ℕ → ℕ → Bool × Refusal
  receipt w b s = (not (is_it s (owed_of (record_of w.dock b))), why.Serial)

  abbrev pub early : World E → ℕ → Bool × Refusal
  early w b = (options.is_some (attempt (record_of w.dock b)), why.Early)

  abbrev pub late : World E → ℕ → Bool × Refusal
  late w b = (options.is_some (outcome (record_of w.dock b)), why.Late)

  abbrev pub full : World E → Bool × Refusal
  full w = (nat_le (length w.book.row) w.book.entered, why.Book)

  abbrev pub reasons : World E → Call E → List (Bool × Refusal)
  reasons w (Open n life base) =
      (w.dock.opened, why.Open) ∷ (not (good_length (length w.memory.slots)), why.Length) ∷ (bad_bays n, why.Bays) ∷ (bad_life life, why.Life) ∷ []
  reasons w (Put b e) = shut w ∷ trays w ∷ bay w b ∷ busy w b ∷ worn w ∷ []
  reasons w (Take b) = shut w ∷ bay w b ∷ busy w b ∷ worn w ∷ []
  reasons w (Step b) = shut w ∷ trays w ∷ bay w b ∷ idle w b ∷ []
  reasons w (Collect b s) = shut w ∷ bay w b ∷ serial w b s ∷ early w b ∷ []
  reasons w (Abandon b s) = shut w ∷ bay w b ∷ serial w b s ∷ late w b ∷ []
  reasons w (Enter b s) = shut w ∷ trays w ∷ bay w b ∷ receipt w b s ∷ full w ∷ []
  reasons w (Waive b s) = shut w ∷ bay w b ∷ receipt w b s ∷ []

  abbrev pub refusal : World E → Call E → Option Refusal
  refusal w c = first (reasons w c)

-- what a granted call does to the dock's record

abbrev pub opened : ℕ → ℕ → DockState
opened n life = record { opened = true; bays = n; lifetime = life; started = 0; records = replicate most_bays Idle }

abbrev pub with_record : DockState → ℕ → BayRecord → DockState
with_record d b r =
    record { opened = d.opened; bays = d.bays; lifetime = d.lifetime; started = d.started; records = slice_set d.records b r }

abbrev pub begun : DockState → ℕ → Line → DockState
begun d b l =
    record {
      opened = d.opened;
      bays = d.bays;
      lifetime = d.lifetime;
      started = d.started + 1;
      records = slice_set d.records b (UnderWay (record { serial = d.started + 1; line = l; index = 0; held = false }));
    }

-- a bay is free after its call, unless an element lies in its tray
abbrev pub after_end : ℕ → Outcome → BayRecord
after_end s Full = Idle
after_end s Stored = Idle
after_end s Empty = Idle
after_end s Taken = Owed s

abbrev pub after_left : ℕ → Abandoned → BayRecord
after_left s Untouched = Idle
after_left s StoredAway = Idle
after_left s TakenAway = Owed s

-- what becomes of a call that is given up at this line
abbrev pub left_at : Line → Abandoned
left_at l = cond (nat_lt (number l) 16) Untouched (cond (is_taking (side l)) TakenAway StoredAway)

abbrev pub answer_of : Next → Answer
answer_of (To l i held) = Stands l
answer_of (Ends o) = End o

abbrev pub record_after : ℕ → Next → BayRecord
record_after s (To l i held) = UnderWay (record { serial = s; line = l; index = i; held = held })
record_after s (Ends o) = Ended s o

module _ {E : Type 0} where
  abbrev pub with_dock : World E → DockState → World E
  with_dock w d = record { dock = d; memory = w.memory; trays = w.trays; book = w.book }

  abbrev pub enter_tray : Book E → Option E → Book E
  enter_tray k None = k
  enter_tray k (Some e) = record { row = slice_set k.row k.entered e; entered = k.entered + 1 }

  -- the operation that a call under way makes next
  abbrev pub next_operation : World E → ℕ → Attempt → Operation E
  next_operation w b a = operation a.line b (length w.memory.slots) a.index (slice_get w.trays b)

  -- one step, from the reply and the memory afterwards
  abbrev pub stepped : World E → ℕ → Attempt → Reply E × Meaning E → Answer × World E
  stepped w b a t =
      let n = next a.line (length w.memory.slots) a.index a.held t.0 in (
        answer_of n,
        record {
          dock = with_record w.dock b (record_after a.serial n);
          memory = t.1;
          trays = trays_after a.line w.trays b t.0;
          book = w.book;
        },
      )

  abbrev pub step : World E → ℕ → Option Attempt → Free → Answer × World E
  step w b None f = (Settled, w)
  step w b (Some a) f = stepped w b a (touched w.memory (next_operation w b a) f)

  abbrev pub collect : World E → ℕ → ℕ → Option Outcome → Answer × World E
  collect w b s None = (Settled, w)
  collect w b s (Some o) = (End o, with_dock w (with_record w.dock b (after_end s o)))

  abbrev pub abandon : World E → ℕ → ℕ → Option Attempt → Answer × World E
  abandon w b s None = (Settled, w)
  abandon w b s (Some a) = (Left (left_at a.line), with_dock w (with_record w.dock b (after_left s (left_at a.line))))

  -- a call that nothing turns down
  abbrev pub granted : World E → Call E → Free → Answer × World E
  granted w (Open n life base) f =
      (Opened, record { dock = opened n life; memory = (touched w.memory (Clear base) f).1; trays = w.trays; book = w.book })
  granted w (Put b e) f =
      (Began (w.dock.started + 1), record { dock = begun w.dock b E5; memory = w.memory; trays = slice_set w.trays b e; book = w.book })
  granted w (Take b) f = (Began (w.dock.started + 1), with_dock w (begun w.dock b D5))
  granted w (Step b) f = step w b (attempt (record_of w.dock b)) f
  granted w (Collect b s) f = collect w b s (outcome (record_of w.dock b))
  granted w (Abandon b s) f = abandon w b s (attempt (record_of w.dock b))
  granted w (Enter b s) f =
      (Settled, record { dock = with_record w.dock b Idle; memory = w.memory; trays = w.trays; book = enter_tray w.book (slice_get w.trays b) })
  granted w (Waive b s) f = (Settled, with_dock w (with_record w.dock b Idle))

  abbrev pub answered : World E → Call E → Free → Option Refusal → Answer × World E
  answered w c f (Some r) = (Refused r, w)
  answered w c f None = granted w c f

  -- what a call answers and leaves
  abbrev pub does : World E → Call E → Free → Answer × World E
  does w c f = answered w c f (refusal w c)

  abbrev pub attempted : World E → ℕ → Option Attempt → Option (Operation E)
  attempted w b None = None
  attempted w b (Some a) = Some (next_operation w b a)

  -- the one operation that a granted call makes on the memory
  abbrev pub touches : World E → Call E → Option (Operation E)
  touches w (Open n life base) = Some (Clear base)
  touches w (Put b e) = None
  touches w (Take b) = None
  touches w (Step b) = attempted w b (attempt (record_of w.dock b))
  touches w (Collect b s) = None
  touches w (Abandon b s) = None
  touches w (Enter b s) = None
  touches w (Waive b s) = None

  -- which free results may be: what the memory's rules allow at that operation
  abbrev pub MayCall : ℕ → World E → Call E → Free → Type 0
  MayCall K w c f = IfNone (refusal w c) (IfSome (touches w c) (λ o. May K w.memory o f))
