-- What a history tells, in the words of its readers. A history is the list of the moments of a run
-- since its open, the newest first; it repeats no line's work.
--
--   moment     one call of the run with its answer, and Tail, Head and the trays after it
--   event      what a moment is about: a call starts, goes on, stops or is given up; all else is quiet
--   number     of a moment: the first after the open is 1
--   running    the call that a bay has under way, with the line that it stands at
--   altered    an index is altered at a moment if it was another before
--   stored     a call's slot store is accepted: it stood at E15 and answered E16, or D15 and D16
--   waiting    calls whose slot store was accepted, and whose index has not been altered since
--   placed     the calls that have their place, each with the number of that moment:
--                where Tail or Head is altered, the calls that waited for it;
--                where FULL is answered at E6, or EMPTY at D6, that call
--   ended      the calls that a step has ended
--
-- Assumes nothing.
use Rattle.std.specs.Prelude.{ℕ, suc, Bool, true, false, cond, not, ◌&&◌, List, [], ◌∷◌, ◌++◌, map, length, Some, None, Option, ◌==◌}
use Rattle.std.specs.List.{slice_get}
use Rattle.std.specs.Option.{option_map}
use Rattle.dock_rules.specs.declared.Line.{Line}
use Rattle.dock_rules.specs.declared.Line.TheVariants.{E5, D5}
use Rattle.dock_rules.specs.declared.Outcome.{Outcome}
use Rattle.dock_rules.specs.declared.Outcome.TheVariants.{Full, Stored, Empty, Taken}
use Rattle.dock_rules.specs.declared.Abandoned.{Abandoned}
use Rattle.dock_rules.specs.declared.Abandoned.TheVariants.{Untouched, Stored as StoredAway, Taken as TakenAway}
use Rattle.dock_rules.specs.Words.{Side, Putting, Taking, side, number}
use Rattle.dock_rules.specs.Calls.{Call, Open, Put, Take, Step, Collect, Abandon, Enter, Waive, Answer, Refused, Opened, Began, Stands, End, Left, Settled}

pub record Moment (E : Type 0) : Type 0 where
  pub call : Call E
  pub answer : Answer
  pub tail : ℕ
  pub head : ℕ
  pub trays : List E

-- what a call asks of the queue
pub data Request (E : Type 0) : Type 0 where
  PutOf : E → Request E
  TakeOf : Request E

pub data Event (E : Type 0) : Type 0 where
  Starts : ℕ → Request E → ℕ → Event E
  Goes : ℕ → Line → Event E
  Stops : ℕ → Outcome → Event E
  Gives : ℕ → Abandoned → Event E
  Quiet : Event E

pub record Running (E : Type 0) : Type 0 where
  pub serial : ℕ
  -- the moment of its start
  pub since : ℕ
  pub request : Request E
  pub line : Line
  -- how often its index had been altered when it last stood at its first line
  pub read : ℕ

pub record Placed (E : Type 0) : Type 0 where
  pub serial : ℕ
  pub request : Request E
  pub moment : ℕ

pub record EndedCall (E : Type 0) : Type 0 where
  pub serial : ℕ
  pub since : ℕ
  pub moment : ℕ
  pub outcome : Outcome
  -- with TAKEN, the element then in the bay's tray
  pub element : Option E

abbrev pub same_side : Side → Side → Bool
same_side Putting Putting = true
same_side Putting Taking = false
same_side Taking Putting = false
same_side Taking Taking = true

module _ {E : Type 0} where
  abbrev pub starting : ℕ → Request E → Answer → Event E
  starting b q (Refused r) = Quiet
  starting b q Opened = Quiet
  starting b q (Began s) = Starts b q s
  starting b q (Stands l) = Quiet
  starting b q (End o) = Quiet
  starting b q (Left a) = Quiet
  starting b q Settled = Quiet

  abbrev pub stepping : ℕ → Answer → Event E
  stepping b (Refused r) = Quiet
  stepping b Opened = Quiet
  stepping b (Began s) = Quiet
  stepping b (Stands l) = Goes b l
  stepping b (End o) = Stops b o
  stepping b (Left a) = Quiet
  stepping b Settled = Quiet

  abbrev pub leaving : ℕ → Answer → Event E
  leaving b (Refused r) = Quiet
  leaving b Opened = Quiet
  leaving b (Began s) = Quiet
  leaving b (Stands l) = Quiet
  leaving b (End o) = Quiet
  leaving b (Left a) = Gives b a
  leaving b Settled = Quiet

  abbrev pub event_of : Call E → Answer → Event E
  event_of (Open n life base) a = Quiet
  event_of (Put b e) a = starting b (PutOf e) a
  event_of (Take b) a = starting b TakeOf a
  event_of (Step b) a = stepping b a
  event_of (Collect b s) a = Quiet
  event_of (Abandon b s) a = leaving b a
  event_of (Enter b s) a = Quiet
  event_of (Waive b s) a = Quiet

  abbrev pub event : Moment E → Event E
  event m = event_of m.call m.answer

  abbrev pub first_line : Request E → Line
  first_line (PutOf e) = E5
  first_line TakeOf = D5

  -- the call where it passes a test
  abbrev pub when : (Running E → Bool) → Option (Running E) → List (Running E)
  when t None = []
  when t (Some r) = cond (t r) (r ∷ []) []

  abbrev pub begins : Request E → ℕ → ℕ → Running E
  begins q s now = record { serial = s; since = now; request = q; line = first_line q; read = 0 }

  -- a call that goes to a line: at its first line it reads its index
  abbrev pub goes_to : Line → (Side → ℕ) → Running E → Running E
  goes_to l count r =
      record {
        serial = r.serial;
        since = r.since;
        request = r.request;
        line = l;
        read = cond (number r.line == 5) (count (side r.line)) r.read;
      }

  -- a bay's call after a moment of that number
  abbrev pub running_after : Event E → ℕ → ℕ → (Side → ℕ) → Option (Running E) → Option (Running E)
  running_after (Starts c q s) b now count r = cond (c == b) (Some (begins q s now)) r
  running_after (Goes c l) b now count r = cond (c == b) (option_map (goes_to l count) r) r
  running_after (Stops c o) b now count r = cond (c == b) None r
  running_after (Gives c a) b now count r = cond (c == b) None r
  running_after Quiet b now count r = r

  -- the call stood at line 15 of its side, and goes to line 16
  abbrev pub is_store : Side → Line → Running E → Bool
  is_store s l r = same_side (side r.line) s && (number r.line == 15 && number l == 16)

  -- the call stood at line 6 of the side that is turned away so
  abbrev pub is_turned : Outcome → Running E → Bool
  is_turned Full r = same_side (side r.line) Putting && number r.line == 6
  is_turned Stored r = false
  is_turned Empty r = same_side (side r.line) Taking && number r.line == 6
  is_turned Taken r = false

  abbrev pub stored_by : Side → Event E → (ℕ → Option (Running E)) → List (Running E)
  stored_by s (Starts c q n) run = []
  stored_by s (Goes c l) run = when (is_store s l) (run c)
  stored_by s (Stops c o) run = []
  stored_by s (Gives c a) run = []
  stored_by s Quiet run = []

  abbrev pub turned_by : Event E → (ℕ → Option (Running E)) → List (Running E)
  turned_by (Starts c q n) run = []
  turned_by (Goes c l) run = []
  turned_by (Stops c o) run = when (is_turned o) (run c)
  turned_by (Gives c a) run = []
  turned_by Quiet run = []

  abbrev pub place : ℕ → Running E → Placed E
  place now r = record { serial = r.serial; request = r.request; moment = now }

  abbrev pub element_of : Outcome → Option E → Option E
  element_of Full e = None
  element_of Stored e = None
  element_of Empty e = None
  element_of Taken e = e

  abbrev pub ends : ℕ → Outcome → Option E → Running E → EndedCall E
  ends now o e r = record { serial = r.serial; since = r.since; moment = now; outcome = o; element = element_of o e }

  abbrev pub ended_by : Event E → ℕ → List E → (ℕ → Option (Running E)) → List (EndedCall E)
  ended_by (Starts c q n) now trays run = []
  ended_by (Goes c l) now trays run = []
  ended_by (Stops c o) now trays run = map (ends now o (slice_get trays c)) (when (λ _. true) (run c))
  ended_by (Gives c a) now trays run = []
  ended_by Quiet now trays run = []

  abbrev pub is_untouched : Abandoned → Running E → Bool
  is_untouched Untouched r = true
  is_untouched StoredAway r = false
  is_untouched TakenAway r = false

  abbrev pub untouched_by : Event E → (ℕ → Option (Running E)) → List (Running E)
  untouched_by (Starts c q n) run = []
  untouched_by (Goes c l) run = []
  untouched_by (Stops c o) run = []
  untouched_by (Gives c a) run = when (is_untouched a) (run c)
  untouched_by Quiet run = []

  -- the words of a history that began with both indices at the base
  module _ (base : ℕ) where
    abbrev pub index_in : List (Moment E) → Side → ℕ
    index_in [] s = base
    index_in (m ∷ h) Putting = m.tail
    index_in (m ∷ h) Taking = m.head

    abbrev pub altered : Moment E → List (Moment E) → Side → Bool
    altered m h s = not (index_in (m ∷ h) s == index_in h s)

    -- how often the index has been altered
    abbrev pub alterations : List (Moment E) → Side → ℕ
    alterations [] s = 0
    alterations (m ∷ h) s = cond (altered m h s) (suc (alterations h s)) (alterations h s)

    abbrev pub running : List (Moment E) → ℕ → Option (Running E)
    running [] b = None
    running (m ∷ h) b = running_after (event m) b (suc (length h)) (alterations h) (running h b)

    abbrev pub stored : Moment E → List (Moment E) → Side → List (Running E)
    stored m h s = stored_by s (event m) (running h)

    abbrev pub waiting : List (Moment E) → Side → List (Running E)
    waiting [] s = []
    waiting (m ∷ h) s = stored m h s ++ cond (altered m h s) [] (waiting h s)

    abbrev pub leaves : Moment E → List (Moment E) → Side → List (Running E)
    leaves m h s = cond (altered m h s) (waiting h s) []

    -- the calls that have their place at this moment
    abbrev pub placed_at : Moment E → List (Moment E) → List (Running E)
    placed_at m h = leaves m h Putting ++ (leaves m h Taking ++ turned_by (event m) (running h))

    abbrev pub placed : List (Moment E) → List (Placed E)
    placed [] = []
    placed (m ∷ h) = map (place (suc (length h))) (placed_at m h) ++ placed h

    abbrev pub ended : List (Moment E) → List (EndedCall E)
    ended [] = []
    ended (m ∷ h) = ended_by (event m) (suc (length h)) m.trays (running h) ++ ended h

    abbrev pub untouched : List (Moment E) → List (Running E)
    untouched [] = []
    untouched (m ∷ h) = untouched_by (event m) (running h) ++ untouched h
