-- Marks, trays and records of one bay and of the others, after one of them is changed. Assumes nothing.
use Rattle.std.proofs.Common.{◌≡◌, ℕ, ◌<◌, true, eqb, List, map, length, get_or, set, is_some, Some, None, Option, refl, ap, ◌∙◌, arith}
use Rattle.std.specs.List.{slice_get}
use Rattle.std.proofs.Math.ListN.{get_or-map}
use Rattle.std.proofs.lemmas.Grind.{common_steps}
use Rattle.std.proofs.lemmas.Option.{gets}
use Rattle.std.specs.Option.{option_map}
use Rattle.std.proofs.lemmas.List.{get_or-set_same, get_or-set_other, length-map}
use Rattle.std.proofs.lemmas.Bool.{cond-true, eq-eqb}
use Rattle.slot_memory.specs.declared.Cell.{Cell}
use Rattle.slot_memory.specs.declared.Index.TheVariants.{Tail, Head}
use Rattle.slot_memory.specs.Meaning.{Meaning, mark, unless_on}
use Rattle.slot_memory.specs.Rules.{Write, InSlot, InIndex, target, marked, written}
use Rattle.dock_rules.specs.declared.BayRecord.{BayRecord}
use Rattle.dock_rules.specs.declared.DockState.{DockState}
use Rattle.dock_rules.specs.declared.Line.{Line}
use Rattle.dock_rules.specs.declared.Outcome.{Outcome}
use Rattle.dock_rules.specs.declared.Abandoned.{Abandoned}
use Rattle.dock_rules.specs.Words.{Side}
use Rattle.dock_rules.specs.Calls.{record_of, with_record}
use Rattle.dock_rules.specs.History.{Request, Event, Starts, Goes, Stops, Gives, Quiet, Running, begins, goes_to, running_after}
use Rattle.dock_rules.proofs.Knows.{spared}

module _ {X : Type 0} where
  -- a store in one place leaves the others
  pub nth_set_other : (xs : List X) (b c : ℕ) (x : X) → (c ≡ b → ⊥) → slice_get (set xs b x) c ≡ slice_get xs c
  nth_set_other xs b c x n = grind (arith, common_steps, gets)

  -- and is read back at its own
  pub nth_set_same : (xs : List X) (b : ℕ) (x : X) → b < length xs → slice_get (set xs b x) b ≡ Some x
  nth_set_same xs b x h = grind (arith, common_steps, gets)

  -- a place within a list holds something
  pub nth_some : (xs : List X) (b : ℕ) → b < length xs → is_some (slice_get xs b) ≡ true
  nth_some xs b h = grind (arith, common_steps, gets)

-- a kill over all marks is one over each, since a mark that is not there stays so
get_or_unless : (c : Cell) (ks : List (Option Cell)) (b : ℕ) → get_or (map (unless_on c) ks) b None ≡ unless_on c (get_or ks b None)
get_or_unless c ks b = get_or-map (unless_on c) ks b None

module _ {E : Type 0} (m : Meaning E) where
  -- a bay's mark changes no other bay's
  pub marked_other : (b c : ℕ) (k : Option Cell) (spare : ℕ) → (c ≡ b → ⊥) → mark (marked m b k spare) c ≡ mark m c
  marked_other b c k spare n = get_or-set_other m.marks b c k None n

  -- an accepted store kills the marks on its cell, and no other
  pub written-mark : (w : Write E) (spare : ℕ) (c : ℕ) → mark (written m w spare) c ≡ spared (Some (target w)) (mark m c)
  written-mark (InSlot i content) spare c = get_or_unless _ m.marks c
  written-mark (InIndex Tail number) spare c = get_or_unless _ m.marks c
  written-mark (InIndex Head number) spare c = get_or_unless _ m.marks c

  -- and leaves as many marks as there were
  pub written-marks : (w : Write E) (spare : ℕ) → length (written m w spare).marks ≡ length m.marks
  written-marks (InSlot i content) spare = length-map m.marks _
  written-marks (InIndex Tail number) spare = length-map m.marks _
  written-marks (InIndex Head number) spare = length-map m.marks _

module _ (d : DockState) (b : ℕ) (r : BayRecord) where
  -- a bay's record changes no other bay's
  pub record_other : (c : ℕ) → (c ≡ b → ⊥) → record_of (with_record d b r) c ≡ record_of d c
  record_other c n = get_or-set_other d.records b c r _ n

  -- and is read back at its own
  pub record_own : b < length d.records → record_of (with_record d b r) b ≡ r
  record_own h = get_or-set_same d.records b r _ h

module _ {E : Type 0} (b now : ℕ) (count : Side → ℕ) (run : ℕ → Option (Running E)) where
  -- the bay that an event is about
  abbrev pub About : Event E → Type 0
  About (Starts c q s) = c ≡ b
  About (Goes c l) = c ≡ b
  About (Stops c o) = c ≡ b
  About (Gives c a) = c ≡ b
  About Quiet = Unit {0}

  -- an event about bay b leaves the call of every other bay
  pub runs_other : (ev : Event E) (c : ℕ) → About ev → (c ≡ b → ⊥) → running_after ev c now count (run c) ≡ run c
  runs_other ev c is n = grind arith

  -- the call that has begun runs in bay b
  pub starts_own : (q : Request E) (s : ℕ) → running_after (Starts b q s) b now count (run b) ≡ Some (begins q s now)
  starts_own q s = cond-true (eqb b b) _ _ (eq-eqb b b refl)

  -- the call has gone to the line
  pub goes_own : (l : Line) (r : Running E) → run b ≡ Some r → running_after (Goes b l) b now count (run b) ≡ Some (goes_to l count r)
  goes_own l r e = cond-true (eqb b b) _ _ (eq-eqb b b refl) ∙ ap (option_map (goes_to l count)) e

  -- none runs after an end
  pub stops_own : (o : Outcome) → running_after (Stops b o) b now count (run b) ≡ None
  stops_own o = cond-true (eqb b b) _ _ (eq-eqb b b refl)

  -- nor after it is given up
  pub gives_own : (a : Abandoned) → running_after (Gives b a) b now count (run b) ≡ None
  gives_own a = cond-true (eqb b b) _ _ (eq-eqb b b refl)
