-- What the checks of a call answer, by the dock's record: the first of their reasons that applies, or what
-- holds where none does.
--
--   test    a reason with whether it applies, as the rules have it of a world
--
-- Assumes nothing.
use Rattle.std.specs.Prelude.{◌≡◌, ℕ, ◌+◌, ◌<◌, Bool, true, not, List, length, Some, Ok, Err, Result, ◌==◌, nat_le}
use Rattle.dock_rules.specs.declared.DockState.{DockState}
use Rattle.dock_rules.specs.declared.Line.{Line}
use Rattle.dock_rules.specs.declared.Refusal.{Refusal}
use Rattle.dock_rules.specs.declared.Refusal.TheVariants as why
use Rattle.dock.specs.declared.Book.{Book}
use Rattle.dock_rules.specs.Calls.{record_of, is_free, serial_of, owed_of, is_it, first, begun}

-- refused for the first of these reasons that applies, or P of what is answered
abbrev pub Checks : {A : Type 0} → List (Bool × Refusal) → (A → Type 0) → Result A Refusal → Type 0
Checks ts P (Ok x) = P x
Checks ts P (Err r) = first ts ≡ Some r

abbrev pub shut : DockState → Bool × Refusal
shut d = (not d.opened, why.Shut)

-- n trays are handed over
abbrev pub other_trays : DockState → ℕ → Bool × Refusal
other_trays d n = (not (n == d.bays), why.Trays)

abbrev pub no_bay : DockState → ℕ → Bool × Refusal
no_bay d b = (nat_le d.bays b, why.Bay)

abbrev pub busy : DockState → ℕ → Bool × Refusal
busy d b = (not (is_free (record_of d b)), why.Busy)

abbrev pub worn : DockState → Bool × Refusal
worn d = (nat_le d.lifetime d.started, why.Worn)

-- the bay has no call of that serial
abbrev pub no_call : DockState → ℕ → ℕ → Bool × Refusal
no_call d b s = (not (is_it s (serial_of (record_of d b))), why.Serial)

-- nor a receipt of that serial
abbrev pub no_receipt : DockState → ℕ → ℕ → Bool × Refusal
no_receipt d b s = (not (is_it s (owed_of (record_of d b))), why.Serial)

abbrev pub full : {E : Type 0} → Book E → Bool × Refusal
full k = (nat_le (length k.row.now) k.entered, why.Book)

-- d has a free bay b and calls left, and is e once a call that stands at l has begun there with serial s
pub record Begins (d : DockState) (b : ℕ) (l : Line) (s : ℕ) (e : DockState) : Type 0 where
  pub bay : b < d.bays
  pub free : is_free (record_of d b) ≡ true
  pub left : d.started < d.lifetime
  pub serial : s ≡ d.started + 1
  pub is : e ≡ begun d b l
