-- The bay's call of a serial, and the reasons for which a collect and an abandon find none.
-- Assumes nothing.
use Rattle.std.specs.Prelude.{◌≡◌, ℕ, ◌<◌, true, [], ◌∷◌, Some, Ok, Err, Result}
use Rattle.dock_rules.specs.declared.Attempt.{Attempt}
use Rattle.dock_rules.specs.declared.BayRecord.TheVariants.{UnderWay, Ended}
use Rattle.dock_rules.specs.declared.DockState.{DockState}
use Rattle.dock_rules.specs.declared.Line.{Line}
use Rattle.dock_rules.specs.declared.Outcome.{Outcome}
use Rattle.dock_rules.specs.declared.Refusal.{Refusal}
use Rattle.dock_rules.specs.declared.Stepped.{Stepped}
use Rattle.dock_rules.specs.declared.Stepped.TheVariants.{At}
use Rattle.dock_rules.specs.declared.Stepped.TheVariants as stood
use Rattle.dock_rules.specs.Calls.{record_of, first}
use Rattle.dock.specs.Checks.{shut, no_bay, no_call}

-- the dock is open and has the bay
pub record Inside (d : DockState) (b : ℕ) : Type 0 where
  pub opened : d.opened ≡ true
  pub bay : b < d.bays

pub record IsUnderWay (d : DockState) (b s : ℕ) (l : Line) : Type 0 where
  pub inside : Inside d b
  pub call : Attempt
  pub is : record_of d b ≡ UnderWay call
  pub serial : call.serial ≡ s
  pub line : call.line ≡ l

pub record HasEnded (d : DockState) (b s : ℕ) (o : Outcome) : Type 0 where
  pub inside : Inside d b
  pub is : record_of d b ≡ Ended s o

abbrev pub FoundOf : DockState → ℕ → ℕ → Result Stepped Refusal → Type 0
FoundOf d b s (Ok (At l)) = IsUnderWay d b s l
FoundOf d b s (Ok (stood.Ended o)) = HasEnded d b s o
FoundOf d b s (Err r) =
    first (shut d ∷ no_bay d b ∷ no_call d b s ∷ []) ≡ Some r
