-- What a caller is answered, in the words of the rules. Assumes nothing.
use Rattle.std.specs.Prelude.{◌≡◌, ℕ, ◌<◌, true, Some, None, Option, Ok, Err, Result, IfSome, IfOk, IfErr, OnErr, ◌≢◌}
use Rattle.dock_rules.specs.declared.Outcome.{Outcome}
use Rattle.dock_rules.specs.declared.Outcome.TheVariants.{Full, Stored, Empty, Taken}
use Rattle.dock_rules.specs.declared.Abandoned.{Abandoned}
use Rattle.dock_rules.specs.declared.Abandoned.TheVariants as away
use Rattle.dock_rules.specs.declared.BayRecord.TheVariants.{Owed}
use Rattle.dock_rules.specs.declared.DockState.{DockState}
use Rattle.dock_rules.specs.declared.Refusal.{Refusal}
use Rattle.dock_rules.specs.declared.Stepped.{Stepped}
use Rattle.dock_rules.specs.declared.Stepped.TheVariants.{At, Ended}
use Rattle.dock_rules.specs.Calls.{Answer, Refused, Opened, Began, Stands, End, Settled, record_of}
use Rattle.dock_rules.specs.Calls as rules
use Rattle.dock.specs.declared.Receipt.{Receipt}
use Rattle.dock.specs.declared.Collected.{Collected}
use Rattle.dock.specs.declared.Collected.TheVariants as collected
use Rattle.dock.specs.declared.Left.{Left}
use Rattle.dock.specs.declared.Left.TheVariants as left

abbrev pub open_answer : Result (Unit {0}) Refusal → Answer
open_answer (Ok u) = Opened
open_answer (Err r) = Refused r

-- of a put or a take
abbrev pub start_answer : Result ℕ Refusal → Answer
start_answer (Ok s) = Began s
start_answer (Err r) = Refused r

abbrev pub stood : Stepped → Answer
stood (At l) = Stands l
stood (Ended o) = End o

abbrev pub step_answer : Result Stepped Refusal → Answer
step_answer (Ok s) = stood s
step_answer (Err r) = Refused r

abbrev pub collect_answer : Result Collected Refusal → Answer
collect_answer (Ok collected.Full) = End Full
collect_answer (Ok collected.Stored) = End Stored
collect_answer (Ok collected.Empty) = End Empty
collect_answer (Ok (collected.Taken x)) = End Taken
collect_answer (Err r) = Refused r

abbrev pub abandon_answer : Result Left Refusal → Answer
abandon_answer (Ok left.Untouched) = rules.Left away.Untouched
abandon_answer (Ok left.Stored) = rules.Left away.Stored
abandon_answer (Ok (left.Taken x)) = rules.Left away.Taken
abandon_answer (Err r) = Refused r

-- of an enter or a waive
abbrev pub settle_answer : Result (Unit {0}) (Refusal × Receipt) → Answer
settle_answer (Ok u) = Settled
settle_answer (Err e) = Refused e.0

-- the receipt is out at the dock: its bay holds it
pub record Out (d : DockState) (x : Receipt) : Type 0 where
  pub opened : d.opened ≡ true
  pub bay : x.bay < d.bays
  pub owed : record_of d x.bay ≡ Owed x.serial

-- every receipt that was out still is
abbrev pub Stays : DockState → DockState → Type 0
Stays d e = (x : Receipt) → Out d x → Out e x

-- but for that of this bay
abbrev pub StaysBut : ℕ → DockState → DockState → Type 0
StaysBut b d e = (x : Receipt) → (x.bay ≢ b) → Out d x → Out e x

-- how a collected call ended, and what became of one that was given up, without the receipt

abbrev pub collected_outcome : Collected → Outcome
collected_outcome collected.Full = Full
collected_outcome collected.Stored = Stored
collected_outcome collected.Empty = Empty
collected_outcome (collected.Taken x) = Taken

abbrev pub left_abandoned : Left → Abandoned
left_abandoned left.Untouched = away.Untouched
left_abandoned left.Stored = away.Stored
left_abandoned (left.Taken x) = away.Taken

-- the receipt that is handed out

abbrev pub collected_receipt : Collected → Option Receipt
collected_receipt collected.Full = None
collected_receipt collected.Stored = None
collected_receipt collected.Empty = None
collected_receipt (collected.Taken x) = Some x

abbrev pub left_receipt : Left → Option Receipt
left_receipt left.Untouched = None
left_receipt left.Stored = None
left_receipt (left.Taken x) = Some x

-- is for this bay and serial

abbrev pub CollectedFor : ℕ → ℕ → Result Collected Refusal → Type 0
CollectedFor b s r = IfOk r (λ c. IfSome (collected_receipt c) (λ x. x ≡ record { bay = b; serial = s }))

abbrev pub LeftFor : ℕ → ℕ → Result Left Refusal → Type 0
LeftFor b s r = IfOk r (λ l. IfSome (left_receipt l) (λ x. x ≡ record { bay = b; serial = s }))

-- and is out at the dock

abbrev pub CollectedOut : DockState → Result Collected Refusal → Type 0
CollectedOut d r = IfOk r (λ c. IfSome (collected_receipt c) (Out d))

abbrev pub LeftOut : DockState → Result Left Refusal → Type 0
LeftOut d r = IfOk r (λ l. IfSome (left_receipt l) (Out d))

-- a refused receipt is given back
abbrev pub GivenBack : Receipt → Result (Unit {0}) (Refusal × Receipt) → Type 0
GivenBack x r = IfErr r (λ e. e.1 ≡ x)

-- where a receipt is refused the dock is as it was
abbrev pub RefusedLeaves : DockState → Result (Unit {0}) (Refusal × Receipt) → DockState → Type 0
RefusedLeaves d r e = OnErr r (e ≡ d)
