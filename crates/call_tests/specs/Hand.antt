-- The receipt that a caller has in hand. Assumes nothing.
use Rattle.std.specs.Prelude.{◌≡◌, ℕ, Some, None, Option, Ok, Err, Result}
use Rattle.std.specs.Coded.{Unit-prop}
use Rattle.std.proofs.Props.{props}
use Rattle.dock_rules.specs.declared.DockState.{DockState}
use Rattle.dock_rules.specs.declared.Refusal.{Refusal}
use Rattle.dock.specs.declared.Receipt.{Receipt}
use Rattle.dock.specs.declared.Collected.{Collected}
use Rattle.dock.specs.declared.Left.{Left}
use Rattle.dock.specs.Answered.{Out, Stays, collected_receipt, left_receipt}

-- the receipt that a collect hands out
abbrev pub receipt_of_collect : Result Collected Refusal → Option Receipt
receipt_of_collect (Ok c) = collected_receipt c
receipt_of_collect (Err r) = None

-- an abandon
abbrev pub receipt_of_abandon : Result Left Refusal → Option Receipt
receipt_of_abandon (Ok l) = left_receipt l
receipt_of_abandon (Err r) = None

-- and the one that an enter or a waive gives back
abbrev pub receipt_of_spend : Result (Unit {0}) (Refusal × Receipt) → Option Receipt
receipt_of_spend (Ok u) = None
receipt_of_spend (Err e) = Some e.1

-- it is out at the dock
abbrev pub InHand : DockState → Option Receipt → Type 0
InHand d None = Unit {0}
InHand d (Some x) = Out d x

-- and of that there is one proof at most
Out-prop : (d : DockState) (x : Receipt) → IsProp (Out d x)
Out-prop d x = Prim.hlevel props

pub InHand-prop : (d : DockState) (h : Option Receipt) → IsProp (InHand d h)
InHand-prop d None = Unit-prop
InHand-prop d (Some x) = Out-prop d x

-- it is for this bay and serial, and is out at the dock
pub record Handed (d : DockState) (b s : ℕ) (x : Receipt) : Type 0 where
  pub is : x ≡ record { bay = b; serial = s }
  pub out : Out d x

abbrev pub HandedOver : DockState → ℕ → ℕ → Option Receipt → Type 0
HandedOver d b s None = Unit {0}
HandedOver d b s (Some x) = Handed d b s x

-- another receipt is of another bay
abbrev pub Apart : Option Receipt → Receipt → Type 0
Apart None x = Unit {0}
Apart (Some y) x = x.bay ≡ y.bay → ⊥

-- it is of a bay of which none was out
abbrev pub New : DockState → Option Receipt → Type 0
New d h = (x : Receipt) → Out d x → Apart h x

-- every receipt that was out still is, but for that of its bay
abbrev pub Spent : Option Receipt → DockState → DockState → Type 0
Spent h d e = (x : Receipt) → Apart h x → Out d x → Out e x

-- two receipts are of different bays
abbrev pub Parted : Option Receipt → Option Receipt → Type 0
Parted None c = Unit {0}
Parted (Some x) c = Apart c x

-- what is left by a call that closes the call of this bay and serial: every receipt that was out still is, and the one that
-- came, if any, is the call's, is out, and is of a bay of which none was out
pub record Closes (d : DockState) (b s : ℕ) (came : Option Receipt) (e : DockState) : Type 0 where
  pub stays : Stays d e
  pub out : HandedOver e b s came
  pub fresh : New d came
