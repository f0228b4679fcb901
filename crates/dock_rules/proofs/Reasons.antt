-- What a call's reasons tell, refused or not. Assumes nothing.
use Rattle.std.proofs.Common.{◌≡◌, Bool, false, cond, List, [], ◌∷◌, Some, None, Option, arith}
use Rattle.dock_rules.specs.declared.Refusal.{Refusal}
use Rattle.dock_rules.specs.Calls.{Call, Refused, first}
use Rattle.dock_rules.specs.History.{Quiet, event_of}
use Rattle.dock_rules.specs.Law.{Each}

-- where no refusal is first, no reason applies
pub no_reason : (ts : List (Bool × Refusal)) → first ts ≡ None → Each (λ t. t.0 ≡ false) ts
no_reason [] e = tt
no_reason (t ∷ ts) e = let p = failed t.0 t.1 (first ts) e in (p.0, no_reason ts p.1)
  where
    failed : (b : Bool) (r : Refusal) (o : Option Refusal) → cond b (Some r) o ≡ None → (b ≡ false) × (o ≡ None)
    failed b r o e = grind arith

-- a refused call is no event
pub refused_quiet : {E : Type 0} (c : Call E) (r : Refusal) → event_of c (Refused r) ≡ Quiet
refused_quiet c r = grind arith
