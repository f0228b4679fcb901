-- While a bay's receipt is out, no call of it is collected or abandoned; so a receipt that is handed out is of a bay of
-- which none was out. Assumes nothing.
use Rattle.std.proofs.Common.{◌≡◌, ℕ, false, leb, Some, None, Ok, Err, Result, ap, ◌∙◌, subst}
use borrow.Author.Tests.{lt-leb}
use Rattle.dock_rules.specs.declared.DockState.{DockState}
use Rattle.dock_rules.specs.declared.Refusal.{Refusal}
use Rattle.dock_rules.specs.declared.Refusal.TheVariants as why
use Rattle.dock_rules.specs.Calls.{World, Call, Collect, Abandon, Answer, Refused, refusal, answered}
use Rattle.dock.specs.declared.Receipt.{Receipt}
use Rattle.dock.specs.declared.Collected.{Collected}
use Rattle.dock.specs.declared.Collected.TheVariants as collected
use Rattle.dock.specs.declared.Left.{Left}
use Rattle.dock.specs.declared.Left.TheVariants as left
use Rattle.dock.specs.Answered.{Out, Stays, CollectedFor, CollectedOut, LeftFor, LeftOut, collect_answer, abandon_answer}
use Rattle.dock.specs.Does.{Does}
use Rattle.call_tests.specs.Hand.{Closes, receipt_of_collect, receipt_of_abandon}

module _ {d e : DockState} {b s : ℕ} (stays : Stays d e) where
  closes_bare : Closes d b s None e
  closes_bare = record { stays = stays; out = tt; fresh = λ x out. tt }

  -- the receipt that comes is of a bay of which none was out
  closes_handed : (y : Receipt) → y ≡ record { bay = b; serial = s } → Out e y → ((x : Receipt) → Out d x → x.bay ≡ b → ⊥)
      → Closes d b s (Some y) e
  closes_handed y is out none = record {
    stays = stays;
    out = record { is = is; out = out };
    fresh = λ x held same. none x held (same ∙ ap (λ z. z.bay) is);
  }

-- a call that is turned down at each bay whose receipt is out was made at another, if it was not turned down
none_out : {E : Type 0} {K : ℕ} {w v : World E} {a : Answer} {b : ℕ} (close : ℕ → Call E)
    → ((x : Receipt) → Out w.dock x → refusal w (close x.bay) ≡ Some why.Serial) → Does K w (close b) a v
    → (a ≡ Refused why.Serial → ⊥) → (x : Receipt) → Out w.dock x → x.bay ≡ b → ⊥
none_out {w} {a} close down_at does granted x out same =
    let down = subst (λ n. refusal w (close n) ≡ Some why.Serial) same (down_at x out) in
    granted (ap (λ r. r.0) (does.is ∙ ap (answered w (close _) does.free) down))

-- a bay whose receipt is out has no call to be collected or abandoned
owing : {E : Type 0} (w : World E) (s : ℕ) (x : Receipt) → Out w.dock x
    → (refusal w (Collect x.bay s) ≡ Some why.Serial) × (refusal w (Abandon x.bay s) ≡ Some why.Serial)
owing w s x out =
    let opened = out.opened in
    let in_range : leb w.dock.bays x.bay ≡ false = lt-leb _ _ out.bay in
    let owed = out.owed in (simp (opened, in_range, owed), simp (opened, in_range, owed))

module _ {E : Type 0} {K : ℕ} {w v : World E} {e : DockState} {b s : ℕ} (stays : Stays w.dock e) where
  pub closes-collect : (r : Result Collected Refusal) → CollectedFor b s r → CollectedOut e r
      → Does K w (Collect b s) (collect_answer r) v → Closes w.dock b s (receipt_of_collect r) e
  closes-collect (Ok collected.Full) for out does = closes_bare stays
  closes-collect (Ok collected.Stored) for out does = closes_bare stays
  closes-collect (Ok collected.Empty) for out does = closes_bare stays
  closes-collect (Ok (collected.Taken y)) for out does =
      closes_handed stays y for out (none_out (λ n. Collect n s) (λ x held. (owing w s x held).0) does (λ z. cc))
  closes-collect (Err r) for out does = closes_bare stays

  pub closes-abandon : (r : Result Left Refusal) → LeftFor b s r → LeftOut e r
      → Does K w (Abandon b s) (abandon_answer r) v → Closes w.dock b s (receipt_of_abandon r) e
  closes-abandon (Ok left.Untouched) for out does = closes_bare stays
  closes-abandon (Ok left.Stored) for out does = closes_bare stays
  closes-abandon (Ok (left.Taken y)) for out does =
      closes_handed stays y for out (none_out (λ n. Abandon n s) (λ x held. (owing w s x held).1) does (λ z. cc))
  closes-abandon (Err r) for out does = closes_bare stays
