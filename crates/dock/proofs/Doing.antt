-- When a call does what the rules say. Assumes nothing.
use Rattle.std.proofs.Common.{◌≡◌, ℕ, ◌<◌, true, false, [], ◌∷◌, length, IfSome, IfNone, OnErr, Some, None, Ok, Err, Option, Result, sym, refl, ap, ◌∙◌, subst, arith}
use Rattle.std.proofs.lemmas.Bool.Decides.{nat_tests}
use Rattle.slot_memory.specs.Meaning.{Meaning}
use Rattle.slot_memory.specs.Rules.{Operation, Clear, Reply, Done, Free, May, Keeps, seen}
use Rattle.dock_rules.specs.declared.Line.TheVariants.{D5}
use Rattle.dock_rules.specs.declared.Refusal.{Refusal}
use Rattle.dock_rules.specs.declared.Refusal.TheVariants as why
use Rattle.dock_rules.specs.declared.Attempt.{Attempt}
use Rattle.dock_rules.specs.declared.BayRecord.{BayRecord}
use Rattle.dock_rules.specs.declared.BayRecord.TheVariants.{Free as Idle, UnderWay, Ended, Owed}
use Rattle.dock_rules.specs.declared.DockState.{DockState}
use Rattle.dock_rules.specs.Calls.{World, Call, Open, Take, Step, Answer, Refused, Opened, record_of, attempt, refusal, opened, next_operation, stepped, step, answered, granted, attempted, touches}
use Rattle.dock.specs.Checks.{Checks, Begins, no_bay, busy, worn}
use Rattle.dock.specs.Answered.{start_answer}
use Rattle.dock.specs.Does.{Does}

-- free results for a call that uses none
abbrev unused : Free
unused = record { refuse = false; spare = 0 }

module _ {E : Type 0} (K : ℕ) (w : World E) (c : Call E) where
  -- which free results may be, once it is known what turns the call down and which operation it makes
  abbrev Allowed : Free → Option Refusal → Option (Operation E) → Type 0
  Allowed f r o = IfNone r (IfSome o (λ o. May K w.memory o f))

  doing : (f : Free) (r : Option Refusal) (o : Option (Operation E)) (a : Answer) (v : World E) → refusal w c ≡ r → touches w c ≡ o → Allowed f r o → (a, v) ≡ answered w c f r → Does K w c a v
  doing f r o a v e t may is =
      record {
        free = f;
        may = subst (λ r. Allowed f r (touches w c)) (sym e) (subst (Allowed f r) (sym t) may);
        is = is ∙ ap (answered w c f) (sym e);
      }

  pub turned_down : (r : Refusal) → refusal w c ≡ Some r → Does K w c (Refused r) w
  turned_down r e = doing unused (Some r) (touches w c) (Refused r) w e refl tt refl

  -- a granted call that does not touch the memory
  pub granted_dry : (a : Answer) (v : World E) → touches w c ≡ None → refusal w c ≡ None → (a, v) ≡ granted w c unused → Does K w c a v
  granted_dry a v t e is = doing unused None None a v e t tt is

  -- a granted call that makes the operation o, which the memory answers by r, meaning n afterwards
  granted_by : (o : Operation E) (r : Reply E) (n : Meaning E) (a : Answer) (v : World E) → touches w c ≡ Some o → refusal w c ≡ None → Keeps K w.memory o r n → (a, v) ≡ granted w c (seen r n) → Does K w c a v
  granted_by o r n a v t e keeps is = doing (seen r n) None (Some o) a v e t keeps.may is

module _ {E : Type 0} (K : ℕ) (w : World E) where
  pub opening : (n life base : ℕ) (m : Meaning E) → refusal w (Open n life base) ≡ None → Keeps K w.memory (Clear base) Done m → Does K w (Open n life base) Opened (record { dock = opened n life; memory = m; trays = w.trays; book = w.book })
  opening n life base m none keeps =
      granted_by K w (Open n life base) (Clear base) Done m _ _ refl none keeps
      (ap (λ x. (Opened, record { dock = opened n life; memory = x.1; trays = w.trays; book = w.book })) keeps.is)

  -- a put or a take that the bay has turned down
  pub not_begun : (c : Call E) (r : Refusal) (d : DockState) (m : Meaning E) → refusal w c ≡ Some r → d ≡ w.dock → m ≡ w.memory → Does K w c (Refused r) (record { dock = d; memory = m; trays = w.trays; book = w.book })
  not_begun c r d m e left same = rw (left, same) (turned_down K w c r e)

  -- a take of an open dock: begun, or turned down for the bay
  pub taking : (b : ℕ) (d : DockState) (m : Meaning E) (r : Result ℕ Refusal) → w.dock.opened ≡ true → Checks (no_bay w.dock b ∷ busy w.dock b ∷ worn w.dock ∷ []) (λ s. Begins w.dock b D5 s d) r → OnErr r (d ≡ w.dock) → m ≡ w.memory → Does K w (Take b) (start_answer r) (record { dock = d; memory = m; trays = w.trays; book = w.book })
  taking b d m (Ok s) o begins left same = granted_dry K w (Take b) _ _ refl (grind (arith, nat_tests)) cc
  taking b d m (Err r) o e left same = not_begun (Take b) r d m (grind (arith, nat_tests)) left same

  -- a bay with no call under way is idle
  no_attempt : (r : BayRecord) → ((a : Attempt) → r ≡ UnderWay a → ⊥) → attempt r ≡ None
  no_attempt Idle none = refl
  no_attempt (UnderWay a) none = absurd (none a refl)
  no_attempt (Ended s o) none = refl
  no_attempt (Owed s) none = refl

  pub idling : (b : ℕ) (r : BayRecord) → w.dock.opened ≡ true → length w.trays ≡ w.dock.bays → b < w.dock.bays → r ≡ record_of w.dock b → ((a : Attempt) → r ≡ UnderWay a → ⊥) → Does K w (Step b) (Refused why.Idle) w
  idling b r o t h e none = let idle = no_attempt r none in turned_down K w (Step b) why.Idle (grind (arith, nat_tests))

  pub stepping : (b : ℕ) (call : Attempt) (r : Reply E) (m : Meaning E) (a : Answer) (v : World E) → refusal w (Step b) ≡ None → record_of w.dock b ≡ UnderWay call → Keeps K w.memory (next_operation w b call) r m → (a, v) ≡ stepped w b call (r, m) → Does K w (Step b) a v
  stepping b call r m a v none e keeps d =
      granted_by K w (Step b) (next_operation w b call) r m a v (ap (λ h. attempted w b (attempt h)) e) none keeps
      (d ∙ ap (stepped w b call) keeps.is ∙ ap (λ h. step w b (attempt h) (seen r m)) (sym e))
