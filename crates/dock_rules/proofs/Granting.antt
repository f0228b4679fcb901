-- Every call of every run, granted or refused, keeps the invariant. Assumes nothing.
use Rattle.std.proofs.Common.{◌≡◌, ℕ, ◌<◌, Bool, true, false, cond, not, eqb, leb, List, ◌∷◌, length, set, IfSome, IfNone, Some, None, Option, sym, refl, ap, ◌∙◌, subst, inl, inr, arith, length-set}
use Rattle.std.specs.List.{slice_get}
use Rattle.std.specs.Option as options
use Rattle.std.proofs.lemmas.Bool.{true≢false, eqb-true, eq-eqb, ne_eqb, leb-false, not-false, cond-false}
use Rattle.slot_memory.specs.Rules.{Free, touched, May}
use Rattle.dock_rules.specs.declared.BayRecord.{BayRecord}
use Rattle.dock_rules.specs.declared.BayRecord.TheVariants.{Free as Idle, UnderWay, Ended, Owed}
use Rattle.dock_rules.specs.declared.Outcome.{Outcome}
use Rattle.dock_rules.specs.declared.Refusal.{Refusal}
use Rattle.dock_rules.specs.Calls.{World, Book, Call, Open, Put, Take, Step, Collect, Abandon, Enter, Waive, Answer, Refused, Settled, is_free, attempt, outcome, serial_of, owed_of, is_it, reasons, refusal, record_of, after_end, step, stepped, collect, abandon, granted, answered, does, attempted, next_operation, touches, MayCall}
use Rattle.dock_rules.specs.History.{Moment, PutOf, TakeOf}
use Rattle.dock_rules.specs.Runs.{Start, State, handing, Handed, carried, moment_of}
use Rattle.dock_rules.specs.Law.{Each}
use Rattle.dock_rules.proofs.Invariant.{Inv}
use Rattle.dock_rules.proofs.Reasons.{no_reason, refused_quiet}
use Rattle.dock_rules.proofs.Bays.{nth_set_same, nth_set_other, nth_some}
use Rattle.dock_rules.proofs.Stepping.{steps}
use Rattle.dock_rules.proofs.Others.{runs_call, quiet, settles, gives_up}
use Rattle.dock_rules.proofs.Starting.{starts}

-- a free bay has no call under way
free-idle : (r : BayRecord) → is_free r ≡ true → attempt r ≡ None
free-idle r e = grind arith

-- nor has one whose ended call has been collected
end_idle : (x : ℕ) (o : Outcome) → attempt (after_end x o) ≡ None
end_idle x o = grind arith

-- nor has one that is owed an entry
owed-idle : (x : ℕ) (r : BayRecord) → is_it x (owed_of r) ≡ true → attempt r ≡ None
owed-idle x r e = grind arith

module _ {E : Type 0} {K : ℕ} {st : Start} {h : List (Moment E)} {s : State E} (i : Inv K st h s) where
  -- the invariant after a call that answers and leaves so
  abbrev After : Call E → List E → Answer × World E → Type 0
  After c t x = Inv K st (moment_of c x.0 (carried s t x.1) ∷ h) (carried s t x.1)

  -- the run's own trays are as many as the bays
  own_number : eqb (length s.trays) s.dock.bays ≡ true
  own_number = eq-eqb _ _ (i.inner.static.trays ∙ sym i.inner.static.bays)

  -- trays that a call leaves as they were handed are the run's own
  handed_trays : (t : List E) → Handed s t → cond (eqb (length t) s.dock.bays) t s.trays ≡ s.trays
  handed_trays t (inl e) = ap (λ x. cond (eqb (length x) s.dock.bays) x s.trays) e ∙ same (eqb (length s.trays) s.dock.bays)
    where
      same : (b : Bool) → cond b s.trays s.trays ≡ s.trays
      same true = refl
      same false = refl
  handed_trays t (inr n) = cond-false (eqb (length t) s.dock.bays) t s.trays (ne_eqb _ _ n)

  -- trays of that number are the run's own
  handed_own : (t : List E) → Handed s t → not (eqb (length t) s.dock.bays) ≡ false → t ≡ s.trays
  handed_own t hd k = grind arith

  -- a call that is handed the run's trays
  with_own : (c : Call E) (an : Answer) (w : World E) → Inv K st (moment_of c an (record { dock = w.dock; memory = w.memory; trays = w.trays }) ∷ h) (record { dock = w.dock; memory = w.memory; trays = w.trays }) → After c s.trays (an, w)
  with_own c an w k = subst (λ x. Inv K st (moment_of c an (record { dock = w.dock; memory = w.memory; trays = cond x w.trays s.trays }) ∷ h) (record { dock = w.dock; memory = w.memory; trays = cond x w.trays s.trays })) (sym own_number) k

  -- a call that leaves the trays as they were handed
  with_none : (c : Call E) (t : List E) (an : Answer) (w : World E) → Handed s t → w.trays ≡ t → Inv K st (moment_of c an (record { dock = w.dock; memory = w.memory; trays = s.trays }) ∷ h) (record { dock = w.dock; memory = w.memory; trays = s.trays }) → After c t (an, w)
  with_none c t an w hd e k = subst (λ x. Inv K st (moment_of c an (record { dock = w.dock; memory = w.memory; trays = x }) ∷ h) (record { dock = w.dock; memory = w.memory; trays = x })) (sym (ap (λ x. cond (eqb (length t) s.dock.bays) x s.trays) e ∙ handed_trays t hd)) k

  -- a bay that is not refused for its number is one of the dock's
  inside_of : (b : ℕ) → leb s.dock.bays b ≡ false → b < st.bays
  inside_of b e = omega (arith, leb-false _ _ e, i.inner.static.bays)

  -- and has a tray
  long : (b : ℕ) → b < st.bays → b < length s.trays
  long b lt = omega (arith, i.inner.static.trays)

  -- a granted step
  step_kept : (b : ℕ) (k : Book E) (f : Free) → b < st.bays → not (options.is_some (attempt (record_of s.dock b))) ≡ false → IfSome (touches (handing s s.trays k) (Step b)) (λ o. May K s.memory o f) → After (Step b) s.trays (granted (handing s s.trays k) (Step b) f)
  step_kept b k f lt idle may = go (record_of s.dock b) refl idle may
    where
      W : World E
      W = handing s s.trays k

      go : (r : BayRecord) → record_of s.dock b ≡ r → not (options.is_some (attempt r)) ≡ false → IfSome (attempted W b (attempt r)) (λ o. May K s.memory o f) → After (Step b) s.trays (step W b (attempt r) f)
      go Idle is idle may = absurd (true≢false idle)
      go (UnderWay a) is idle may =
          let p = runs_call i b a lt is in
          with_own (Step b) _ (stepped W b a (touched s.memory (next_operation W b a) f)).1
          (steps i b lt p.0 a p.1 is f may (touched s.memory (next_operation W b a) f) refl)
      go (Ended x o) is idle may = absurd (true≢false idle)
      go (Owed x) is idle may = absurd (true≢false idle)

  -- a granted collect: the bay's call has ended, and its record settles
  collect_kept : (b x : ℕ) (t : List E) (k : Book E) (f : Free) → Handed s t → b < st.bays → not (is_it x (serial_of (record_of s.dock b))) ≡ false → options.is_some (attempt (record_of s.dock b)) ≡ false → After (Collect b x) t (granted (handing s t k) (Collect b x) f)
  collect_kept b x t k f hd lt mine late = go (record_of s.dock b) refl mine late
    where
      W : World E
      W = handing s t k

      go : (r : BayRecord) → record_of s.dock b ≡ r → not (is_it x (serial_of r)) ≡ false → options.is_some (attempt r) ≡ false → After (Collect b x) t (collect W b x (outcome r))
      go Idle is mine late = absurd (true≢false mine)
      go (UnderWay a) is mine late = absurd (true≢false late)
      go (Ended q o) is mine late = with_none (Collect b x) t _ (collect W b x (Some o)).1 hd refl (settles i (Collect b x) _ b (after_end x o) refl lt (ap attempt is) (end_idle x o))
      go (Owed q) is mine late = absurd (true≢false mine)

  -- a granted abandon: the bay's call is under way, and is given up
  abandon_kept : (b x : ℕ) (t : List E) (k : Book E) (f : Free) → Handed s t → b < st.bays → not (is_it x (serial_of (record_of s.dock b))) ≡ false → options.is_some (outcome (record_of s.dock b)) ≡ false → After (Abandon b x) t (granted (handing s t k) (Abandon b x) f)
  abandon_kept b x t k f hd lt mine late = go (record_of s.dock b) refl mine late
    where
      W : World E
      W = handing s t k

      go : (r : BayRecord) → record_of s.dock b ≡ r → not (is_it x (serial_of r)) ≡ false → options.is_some (outcome r) ≡ false → After (Abandon b x) t (abandon W b x (attempt r))
      go Idle is mine late = absurd (true≢false mine)
      go (UnderWay a) is mine late = with_none (Abandon b x) t _ (abandon W b x (Some a)).1 hd refl (gives_up i b x a lt is (eqb-true _ _ (not-false _ mine)))
      go (Ended q o) is mine late = absurd (true≢false late)
      go (Owed q) is mine late = absurd (true≢false mine)

  -- the tray of a put holds its element
  put_tray : (b : ℕ) (e : E) (t : List E) → t ≡ s.trays → b < st.bays → slice_get (set t b e) b ≡ Some e
  put_tray b e t is lt = nth_set_same t b e (subst (λ x. b < length x) (sym is) (long b lt))

  -- a call that nothing turns down
  grants : (c : Call E) (t : List E) (k : Book E) (f : Free) → Handed s t → Each (λ x. x.0 ≡ false) (reasons (handing s t k) c) → IfSome (touches (handing s t k) c) (λ o. May K s.memory o f) → After c t (granted (handing s t k) c f)
  grants (Open n life base) t k f hd ok may = absurd (true≢false (sym i.inner.static.opened ∙ ok.0))
  grants (Put b e) t k f hd ok may =
      let lt = inside_of b ok.1.1.0 in
      let own = handed_own t hd ok.1.0 in
      subst (λ t. After (Put b e) t (granted (handing s t k) (Put b e) f)) (sym own)
      (with_own (Put b e) _ (granted (handing s s.trays k) (Put b e) f).1
      (starts i b lt (PutOf e) (set s.trays b e) (free-idle (record_of s.dock b) (not-false _ ok.1.1.1.0)) (leb-false _ _ ok.1.1.1.1.0) (length-set s.trays b e) (λ o n. nth_set_other s.trays b o e n) (put_tray b e s.trays refl lt) (Put b e) _ refl))
  grants (Take b) t k f hd ok may =
      let lt = inside_of b ok.1.0 in
      with_none (Take b) t _ (granted (handing s t k) (Take b) f).1 hd refl
      (starts i b lt TakeOf s.trays (free-idle (record_of s.dock b) (not-false _ ok.1.1.0)) (leb-false _ _ ok.1.1.1.0) refl (λ o n. refl) (nth_some s.trays b (long b lt)) (Take b) _ refl)
  grants (Step b) t k f hd ok may =
      let own = handed_own t hd ok.1.0 in
      subst (λ t. IfSome (touches (handing s t k) (Step b)) (λ o. May K s.memory o f) → After (Step b) t (granted (handing s t k) (Step b) f)) (sym own)
      (step_kept b k f (inside_of b ok.1.1.0) ok.1.1.1.0)
      may
  grants (Collect b x) t k f hd ok may = collect_kept b x t k f hd (inside_of b ok.1.0) ok.1.1.0 ok.1.1.1.0
  grants (Abandon b x) t k f hd ok may = abandon_kept b x t k f hd (inside_of b ok.1.0) ok.1.1.0 ok.1.1.1.0
  grants (Enter b x) t k f hd ok may =
      let own = handed_own t hd ok.1.0 in
      subst (λ t. After (Enter b x) t (granted (handing s t k) (Enter b x) f)) (sym own)
      (with_own (Enter b x) _ (granted (handing s s.trays k) (Enter b x) f).1 (settles i (Enter b x) Settled b Idle refl (inside_of b ok.1.1.0) (owed-idle x (record_of s.dock b) (not-false _ ok.1.1.1.0)) refl))
  grants (Waive b x) t k f hd ok may =
      with_none (Waive b x) t _ (granted (handing s t k) (Waive b x) f).1 hd refl (settles i (Waive b x) Settled b Idle refl (inside_of b ok.1.0) (owed-idle x (record_of s.dock b) (not-false _ ok.1.1.0)) refl)

  -- one call more
  pub calls_keep : (c : Call E) (t : List E) (k : Book E) (f : Free) (an : Answer) (w : World E) → Handed s t → MayCall K (handing s t k) c f → does (handing s t k) c f ≡ (an, w) → Inv K st (moment_of c an (carried s t w) ∷ h) (carried s t w)
  calls_keep c t k f an w hd may e = subst (After c t) e (go (refusal (handing s t k) c) refl may)
    where
      go : (o : Option Refusal) → refusal (handing s t k) c ≡ o → IfNone o (IfSome (touches (handing s t k) c) (λ x. May K s.memory x f)) → After c t (answered (handing s t k) c f o)
      go (Some r) is may = with_none c t (Refused r) (handing s t k) hd refl (quiet i c (Refused r) (refused_quiet c r))
      go None is may = grants c t k f hd (no_reason (reasons (handing s t k) c) is) may
