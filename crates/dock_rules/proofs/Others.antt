-- The calls besides step: nothing happens, a bay is settled, a call is given up, a call starts. Assumes nothing.
use Rattle.std.proofs.Common.{◌≡◌, ℕ, suc, ◌+◌, ◌<◌, ◌≤◌, Bool, true, false, cond, ltb, List, [], ◌∷◌, length, Some, None, Option, sym, refl, ap, ◌∙◌, subst, arith}
use Rattle.std.specs.List.{slice_get}
use Rattle.slot_memory.specs.Meaning.{mark}
use Rattle.dock_rules.specs.declared.Abandoned.{Abandoned}
use Rattle.dock_rules.specs.declared.Abandoned.TheVariants.{Untouched, Stored as StoredAway, Taken as TakenAway}
use Rattle.dock_rules.specs.declared.Attempt.{Attempt}
use Rattle.dock_rules.specs.declared.BayRecord.{BayRecord}
use Rattle.dock_rules.specs.declared.BayRecord.TheVariants.{UnderWay}
use Rattle.dock_rules.specs.Words.{Putting, Taking, side, is_taking, number}
use Rattle.dock_rules.specs.Calls.{Call, Answer, Abandon, Left, attempt, record_of, left_at, after_left}
use Rattle.dock_rules.specs.History.{Moment, Running, Quiet, event_of, running_after, stored_by, turned_by, ended_by, untouched_by, is_untouched, when, alterations, running}
use Rattle.dock_rules.specs.Law.{Each, places}
use Rattle.dock_rules.specs.Runs.{Start, State, moment_of}
use Rattle.dock_rules.proofs.Knows.{View}
use Rattle.dock_rules.proofs.Invariant.{early, early_by, Knows, view_of, Inv}
use Rattle.dock_rules.proofs.Turns.{known_still}
use Rattle.dock_rules.proofs.Bays.{About, gives_own}
use Rattle.dock_rules.proofs.Moments.{silent, calm_view}
use Rattle.dock_rules.proofs.Finish.{each_none, finish, no_more}
use Rattle.dock_rules.proofs.Moves.{acted, moved}
use Rattle.dock_rules.proofs.Calm.{no_change, unchanged, calm_move}
use Rattle.dock_rules.proofs.Weights.{early_weighs, early_own}
use Rattle.dock_rules.proofs.Acting.{stood}

module _ {E : Type 0} (L base : ℕ) where
  -- a bay with no call under way runs none
  pub idle_runs : (v : View E) (now : ℕ) (run : Option (Running E)) (rec : BayRecord) (mk : _) (tr : Option E) → Knows L base v now run rec mk tr → attempt rec ≡ None → run ≡ None
  idle_runs v now run rec mk tr k e = grind arith

  -- a bay with one runs it
  pub busy_runs : (v : View E) (now : ℕ) (run : Option (Running E)) (a : Attempt) (mk : _) (tr : Option E) → Knows L base v now run (UnderWay a) mk tr → (r : Running E) × (run ≡ Some r)
  busy_runs v now None a mk tr k = absurd k
  busy_runs v now (Some r) a mk tr k = (r, refl)

  -- nothing is to know of a bay with no call under way
  pub knows_idle : (v : View E) (now : ℕ) (rec : BayRecord) (mk : _) (tr : Option E) → attempt rec ≡ None → Knows L base v now None rec mk tr
  knows_idle v now rec mk tr e = grind arith

-- and it is not early
pub idle-early : (rec : BayRecord) → attempt rec ≡ None → early rec ≡ 0
idle-early rec e = grind arith

-- nor early of any serial
pub idle_early_by : (x : ℕ) (rec : BayRecord) → attempt rec ≡ None → early_by x rec ≡ 0
idle_early_by x rec e = grind arith

module _ {E : Type 0} {K : ℕ} {st : Start} {h : List (Moment E)} {s : State E} (i : Inv K st h s) where
  abbrev v : View E
  v = view_of st h s

  abbrev now : ℕ
  now = suc (length h)

  -- a bay whose record is under way runs a call
  pub runs_call : (b : ℕ) (a : Attempt) → b < st.bays → record_of s.dock b ≡ UnderWay a → (r : Running E) × (running st.base h b ≡ Some r)
  runs_call b a lt is =
      busy_runs st.length st.base v (length h) (running st.base h b) a (mark s.memory b) (slice_get s.trays b) (subst (λ y. Knows st.length st.base v (length h) (running st.base h b) y (mark s.memory b) (slice_get s.trays b)) is (i.inner.knows b lt))

  -- nothing happens: the call is refused
  pub quiet : (c : Call E) (an : Answer) → event_of c an ≡ Quiet → Inv K st (moment_of c an s ∷ h) s
  quiet c an e =
      let m = moment_of c an s in
      let runs : (b : ℕ) → running st.base (m ∷ h) b ≡ running st.base h b = λ b. ap (λ x. running_after x b now (alterations st.base h) (running st.base h b)) e in
      let happens = silent st m h e (i.indices Putting) (i.indices Taking) (λ d. refl) refl in
      finish i m s v
      (record {
        static = i.inner.static;
        wraps = i.inner.wraps;
        same = i.inner.same;
        shared = i.inner.shared;
        asks = i.inner.asks;
        knows = λ b lt. subst (λ x. Knows st.length st.base v now x (record_of s.dock b) (mark s.memory b) (slice_get s.trays b)) (sym (runs b)) (known_still st.length st.base (no_change st.length st.base now v) (running st.base h b) (record_of s.dock b) (mark s.memory b) (slice_get s.trays b) (i.inner.knows b lt));
        once = i.inner.once;
        room = i.inner.room;
      })
      (calm_view st m h s s refl happens)
      (elim [ Putting ↦ refl | Taking ↦ refl ])
      (omega arith)
      (λ x le. omega arith)
      no_more
      (each_none _ _ (ap (λ x. ended_by x now s.trays (running st.base h)) e))
      (each_none _ _ (ap (λ x. untouched_by x (running st.base h)) e))
      (each_none _ _ (ap (λ x. stored_by Putting x (running st.base h)) e))
      (each_none _ _ (ap (λ x. stored_by Taking x (running st.base h)) e))

  -- the record of a bay with no call under way changes to another such
  pub settles : (c : Call E) (an : Answer) (b : ℕ) (rec : BayRecord) → event_of c an ≡ Quiet → b < st.bays → attempt (record_of s.dock b) ≡ None → attempt rec ≡ None → Inv K st (moment_of c an (acted K st h s b rec s.memory s.trays) ∷ h) (acted K st h s b rec s.memory s.trays)
  settles c an b rec e inside was is =
      let m = moment_of c an (acted K st h s b rec s.memory s.trays) in
      let none = idle_runs st.length st.base v (length h) (running st.base h b) (record_of s.dock b) (mark s.memory b) (slice_get s.trays b) (i.inner.knows b inside) was in
      moved K st h s b i
      (calm_move K st h s b c an rec s.memory s.trays None i inside (unchanged K st h s b i.inner.static.spare)
      (subst (About b now (alterations st.base h) (running st.base h)) (sym e) tt)
      (ap (λ x. running_after x b now (alterations st.base h) (running st.base h b)) e ∙ none)
      refl
      (λ o n. refl)
      (knows_idle st.length st.base v now rec (mark s.memory b) (slice_get s.trays b) is)
      (λ x. omega (arith, idle_early_by x rec is))
      (omega (arith, idle-early rec is))
      (elim [ Putting ↦ ap (λ x. stored_by Putting x (running st.base h)) e | Taking ↦ ap (λ x. stored_by Taking x (running st.base h)) e ])
      (ap (λ x. turned_by x (running st.base h)) e)
      (each_none _ _ (ap (λ x. ended_by x now s.trays (running st.base h)) e))
      (each_none _ _ (ap (λ x. untouched_by x (running st.base h)) e)))

  -- a bay whose call was given up has none under way
  left_idle : (x : ℕ) (a : Abandoned) → attempt (after_left x a) ≡ None
  left_idle x a = grind arith

  -- the call under way is given up
  pub gives_up : (b x : ℕ) (a : Attempt) → b < st.bays → record_of s.dock b ≡ UnderWay a → a.serial ≡ x → Inv K st (moment_of (Abandon b x) (Left (left_at a.line)) (acted K st h s b (after_left x (left_at a.line)) s.memory s.trays) ∷ h) (acted K st h s b (after_left x (left_at a.line)) s.memory s.trays)
  gives_up b x a inside is same =
      let rec = after_left x (left_at a.line) in
      let idle = left_idle x (left_at a.line) in
      let p = runs_call b a inside is in
      moved K st h s b i
      (calm_move K st h s b (Abandon b x) (Left (left_at a.line)) rec s.memory s.trays None i inside (unchanged K st h s b i.inner.static.spare)
      refl
      (gives_own b now (alterations st.base h) (running st.base h) (left_at a.line))
      refl
      (λ o n. refl)
      (knows_idle st.length st.base v now rec (mark s.memory b) (slice_get s.trays b) idle)
      (λ y. omega (arith, idle_early_by y rec idle))
      (omega (arith, idle-early rec idle))
      (λ o. refl)
      refl
      tt
      (untold (running st.base h b) p.0 p.1 (stood i b inside p.0 a p.1 is).serial))
    where
      -- a call that is given up as untouched weighed all that its serial weighs, and has no place
      Away : Running E → Type 0
      Away q = (q.serial ≤ s.dock.started) × (early_by q.serial (after_left x (left_at a.line)) + 1 ≤ early_by q.serial (record_of s.dock b)) × (places q.serial v.ps ≡ [])

      alone : (r : Running E) → r.serial ≡ a.serial → ltb (number a.line) 16 ≡ true → Away r
      alone r e below =
          let w = early_weighs st v s i.inner.once b a inside is below in
          let was : early_by r.serial (record_of s.dock b) ≡ 1 = ap (λ y. early_by y (record_of s.dock b)) e ∙ ap (early_by a.serial) is ∙ early_own a below in
          (subst (λ y. y ≤ s.dock.started) (sym e) w.2, omega (arith, idle_early_by r.serial (after_left x (left_at a.line)) (left_idle x (left_at a.line))), ap (λ y. places y v.ps) e ∙ w.0)

      by_line : (r : Running E) → r.serial ≡ a.serial → (t k : Bool) → ltb (number a.line) 16 ≡ t → Each Away (when (is_untouched (cond t Untouched (cond k TakenAway StoredAway))) (Some r))
      by_line r e true k below = (alone r e below, tt)
      by_line r e false true below = tt
      by_line r e false false below = tt

      untold : (o : Option (Running E)) (r : Running E) → o ≡ Some r → r.serial ≡ a.serial → Each Away (when (is_untouched (left_at a.line)) o)
      untold o r is_some e = subst (λ y. Each Away (when (is_untouched (left_at a.line)) y)) (sym is_some) (by_line r e (ltb (number a.line) 16) (is_taking (side a.line)) refl)
