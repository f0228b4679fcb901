-- A call starts in a free bay. Assumes nothing.
use Rattle.std.proofs.Common.{◌≡◌, ℕ, suc, ◌+◌, ◌<◌, ◌≤◌, Bool, false, cond, eqb, leb, List, ◌∷◌, length, Some, None, Option, sym, refl, ap, ◌∙◌, subst, inl, inr, arith, length-set}
use Rattle.std.specs.List.{slice_get}
use Rattle.std.proofs.lemmas.Bool.{cases_eq}
use Rattle.std.proofs.lemmas.Bool.Decides.{nat_tests}
use Rattle.slot_memory.specs.Meaning.{mark}
use Rattle.dock_rules.specs.declared.Attempt.{Attempt}
use Rattle.dock_rules.specs.declared.BayRecord.TheVariants.{UnderWay}
use Rattle.dock_rules.specs.Words.{Putting, Taking, side}
use Rattle.dock_rules.specs.Calls.{Call, Answer, attempt, record_of, begun}
use Rattle.dock_rules.specs.History.{Moment, Request, Running, Starts, begins, first_line, event_of, running_after, stored_by, ended_by, untouched_by, alterations, running}
use Rattle.dock_rules.specs.Runs.{Start, State, moment_of}
use Rattle.dock_rules.proofs.Stages.{stage}
use Rattle.dock_rules.proofs.Sums.{sum_to, sum_change}
use Rattle.dock_rules.proofs.Knows.{View, Stands}
use Rattle.dock_rules.proofs.Invariant.{Noted, early, early_by, side_of, TrayOf, Stood, Knows, view_of, weight, Inv}
use Rattle.dock_rules.proofs.Turns.{known_still}
use Rattle.dock_rules.proofs.Bays.{record_own, record_other, runs_other, starts_own}
use Rattle.dock_rules.proofs.Moments.{silent, calm_view}
use Rattle.dock_rules.proofs.Finish.{each_none, finish, no_more}
use Rattle.dock_rules.proofs.Calm.{no_change}
use Rattle.dock_rules.proofs.Others.{idle-early, idle_early_by}

module _ {E : Type 0} {K : ℕ} {st : Start} {h : List (Moment E)} {s : State E} (i : Inv K st h s) (b : ℕ) (inside : b < st.bays) (q : Request E) (trs : List E) (free : attempt (record_of s.dock b) ≡ None) (unworn : s.dock.started < s.dock.lifetime) (long : length trs ≡ length s.trays) (others : (o : ℕ) → (o ≡ b → ⊥) → slice_get trs o ≡ slice_get s.trays o) (tray : TrayOf q (slice_get trs b)) where
  abbrev v : View E
  v = view_of st h s

  abbrev now : ℕ
  now = suc (length h)

  abbrev serial : ℕ
  serial = s.dock.started + 1

  -- the call as the dock notes it
  abbrev fresh : Attempt
  fresh = record { serial = serial; line = first_line q; index = 0; held = false }

  abbrev pub started : State E
  started = record { dock = begun s.dock b (first_line q); memory = s.memory; trays = trs }

  -- the bay's record is the fresh call's
  own_record : record_of started.dock b ≡ UnderWay fresh
  own_record = record_own s.dock b (UnderWay fresh) (omega (arith, i.inner.static.few, i.inner.static.records))

  -- the others' stay
  other_record : (c : ℕ) → (c ≡ b → ⊥) → record_of started.dock c ≡ record_of s.dock c
  other_record c n = record_other s.dock b (UnderWay fresh) c n

  -- a fresh call is early
  one : (a : Request E) → early (UnderWay (record { serial = serial; line = first_line a; index = 0; held = false })) ≡ 1
  one a = grind arith

  -- by its serial
  one_by : (x : ℕ) (a : Request E) → early_by x (UnderWay (record { serial = serial; line = first_line a; index = 0; held = false })) ≡ cond (eqb serial x) 1 0
  one_by x a = grind arith

  -- so one more is early
  grows : sum_to st.bays (λ c. early (record_of started.dock c)) ≡ sum_to st.bays (λ c. early (record_of s.dock c)) + 1
  grows =
      let same = sum_change st.bays b (λ c. early (record_of started.dock c)) (λ c. early (record_of s.dock c)) inside (λ c n. ap early (other_record c n)) in
      omega (arith, ap early own_record, one q, idle-early (record_of s.dock b) free)

  -- and the weight rises by one, of the new serial only
  weighs : (x : ℕ) → weight st.bays v started x ≡ weight st.bays v s x + cond (eqb serial x) 1 0
  weighs x =
      let same = sum_change st.bays b (λ c. early_by x (record_of started.dock c)) (λ c. early_by x (record_of s.dock c)) inside (λ c n. ap (early_by x) (other_record c n)) in
      omega (arith, ap (early_by x) own_record, one_by x q, idle_early_by x (record_of s.dock b) free)

  -- which weighed nothing before, being beyond all that had started
  still_once : (x : ℕ) → weight st.bays v started x ≤ cond (leb x (s.dock.started + 1)) 1 0
  still_once x = at (weight st.bays v started x) (weight st.bays v s x) s.dock.started (weighs x) (i.inner.once x)
    where
      at : (n m k : ℕ) → n ≡ m + cond (eqb (k + 1) x) 1 0 → m ≤ cond (leb x k) 1 0 → n ≤ cond (leb x (k + 1)) 1 0
      at n m k e le = grind (arith, nat_tests)

  -- older serials weigh what they did
  old_weighs : (x : ℕ) → x ≤ s.dock.started → weight st.bays v started x ≤ weight st.bays v s x
  old_weighs x le = at (weight st.bays v started x) (weight st.bays v s x) s.dock.started (weighs x) le
    where
      at : (n m k : ℕ) → n ≡ m + cond (eqb (k + 1) x) 1 0 → x ≤ k → n ≤ m
      at n m k e le = grind (arith, nat_tests)

  -- a call's first line is of its request's side
  asks_side : (a : Request E) → side_of a ≡ side (first_line a)
  asks_side a = grind arith

  -- no index is noted at line 5
  first-noted : (a : Request E) (P : Type 0) → Noted (stage (first_line a)) P
  first-noted a P = grind arith

  -- and nothing is to know there
  first-stands : (a : Request E) (r : Running E) (held : Bool) (mk : _) (tr : Option E) → Stands st.length st.base v (side (first_line a)) (stage (first_line a)) r held mk tr
  first-stands a r held mk tr = grind arith

  -- so the fresh call stands at its first line
  stands-first : Stood st.length st.base v now (begins q serial now) fresh (mark s.memory b) (slice_get trs b)
  stands-first =
      record {
        serial = refl;
        line = refl;
        index = first-noted q _;
        asks = asks_side q;
        tray = tray;
        since = omega arith;
        stands = first-stands q (begins q serial now) false (mark s.memory b) (slice_get trs b);
      }

  -- a call begins
  pub starts : (c : Call E) (an : Answer) → event_of c an ≡ Starts b q serial → Inv K st (moment_of c an started ∷ h) started
  starts c an e =
      let m = moment_of c an started in
      let happens = silent st m h e (i.indices Putting) (i.indices Taking) (λ d. refl) refl in
      finish i m started v
      (record {
        static = record {
          few = i.inner.static.few;
          some = i.inner.static.some;
          short = i.inner.static.short;
          divides = i.inner.static.divides;
          opened = i.inner.static.opened;
          bays = i.inner.static.bays;
          life = i.inner.static.life;
          started = omega arith;
          records = length-set s.dock.records b (UnderWay fresh) ∙ i.inner.static.records;
          marks = i.inner.static.marks;
          slots = i.inner.static.slots;
          trays = long ∙ i.inner.static.trays;
          spare = i.inner.static.spare;
        };
        wraps = i.inner.wraps;
        same = i.inner.same;
        shared = i.inner.shared;
        asks = i.inner.asks;
        knows = λ o lt. elim (cases_eq o b) [
          | inl k ↦ subst (λ x. Knows st.length st.base v now (running st.base (m ∷ h) x) (record_of started.dock x) (mark s.memory x) (slice_get trs x)) (sym k) (here c an e)
          | inr n ↦ other c an e o lt n
        ];
        once = still_once;
        room = omega (arith, grows, i.inner.room);
      })
      (calm_view st m h s started refl happens)
      (elim [ Putting ↦ refl | Taking ↦ refl ])
      (omega arith)
      old_weighs
      no_more
      (each_none _ _ (ap (λ x. ended_by x now trs (running st.base h)) e))
      (each_none _ _ (ap (λ x. untouched_by x (running st.base h)) e))
      (each_none _ _ (ap (λ x. stored_by Putting x (running st.base h)) e))
      (each_none _ _ (ap (λ x. stored_by Taking x (running st.base h)) e))
    where
      here : (c : Call E) (an : Answer) → event_of c an ≡ Starts b q serial → Knows st.length st.base v now (running st.base (moment_of c an started ∷ h) b) (record_of started.dock b) (mark s.memory b) (slice_get trs b)
      here c an e =
          subst (λ x. Knows st.length st.base v now x (record_of started.dock b) (mark s.memory b) (slice_get trs b)) (sym (ap (λ x. running_after x b now (alterations st.base h) (running st.base h b)) e ∙ starts_own b now (alterations st.base h) (running st.base h) q serial))
          (subst (λ x. Knows st.length st.base v now (Some (begins q serial now)) x (mark s.memory b) (slice_get trs b)) (sym own_record) stands-first)

      other : (c : Call E) (an : Answer) → event_of c an ≡ Starts b q serial → (o : ℕ) → o < st.bays → (o ≡ b → ⊥) → Knows st.length st.base v now (running st.base (moment_of c an started ∷ h) o) (record_of started.dock o) (mark s.memory o) (slice_get trs o)
      other c an e o lt n =
          subst (λ x. Knows st.length st.base v now x (record_of started.dock o) (mark s.memory o) (slice_get trs o)) (sym (ap (λ x. running_after x o now (alterations st.base h) (running st.base h o)) e ∙ runs_other b now (alterations st.base h) (running st.base h) (Starts b q serial) o refl n))
          (subst (λ x. Knows st.length st.base v now (running st.base h o) x (mark s.memory o) (slice_get trs o)) (sym (other_record o n))
          (subst (λ x. Knows st.length st.base v now (running st.base h o) (record_of s.dock o) (mark s.memory o) x) (sym (others o n))
          (known_still st.length st.base (no_change st.length st.base now v) (running st.base h o) (record_of s.dock o) (mark s.memory o) (slice_get s.trays o) (i.inner.knows o lt))))
