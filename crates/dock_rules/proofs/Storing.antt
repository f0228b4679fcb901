-- A store in a slot is accepted: the call waits for its index to move. Assumes nothing.
use Rattle.std.proofs.Common.{◌≡◌, ℕ, suc, ◌+◌, ◌%◌, ◌<◌, ◌≤◌, Bool, true, cond, ◌&&◌, eqb, ltb, List, [], ◌∷◌, length, set, is_some, Some, None, Option, sym, refl, ap, ◌∙◌, subst, inl, arith, length-set}
use Rattle.std.specs.List.{slice_get}
use Rattle.std.proofs.lemmas.Bool.{false≢true, true≢false}
use Rattle.slot_memory.specs.declared.Cell.TheVariants.{Slot}
use Rattle.slot_memory.specs.Meaning.{Meaning, index, mark}
use Rattle.slot_memory.specs.Rules.{InSlot, written}
use Rattle.dock_rules.specs.declared.Attempt.{Attempt}
use Rattle.dock_rules.specs.declared.BayRecord.TheVariants.{UnderWay}
use Rattle.dock_rules.specs.Words.{Side, Putting, Taking, side, number}
use Rattle.dock_rules.specs.Lines.{wrap}
use Rattle.dock_rules.specs.Calls.{Step, Stands as StandsAt, record_of}
use Rattle.dock_rules.specs.History.{Moment, Running, Goes, when, is_store, same_side, stored_by, turned_by, event, index_in, alterations, running}
use Rattle.dock_rules.specs.Law.{Each}
use Rattle.dock_rules.specs.Runs.{Start, State, moment_of}
use Rattle.dock_rules.proofs.Sound.{own}
use Rattle.dock_rules.proofs.Stages.{S15, S16, stage, line_at, number_at, number_is, left_in}
use Rattle.dock_rules.proofs.Shared.{Shared, held_by, tail_slot_held, head_slot_empty, head_slot_held, put_stores, take_stores}
use Rattle.dock_rules.proofs.Knows.{View, count, wait, lim, queue_of, pos, Ready, First, spared}
use Rattle.dock_rules.proofs.Changes.{Sharing, storing, store_change}
use Rattle.dock_rules.proofs.Invariant.{early, early_by, side_of, TrayOf, view_of, words, extent, Inv}
use Rattle.dock_rules.proofs.Bays.{written-mark, written-marks}
use Rattle.dock_rules.proofs.Moments.{unaltered, put_view, take_view}
use Rattle.dock_rules.proofs.Finish.{Places, no_more}
use Rattle.dock_rules.proofs.Moves.{acted, moved}
use Rattle.dock_rules.proofs.Moving.{asked_put}
use Rattle.dock_rules.proofs.Turns.{has_tray}
use Rattle.dock_rules.proofs.Acting.{number_at_lem, stood, attempt_at, number_of, stood_at, runs_to}

module _ {E : Type 0} {K : ℕ} {st : Start} {h : List (Moment E)} {s : State E} (i : Inv K st h s) where
  abbrev v : View E
  v = view_of st h s

  -- no call waits at a slot that is ready
  pub none_waits : (d : Side) (tr : Option E) → is_some tr ≡ true → Ready st.length st.base v d (count v d) tr → wait v d ≡ []
  none_waits Putting tr some rd = go v.puts (i.inner.asks Putting) i.inner.shared
    where
      go : (pt : List (Running E)) → Each (λ w. side_of w.request ≡ Putting) pt → Shared st.length v.H v.T v.slots pt v.takes (queue_of st.length st.base v) → pt ≡ []
      go [] asks sh = refl
      go (w ∷ ws) asks sh =
          let p = asked_put w.request asks.0 in
          let held = tail_slot_held st.length v.H v.T v.slots w ws v.takes (queue_of st.length st.base v) sh in
          absurd (true≢false (ap is_some (sym (held ∙ ap held_by p.1) ∙ rd)))
  none_waits Taking tr some rd = go v.takes i.inner.shared
    where
      go : (tk : List (Running E)) → Shared st.length v.H v.T v.slots v.puts tk (queue_of st.length st.base v) → tk ≡ []
      go [] sh = refl
      go (w ∷ ws) sh =
          let emptied = head_slot_empty st.length v.H v.T v.slots v.puts w ws (queue_of st.length st.base v) sh in
          absurd (false≢true (ap is_some (sym emptied ∙ rd) ∙ some))

  -- what is shared after the store: bay b's tray is tr
  storing_shared : (d : Side) (r : Running E) (tr : Option E) → wait v d ≡ [] → side_of r.request ≡ d → TrayOf r.request tr → count v d < lim st.length st.base v d → Sharing st.length st.base (suc (length h)) (storing st.length st.base (suc (length h)) d v r (left_in d tr))
  storing_shared Putting r tr none asks tray below =
      let q = queue_of st.length st.base v in
      let p = asked_put r.request asks in
      let is : tr ≡ Some p.0 = subst (λ a. TrayOf a tr) p.1 tray in
      let sh = subst (λ pt. Shared st.length v.H v.T v.slots pt v.takes q) none i.inner.shared in
      subst (λ x. Shared st.length v.H v.T (set v.slots (v.T % st.length) x) (r ∷ []) v.takes q) (sym is) (put_stores st.length v.H v.T v.slots r p.0 v.takes q p.1 below sh)
  storing_shared Taking r tr none asks tray below =
      go (queue_of st.length st.base v) (subst (λ tk. Shared st.length v.H v.T v.slots v.puts tk (queue_of st.length st.base v)) none i.inner.shared)
    where
      go : (q : List E) → Shared st.length v.H v.T v.slots v.puts [] q → Shared st.length v.H v.T (set v.slots (v.H % st.length) None) v.puts (r ∷ []) q
      go [] sh = absurd (omega (arith, sh.tail))
      go (x ∷ q) sh = take_stores st.length v.H v.T v.slots v.puts r x q sh

  -- a take that waits holds the first of the queue, as its slot did
  storing_first : (d : Side) (r : Running E) (tr : Option E) → wait v d ≡ [] → count v d < lim st.length st.base v d → Ready st.length st.base v d (count v d) tr → First st.length st.base (storing st.length st.base (suc (length h)) d v r (left_in d tr)) d tr
  storing_first Putting r tr none below rd = tt
  storing_first Taking r tr none below rd =
      let sh = subst (λ tk. Shared st.length v.H v.T v.slots v.puts tk (queue_of st.length st.base v)) none i.inner.shared in
      sym (head_slot_held st.length v.H v.T v.slots v.puts (queue_of st.length st.base v) sh below) ∙ rd

  -- the calls that wait are still each of their side
  storing_asks : (d : Side) (r : Running E) (x : Option E) → side_of r.request ≡ d → (o : Side) → Each (λ w. side_of w.request ≡ o) (wait (storing st.length st.base (suc (length h)) d v r x) o)
  storing_asks Putting r x asks Putting = (asks, tt)
  storing_asks Putting r x asks Taking = i.inner.asks Taking
  storing_asks Taking r x asks Putting = i.inner.asks Putting
  storing_asks Taking r x asks Taking = (asks, tt)

  -- the call now waits, once
  storing_words : (d : Side) (r : Running E) (x : Option E) → wait v d ≡ [] → (y : ℕ) → words (storing st.length st.base (suc (length h)) d v r x) y ≡ cond (eqb r.serial y) 1 0 + words v y
  storing_words d r x none y = grind arith

  -- one more store is accepted
  storing_extent : (d : Side) (r : Running E) (x : Option E) → wait v d ≡ [] → extent (storing st.length st.base (suc (length h)) d v r x) ≡ 1 + extent v
  storing_extent d r x none = grind arith

  -- no index moves
  storing_count : (d : Side) (r : Running E) (x : Option E) (o : Side) → count (storing st.length st.base (suc (length h)) d v r x) o ≡ count v o
  storing_count d r x o = grind arith

  -- the call waits on its side
  storing_wait : (d : Side) (r : Running E) (x : Option E) → wait (storing st.length st.base (suc (length h)) d v r x) d ≡ r ∷ []
  storing_wait d r x = grind arith

  -- its slot is stored in
  storing_slots : (d : Side) (r : Running E) (x : Option E) → (storing st.length st.base (suc (length h)) d v r x).slots ≡ set v.slots (count v d % st.length) x
  storing_slots d r x = grind arith

  -- no call is placed
  storing_ps : (d : Side) (r : Running E) (x : Option E) → (storing st.length st.base (suc (length h)) d v r x).ps ≡ v.ps
  storing_ps d r x = grind arith

  -- the call that stored had read the index as it still is
  storing_unmoved : (d o : Side) (r : Running E) (rs : List (Running E)) → pos st.length st.base r ≡ count v d → rs ≡ cond (same_side d o) (r ∷ []) [] → Each (λ x. x.read ≡ alterations st.base h o) rs
  storing_unmoved Putting Putting r rs at e = subst (Each (λ x. x.read ≡ alterations st.base h Putting)) (sym e) (omega arith, tt)
  storing_unmoved Putting Taking r rs at e = subst (Each (λ x. x.read ≡ alterations st.base h Taking)) (sym e) tt
  storing_unmoved Taking Putting r rs at e = subst (Each (λ x. x.read ≡ alterations st.base h Putting)) (sym e) tt
  storing_unmoved Taking Taking r rs at e = subst (Each (λ x. x.read ≡ alterations st.base h Taking)) (sym e) (omega arith, tt)

  -- the view after the moment is the one with the slot stored in
  storing_view : (d : Side) (m : Moment E) (t : State E) (r : Running E) (x : Option E) → t.memory.slots ≡ set v.slots (count v d % st.length) x → index_in st.base (m ∷ h) Putting ≡ index s.memory (own Putting) → index_in st.base (m ∷ h) Taking ≡ index s.memory (own Taking) → ((o : Side) → stored_by o (event m) (running st.base h) ≡ cond (same_side d o) (r ∷ []) []) → turned_by (event m) (running st.base h) ≡ [] → wait v d ≡ [] → view_of st (m ∷ h) t ≡ storing st.length st.base (suc (length h)) d v r x
  storing_view Putting m t r x slots tail head told turned none =
      put_view st m h s t r x slots none (unaltered st m h (tail ∙ i.indices Putting) (head ∙ i.indices Taking) (told Putting) (told Taking) turned)
  storing_view Taking m t r x slots tail head told turned none =
      take_view st m h s t r x slots none (unaltered st m h (tail ∙ i.indices Putting) (head ∙ i.indices Taking) (told Putting) (told Taking) turned)

  module _ (b : ℕ) (inside : b < st.bays) (r : Running E) (a : Attempt) (runs : running st.base h b ≡ Some r) (is : record_of s.dock b ≡ UnderWay a) (at15 : stage a.line ≡ S15) where
    abbrev d : Side
    d = side a.line

    abbrev tr : Option E
    tr = slice_get s.trays b

    -- the store is told, on the call's side
    told : (o : Side) → stored_by o (Goes b (line_at d S16)) (running st.base h) ≡ cond (same_side d o) (r ∷ []) []
    told o =
        let k = stood i b inside r a runs is in
        let at : number r.line ≡ 15 = number_of i b inside r a runs is ∙ ap number_at at15 in
        ap (when (is_store o (line_at d S16))) runs
        ∙ (λ j. cond (same_side (side (k.line j)) o && (eqb (at j) 15 && eqb (number_at_lem d S16 j) 16)) (r ∷ []) [])
        ∙ ap (λ t. cond t (r ∷ []) []) (whole (same_side d o))
      where
        whole : (t : Bool) → (t && (eqb 15 15 && eqb 16 16)) ≡ t
        whole t = grind arith

    -- the memory with the slot of number j stored in
    abbrev pub filled : ℕ → ℕ → Meaning E
    filled j spare = written s.memory (InSlot j (left_in d tr)) spare

    -- the call goes on to line 16, and waits
    pub stores : (x : ℕ) (held : Bool) (j spare : ℕ) → spare ≤ K → j ≡ count v d % st.length → x ≡ wrap (pos st.length st.base r) → pos st.length st.base r ≡ count v d → pos st.length st.base r < lim st.length st.base v d → Ready st.length st.base v d (count v d) tr → Inv K st (moment_of (Step b) (StandsAt (line_at d S16)) (acted K st h s b (UnderWay (attempt_at i b inside r a runs is S16 x held)) (filled j spare) s.trays) ∷ h) (acted K st h s b (UnderWay (attempt_at i b inside r a runs is S16 x held)) (filled j spare) s.trays)
    stores x held j spare low slot noted at below ready =
        let k = stood i b inside r a runs is in
        let some = has_tray st.length st.base r.request tr k.tray in
        let none = none_waits d tr some ready in
        let u = storing st.length st.base (suc (length h)) d v r (left_in d tr) in
        let rec = UnderWay (attempt_at i b inside r a runs is S16 x held) in
        let t = acted K st h s b rec (filled j spare) s.trays in
        let m = moment_of (Step b) (StandsAt (line_at d S16)) t in
        let under : count v d < lim st.length st.base v d = subst (λ y. y < lim st.length st.base v d) at below in
        let read : cond (eqb (number r.line) 5) (alterations st.base h (side r.line)) r.read ≡ r.read = ap (λ n. cond (eqb n 5) (alterations st.base h (side r.line)) r.read) (number_of i b inside r a runs is ∙ ap number_at at15) in
        let late : early rec ≡ 0 = ap (λ n. cond (ltb n 16) 1 0) (number_at_lem d S16) in
        let was : early (record_of s.dock b) ≡ 1 = ap early is ∙ ap (λ n. cond (ltb n 16) 1 0) (number_is a.line ∙ ap number_at at15) in
        moved K st h s b i (record {
          inside = inside;
          about = refl;
          run = runs_to i b inside r a runs is S16 r.read read;
          marks = written-marks s.memory (InSlot j (left_in d tr)) spare ∙ i.inner.static.marks;
          slots = length-set s.memory.slots j (left_in d tr) ∙ i.inner.static.slots;
          spare = low;
          trays = i.inner.static.trays;
          wraps = λ o. index_same o ∙ i.inner.wraps o ∙ ap wrap (sym (storing_count d r (left_in d tr) o));
          same = storing_slots d r (left_in d tr) ∙ ap (λ y. set s.memory.slots y (left_in d tr)) (sym slot);
          change = store_change st.length st.base (suc (length h)) d v r (left_in d tr) none;
          shared = storing_shared d r tr none k.asks k.tray under;
          asks = storing_asks d r (left_in d tr) k.asks;
          other_marks = λ o n. written-mark s.memory (InSlot j (left_in d tr)) spare o ∙ ap (λ y. spared (Some (Slot y)) (mark s.memory o)) slot;
          other_trays = λ o n. refl;
          here = stood_at i b inside r a runs is u S16 x held r.read (mark (filled j spare) b) tr noted k.tray (
            omega (arith, storing_count d r (left_in d tr) d),
            inl (record {
              at = at ∙ sym (storing_count d r (left_in d tr) d);
              it = r;
              only = storing_wait d r (left_in d tr);
              serial = refl;
              first = storing_first d r tr none under ready;
            }),
          );
          lighter = λ y.
              let new : early_by y rec ≡ 0 = ap (λ n. cond (eqb a.serial y) (cond (ltb n 16) 1 0) 0) (number_at_lem d S16) ∙ nothing (eqb a.serial y) in
              let old : early_by y (record_of s.dock b) ≡ cond (eqb a.serial y) 1 0 = ap (early_by y) is ∙ ap (λ n. cond (eqb a.serial y) (cond (ltb n 16) 1 0) 0) (number_is a.line ∙ ap number_at at15) in
              let mine : cond (eqb r.serial y) 1 0 ≡ cond {A = ℕ} (eqb a.serial y) 1 0 = ap (λ q. cond (eqb q y) 1 0) k.serial in
              omega (arith, storing_words d r (left_in d tr) none y);
          roomier = omega (arith, storing_extent d r (left_in d tr) none);
          view = storing_view d m t r (left_in d tr) (ap (λ y. set s.memory.slots y (left_in d tr)) slot) refl refl told refl none;
          placed = subst (Places st (suc (length h)) v s) (sym (storing_ps d r (left_in d tr))) no_more;
          answered = tt;
          left = tt;
          puts = storing_unmoved d Putting r _ at (told Putting);
          takes = storing_unmoved d Taking r _ at (told Taking);
        })
      where
        nothing : (t : Bool) → cond {A = ℕ} t 0 0 ≡ 0
        nothing t = grind arith

        index_same : (o : Side) → index (filled j spare) (own o) ≡ index s.memory (own o)
        index_same o = grind arith
