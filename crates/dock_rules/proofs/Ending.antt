-- A step ends its call: turned away at line 6, or carried out at line 16 or 17. Assumes nothing.
use Rattle.std.proofs.Common.{◌≡◌, ℕ, suc, ◌<◌, ◌≤◌, Bool, true, false, cond, ◌&&◌, eqb, ltb, List, [], ◌∷◌, map, length, Some, None, Option, sym, refl, ap, ◌∙◌, subst, inl, inr, arith}
use Rattle.std.specs.List.{slice_get}
use Rattle.std.proofs.lemmas.List.{nil_from_length}
use Rattle.slot_memory.specs.Meaning.{Meaning, index}
use Rattle.dock_rules.specs.declared.Attempt.{Attempt}
use Rattle.dock_rules.specs.declared.BayRecord.TheVariants.{UnderWay, Ended}
use Rattle.dock_rules.specs.declared.Outcome.{Outcome}
use Rattle.dock_rules.specs.declared.Outcome.TheVariants.{Full, Empty}
use Rattle.dock_rules.specs.Words.{Side, Putting, Taking, side, number}
use Rattle.dock_rules.specs.Calls.{Step, End, record_of}
use Rattle.dock_rules.specs.History.{Moment, TakeOf, Running, Placed, place, ends, element_of, Stops, when, is_turned, same_side, turned_by, ended_by, alterations, running}
use Rattle.dock_rules.specs.Law.{Each, plain, queue, places}
use Rattle.dock_rules.specs.Runs.{Start, State, moment_of}
use Rattle.dock_rules.proofs.Sound.{own}
use Rattle.dock_rules.proofs.Stages.{S6, stage, number_at, number_is, turned_away, carried_out}
use Rattle.dock_rules.proofs.Shared.{Shared}
use Rattle.dock_rules.proofs.Knows.{View, count, wait, lim, queue_of, pos, answer, Counted, Kept}
use Rattle.dock_rules.proofs.Placing.{plain-full, places_self, gives_self}
use Rattle.dock_rules.proofs.Changes.{moving, turning, turn_change}
use Rattle.dock_rules.proofs.Invariant.{early_by, side_of, view_of, weight, Inv}
use Rattle.dock_rules.proofs.Bays.{stops_own}
use Rattle.dock_rules.proofs.Moments.{unaltered, turned_view}
use Rattle.dock_rules.proofs.Finish.{each_map, Answered, one_more}
use Rattle.dock_rules.proofs.Moves.{acted, moved}
use Rattle.dock_rules.proofs.Calm.{Unshared, calm_move}
use Rattle.dock_rules.proofs.Weights.{placed_words, early_weighs}
use Rattle.dock_rules.proofs.Moving.{asked_put, asked_take, bumped, moving_change, moving_ps, moving_move}
use Rattle.dock_rules.proofs.Acting.{stood, number_of}

module _ {E : Type 0} (L base now : ℕ) where
  -- a call's place is no later than the last of all places
  places_past : (ps : List (Placed E)) (s k : ℕ) → Each (λ p. p.moment ≤ now) ps → places s ps ≡ k ∷ [] → k ≤ now
  places_past [] s k all e = absurd (let z : ◌≡◌ {A = ℕ} 0 1 = ap length e in omega arith)
  places_past (p ∷ ps) s k all e = go (eqb p.serial s) (places_past ps s k all.1) e
    where
      go : (t : Bool) → (places s ps ≡ k ∷ [] → k ≤ now) → cond t (p.moment ∷ places s ps) (places s ps) ≡ k ∷ [] → k ≤ now
      go true rest e = let same : p.moment ≡ k = cc in omega (arith, all.0)
      go false rest e = rest e

  -- a call carried out ends with the answer that it counts on
  counted_answer : (d : Side) (tr : Option E) → answer d tr ≡ (carried_out d, element_of (carried_out d) tr)
  counted_answer Putting tr = refl
  counted_answer Taking tr = refl

  -- a call that has its place is answered as the plain queue answers it
  answered_of : (v : View E) (d : Side) (r : Running E) (tr : Option E) → Each (λ p. p.moment ≤ now) v.ps → Counted L base v d r tr → Answered L v.ps (ends now (carried_out d) tr r)
  answered_of v d r tr past k =
      ((k.moment, k.place, k.since, places_past v.ps r.serial k.moment past k.place), k.gives ∙ ap Some (counted_answer d tr))

module _ {E : Type 0} {K : ℕ} {st : Start} {h : List (Moment E)} {s : State E} (i : Inv K st h s) (b : ℕ) (inside : b < st.bays) (r : Running E) (a : Attempt) (runs : running st.base h b ≡ Some r) (is : record_of s.dock b ≡ UnderWay a) where
  abbrev v : View E
  v = view_of st h s

  abbrev now : ℕ
  now = suc (length h)

  abbrev d : Side
  d = side a.line

  abbrev tr : Option E
  tr = slice_get s.trays b

  -- no call runs in bay b after the end
  stops_run : (o : Outcome) (t : State E) → running st.base (moment_of (Step b) (End o) t ∷ h) b ≡ None
  stops_run o t = stops_own b now (alterations st.base h) (running st.base h) o

  -- no place is later than this moment
  past_now : Each (λ p. p.moment ≤ now) v.ps
  past_now = each_map _ _ v.ps (λ p k. omega arith) i.past

  -- the call is told to end
  told_end : (ps : List (Placed E)) (o : Outcome) → Answered st.length ps (ends now o tr r) → Each (Answered st.length ps) (ended_by (Stops b o) now s.trays (running st.base h))
  told_end ps o k = subst (λ x. Each (Answered st.length ps) (map (ends now o tr) (when (λ _. true) x))) (sym runs) (k, tt)

  -- a call carried out is not turned away
  not_turned : (o : Side) → turned_by (Stops b (carried_out o)) (running st.base h) ≡ []
  not_turned o = grind arith

  -- line 16 finds that the index has left the call's count
  pub ends-late : (mem : Meaning E) → Unshared K st h s b mem → Counted st.length st.base v d r tr → Inv K st (moment_of (Step b) (End (carried_out d)) (acted K st h s b (Ended a.serial (carried_out d)) mem s.trays) ∷ h) (acted K st h s b (Ended a.serial (carried_out d)) mem s.trays)
  ends-late mem un k =
      let o = carried_out d in
      let rec = Ended a.serial o in
      moved K st h s b i
      (calm_move K st h s b (Step b) (End o) rec mem s.trays None i inside un refl (stops_run o (acted K st h s b rec mem s.trays)) refl (λ c n. refl) tt (λ x. omega arith) (omega arith)
      (λ c. refl)
      (not_turned d)
      (told_end v.ps o (answered_of st.length st.base now v d r tr past_now k))
      tt)

  -- no call waits on a side whose index has just moved
  no_wait : (o : Side) (w : Running E) → wait (moving st.length st.base now o v w) o ≡ []
  no_wait o w = grind arith

  -- the new place is no later than this moment either
  past_moving : (o : Side) (w : Running E) → Each (λ p. p.moment ≤ now) (moving st.length st.base now o v w).ps
  past_moving Putting w = (omega arith, past_now)
  past_moving Taking w = (omega arith, past_now)

  -- line 17 moves the index itself
  pub ends_moving : (w : Running E) (x spare : ℕ) → spare ≤ K → x ≡ index s.memory (own d) → wait v d ≡ w ∷ [] → Kept st.length st.base v d r tr → Inv K st (moment_of (Step b) (End (carried_out d)) (acted K st h s b (Ended a.serial (carried_out d)) (bumped i d x spare) s.trays) ∷ h) (acted K st h s b (Ended a.serial (carried_out d)) (bumped i d x spare) s.trays)
  ends_moving w x spare low e one kept =
      let o = carried_out d in
      let u = moving st.length st.base now d v w in
      let rec = Ended a.serial o in
      let k = stood i b inside r a runs is in
      let counted = go ((moving_change i d w one).kept d r tr (omega (arith, k.since)) kept) in
      moved K st h s b i
      (moving_move i (Step b) (End o) b rec None d w x spare inside low e one refl (stops_run o (acted K st h s b rec (bumped i d x spare) s.trays)) tt (λ y. omega arith) (omega arith)
      (λ c. refl)
      (not_turned d)
      refl
      (told_end (place now w ∷ v.ps) o (subst (λ ps. Answered st.length ps (ends now o tr r)) (moving_ps i d w) (answered_of st.length st.base now u d r tr (past_moving d w) counted))))
    where
      go : Kept st.length st.base (moving st.length st.base now d v w) d r tr → Counted st.length st.base (moving st.length st.base now d v w) d r tr
      go = elim [
        | inl q ↦ (let z : ◌≡◌ {A = ℕ} 0 1 = sym (ap length (no_wait d w)) ∙ ap length q.only in absurd (omega arith))
        | inr q ↦ q
      ]

  -- the plain queue is full for a put that read a count one ring behind the head, and empty for a take that read the tail
  turns_plain : (o : Side) → side_of r.request ≡ o → pos st.length st.base r ≤ count v o → pos st.length st.base r ≡ lim st.length st.base v o → plain st.length (queue_of st.length st.base v) r.request ≡ ((turned_away o, None), queue_of st.length st.base v)
  turns_plain Putting asks le at =
      let p = asked_put r.request asks in
      let sh = i.inner.shared in
      ap (plain st.length (queue_of st.length st.base v)) p.1 ∙ plain-full st.length (queue_of st.length st.base v) p.0 (omega (arith, sh.tail, sh.room))
  turns_plain Taking asks le at =
      let sh = i.inner.shared in
      let none = nil_from_length (queue_of st.length st.base v) (omega (arith, sh.tail)) in
      ap (plain st.length (queue_of st.length st.base v)) (asked_take r.request asks) ∙ ap (λ q. plain st.length q TakeOf) none ∙ ap (λ q. ((Empty, None), q)) (sym none)

  -- the call is told to be turned away
  told_turned : stage a.line ≡ S6 → (o : Side) → side r.line ≡ o → turned_by (Stops b (turned_away o)) (running st.base h) ≡ r ∷ []
  told_turned at6 Putting same =
      let at = number_of i b inside r a runs is ∙ ap number_at at6 in
      ap (when (is_turned Full)) runs ∙ λ j. cond (same_side (same j) Putting && eqb (at j) 6) (r ∷ []) []
  told_turned at6 Taking same =
      let at = number_of i b inside r a runs is ∙ ap number_at at6 in
      ap (when (is_turned Empty)) runs ∙ λ j. cond (same_side (same j) Taking && eqb (at j) 6) (r ∷ []) []

  -- a call turned away ends with no element
  no_element : (o : Side) → element_of (turned_away o) tr ≡ None
  no_element o = grind arith

  -- line 6 finds the ring full, or empty
  pub ends_turned : stage a.line ≡ S6 → pos st.length st.base r ≤ count v d → pos st.length st.base r ≡ lim st.length st.base v d → Inv K st (moment_of (Step b) (End (turned_away d)) (acted K st h s b (Ended a.serial (turned_away d)) s.memory s.trays) ∷ h) (acted K st h s b (Ended a.serial (turned_away d)) s.memory s.trays)
  ends_turned at6 le at =
      let o = turned_away d in
      let rec = Ended a.serial o in
      let u = turning st.length st.base now v r in
      let k = stood i b inside r a runs is in
      let t = acted K st h s b rec s.memory s.trays in
      let m = moment_of (Step b) (End o) t in
      let is-early : ltb (number a.line) 16 ≡ true = ap (λ n. ltb n 16) (number_is a.line ∙ ap number_at at6) in
      let mine = early_weighs st v s i.inner.once b a inside is is-early in
      let none : places r.serial v.ps ≡ [] = ap (λ x. places x v.ps) k.serial ∙ mine.0 in
      let weighs = subst (λ x. 0 < weight st.bays v s x) (sym k.serial) mine.1 in
      let plain-is = turns_plain d k.asks le at in
      let same : queue st.length (place now r ∷ v.ps) ≡ queue st.length v.ps = ap (λ x. x.1) plain-is in
      let happens = unaltered st m h (i.indices Putting) (i.indices Taking) refl refl (told_turned at6 d (ap side k.line)) in
      moved K st h s b i (record {
        inside = inside;
        about = refl;
        run = stops_run o t;
        marks = i.inner.static.marks;
        slots = i.inner.static.slots;
        spare = i.inner.static.spare;
        trays = i.inner.static.trays;
        wraps = elim [ Putting ↦ i.inner.wraps Putting | Taking ↦ i.inner.wraps Taking ];
        same = refl;
        change = turn_change st.length st.base now v r none same;
        shared = subst (Shared st.length v.H v.T v.slots v.puts v.takes) (sym same) i.inner.shared;
        asks = elim [ Putting ↦ i.inner.asks Putting | Taking ↦ i.inner.asks Taking ];
        other_marks = λ c n. refl;
        other_trays = λ c n. refl;
        here = tt;
        lighter = λ y. omega (arith, placed_words r now v.ps y, was y k.serial is-early);
        roomier = omega arith;
        view = turned_view st m h s t r refl happens;
        placed = one_more r none weighs;
        answered = told_end (place now r ∷ v.ps) o ((now, places_self st.length (place now r) v.ps r.serial refl none, omega (arith, k.since), omega arith), gives_self st.length (place now r) v.ps r.serial refl ∙ ap (λ x. Some x.0) plain-is ∙ ap (λ e. Some (o, e)) (sym (no_element d)));
        left = tt;
        puts = tt;
        takes = tt;
      })
    where
      was : (y : ℕ) → r.serial ≡ a.serial → ltb (number a.line) 16 ≡ true → early_by y (record_of s.dock b) ≡ cond (eqb r.serial y) 1 0
      was y e late = ap (early_by y) is ∙ (λ j. cond (eqb (sym e j) y) (cond (late j) 1 0) 0)
