-- Every step of every line keeps the invariant. Assumes nothing.
use Rattle.std.proofs.Common.{◌≡◌, ℕ, ◌+◌, ◌%◌, ◌<◌, ◌≤◌, Bool, true, false, cond, not, ◌&&◌, eqb, ◌⊎◌, List, [], ◌∷◌, length, get_or, is_some, Some, None, Option, sym, refl, ap, ◌∙◌, subst, inl, inr, arith, length-set}
use Rattle.std.specs.List.{slice_get}
use Rattle.std.proofs.lemmas.Bool.{false≢true, true≢false, eqb-true, eqb-false}
use Rattle.slot_memory.specs.declared.Cell.{Cell}
use Rattle.slot_memory.specs.declared.Cell.TheVariants.{Slot, At}
use Rattle.slot_memory.specs.declared.Index.{Index}
use Rattle.slot_memory.specs.declared.Stored.TheVariants.{Accepted, Refused}
use Rattle.slot_memory.specs.Meaning.{Meaning, index, mark, live, is_on}
use Rattle.slot_memory.specs.Rules.{Write, InSlot, InIndex, Operation, Read, Mark, Store, Reply, Number, Verdict, target, reading, marked, written}
use Rattle.dock_rules.specs.declared.Attempt.{Attempt}
use Rattle.dock_rules.specs.declared.BayRecord.TheVariants.{UnderWay}
use Rattle.dock_rules.specs.Words.{Side, Putting, Taking, side, number}
use Rattle.dock_rules.specs.Lines.{Next, To, Ends, wrap, content_in, found}
use Rattle.dock_rules.specs.Calls.{Step, answer_of, record_after, record_of}
use Rattle.dock_rules.specs.History.{Moment, Request, PutOf, TakeOf, Running, alterations, running}
use Rattle.dock_rules.specs.Runs.{Start, State, moment_of}
use Rattle.dock_rules.proofs.Sound.{own}
use Rattle.dock_rules.proofs.Wrap.{wrap_same, wrap_add, wrap-mod}
use Rattle.dock_rules.proofs.Stages.{early_at, Stage, S5, S6, S9, S10, S12, S13, S15, S16, S17, stage, line_at, number_at, other, turned_away, carried_out, turns, outrun, left_in, next_at}
use Rattle.dock_rules.proofs.Shared.{Shared, tail_slot_empty, head_slot_held}
use Rattle.dock_rules.proofs.Knows.{View, count, wait, lim, queue_of, pos, content, Behind, Ready, on_index, Stands, Kept, Waits, Counted}
use Rattle.dock_rules.proofs.Invariant.{Noted, TrayOf, side_of, view_of, Inv}
use Rattle.dock_rules.proofs.Bays.{nth_set_same, nth_set_other}
use Rattle.dock_rules.proofs.Ways.{Way, was_read, was_marked, was_accepted, was_refused}
use Rattle.dock_rules.proofs.Moves.{acted}
use Rattle.dock_rules.proofs.Calm.{Unshared, unchanged, remarked}
use Rattle.dock_rules.proofs.Acting.{stood, arrived, goes, number_of}
use Rattle.dock_rules.proofs.Moving.{bumped}
use Rattle.dock_rules.proofs.Helping.{helps}
use Rattle.dock_rules.proofs.Storing.{stores}
use Rattle.dock_rules.proofs.Ending.{ends-late, ends_moving, ends_turned}

-- what a way says of the operation that it is of
module _ {E : Type 0} {K : ℕ} {m : Meaning E} {b : ℕ} where
  -- a read answers the index and changes nothing
  read_way : {o : Operation E} {r : Reply E} {n : Meaning E} → Way K m b o r n → (i : Index) → o ≡ Read i → ◌≡◌ {A = Reply E × Meaning E} (Number (index m i), m) (r, n)
  read_way (was_read j) i e = let same : j ≡ i = cc in ap (λ k. (Number (index m k), m)) (sym same)
  read_way (was_marked c spare low) i e = cc
  read_way (was_accepted w spare low on) i e = cc
  read_way (was_refused w spare low) i e = cc

  -- a mark answers the cell and changes the bay's mark and the spare
  mark_way : {o : Operation E} {r : Reply E} {n : Meaning E} → Way K m b o r n → (c : Cell) → o ≡ Mark b c → (spare : ℕ) × (spare ≤ K) × ◌≡◌ {A = Reply E × Meaning E} (reading m c, marked m b (Some c) spare) (r, n)
  mark_way (was_read j) c e = cc
  mark_way (was_marked d spare low) c e = let same : d ≡ c = cc in (spare, low, ap (λ k. (reading m k, marked m b (Some k) spare)) (sym same))
  mark_way (was_accepted w spare low on) c e = cc
  mark_way (was_refused w spare low) c e = cc

  -- a store is live and accepted, or refused
  store_way : {o : Operation E} {r : Reply E} {n : Meaning E} → Way K m b o r n → (w : Write E) → o ≡ Store b w → ((spare : ℕ) × (spare ≤ K) × (live m b (target w) ≡ true) × ◌≡◌ {A = Reply E × Meaning E} (Verdict Accepted, written m w spare) (r, n)) ⊎ ((spare : ℕ) × (spare ≤ K) × ◌≡◌ {A = Reply E × Meaning E} (Verdict Refused, marked m b None spare) (r, n))
  store_way (was_read j) w e = cc
  store_way (was_marked d spare low) w e = cc
  store_way (was_accepted x spare low on) w e = let same : x ≡ w = cc in inl (spare, low, ap (λ k. live m b (target k)) (sym same) ∙ on, ap (λ k. (Verdict Accepted, written m k spare)) (sym same))
  store_way (was_refused x spare low) w e = inr (spare, low, refl)

-- a list of length one
single : {X : Type 0} (ws : List X) → 0 < length ws → length ws ≤ 1 → (w : X) × (ws ≡ w ∷ [])
single [] h k = absurd (omega arith)
single (w ∷ []) h k = (w, refl)
single (w ∷ x ∷ ws) h k = absurd (omega arith)

-- an option that is not some is none
none_or_some : {X : Type 0} (o : Option X) → (is_some o ≡ false → o ≡ None)
none_or_some o h = grind arith

module _ {E : Type 0} {K : ℕ} {st : Start} {h : List (Moment E)} {s : State E} (i : Inv K st h s) where
  abbrev v : View E
  v = view_of st h s

  -- a side's count, as the history has it
  count_is : (o : Side) → count v o ≡ st.base + alterations st.base h o
  count_is o = grind arith

  -- no count goes further than the lifetime
  count_high : (o : Side) → count v o ≤ st.base + 2147483648
  count_high o = grind arith

  -- a count is within its limit, which goes no further than the lifetime and a ring
  lim_high : (o : Side) → (count v o ≤ lim st.length st.base v o) × (lim st.length st.base v o ≤ st.base + 2147484672)
  lim_high o = grind arith

  -- at most one call waits on a side
  one_waits : (o : Side) → length (wait v o) ≤ 1
  one_waits o = grind arith

  -- the slot at the index is not as the side wants it only where a call of that side waits
  busy_behind : (o : Side) → count v o < lim st.length st.base v o → outrun o (is_some (content st.length st.base v (count v o))) ≡ true → Behind v o
  busy_behind Putting below busy = go v.puts i.inner.shared
    where
      go : (pt : List (Running E)) → Shared st.length v.H v.T v.slots pt v.takes (queue_of st.length st.base v) → 0 < length pt
      go [] sh = absurd (false≢true (sym (ap is_some (tail_slot_empty st.length v.H v.T v.slots v.takes (queue_of st.length st.base v) sh below)) ∙ busy))
      go (w ∷ ws) sh = omega arith
  busy_behind Taking below busy = go v.takes i.inner.shared
    where
      full : (q : List E) → 0 < length q → is_some (slice_get q 0) ≡ true
      full [] h = absurd (omega arith)
      full (x ∷ q) h = refl

      go : (tk : List (Running E)) → Shared st.length v.H v.T v.slots v.puts tk (queue_of st.length st.base v) → 0 < length tk
      go [] sh =
          let held = ap is_some (head_slot_held st.length v.H v.T v.slots v.puts (queue_of st.length st.base v) sh below) ∙ full (queue_of st.length st.base v) (omega (arith, sh.tail)) in
          absurd (false≢true (ap not (sym held) ∙ busy))
      go (w ∷ ws) sh = omega arith

  -- the test at line 6, as a test of the side's limit
  turns_lim : (o : Side) (x : ℕ) → turns o st.length x (index s.memory (own (other o))) ≡ eqb (wrap (lim st.length st.base v o)) x
  turns_lim Putting x = ap (λ n. eqb (wrap (n + st.length)) x) (i.inner.wraps Taking) ∙ ap (λ n. eqb n x) (wrap_add v.H st.length)
  turns_lim Taking x = ap (λ n. eqb n x) (i.inner.wraps Putting)

  module _ (b : ℕ) (inside : b < st.bays) (r : Running E) (a : Attempt) (runs : running st.base h b ≡ Some r) (is : record_of s.dock b ≡ UnderWay a) where
    abbrev d : Side
    d = side a.line

    abbrev at : ℕ
    at = pos st.length st.base r

    abbrev tr : Option E
    tr = slice_get s.trays b

    -- the invariant after a step that goes so
    abbrev pub GoalAt : Next → Meaning E → List E → Type 0
    GoalAt n mem trs = Inv K st (moment_of (Step b) (answer_of n) (acted K st h s b (record_after a.serial n) mem trs) ∷ h) (acted K st h s b (record_after a.serial n) mem trs)

    -- what the call knows at its stage
    facts : (g : Stage) → stage a.line ≡ g → Stands st.length st.base v d g r a.held (mark s.memory b) tr
    facts g e = subst (λ y. Stands st.length st.base v d y r a.held (mark s.memory b) tr) e (stood i b inside r a runs is).stands

    -- and that its index is noted from the second line on
    noted : (g : Stage) → stage a.line ≡ g → Noted g (a.index ≡ wrap at)
    noted g e = subst (λ y. Noted y (a.index ≡ wrap at)) e (stood i b inside r a runs is).index

    -- only line 5 reads the index anew
    same_read : (n : ℕ) → number_at (stage a.line) ≡ n → eqb n 5 ≡ false → cond (eqb (number r.line) 5) (alterations st.base h (side r.line)) r.read ≡ r.read
    same_read n e not_five =
        ap (λ y. cond (eqb y 5) (alterations st.base h (side r.line)) r.read) (number_of i b inside r a runs is ∙ e)
        ∙ ap (λ t. cond t (alterations st.base h (side r.line)) r.read) not_five

    -- the index that is read is the call's exactly where it has not moved
    is-fresh : at ≤ count v d → a.index ≡ wrap at → eqb (index s.memory (own d)) a.index ≡ true → at ≡ count v d
    is-fresh le x e =
        wrap_same at (count v d) le (omega (arith, count_high d)) (sym (sym (i.inner.wraps d) ∙ eqb-true _ _ e ∙ x))

    -- and has moved where it differs
    is_stale : a.index ≡ wrap at → eqb (index s.memory (own d)) a.index ≡ false → at ≡ count v d → ⊥
    is_stale x e same = eqb-false _ _ e (i.inner.wraps d ∙ ap wrap (sym same) ∙ sym x)

    -- the slot that the noted index means is that of the count, since the length divides 2 ^ 32
    slot_is : a.index ≡ wrap at → a.index % st.length ≡ at % st.length
    slot_is x = ap (λ y. y % st.length) x ∙ wrap-mod st.length at i.inner.static.some i.inner.static.divides

    -- on to another line, with what is known there; the tray stays
    go_to : (g : Stage) → stage a.line ≡ g → (to : Stage) (held : Bool) (mem : Meaning E) → Unshared K st h s b mem → eqb (number_at g) 5 ≡ false → (eqb (number_at g) 15 && eqb (number_at to) 16) ≡ false → early_at to ≤ early_at g → Noted to (a.index ≡ wrap at) → Stands st.length st.base v d to (arrived i b inside r a runs is to r.read) held (mark mem b) tr → GoalAt (To (line_at d to) a.index held) mem s.trays
    go_to g e to held mem un not_five calm le x stands =
        goes i b inside r a runs is to a.index held r.read mem s.trays un
        (same_read (number_at g) (ap number_at e) not_five)
        (subst (λ y. (eqb (number_at y) 15 && eqb (number_at to) 16) ≡ false) (sym e) calm)
        (subst (λ y. early_at to ≤ early_at y) (sym e) le)
        refl
        (λ o n. refl)
        x
        (stood i b inside r a runs is).tray
        stands

    -- a read leaves the memory
    calm_memory : Unshared K st h s b s.memory
    calm_memory = unchanged K st h s b i.inner.static.spare

    -- line 5 reads the own index
    pub line5 : stage a.line ≡ S5 → {o : Operation E} {p : Reply E} {n : Meaning E} → Way K s.memory b o p n → o ≡ Read (own d) → GoalAt (next_at d S5 st.length a.index a.held p) n s.trays
    line5 e w is_read =
        subst (λ q. GoalAt (next_at d S5 st.length a.index a.held q.0) q.1 s.trays) (read_way w (own d) is_read)
        (goes i b inside r a runs is S6 (index s.memory (own d)) a.held (alterations st.base h d) s.memory s.trays calm_memory read
        (subst (λ y. (eqb (number_at y) 15 && eqb (number_at S6) 16) ≡ false) (sym e) refl)
        (subst (λ y. early_at S6 ≤ early_at y) (sym e) (omega arith))
        refl
        (λ o n. refl)
        (i.inner.wraps d ∙ ap wrap (count_is d))
        (stood i b inside r a runs is).tray
        (omega (arith, count_is d)))
      where
        read : cond (eqb (number r.line) 5) (alterations st.base h (side r.line)) r.read ≡ alterations st.base h d
        read =
            ap (λ y. cond (eqb y 5) (alterations st.base h (side r.line)) r.read) (number_of i b inside r a runs is ∙ ap number_at e)
            ∙ ap (λ l. alterations st.base h (side l)) (stood i b inside r a runs is).line

    -- line 6 reads the other index: the ring is full or empty, or the call goes on below its limit
    pub line6 : stage a.line ≡ S6 → {o : Operation E} {p : Reply E} {n : Meaning E} → Way K s.memory b o p n → o ≡ Read (own (other d)) → GoalAt (next_at d S6 st.length a.index a.held p) n s.trays
    line6 e w is_read =
        subst (λ q. GoalAt (next_at d S6 st.length a.index a.held q.0) q.1 s.trays) (read_way w (own (other d)) is_read)
        (go (turns d st.length a.index (index s.memory (own (other d)))) refl)
      where
        le : at ≤ count v d
        le = facts S6 e

        go : (t : Bool) → turns d st.length a.index (index s.memory (own (other d))) ≡ t → GoalAt (cond t (Ends (turned_away d)) (To (line_at d S9) a.index a.held)) s.memory s.trays
        go true turned =
            let x = eqb-true _ _ (sym (turns_lim d a.index) ∙ turned) in
            ends_turned i b inside r a runs is e le (wrap_same at (lim st.length st.base v d) (omega (arith, le, lim_high d)) (omega (arith, lim_high d)) (sym (x ∙ noted S6 e)))
        go false turned =
            let n = eqb-false _ _ (sym (turns_lim d a.index) ∙ turned) in
            let apart : at ≡ lim st.length st.base v d → ⊥ = λ same. n (ap wrap (sym same) ∙ sym (noted S6 e)) in
            let under : at < lim st.length st.base v d = omega (arith, le, lim_high d, apart) in
            go_to S6 e S9 a.held s.memory calm_memory refl refl (omega arith) (noted S6 e) (le, under)

    -- line 10 reads the own index again: moved, back to line 5; else by what the slot held
    pub line10 : stage a.line ≡ S10 → {o : Operation E} {p : Reply E} {n : Meaning E} → Way K s.memory b o p n → o ≡ Read (own d) → GoalAt (next_at d S10 st.length a.index a.held p) n s.trays
    line10 e w is_read =
        subst (λ q. GoalAt (next_at d S10 st.length a.index a.held q.0) q.1 s.trays) (read_way w (own d) is_read)
        (go (eqb (index s.memory (own d)) a.index) refl)
      where
        k : Stands st.length st.base v d S10 r a.held (mark s.memory b) tr
        k = facts S10 e

        by_held : at ≡ count v d → (t : Bool) → outrun d a.held ≡ t → GoalAt (cond t (To (line_at d S12) a.index a.held) (To (line_at d S15) a.index a.held)) s.memory s.trays
        by_held same true busy = go_to S10 e S12 a.held s.memory calm_memory refl refl (omega arith) (noted S10 e) (k.0, k.2 busy)
        by_held same false busy = go_to S10 e S15 a.held s.memory calm_memory refl refl (omega arith) (noted S10 e) (k.0, k.1, λ on. (same, k.3 busy on))

        go : (t : Bool) → eqb (index s.memory (own d)) a.index ≡ t → GoalAt (cond t (cond (outrun d a.held) (To (line_at d S12) a.index a.held) (To (line_at d S15) a.index a.held)) (To (line_at d S5) a.index a.held)) s.memory s.trays
        go true fresh = by_held (is-fresh k.0 (noted S10 e) fresh) (outrun d a.held) refl
        go false stale = go_to S10 e S5 a.held s.memory calm_memory refl refl (omega arith) tt tt

    -- line 12 marks the own index, to help the call that waits there
    pub line12 : stage a.line ≡ S12 → {o : Operation E} {p : Reply E} {n : Meaning E} → Way K s.memory b o p n → o ≡ Mark b (At (own d)) → GoalAt (next_at d S12 st.length a.index a.held p) n s.trays
    line12 e w is-mark =
        let q = mark_way w (At (own d)) is-mark in
        subst (λ q. GoalAt (next_at d S12 st.length a.index a.held q.0) q.1 s.trays) q.2
        (go q.0 q.1 (eqb (index s.memory (own d)) a.index) refl)
      where
        k : Stands st.length st.base v d S12 r a.held (mark s.memory b) tr
        k = facts S12 e

        go : (spare : ℕ) → spare ≤ K → (t : Bool) → eqb (index s.memory (own d)) a.index ≡ t → GoalAt (cond t (To (line_at d S13) a.index a.held) (To (line_at d S5) a.index a.held)) (marked s.memory b (Some (At (own d))) spare) s.trays
        go spare low true fresh =
            let same = is-fresh k.0 (noted S12 e) fresh in
            go_to S12 e S13 a.held (marked s.memory b (Some (At (own d))) spare) (remarked K st h s b (Some (At (own d))) spare low) refl refl (omega arith) (noted S12 e) (k.0, λ on. (same, k.1 same))
        go spare low false stale = go_to S12 e S5 a.held (marked s.memory b (Some (At (own d))) spare) (remarked K st h s b (Some (At (own d))) spare low) refl refl (omega arith) tt tt

    -- the call that stood at line 16 or 17 is the same at the other
    kept_on : (to : Stage) → Kept st.length st.base v d r tr → Kept st.length st.base v d (arrived i b inside r a runs is to r.read) tr
    kept_on to = elim [
      | inl k ↦ inl (record { at = k.at; it = k.it; only = k.only; serial = k.serial; first = k.first })
      | inr k ↦ inr (record { past = k.past; moment = k.moment; place = k.place; since = k.since; gives = k.gives })
    ]

    -- line 16 marks the own index: moved, the call has its place and ends
    pub line16 : stage a.line ≡ S16 → {o : Operation E} {p : Reply E} {n : Meaning E} → Way K s.memory b o p n → o ≡ Mark b (At (own d)) → GoalAt (next_at d S16 st.length a.index a.held p) n s.trays
    line16 e w is-mark =
        let q = mark_way w (At (own d)) is-mark in
        subst (λ q. GoalAt (next_at d S16 st.length a.index a.held q.0) q.1 s.trays) q.2
        (go q.0 q.1 (eqb (index s.memory (own d)) a.index) refl)
      where
        k : Stands st.length st.base v d S16 r a.held (mark s.memory b) tr
        k = facts S16 e

        late : (at ≡ count v d → ⊥) → Kept st.length st.base v d r tr → Counted st.length st.base v d r tr
        late apart = elim [ inl q ↦ absurd (apart q.at) | inr q ↦ q ]

        go : (spare : ℕ) → spare ≤ K → (t : Bool) → eqb (index s.memory (own d)) a.index ≡ t → GoalAt (cond t (To (line_at d S17) a.index a.held) (Ends (carried_out d))) (marked s.memory b (Some (At (own d))) spare) s.trays
        go spare low true fresh =
            go_to S16 e S17 a.held (marked s.memory b (Some (At (own d))) spare) (remarked K st h s b (Some (At (own d))) spare low) refl refl (omega arith) (noted S16 e) (k.0, kept_on S17 k.1, λ on. is-fresh k.0 (noted S16 e) fresh)
        go spare low false stale =
            ends-late i b inside r a runs is (marked s.memory b (Some (At (own d))) spare) (remarked K st h s b (Some (At (own d))) spare low) (late (is_stale (noted S16 e) stale) k.1)

    -- a store in the own index: accepted only where the index still is the call's
    pub line17 : stage a.line ≡ S17 → {o : Operation E} {p : Reply E} {n : Meaning E} → Way K s.memory b o p n → o ≡ Store b (InIndex (own d) (wrap (a.index + 1))) → GoalAt (next_at d S17 st.length a.index a.held p) n s.trays
    line17 e w this_store = go (store_way w (InIndex (own d) (wrap (a.index + 1))) this_store)
      where
        k : Stands st.length st.base v d S17 r a.held (mark s.memory b) tr
        k = facts S17 e

        waits : at ≡ count v d → Kept st.length st.base v d r tr → Waits st.length st.base v d r tr
        waits same = elim [ inl q ↦ q | inr q ↦ absurd (omega (arith, q.past)) ]

        go : {p : Reply E} {n : Meaning E} → ((spare : ℕ) × (spare ≤ K) × (on_index d (mark s.memory b) ≡ true) × ◌≡◌ {A = Reply E × Meaning E} (Verdict Accepted, bumped i d a.index spare) (p, n)) ⊎ ((spare : ℕ) × (spare ≤ K) × ◌≡◌ {A = Reply E × Meaning E} (Verdict Refused, marked s.memory b None spare) (p, n)) → GoalAt (next_at d S17 st.length a.index a.held p) n s.trays
        go (inl q) =
            let same = k.2 q.2 in
            let here : a.index ≡ index s.memory (own d) = noted S17 e ∙ ap wrap same ∙ sym (i.inner.wraps d) in
            let wt = waits same k.1 in
            subst (λ q. GoalAt (next_at d S17 st.length a.index a.held q.0) q.1 s.trays) q.3
            (ends_moving i b inside r a runs is wt.it a.index q.0 q.1 here wt.only k.1)
        go (inr q) =
            subst (λ q. GoalAt (next_at d S17 st.length a.index a.held q.0) q.1 s.trays) q.2
            (go_to S17 e S16 a.held (marked s.memory b None q.0) (remarked K st h s b None q.0 q.1) refl refl (omega arith) (noted S17 e) (k.0, kept_on S16 k.1))

    -- a store in the slot: accepted only where it still is as the side wants it
    pub line15 : stage a.line ≡ S15 → {o : Operation E} {p : Reply E} {n : Meaning E} → Way K s.memory b o p n → o ≡ Store b (InSlot (a.index % st.length) (left_in d tr)) → GoalAt (next_at d S15 st.length a.index a.held p) n s.trays
    line15 e w this_store = go (store_way w (InSlot (a.index % st.length) (left_in d tr)) this_store)
      where
        k : Stands st.length st.base v d S15 r a.held (mark s.memory b) tr
        k = facts S15 e

        go : {p : Reply E} {n : Meaning E} → ((spare : ℕ) × (spare ≤ K) × (is_on (Slot (a.index % st.length)) (mark s.memory b) ≡ true) × ◌≡◌ {A = Reply E × Meaning E} (Verdict Accepted, written s.memory (InSlot (a.index % st.length) (left_in d tr)) spare) (p, n)) ⊎ ((spare : ℕ) × (spare ≤ K) × ◌≡◌ {A = Reply E × Meaning E} (Verdict Refused, marked s.memory b None spare) (p, n)) → GoalAt (next_at d S15 st.length a.index a.held p) n s.trays
        go (inl q) =
            let slot = slot_is (noted S15 e) in
            let old = k.2 (subst (λ j. is_on (Slot j) (mark s.memory b) ≡ true) slot q.2) in
            subst (λ q. GoalAt (next_at d S15 st.length a.index a.held q.0) q.1 s.trays) q.3
            (stores i b inside r a runs is e a.index a.held (a.index % st.length) q.0 q.1 (slot ∙ ap (λ y. y % st.length) old.0) (noted S15 e) old.0 k.1 (subst (λ y. Ready st.length st.base v d y tr) old.0 old.1))
        go (inr q) =
            subst (λ q. GoalAt (next_at d S15 st.length a.index a.held q.0) q.1 s.trays) q.2
            (go_to S15 e S5 a.held (marked s.memory b None q.0) (remarked K st h s b None q.0 q.1) refl refl (omega arith) tt tt)

    -- another call's slot store is counted on its behalf
    pub line13 : stage a.line ≡ S13 → {o : Operation E} {p : Reply E} {n : Meaning E} → Way K s.memory b o p n → o ≡ Store b (InIndex (own d) (wrap (a.index + 1))) → GoalAt (next_at d S13 st.length a.index a.held p) n s.trays
    line13 e w this_store = go (store_way w (InIndex (own d) (wrap (a.index + 1))) this_store)
      where
        k : Stands st.length st.base v d S13 r a.held (mark s.memory b) tr
        k = facts S13 e

        go : {p : Reply E} {n : Meaning E} → ((spare : ℕ) × (spare ≤ K) × (on_index d (mark s.memory b) ≡ true) × ◌≡◌ {A = Reply E × Meaning E} (Verdict Accepted, bumped i d a.index spare) (p, n)) ⊎ ((spare : ℕ) × (spare ≤ K) × ◌≡◌ {A = Reply E × Meaning E} (Verdict Refused, marked s.memory b None spare) (p, n)) → GoalAt (next_at d S13 st.length a.index a.held p) n s.trays
        go (inl q) =
            let old = k.1 q.2 in
            let here : a.index ≡ index s.memory (own d) = noted S13 e ∙ ap wrap old.0 ∙ sym (i.inner.wraps d) in
            let wt = single (wait v d) old.1 (one_waits d) in
            subst (λ q. GoalAt (next_at d S13 st.length a.index a.held q.0) q.1 s.trays) q.3
            (helps i b inside r a runs is e wt.0 q.0 q.1 here wt.1)
        go (inr q) =
            subst (λ q. GoalAt (next_at d S13 st.length a.index a.held q.0) q.1 s.trays) q.2
            (go_to S13 e S5 a.held (marked s.memory b None q.0) (remarked K st h s b None q.0 q.1) refl refl (omega arith) tt tt)

    -- the tray after line 9, by what the slot holds
    abbrev pub tray9 : Side → Option E → List E
    tray9 Putting c = s.trays
    tray9 Taking c = found s.trays b c

    -- line 9 marks the slot and notes what it holds; a take copies it
    pub line9 : stage a.line ≡ S9 → {o : Operation E} {p : Reply E} {n : Meaning E} → Way K s.memory b o p n → o ≡ Mark b (Slot (a.index % st.length)) → GoalAt (next_at d S9 st.length a.index a.held p) n (tray9 d (content_in p))
    line9 e w is-mark =
        let q = mark_way w (Slot (a.index % st.length)) is-mark in
        subst (λ q. GoalAt (next_at d S9 st.length a.index a.held q.0) q.1 (tray9 d (content_in q.0))) q.2
        (arrives q.0 q.1)
      where
        k : Stands st.length st.base v d S9 r a.held (mark s.memory b) tr
        k = facts S9 e

        seen : Option E
        seen = get_or s.memory.slots (a.index % st.length) None

        seen-is : seen ≡ content st.length st.base v at
        seen-is = ap (λ j. get_or s.memory.slots j None) (slot_is (noted S9 e))

        behind : outrun d (is_some seen) ≡ true → at ≡ count v d → Behind v d
        behind busy same = busy_behind d (subst (λ y. y < lim st.length st.base v d) same k.1) (ap (λ c. outrun d (is_some c)) (ap (content st.length st.base v) (sym same) ∙ sym seen-is) ∙ busy)

        -- what the trays hold then, and that the slot is as the side wants it unless it is busy
        trays_now : (o : Side) (c : Option E) → (length (tray9 o c) ≡ length s.trays) × ((x : ℕ) → (x ≡ b → ⊥) → slice_get (tray9 o c) x ≡ slice_get s.trays x)
        trays_now Putting c = (refl, λ x n. refl)
        trays_now Taking None = (refl, λ x n. refl)
        trays_now Taking (Some y) = (length-set s.trays b y, λ x n. nth_set_other s.trays b x y n)

        long : b < length s.trays
        long = omega (arith, i.inner.static.trays)

        tray_now : (o : Side) (c : Option E) → side_of r.request ≡ o → TrayOf r.request tr → TrayOf r.request (slice_get (tray9 o c) b)
        tray_now Putting c asks t = t
        tray_now Taking c asks t = go r.request c asks t
          where
            go : (q : Request E) (c : Option E) → side_of q ≡ Taking → TrayOf q tr → TrayOf q (slice_get (found s.trays b c) b)
            go (PutOf x) c asks t = cc
            go TakeOf None asks t = t
            go TakeOf (Some y) asks t = ap is_some (nth_set_same s.trays b y long)

        ready_now : (o : Side) (c : Option E) → content st.length st.base v at ≡ c → outrun o (is_some c) ≡ false → Ready st.length st.base v o at (slice_get (tray9 o c) b)
        ready_now Putting c same calm = same ∙ none_or_some c calm
        ready_now Taking None same calm = absurd (true≢false calm)
        ready_now Taking (Some y) same calm = same ∙ sym (nth_set_same s.trays b y long)

        arrives : (spare : ℕ) → spare ≤ K → GoalAt (To (line_at d S10) a.index (is_some seen)) (marked s.memory b (Some (Slot (a.index % st.length))) spare) (tray9 d seen)
        arrives spare low =
            goes i b inside r a runs is S10 a.index (is_some seen) r.read (marked s.memory b (Some (Slot (a.index % st.length))) spare) (tray9 d seen) (remarked K st h s b (Some (Slot (a.index % st.length))) spare low)
            (same_read 9 (ap number_at e) refl)
            (subst (λ y. (eqb (number_at y) 15 && eqb (number_at S10) 16) ≡ false) (sym e) refl)
            (subst (λ y. early_at S10 ≤ early_at y) (sym e) (omega arith))
            (trays_now d seen).0
            (trays_now d seen).1
            (noted S9 e)
            (tray_now d seen (stood i b inside r a runs is).asks (stood i b inside r a runs is).tray)
            (k.0, k.1, behind, λ calm on. ready_now d seen (sym seen-is) calm)
