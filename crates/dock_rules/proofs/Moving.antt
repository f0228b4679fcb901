-- A store in an index is accepted: the index moves, and the call that waited for it is placed. Assumes nothing.
use Rattle.std.proofs.Common.{◌≡◌, ℕ, suc, ◌+◌, ◌^◌, ◌<◌, ◌≤◌, List, [], ◌∷◌, ◌++◌, length, Some, Option, sym, refl, ap, ◌∙◌, subst, arith}
use Rattle.std.specs.List.{slice_get}
use Rattle.slot_memory.specs.declared.Cell.TheVariants.{At}
use Rattle.slot_memory.specs.Meaning.{Meaning, index, mark}
use Rattle.slot_memory.specs.Rules.{InIndex, written}
use Rattle.dock_rules.specs.declared.BayRecord.{BayRecord}
use Rattle.dock_rules.specs.Words.{Side, Putting, Taking}
use Rattle.dock_rules.specs.Lines.{wrap}
use Rattle.dock_rules.specs.Calls.{Call, Answer, record_of}
use Rattle.dock_rules.specs.History.{Moment, Request, PutOf, TakeOf, Running, place, event_of, ended_by, untouched_by, turned_by, stored_by, alterations, running}
use Rattle.dock_rules.specs.Law.{Each, plain, places}
use Rattle.dock_rules.specs.Runs.{Start, State, moment_of}
use Rattle.dock_rules.proofs.Sound.{own}
use Rattle.dock_rules.proofs.Wrap.{wrap_add}
use Rattle.dock_rules.proofs.Shared.{Shared, tail_moves, head_moves}
use Rattle.dock_rules.proofs.Knows.{View, count, wait, queue_of, Change}
use Rattle.dock_rules.proofs.Placing.{plain_put}
use Rattle.dock_rules.proofs.Changes.{Sharing, moving, tail_change, head_change}
use Rattle.dock_rules.proofs.Invariant.{early, early_by, side_of, Knows, view_of, words, weight, extent, Inv}
use Rattle.dock_rules.proofs.Bays.{About, written-mark, written-marks}
use Rattle.dock_rules.proofs.Moments.{same_index_lem, other_index, tail_view, head_view}
use Rattle.dock_rules.proofs.Finish.{Answered, Places, one_more}
use Rattle.dock_rules.proofs.Moves.{acted, Move}
use Rattle.dock_rules.proofs.Weights.{waits_weigh}

-- a request of the putting side is a put
pub asked_put : {E : Type 0} (q : Request E) → side_of q ≡ Putting → (e : E) × (q ≡ PutOf e)
asked_put (PutOf e) k = (e, refl)
asked_put TakeOf k = cc

-- a request of the taking side is a take
pub asked_take : {E : Type 0} (q : Request E) → side_of q ≡ Taking → q ≡ TakeOf
asked_take q k = grind arith

-- the index after a number that fits 32 bits is another number
next_differs : (x : ℕ) → x < 2 ^ 32 → wrap (x + 1) ≡ x → ⊥
next_differs x h e = omega arith

module _ {E : Type 0} {K : ℕ} {st : Start} {h : List (Moment E)} {s : State E} (i : Inv K st h s) where
  abbrev v : View E
  v = view_of st h s

  abbrev now : ℕ
  now = suc (length h)

  module _ (d : Side) (w : Running E) (one : wait v d ≡ w ∷ []) where
    -- the call that waits is of the side that it waits on
    asked : side_of w.request ≡ d
    asked = (subst (Each (λ x. side_of x.request ≡ d)) one (i.inner.asks d)).0

    -- and has no place yet, but may have one
    weighs : (places w.serial v.ps ≡ []) × (0 < weight st.bays v s w.serial)
    weighs = waits_weigh st v s i.inner.once d w one

  -- what the move does to the other bays' knowledge
  pub moving_change : (d : Side) (w : Running E) → wait v d ≡ w ∷ [] → Change st.length st.base now v (moving st.length st.base now d v w) (Some (At (own d)))
  moving_change Putting w one =
      let p = asked_put w.request (asked Putting w one) in
      tail_change st.length st.base now v w p.0 i.inner.shared one p.1 (weighs Putting w one).0
  moving_change Taking w one =
      head_change st.length st.base now v w i.inner.shared one (asked_take w.request (asked Taking w one)) (weighs Taking w one).0

  -- the ring and the plain queue still agree
  moving_shared : (d : Side) (w : Running E) → wait v d ≡ w ∷ [] → Sharing st.length st.base now (moving st.length st.base now d v w)
  moving_shared Putting w one =
      let q = queue_of st.length st.base v in
      let p = asked_put w.request (asked Putting w one) in
      let at_tail = subst (λ pt. Shared st.length v.H v.T v.slots pt v.takes q) one i.inner.shared in
      let grown : q ++ p.0 ∷ [] ≡ (plain st.length q w.request).1 =
      sym (ap (λ a. (plain st.length q a).1) p.1 ∙ ap (λ a. a.1) (plain_put st.length q p.0 (omega (arith, at_tail.room))))
      in
      subst (Shared st.length v.H (v.T + 1) v.slots [] v.takes) grown (tail_moves st.length v.H v.T v.slots w p.0 v.takes q p.1 at_tail)
  moving_shared Taking w one =
      let q = queue_of st.length st.base v in
      let at_head = subst (λ tk. Shared st.length v.H v.T v.slots v.puts tk q) one i.inner.shared in
      subst (λ a. Shared st.length (v.H + 1) v.T v.slots v.puts [] (plain st.length q a).1) (sym (asked_take w.request (asked Taking w one))) (go q at_head)
    where
      go : (q : List E) → Shared st.length v.H v.T v.slots v.puts (w ∷ []) q → Shared st.length (v.H + 1) v.T v.slots v.puts [] (plain st.length q TakeOf).1
      go [] sh = absurd (omega (arith, sh.first))
      go (x ∷ q) sh = head_moves st.length v.H v.T v.slots v.puts w x q sh

  -- the calls that wait are still each of their side
  moving_asks : (d : Side) (w : Running E) (o : Side) → Each (λ x. side_of x.request ≡ o) (wait (moving st.length st.base now d v w) o)
  moving_asks Putting w Putting = tt
  moving_asks Putting w Taking = i.inner.asks Taking
  moving_asks Taking w Putting = i.inner.asks Putting
  moving_asks Taking w Taking = tt

  -- the call waited once and is placed once
  moving_words : (d : Side) (w : Running E) → wait v d ≡ w ∷ [] → (x : ℕ) → words (moving st.length st.base now d v w) x ≡ words v x
  moving_words d w one x = grind arith

  -- and the count rises as the wait ends
  moving_extent : (d : Side) (w : Running E) → wait v d ≡ w ∷ [] → extent (moving st.length st.base now d v w) ≡ extent v
  moving_extent d w one = grind arith

  -- on either side the call that waited is the last that is placed
  pub moving_ps : (d : Side) (w : Running E) → (moving st.length st.base now d v w).ps ≡ place now w ∷ v.ps
  moving_ps d w = grind arith

  -- the memory with its index stored in
  abbrev pub bumped : Side → ℕ → ℕ → Meaning E
  bumped d x spare = written s.memory (InIndex (own d) (wrap (x + 1))) spare

  -- the stored index is the new count, wrapped; the other index stays
  bumped_wraps : (d : Side) (w : Running E) (x spare : ℕ) → x ≡ index s.memory (own d) → (o : Side) → index (bumped d x spare) (own o) ≡ wrap (count (moving st.length st.base now d v w) o)
  bumped_wraps Putting w x spare e Putting = ap (λ y. wrap (y + 1)) (e ∙ i.inner.wraps Putting) ∙ wrap_add v.T 1
  bumped_wraps Putting w x spare e Taking = i.inner.wraps Taking
  bumped_wraps Taking w x spare e Putting = i.inner.wraps Putting
  bumped_wraps Taking w x spare e Taking = ap (λ y. wrap (y + 1)) (e ∙ i.inner.wraps Taking) ∙ wrap_add v.H 1

  -- no slot changes
  bumped_slots : (d : Side) (x spare : ℕ) → (bumped d x spare).slots ≡ s.memory.slots
  bumped_slots d x spare = grind arith

  -- the view has the slots that it had
  moving_slots : (d : Side) (w : Running E) → (moving st.length st.base now d v w).slots ≡ v.slots
  moving_slots d w = grind arith

  -- the spare is as the memory chose
  bumped_spare : (d : Side) (x spare : ℕ) → (bumped d x spare).spare ≡ spare
  bumped_spare d x spare = grind arith

  -- an index fits 32 bits, since it is wrapped
  small : (d : Side) → index s.memory (own d) < 2 ^ 32
  small d = omega (arith, i.inner.wraps d)

  -- the view after the moment is the one with the index moved
  moving_view : (c : Call E) (an : Answer) (b : ℕ) (rec : BayRecord) (d : Side) (w : Running E) (x spare : ℕ) → x ≡ index s.memory (own d) → wait v d ≡ w ∷ [] → ((o : Side) → stored_by o (event_of c an) (running st.base h) ≡ []) → turned_by (event_of c an) (running st.base h) ≡ [] → view_of st (moment_of c an (acted K st h s b rec (bumped d x spare) s.trays) ∷ h) (acted K st h s b rec (bumped d x spare) s.trays) ≡ moving st.length st.base now d v w
  moving_view c an b rec Putting w x spare e one none turned =
      let t = acted K st h s b rec (bumped Putting x spare) s.trays in
      let m = moment_of c an t in
      tail_view st m h s t w refl one (record {
        tail = other_index st m h Putting (λ same. next_differs x (subst (λ y. y < 2 ^ 32) (sym e) (small Putting)) (same ∙ sym (i.indices Putting) ∙ sym e));
        head = same_index_lem st m h Taking (i.indices Taking);
        puts = none Putting;
        takes = none Taking;
        turned = turned;
      })
  moving_view c an b rec Taking w x spare e one none turned =
      let t = acted K st h s b rec (bumped Taking x spare) s.trays in
      let m = moment_of c an t in
      head_view st m h s t w refl one (record {
        tail = same_index_lem st m h Putting (i.indices Putting);
        head = other_index st m h Taking (λ same. next_differs x (subst (λ y. y < 2 ^ 32) (sym e) (small Taking)) (same ∙ sym (i.indices Taking) ∙ sym e));
        puts = none Putting;
        takes = none Taking;
        turned = turned;
      })

  -- bay b's store in the index of side d is accepted, and the call w waits there
  pub moving_move : (c : Call E) (an : Answer) (b : ℕ) (rec : BayRecord) (R : Option (Running E)) (d : Side) (w : Running E) (x spare : ℕ) → b < st.bays → spare ≤ K → x ≡ index s.memory (own d) → wait v d ≡ w ∷ [] → About b now (alterations st.base h) (running st.base h) (event_of c an) → running st.base (moment_of c an (acted K st h s b rec (bumped d x spare) s.trays) ∷ h) b ≡ R → Knows st.length st.base (moving st.length st.base now d v w) now R rec (mark (bumped d x spare) b) (slice_get s.trays b) → ((y : ℕ) → early_by y rec ≤ early_by y (record_of s.dock b)) → early rec ≤ early (record_of s.dock b) → ((o : Side) → stored_by o (event_of c an) (running st.base h) ≡ []) → turned_by (event_of c an) (running st.base h) ≡ [] → untouched_by (event_of c an) (running st.base h) ≡ [] → Each (Answered st.length (place now w ∷ v.ps)) (ended_by (event_of c an) now s.trays (running st.base h)) → Move K st h s b c an rec (bumped d x spare) s.trays (moving st.length st.base now d v w) (Some (At (own d))) R
  moving_move c an b rec R d w x spare inside low e one about run here lighter roomier none turned left answered =
      record {
        inside = inside;
        about = about;
        run = run;
        marks = written-marks s.memory (InIndex (own d) (wrap (x + 1))) spare ∙ i.inner.static.marks;
        slots = ap length (bumped_slots d x spare) ∙ i.inner.static.slots;
        spare = subst (λ y. y ≤ K) (sym (bumped_spare d x spare)) low;
        trays = i.inner.static.trays;
        wraps = bumped_wraps d w x spare e;
        same = moving_slots d w ∙ sym (bumped_slots d x spare);
        change = moving_change d w one;
        shared = moving_shared d w one;
        asks = moving_asks d w;
        other_marks = λ o n. written-mark s.memory (InIndex (own d) (wrap (x + 1))) spare o;
        other_trays = λ o n. refl;
        here = here;
        lighter = λ y. omega (arith, lighter y, moving_words d w one y);
        roomier = omega (arith, moving_extent d w one);
        view = moving_view c an b rec d w x spare e one none turned;
        placed = subst (Places st now v s) (sym (moving_ps d w)) (one_more w (weighs d w one).0 (weighs d w one).1);
        answered = subst (λ ps. Each (Answered st.length ps) (ended_by (event_of c an) now s.trays (running st.base h))) (sym (moving_ps d w)) answered;
        left = subst (Each _) (sym left) tt;
        puts = subst (Each (λ r. r.read ≡ alterations st.base h Putting)) (sym (none Putting)) tt;
        takes = subst (Each (λ r. r.read ≡ alterations st.base h Taking)) (sym (none Taking)) tt;
      }
