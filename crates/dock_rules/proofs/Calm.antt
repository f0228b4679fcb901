-- Calls that change nothing of what the bays share. Assumes nothing.
use Rattle.std.proofs.Common.{◌≡◌, ℕ, suc, ◌+◌, ◌<◌, ◌≤◌, List, [], ◌∷◌, length, None, Option, sym, refl, ap, ◌∙◌, subst, arith, length-set}
use Rattle.std.specs.List.{slice_get}
use Rattle.slot_memory.specs.declared.Cell.{Cell}
use Rattle.slot_memory.specs.Meaning.{Meaning, mark}
use Rattle.slot_memory.specs.Rules.{marked}
use Rattle.dock_rules.specs.declared.BayRecord.{BayRecord}
use Rattle.dock_rules.specs.Words.{Side, Putting, Taking}
use Rattle.dock_rules.specs.Calls.{Call, Answer, record_of}
use Rattle.dock_rules.specs.History.{Moment, Running, event_of, ended_by, untouched_by, turned_by, stored_by, alterations, running}
use Rattle.dock_rules.specs.Law.{Each, places}
use Rattle.dock_rules.specs.Runs.{Start, State, moment_of}
use Rattle.dock_rules.proofs.Knows.{View, Change}
use Rattle.dock_rules.proofs.Invariant.{early, early_by, Knows, view_of, words, Inv}
use Rattle.dock_rules.proofs.Bays.{About, marked_other}
use Rattle.dock_rules.proofs.Moments.{unaltered, calm_view}
use Rattle.dock_rules.proofs.Finish.{each_map, Answered, no_more}
use Rattle.dock_rules.proofs.Moves.{acted, Move}

-- nothing changes
pub no_change : {E : Type 0} (L base now : ℕ) (v : View E) → Change L base now v v None
no_change L base now v =
    record {
      counts = λ d. omega arith;
      lims = λ d. omega arith;
      moves = λ d k. refl;
      behind = λ d k same. k;
      ready = λ d i tr k rd. rd;
      stays = λ d tr some rd. refl;
      kept = λ d r tr since k. k;
    }

module _ {E : Type 0} (K : ℕ) (st : Start) (h : List (Moment E)) (s : State E) (b : ℕ) where
  -- a memory that differs in bay b's mark and the spare at most
  pub record Unshared (mem : Meaning E) : Type 0 where
    pub slots : mem.slots ≡ s.memory.slots
    pub tail : mem.tail ≡ s.memory.tail
    pub head : mem.head ≡ s.memory.head
    pub marks : length mem.marks ≡ length s.memory.marks
    pub spare : mem.spare ≤ K
    pub others : (o : ℕ) → (o ≡ b → ⊥) → mark mem o ≡ mark s.memory o

  -- the memory itself
  pub unchanged : s.memory.spare ≤ K → Unshared s.memory
  unchanged low = record { slots = refl; tail = refl; head = refl; marks = refl; spare = low; others = λ o n. refl }

  -- the memory with bay b's mark set or cleared
  pub remarked : (k : Option Cell) (spare : ℕ) → spare ≤ K → Unshared (marked s.memory b k spare)
  remarked k spare low =
      record { slots = refl; tail = refl; head = refl; marks = length-set s.memory.marks b k; spare = low; others = λ o n. marked_other s.memory b o k spare n }

  -- a call about bay b that leaves what the bays share: the view stays, so only bay b's part is to show
  pub calm_move : (c : Call E) (an : Answer) (rec : BayRecord) (mem : Meaning E) (trs : List E) (R : Option (Running E)) → Inv K st h s → b < st.bays → Unshared mem → About b (suc (length h)) (alterations st.base h) (running st.base h) (event_of c an) → running st.base (moment_of c an (acted K st h s b rec mem trs) ∷ h) b ≡ R → length trs ≡ length s.trays → ((o : ℕ) → (o ≡ b → ⊥) → slice_get trs o ≡ slice_get s.trays o) → Knows st.length st.base (view_of st h s) (suc (length h)) R rec (mark mem b) (slice_get trs b) → ((x : ℕ) → early_by x rec ≤ early_by x (record_of s.dock b)) → early rec ≤ early (record_of s.dock b) → ((d : Side) → stored_by d (event_of c an) (running st.base h) ≡ []) → turned_by (event_of c an) (running st.base h) ≡ [] → Each (Answered st.length (view_of st h s).ps) (ended_by (event_of c an) (suc (length h)) trs (running st.base h)) → Each (λ r. (r.serial ≤ s.dock.started) × (early_by r.serial rec + 1 ≤ early_by r.serial (record_of s.dock b)) × (places r.serial (view_of st h s).ps ≡ [])) (untouched_by (event_of c an) (running st.base h)) → Move K st h s b c an rec mem trs (view_of st h s) None R
  calm_move c an rec mem trs R i inside un about run long others here lighter roomier none turned answered left =
      let t = acted K st h s b rec mem trs in
      let m = moment_of c an t in
      let v = view_of st h s in
      let happens = unaltered st m h (un.tail ∙ i.indices Putting) (un.head ∙ i.indices Taking) (none Putting) (none Taking) turned in
      record {
        inside = inside;
        about = about;
        run = run;
        marks = un.marks ∙ i.inner.static.marks;
        slots = ap length un.slots ∙ i.inner.static.slots;
        spare = un.spare;
        trays = long ∙ i.inner.static.trays;
        wraps = elim [ Putting ↦ un.tail ∙ i.inner.wraps Putting | Taking ↦ un.head ∙ i.inner.wraps Taking ];
        same = sym un.slots;
        change = no_change st.length st.base (suc (length h)) v;
        shared = i.inner.shared;
        asks = i.inner.asks;
        other_marks = un.others;
        other_trays = others;
        here = here;
        lighter = λ x. omega (arith, lighter x);
        roomier = omega arith;
        view = calm_view st m h s t un.slots happens;
        placed = no_more;
        answered = answered;
        left = subst_each left;
        puts = subst (Each (λ r. r.read ≡ alterations st.base h Putting)) (sym (none Putting)) tt;
        takes = subst (Each (λ r. r.read ≡ alterations st.base h Taking)) (sym (none Taking)) tt;
      }
    where
      subst_each : Each (λ r. (r.serial ≤ s.dock.started) × (early_by r.serial rec + 1 ≤ early_by r.serial (record_of s.dock b)) × (places r.serial (view_of st h s).ps ≡ [])) (untouched_by (event_of c an) (running st.base h)) → Each (λ r. (r.serial ≤ s.dock.started) × (early_by r.serial rec + words (view_of st h s) r.serial + 1 ≤ early_by r.serial (record_of s.dock b) + words (view_of st h s) r.serial) × (places r.serial (view_of st h s).ps ≡ [])) (untouched_by (event_of c an) (running st.base h))
      subst_each k = each_map _ _ (untouched_by (event_of c an) (running st.base h)) (λ r l. (l.0, omega (arith, l.1), l.2)) k
