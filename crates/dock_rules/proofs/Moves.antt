-- A call about one bay, put together: what it has to show so that the invariant goes on. Assumes nothing.
use Rattle.std.proofs.Common.{◌≡◌, ℕ, suc, ◌+◌, ◌<◌, ◌≤◌, leb, List, [], ◌∷◌, length, Option, sym, refl, ap, ◌∙◌, subst, arith, length-set}
use Rattle.std.specs.List.{slice_get}
use Rattle.slot_memory.specs.declared.Cell.{Cell}
use Rattle.slot_memory.specs.Meaning.{Meaning, index, mark}
use Rattle.dock_rules.specs.declared.BayRecord.{BayRecord}
use Rattle.dock_rules.specs.Words.{Side, Putting, Taking}
use Rattle.dock_rules.specs.Lines.{wrap}
use Rattle.dock_rules.specs.Calls.{Call, Answer, record_of, with_record}
use Rattle.dock_rules.specs.History.{Moment, Running, event_of, ended_by, untouched_by, alterations, running, stored}
use Rattle.dock_rules.specs.Law.{Each, places}
use Rattle.dock_rules.specs.Runs.{Start, State, moment_of}
use Rattle.dock_rules.proofs.Sound.{own}
use Rattle.dock_rules.proofs.Knows.{View, count, wait, Change, spared}
use Rattle.dock_rules.proofs.Changes.{Sharing}
use Rattle.dock_rules.proofs.Invariant.{early, early_by, side_of, Knows, Static, view_of, words, extent, Inv}
use Rattle.dock_rules.proofs.Turns.{Acts, weighs, weighs_less, goes_on}
use Rattle.dock_rules.proofs.Finish.{each_map, Answered, Places, finish}
use Rattle.dock_rules.proofs.Bays.{About, runs_other, record_other, record_own}
use Rattle.dock_rules.proofs.Weights.{at_most_one}

module _ {E : Type 0} (K : ℕ) (st : Start) (h : List (Moment E)) (s : State E) (b : ℕ) where
  -- the state with bay b's record, the memory and the trays anew
  abbrev pub acted : BayRecord → Meaning E → List E → State E
  acted rec mem trs = record { dock = with_record s.dock b rec; memory = mem; trays = trs }

  -- what a call about bay b has to show
  pub record Move (c : Call E) (an : Answer) (rec : BayRecord) (mem : Meaning E) (trs : List E) (u : View E) (kill : Option Cell) (R : Option (Running E)) : Type 0 where
    pub inside : b < st.bays
    pub about : About b (suc (length h)) (alterations st.base h) (running st.base h) (event_of c an)
    pub run : running st.base (moment_of c an (acted rec mem trs) ∷ h) b ≡ R
    pub marks : length mem.marks ≡ 16
    pub slots : length mem.slots ≡ st.length
    pub spare : mem.spare ≤ K
    pub trays : length trs ≡ st.bays
    pub wraps : (d : Side) → index mem (own d) ≡ wrap (count u d)
    pub same : u.slots ≡ mem.slots
    pub change : Change st.length st.base (suc (length h)) (view_of st h s) u kill
    pub shared : Sharing st.length st.base (suc (length h)) u
    pub asks : (d : Side) → Each (λ w. side_of w.request ≡ d) (wait u d)
    pub other_marks : (o : ℕ) → (o ≡ b → ⊥) → mark mem o ≡ spared kill (mark s.memory o)
    pub other_trays : (o : ℕ) → (o ≡ b → ⊥) → slice_get trs o ≡ slice_get s.trays o
    pub here : Knows st.length st.base u (suc (length h)) R rec (mark mem b) (slice_get trs b)
    pub lighter : (x : ℕ) → early_by x rec + words u x ≤ early_by x (record_of s.dock b) + words (view_of st h s) x
    pub roomier : early rec + extent u ≤ early (record_of s.dock b) + extent (view_of st h s)
    pub view : view_of st (moment_of c an (acted rec mem trs) ∷ h) (acted rec mem trs) ≡ u
    pub placed : Places st (suc (length h)) (view_of st h s) s u.ps
    pub answered : Each (Answered st.length u.ps) (ended_by (event_of c an) (suc (length h)) trs (running st.base h))
    pub left : Each (λ r. (r.serial ≤ s.dock.started) × (early_by r.serial rec + words u r.serial + 1 ≤ early_by r.serial (record_of s.dock b) + words (view_of st h s) r.serial) × (places r.serial u.ps ≡ [])) (untouched_by (event_of c an) (running st.base h))
    pub puts : Each (λ r. r.read ≡ alterations st.base h Putting) (stored st.base (moment_of c an (acted rec mem trs)) h Putting)
    pub takes : Each (λ r. r.read ≡ alterations st.base h Taking) (stored st.base (moment_of c an (acted rec mem trs)) h Taking)

  -- what no call changes is kept, since the lengths are
  static_after : (rec : BayRecord) (mem : Meaning E) (trs : List E) → Static K st s → length mem.marks ≡ 16 → length mem.slots ≡ st.length → mem.spare ≤ K → length trs ≡ st.bays → Static K st (acted rec mem trs)
  static_after rec mem trs k marks slots spare trays =
      record {
        few = k.few;
        some = k.some;
        short = k.short;
        divides = k.divides;
        opened = k.opened;
        bays = k.bays;
        life = k.life;
        started = k.started;
        records = length-set s.dock.records b rec ∙ k.records;
        marks = marks;
        slots = slots;
        trays = trays;
        spare = spare;
      }

  -- and so the invariant goes on: bay b acts, the others stand by
  pub moved : {c : Call E} {an : Answer} {rec : BayRecord} {mem : Meaning E} {trs : List E} {u : View E} {kill : Option Cell} {R : Option (Running E)} → Inv K st h s → Move c an rec mem trs u kill R → Inv K st (moment_of c an (acted rec mem trs) ∷ h) (acted rec mem trs)
  moved {c} {an} {rec} {mem} {trs} {u} {kill} {R} i k =
      let t = acted rec mem trs in
      let own_record = record_own s.dock b rec (omega (arith, k.inside, i.inner.static.few, i.inner.static.records)) in
      let act : Acts K st (view_of st h s) u (length h) kill s t (running st.base h) (running st.base (moment_of c an t ∷ h)) b = record {
        inside = k.inside;
        static = static_after rec mem trs i.inner.static k.marks k.slots k.spare k.trays;
        started = refl;
        wraps = k.wraps;
        same = k.same;
        change = k.change;
        shared = k.shared;
        asks = k.asks;
        others = λ o n. record {
          runs = runs_other b (suc (length h)) (alterations st.base h) (running st.base h) (event_of c an) o k.about n;
          records = record_other s.dock b rec o n;
          marks = k.other_marks o n;
          trays = k.other_trays o n;
        };
        here =
            subst (λ x. Knows st.length st.base u (suc (length h)) x (record_of t.dock b) (mark mem b) (slice_get trs b)) (sym k.run)
            (subst (λ x. Knows st.length st.base u (suc (length h)) R x (mark mem b) (slice_get trs b)) (sym own_record) k.here);
        lighter = λ x. subst (λ y. early_by x y + words u x ≤ early_by x (record_of s.dock b) + words (view_of st h s) x) (sym own_record) (k.lighter x);
        roomier = subst (λ y. early y + extent u ≤ early (record_of s.dock b) + extent (view_of st h s)) (sym own_record) k.roomier;
      }
      in
      finish i (moment_of c an t) t u (goes_on act i.inner) k.view (elim [ Putting ↦ refl | Taking ↦ refl ]) (omega arith) (λ x le. weighs_less act x) k.placed k.answered
      (each_map _ _ (untouched_by (event_of c an) (running st.base h)) (λ r l. (l.0, (let x = r.serial in let o = at_most_one (leb x s.dock.started) in omega (arith, weighs act x, i.inner.once x, l.1, ap (early_by x) own_record)), l.2)) k.left)
      k.puts
      k.takes
