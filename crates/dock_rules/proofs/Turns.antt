-- One bay acts, and the others know what they knew. Assumes nothing.
use Rattle.std.proofs.Common.{◌≡◌, ℕ, suc, ◌+◌, ◌<◌, ◌≤◌, true, cond, leb, is_some, Some, None, Option, sym, ap, subst, inl, inr, arith}
use Rattle.std.specs.List.{slice_get}
use Rattle.std.proofs.lemmas.Bool.{cases_eq}
use Rattle.slot_memory.specs.declared.Cell.{Cell}
use Rattle.slot_memory.specs.Meaning.{index, mark}
use Rattle.dock_rules.specs.declared.BayRecord.{BayRecord}
use Rattle.dock_rules.specs.declared.BayRecord.TheVariants.{Free as Idle, UnderWay, Ended, Owed}
use Rattle.dock_rules.specs.Words.{Side, side}
use Rattle.dock_rules.specs.Lines.{wrap}
use Rattle.dock_rules.specs.Calls.{record_of}
use Rattle.dock_rules.specs.History.{Request, Running}
use Rattle.dock_rules.specs.Law.{Each}
use Rattle.dock_rules.specs.Runs.{Start, State}
use Rattle.dock_rules.proofs.Sound.{own}
use Rattle.dock_rules.proofs.Stages.{stage}
use Rattle.dock_rules.proofs.Sums.{sum_change}
use Rattle.dock_rules.proofs.Knows.{View, count, wait, Change, spared, frame}
use Rattle.dock_rules.proofs.Changes.{Sharing}
use Rattle.dock_rules.proofs.Invariant.{early, early_by, side_of, TrayOf, Knows, Static, words, weight, extent, Inner}

module _ {E : Type 0} (L base : ℕ) where
  -- a call under way has something in its tray
  pub has_tray : (q : Request E) (tr : Option E) → TrayOf q tr → is_some tr ≡ true
  has_tray q tr k = grind arith

  -- another bay's call goes on knowing what it knew
  pub known_still : {now : ℕ} {v u : View E} {kill : Option Cell} → Change L base (suc now) v u kill → (run : Option (Running E)) (rec : BayRecord) (mk : Option Cell) (tr : Option E) → Knows L base v now run rec mk tr → Knows L base u (suc now) run rec (spared kill mk) tr
  known_still c None Idle mk tr k = tt
  known_still c None (UnderWay a) mk tr k = k
  known_still c None (Ended s o) mk tr k = tt
  known_still c None (Owed s) mk tr k = tt
  known_still c (Some r) Idle mk tr k = k
  known_still {now} c (Some r) (UnderWay a) mk tr k =
      record {
        serial = k.serial;
        line = k.line;
        index = k.index;
        asks = k.asks;
        tray = k.tray;
        since = omega (arith, k.since);
        stands = frame L base c (side a.line) (stage a.line) r a.held mk tr (omega (arith, k.since)) (has_tray r.request tr k.tray) k.stands;
      }
  known_still c (Some r) (Ended s o) mk tr k = k
  known_still c (Some r) (Owed s) mk tr k = k

-- a bay that does not act, with the marks on one cell killed
pub record Bystands {E : Type 0} (kill : Option Cell) (s t : State E) (run run' : ℕ → Option (Running E)) (c : ℕ) : Type 0 where
  pub runs : run' c ≡ run c
  pub records : record_of t.dock c ≡ record_of s.dock c
  pub marks : mark t.memory c ≡ spared kill (mark s.memory c)
  pub trays : slice_get t.trays c ≡ slice_get s.trays c

-- bay b acts: what it knows then, and that it weighs no more than before
pub record Acts {E : Type 0} (K : ℕ) (st : Start) (v u : View E) (now : ℕ) (kill : Option Cell) (s t : State E) (run run' : ℕ → Option (Running E)) (b : ℕ) : Type 0 where
  pub inside : b < st.bays
  pub static : Static K st t
  pub started : t.dock.started ≡ s.dock.started
  pub wraps : (d : Side) → index t.memory (own d) ≡ wrap (count u d)
  pub same : u.slots ≡ t.memory.slots
  pub change : Change st.length st.base (suc now) v u kill
  pub shared : Sharing st.length st.base (suc now) u
  pub asks : (d : Side) → Each (λ w. side_of w.request ≡ d) (wait u d)
  pub others : (c : ℕ) → (c ≡ b → ⊥) → Bystands kill s t run run' c
  pub here : Knows st.length st.base u (suc now) (run' b) (record_of t.dock b) (mark t.memory b) (slice_get t.trays b)
  pub lighter : (x : ℕ) → early_by x (record_of t.dock b) + words u x ≤ early_by x (record_of s.dock b) + words v x
  pub roomier : early (record_of t.dock b) + extent u ≤ early (record_of s.dock b) + extent v

module _ {E : Type 0} {K : ℕ} {st : Start} {v u : View E} {now : ℕ} {kill : Option Cell} {s t : State E} {run run' : ℕ → Option (Running E)} {b : ℕ} (act : Acts K st v u now kill s t run run' b) where
  -- a bay that stands by goes on knowing
  others_know : Inner K st v now s run → (c : ℕ) → c < st.bays → (c ≡ b → ⊥) → Knows st.length st.base u (suc now) (run' c) (record_of t.dock c) (mark t.memory c) (slice_get t.trays c)
  others_know i c lt n =
      let o = act.others c n in
      let k = known_still st.length st.base act.change (run c) (record_of s.dock c) (mark s.memory c) (slice_get s.trays c) (i.knows c lt) in
      subst (λ x. Knows st.length st.base u (suc now) x (record_of t.dock c) (mark t.memory c) (slice_get t.trays c)) (sym o.runs)
      (subst (λ x. Knows st.length st.base u (suc now) (run c) x (mark t.memory c) (slice_get t.trays c)) (sym o.records)
      (subst (λ x. Knows st.length st.base u (suc now) (run c) (record_of s.dock c) x (slice_get t.trays c)) (sym o.marks)
      (subst (λ x. Knows st.length st.base u (suc now) (run c) (record_of s.dock c) (spared kill (mark s.memory c)) x) (sym o.trays) k)))

  -- only bay b's part of the weight changes, and what waits or is placed
  pub weighs : (x : ℕ) → weight st.bays u t x + (early_by x (record_of s.dock b) + words v x) ≡ weight st.bays v s x + (early_by x (record_of t.dock b) + words u x)
  weighs x =
      let same = sum_change st.bays b (λ c. early_by x (record_of t.dock c)) (λ c. early_by x (record_of s.dock c)) act.inside (λ c n. ap (early_by x) (act.others c n).records) in
      omega arith

  -- so no serial weighs more
  pub weighs_less : (x : ℕ) → weight st.bays u t x ≤ weight st.bays v s x
  weighs_less x = omega (arith, weighs x, act.lighter x)

  -- what holds within goes on
  pub goes_on : Inner K st v now s run → Inner K st u (suc now) t run'
  goes_on i =
      let same = sum_change st.bays b (λ c. early (record_of t.dock c)) (λ c. early (record_of s.dock c)) act.inside (λ c n. ap early (act.others c n).records) in
      record {
        static = act.static;
        wraps = act.wraps;
        same = act.same;
        shared = act.shared;
        asks = act.asks;
        knows = λ c lt. elim (cases_eq c b) [
          | inl e ↦ subst (λ x. Knows st.length st.base u (suc now) (run' x) (record_of t.dock x) (mark t.memory x) (slice_get t.trays x)) (sym e) act.here
          | inr n ↦ others_know i c lt n
        ];
        once = λ x. let w = weighs_less x in let o = i.once x in subst (λ k. weight st.bays u t x ≤ cond (leb x k) 1 0) (sym act.started) (omega arith);
        room = omega (arith, act.roomier, act.started, i.room);
      }
