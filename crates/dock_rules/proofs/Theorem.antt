-- Every run is linearizable and keeps the progress bound. Assumes nothing.
use Rattle.std.proofs.Common.{◌≡◌, ℕ, ◌+◌, ◌<◌, List, length, Option, sym, ap, ◌∙◌, subst, arith}
use Rattle.std.specs.List.{slice_get}
use Rattle.slot_memory.specs.declared.Cell.{Cell}
use Rattle.slot_memory.specs.Meaning.{mark}
use Rattle.dock_rules.specs.declared.Attempt.{Attempt}
use Rattle.dock_rules.specs.declared.BayRecord.{BayRecord}
use Rattle.dock_rules.specs.declared.BayRecord.TheVariants.{UnderWay}
use Rattle.dock_rules.specs.Lines.{wrap}
use Rattle.dock_rules.specs.Words.{Side, Putting, Taking, side, number}
use Rattle.dock_rules.specs.Calls.{record_of}
use Rattle.dock_rules.specs.History.{Moment, Running, running, waiting}
use Rattle.dock_rules.specs.Runs.{Start, State, Reached, just_opened, one_more, EveryRun}
use Rattle.dock_rules.proofs.Sound.{Tied, Sound}
use Rattle.dock_rules.proofs.Stages.{Stage, S13, stage, number_at, number_is}
use Rattle.dock_rules.proofs.Knows.{View, Behind, Stands}
use Rattle.dock_rules.proofs.Invariant.{Noted, Knows, view_of, Inv}
use Rattle.dock_rules.proofs.Others.{runs_call}
use Rattle.dock_rules.proofs.Acting.{stood}
use Rattle.dock_rules.proofs.Granting.{calls_keep}
use Rattle.dock_rules.proofs.Opening.{opening_keeps}
use Rattle.dock_rules.proofs.Progress.{progress}

module _ {E : Type 0} where
  -- the invariant holds of every reached history and state
  pub reached_keeps : {K : ℕ} {st : Start} {h : List (Moment E)} {s : State E} → Reached K st h s → Inv K st h s
  reached_keeps {K} (just_opened w v n life base f fits long may e) = opening_keeps K w v n life base f fits long may e
  reached_keeps (one_more before c t k f a w handed may e) = calls_keep (reached_keeps before) c t k f a w handed may e

  -- the calls that run are tied to the records
  tied_from : (L base : ℕ) (v : View E) (now : ℕ) (run : Option (Running E)) (rec : BayRecord) (mk : Option Cell) (tr : Option E) → Knows L base v now run rec mk tr → Tied run rec
  tied_from L base v now run rec mk tr k = grind arith

-- only stage 13 has the number 13
at_13 : (g : Stage) → number_at g ≡ 13 → g ≡ S13
at_13 g e = grind arith

module _ {E : Type 0} {K : ℕ} {st : Start} {h : List (Moment E)} {s : State E} (i : Inv K st h s) where
  -- what a bay at line 13 knows
  at_line_13 : (b : ℕ) → b < st.bays → (a : Attempt) → record_of s.dock b ≡ UnderWay a → number a.line ≡ 13 → (r : Running E) × Stands st.length st.base (view_of st h s) (side a.line) S13 r a.held (mark s.memory b) (slice_get s.trays b) × (a.index ≡ wrap (st.base + r.read))
  at_line_13 b lt a is n =
      let p = runs_call i b a lt is in
      let k = stood i b lt p.0 a p.1 is in
      let g = at_13 (stage a.line) (sym (number_is a.line) ∙ n) in
      (p.0, subst (λ y. Stands st.length st.base (view_of st h s) (side a.line) y p.0 a.held (mark s.memory b) (slice_get s.trays b)) g k.stands, subst (λ y. Noted y (a.index ≡ wrap (st.base + p.0.read))) g k.index)

  -- a side is behind where the history has a call that waits
  behind_is : (d : Side) → Behind (view_of st h s) d → 0 < length (waiting st.base h d)
  behind_is d k = grind arith

  -- a reached state is sound for progress
  pub sound : Sound K st h s
  sound =
      let static = i.inner.static in
      record {
        few = static.few;
        bays = static.bays;
        opened = static.opened;
        records = static.records;
        marks = static.marks;
        slots = static.slots;
        some = static.some;
        spare = static.spare;
        one = elim [ Putting ↦ i.inner.shared.one_put | Taking ↦ i.inner.shared.one_take ];
        indices = i.indices;
        tied = λ b lt. tied_from st.length st.base (view_of st h s) (length h) (running st.base h b) (record_of s.dock b) (mark s.memory b) (slice_get s.trays b) (i.inner.knows b lt);
        behind = λ b lt a is n on. behind_is (side a.line) ((at_line_13 b lt a is n).1.1 on).1;
        still = λ b lt a is n on. let k = at_line_13 b lt a is n in k.2 ∙ ap wrap (k.1.1 on).0 ∙ sym (i.inner.wraps (side a.line));
      }

-- the run law
pub every_run : (E : Type 0) → EveryRun E
every_run E K st h s reached =
    record {
      linearizable = (reached_keeps reached).law;
      progress = progress K st (λ h s k. sound (reached_keeps k)) h s reached;
    }
