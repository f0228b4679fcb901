-- Line 13 moves the index on behalf of the call that waits, and starts over. Assumes nothing.
use Rattle.std.proofs.Common.{◌≡◌, ℕ, suc, ◌<◌, ◌≤◌, false, cond, ◌&&◌, eqb, List, [], ◌∷◌, length, Some, sym, refl, ap, ◌∙◌, subst, arith}
use Rattle.std.specs.List.{slice_get}
use Rattle.slot_memory.specs.Meaning.{index, mark}
use Rattle.dock_rules.specs.declared.Attempt.{Attempt}
use Rattle.dock_rules.specs.declared.BayRecord.TheVariants.{UnderWay}
use Rattle.dock_rules.specs.Words.{side, number}
use Rattle.dock_rules.specs.Calls.{Step, Stands as StandsAt, record_of}
use Rattle.dock_rules.specs.History.{Moment, Running, alterations, running}
use Rattle.dock_rules.specs.Runs.{Start, State, moment_of}
use Rattle.dock_rules.proofs.Sound.{own}
use Rattle.dock_rules.proofs.Stages.{early_at, S5, S13, stage, line_at, number_at}
use Rattle.dock_rules.proofs.Knows.{wait}
use Rattle.dock_rules.proofs.Changes.{moving}
use Rattle.dock_rules.proofs.Invariant.{view_of, Inv}
use Rattle.dock_rules.proofs.Moves.{acted, moved}
use Rattle.dock_rules.proofs.Moving.{bumped, moving_move}
use Rattle.dock_rules.proofs.Acting.{stood, attempt_at, arrived, number_of, no_store, lighter_at, roomier_at, stood_at, runs_to}

module _ {E : Type 0} {K : ℕ} {st : Start} {h : List (Moment E)} {s : State E} (i : Inv K st h s) (b : ℕ) (inside : b < st.bays) (r : Running E) (a : Attempt) (runs : running st.base h b ≡ Some r) (is : record_of s.dock b ≡ UnderWay a) (at13 : stage a.line ≡ S13) where
  -- the index moves for the call that waits, and the helper starts over at line 5
  pub helps : (w : Running E) (spare : ℕ) → spare ≤ K → a.index ≡ index s.memory (own (side a.line)) → wait (view_of st h s) (side a.line) ≡ w ∷ [] → Inv K st (moment_of (Step b) (StandsAt (line_at (side a.line) S5)) (acted K st h s b (UnderWay (attempt_at i b inside r a runs is S5 a.index a.held)) (bumped i (side a.line) a.index spare) s.trays) ∷ h) (acted K st h s b (UnderWay (attempt_at i b inside r a runs is S5 a.index a.held)) (bumped i (side a.line) a.index spare) s.trays)
  helps w spare low here one =
      let d = side a.line in
      let rec = UnderWay (attempt_at i b inside r a runs is S5 a.index a.held) in
      let le : early_at S5 ≤ early_at (stage a.line) = subst (λ y. early_at S5 ≤ early_at y) (sym at13) (omega arith) in
      let calm : (eqb (number_at (stage a.line)) 15 && eqb (number_at S5) 16) ≡ false = subst (λ y. (eqb (number_at y) 15 && eqb (number_at S5) 16) ≡ false) (sym at13) refl in
      moved K st h s b i
      (moving_move i (Step b) (StandsAt (line_at d S5)) b rec (Some (arrived i b inside r a runs is S5 r.read)) d w a.index spare inside low here one refl
      (runs_to i b inside r a runs is S5 r.read read)
      (stood_at i b inside r a runs is (moving st.length st.base (suc (length h)) d (view_of st h s) w) S5 a.index a.held r.read (mark (bumped i d a.index spare) b) (slice_get s.trays b) tt (stood i b inside r a runs is).tray tt)
      (lighter_at i b inside r a runs is S5 a.index a.held le)
      (roomier_at i b inside r a runs is S5 a.index a.held le)
      (no_store i b inside r a runs is S5 calm)
      refl
      refl
      tt)
    where
      read : cond (eqb (number r.line) 5) (alterations st.base h (side r.line)) r.read ≡ r.read
      read = ap (λ y. cond (eqb y 5) (alterations st.base h (side r.line)) r.read) (number_of i b inside r a runs is ∙ ap number_at at13)
