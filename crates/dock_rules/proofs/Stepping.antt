-- A granted step, whatever its line. Assumes nothing.
use Rattle.std.proofs.Common.{◌≡◌, ℕ, ◌%◌, ◌<◌, cond, ◌&&◌, eqb, List, length, Some, Option, sym, refl, ap, ◌∙◌, subst, arith}
use Rattle.std.specs.List.{slice_get}
use Rattle.slot_memory.specs.Meaning.{Meaning}
use Rattle.slot_memory.specs.Rules.{Reply, Free, touched, May}
use Rattle.slot_memory.proofs.Ranges.{slot_known, index-known}
use Rattle.dock_rules.specs.declared.Attempt.{Attempt}
use Rattle.dock_rules.specs.declared.BayRecord.TheVariants.{UnderWay}
use Rattle.dock_rules.specs.Words.{Side, is_taking, side}
use Rattle.dock_rules.specs.Lines.{content_in, found, operation, next, trays_after}
use Rattle.dock_rules.specs.Calls.{record_of}
use Rattle.dock_rules.specs.History.{Moment, Running, running}
use Rattle.dock_rules.specs.Runs.{Start, State}
use Rattle.dock_rules.proofs.Sound.{own}
use Rattle.dock_rules.proofs.Wrap.{slot_in}
use Rattle.dock_rules.proofs.Stages.{Stage, S5, S6, S9, S10, S12, S13, S15, S16, S17, stage, number_at, number_is, operation_at, next_at, operation-is, next-is}
use Rattle.dock_rules.proofs.Invariant.{Inv}
use Rattle.dock_rules.proofs.Ways.{WayTo, InRange, way_of}
use Rattle.dock_rules.proofs.Steps.{GoalAt, tray9, line5, line6, line9, line10, line12, line13, line15, line16, line17}

module _ {E : Type 0} {K : ℕ} {st : Start} {h : List (Moment E)} {s : State E} (i : Inv K st h s) (b : ℕ) (inside : b < st.bays) (r : Running E) (a : Attempt) (runs : running st.base h b ≡ Some r) (is : record_of s.dock b ≡ UnderWay a) where
  abbrev d : Side
  d = side a.line

  abbrev tr : Option E
  tr = slice_get s.trays b

  -- the trays after a step: line 9 of a take may write one
  abbrev trays_at : Side → Stage → Reply E → List E
  trays_at o S5 p = s.trays
  trays_at o S6 p = s.trays
  trays_at o S9 p = tray9 i b inside r a runs is o (content_in p)
  trays_at o S10 p = s.trays
  trays_at o S12 p = s.trays
  trays_at o S13 p = s.trays
  trays_at o S15 p = s.trays
  trays_at o S16 p = s.trays
  trays_at o S17 p = s.trays

  -- by the stage, the step keeps the invariant
  step_at : (g : Stage) → stage a.line ≡ g → (x : Reply E × Meaning E) → WayTo K s.memory b (operation_at d g b st.length a.index tr) x → GoalAt i b inside r a runs is (next_at d g st.length a.index a.held x.0) x.1 (trays_at d g x.0)
  step_at S5 e x w = line5 i b inside r a runs is e w refl
  step_at S6 e x w = line6 i b inside r a runs is e w refl
  step_at S9 e x w = line9 i b inside r a runs is e w refl
  step_at S10 e x w = line10 i b inside r a runs is e w refl
  step_at S12 e x w = line12 i b inside r a runs is e w refl
  step_at S13 e x w = line13 i b inside r a runs is e w refl
  step_at S15 e x w = line15 i b inside r a runs is e w refl
  step_at S16 e x w = line16 i b inside r a runs is e w refl
  step_at S17 e x w = line17 i b inside r a runs is e w refl

  -- the bay's number is a mark's
  few : b < 16
  few = omega (arith, i.inner.static.few)

  -- the slot that a call means is in the memory
  slot_within : a.index % st.length < length s.memory.slots
  slot_within = subst (λ n. a.index % st.length < n) (sym i.inner.static.slots) (slot_in st.length a.index i.inner.static.some)

  -- so the operation of every stage is in range
  in_range : (g : Stage) → InRange s.memory b (operation_at d g b st.length a.index tr)
  in_range S5 = tt
  in_range S6 = tt
  in_range S9 = (refl, slot_known s.memory b few (a.index % st.length) slot_within)
  in_range S10 = tt
  in_range S12 = (refl, index-known s.memory b few (own d))
  in_range S13 = (refl, index-known s.memory b few (own d))
  in_range S15 = (refl, slot_known s.memory b few (a.index % st.length) slot_within)
  in_range S16 = (refl, index-known s.memory b few (own d))
  in_range S17 = (refl, index-known s.memory b few (own d))

  -- only a take at line 9 changes the trays
  copied : (o : Side) (g : Stage) (p : Reply E) → cond (is_taking o && eqb (number_at g) 9) (found s.trays b (content_in p)) s.trays ≡ trays_at o g p
  copied o g p = grind arith

  -- the step as its definition has it
  pub steps : (f : Free) → May K s.memory (operation a.line b (length s.memory.slots) a.index tr) f → (x : Reply E × Meaning E) → x ≡ touched s.memory (operation a.line b (length s.memory.slots) a.index tr) f → GoalAt i b inside r a runs is (next a.line (length s.memory.slots) a.index a.held x.0) x.1 (trays_after a.line s.trays b x.0)
  steps f may x e =
      let g = stage a.line in
      let long = i.inner.static.slots in
      let o : operation a.line b (length s.memory.slots) a.index tr ≡ operation_at d g b st.length a.index tr = operation-is a.line b (length s.memory.slots) a.index tr ∙ ap (λ l. operation_at d g b l a.index tr) long in
      let n : next a.line (length s.memory.slots) a.index a.held x.0 ≡ next_at d g st.length a.index a.held x.0 = next-is a.line (length s.memory.slots) a.index a.held x.0 ∙ ap (λ l. next_at d g l a.index a.held x.0) long in
      let t : trays_after a.line s.trays b x.0 ≡ trays_at d g x.0 = ap (λ y. cond (is_taking d && eqb y 9) (found s.trays b (content_in x.0)) s.trays) (number_is a.line) ∙ copied d g x.0 in
      let y = touched s.memory (operation_at d g b st.length a.index tr) f in
      let way = way_of K s.memory b f i.inner.static.spare (operation_at d g b st.length a.index tr) (in_range g) (subst (λ k. May K s.memory k f) o may) in
      let same : y ≡ x = sym (e ∙ ap (λ k. touched s.memory k f) o) in
      subst (λ k. GoalAt i b inside r a runs is k x.1 (trays_after a.line s.trays b x.0)) (sym n)
      (subst (λ k. GoalAt i b inside r a runs is (next_at d g st.length a.index a.held x.0) x.1 k) (sym t)
      (subst (λ k. GoalAt i b inside r a runs is (next_at d g st.length a.index a.held k.0) k.1 (trays_at d g k.0)) same (step_at g refl y way)))
