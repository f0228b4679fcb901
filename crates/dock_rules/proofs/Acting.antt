-- A step of one bay that changes nothing of what the bays share: the call goes to another line. Assumes nothing.
use Rattle.std.proofs.Common.{◌≡◌, ℕ, suc, ◌+◌, ◌<◌, ◌≤◌, Bool, false, cond, ◌&&◌, eqb, ltb, List, [], ◌∷◌, length, Some, Option, sym, refl, ap, ◌∙◌, subst, arith}
use Rattle.std.specs.List.{slice_get}
use Rattle.std.proofs.lemmas.Bool.{cond-false, and_right}
use Rattle.slot_memory.specs.declared.Cell.{Cell}
use Rattle.slot_memory.specs.Meaning.{Meaning, mark}
use Rattle.dock_rules.specs.declared.Attempt.{Attempt}
use Rattle.dock_rules.specs.declared.BayRecord.TheVariants.{UnderWay}
use Rattle.dock_rules.specs.Words.{Side, side, number}
use Rattle.dock_rules.specs.Lines.{wrap}
use Rattle.dock_rules.specs.Calls.{Step, Stands as StandsAt, record_of}
use Rattle.dock_rules.specs.History.{Moment, Running, Goes, when, is_store, same_side, stored_by, alterations, running}
use Rattle.dock_rules.specs.Runs.{Start, State, moment_of}
use Rattle.dock_rules.proofs.Stages.{early_at, Stage, stage, line_at, number_at, side_at, stage_at, number_is}
use Rattle.dock_rules.proofs.Knows.{View, Stands}
use Rattle.dock_rules.proofs.Invariant.{Noted, early, early_by, TrayOf, Stood, Knows, view_of, Inv}
use Rattle.dock_rules.proofs.Bays.{goes_own}
use Rattle.dock_rules.proofs.Moves.{acted, moved}
use Rattle.dock_rules.proofs.Calm.{Unshared, calm_move}

-- the line of a side and a stage has the stage's number
pub number_at_lem : (d : Side) (g : Stage) → number (line_at d g) ≡ number_at g
number_at_lem d g = number_is (line_at d g) ∙ ap number_at (stage_at d g)

module _ {E : Type 0} {K : ℕ} {st : Start} {h : List (Moment E)} {s : State E} (i : Inv K st h s) (b : ℕ) (inside : b < st.bays) (r : Running E) (a : Attempt) (runs : running st.base h b ≡ Some r) (is : record_of s.dock b ≡ UnderWay a) where
  -- what the invariant says of the call under way in bay b
  pub stood : Stood st.length st.base (view_of st h s) (length h) r a (mark s.memory b) (slice_get s.trays b)
  stood =
      subst (λ x. Knows st.length st.base (view_of st h s) (length h) (Some r) x (mark s.memory b) (slice_get s.trays b)) is
      (subst (λ x. Knows st.length st.base (view_of st h s) (length h) x (record_of s.dock b) (mark s.memory b) (slice_get s.trays b)) runs (i.inner.knows b inside))

  -- the call, arrived at another line, with the count at which it read its index
  abbrev pub arrived : Stage → ℕ → Running E
  arrived g x = record { serial = r.serial; since = r.since; request = r.request; line = line_at (side a.line) g; read = x }

  -- the bay's own note of the call, arrived there
  abbrev pub attempt_at : Stage → ℕ → Bool → Attempt
  attempt_at g x held = record { serial = a.serial; line = line_at (side a.line) g; index = x; held = held }

  -- the history and the bay's record agree on the call's line
  pub number_of : number r.line ≡ number_at (stage a.line)
  number_of = ap number stood.line ∙ number_is a.line

  -- where no slot store is accepted, none is told
  pub no_store : (g : Stage) → (eqb (number_at (stage a.line)) 15 && eqb (number_at g) 16) ≡ false → (d : Side) → stored_by d (Goes b (line_at (side a.line) g)) (running st.base h) ≡ []
  no_store g e d =
      let l = line_at (side a.line) g in
      ap (when (is_store d l)) runs
      ∙ cond-false (is_store d l r) (r ∷ []) [] (and_right (same_side (side r.line) d) _ ((λ j. eqb (number_of j) 15 && eqb (number_at_lem (side a.line) g j) 16) ∙ e))

  -- a call that does not go back before its slot store weighs no more, by its serial
  pub lighter_at : (g : Stage) (x : ℕ) (held : Bool) → early_at g ≤ early_at (stage a.line) → (y : ℕ) → early_by y (UnderWay (attempt_at g x held)) ≤ early_by y (record_of s.dock b)
  lighter_at g x held le y =
      subst (λ z. early_by y (UnderWay (attempt_at g x held)) ≤ early_by y z) (sym is)
      (subst (λ n. cond (eqb a.serial y) (cond (ltb n 16) 1 0) 0 ≤ cond (eqb a.serial y) (cond (ltb (number a.line) 16) 1 0) 0) (sym (number_at_lem (side a.line) g))
      (subst (λ n. cond (eqb a.serial y) (early_at g) 0 ≤ cond (eqb a.serial y) (cond (ltb n 16) 1 0) 0) (sym (number_is a.line)) (both (eqb a.serial y))))
    where
      both : (t : Bool) → cond t (early_at g) 0 ≤ cond t (early_at (stage a.line)) 0
      both t = grind arith

  -- nor does it take more room
  pub roomier_at : (g : Stage) (x : ℕ) (held : Bool) → early_at g ≤ early_at (stage a.line) → early (UnderWay (attempt_at g x held)) ≤ early (record_of s.dock b)
  roomier_at g x held le =
      subst (λ z. early (UnderWay (attempt_at g x held)) ≤ early z) (sym is)
      (subst (λ n. cond (ltb n 16) 1 0 ≤ early (UnderWay a)) (sym (number_at_lem (side a.line) g))
      (subst (λ n. early_at g ≤ cond (ltb n 16) 1 0) (sym (number_is a.line)) le))

  -- what the bay knows at the line that it arrives at, in terms of its side
  pub stood_at : (v : View E) (g : Stage) (x : ℕ) (held : Bool) (c : ℕ) (mk : Option Cell) (tr : Option E) → Noted g (x ≡ wrap (st.base + c)) → TrayOf r.request tr → Stands st.length st.base v (side a.line) g (arrived g c) held mk tr → Stood st.length st.base v (suc (length h)) (arrived g c) (attempt_at g x held) mk tr
  stood_at v g x held c mk tr noted tray stands =
      record {
        serial = stood.serial;
        line = refl;
        index = subst (λ y. Noted y (x ≡ wrap (st.base + c))) (sym (stage_at (side a.line) g)) noted;
        asks = stood.asks ∙ sym (side_at (side a.line) g);
        tray = tray;
        since = omega (arith, stood.since);
        stands =
            subst (λ y. Stands st.length st.base v y (stage (line_at (side a.line) g)) (arrived g c) held mk tr) (sym (side_at (side a.line) g))
            (subst (λ y. Stands st.length st.base v (side a.line) y (arrived g c) held mk tr) (sym (stage_at (side a.line) g)) stands);
      }

  -- the call that runs in bay b after it goes to that stage
  pub runs_to : (g : Stage) (c : ℕ) → cond (eqb (number r.line) 5) (alterations st.base h (side r.line)) r.read ≡ c → running st.base (moment_of (Step b) (StandsAt (line_at (side a.line) g)) s ∷ h) b ≡ Some (arrived g c)
  runs_to g c e =
      goes_own b (suc (length h)) (alterations st.base h) (running st.base h) (line_at (side a.line) g) r runs
      ∙ ap (λ x. Some (arrived g x)) e

  -- the call goes to a line, and nothing that the bays share changes
  pub goes : (g : Stage) (x : ℕ) (held : Bool) (c : ℕ) (mem : Meaning E) (trs : List E) → Unshared K st h s b mem → cond (eqb (number r.line) 5) (alterations st.base h (side r.line)) r.read ≡ c → (eqb (number_at (stage a.line)) 15 && eqb (number_at g) 16) ≡ false → early_at g ≤ early_at (stage a.line) → length trs ≡ length s.trays → ((o : ℕ) → (o ≡ b → ⊥) → slice_get trs o ≡ slice_get s.trays o) → Noted g (x ≡ wrap (st.base + c)) → TrayOf r.request (slice_get trs b) → Stands st.length st.base (view_of st h s) (side a.line) g (arrived g c) held (mark mem b) (slice_get trs b) → Inv K st (moment_of (Step b) (StandsAt (line_at (side a.line) g)) (acted K st h s b (UnderWay (attempt_at g x held)) mem trs) ∷ h) (acted K st h s b (UnderWay (attempt_at g x held)) mem trs)
  goes g x held c mem trs un read calm le long others noted tray stands =
      moved K st h s b i
      (calm_move K st h s b (Step b) (StandsAt (line_at (side a.line) g)) (UnderWay (attempt_at g x held)) mem trs (Some (arrived g c)) i inside un refl (runs_to g c read) long others
      (stood_at (view_of st h s) g x held c (mark mem b) (slice_get trs b) noted tray stands)
      (lighter_at g x held le)
      (roomier_at g x held le)
      (no_store g calm)
      refl
      tt
      tt)
