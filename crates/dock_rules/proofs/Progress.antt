-- Progress: each call of a run ends a call or lowers the potential by its step, so no long stretch goes
-- without an end. Assumes nothing.
use Rattle.std.proofs.Common.{◌≡◌, ℕ, ◌+◌, ◌<◌, Bool, true, false, not, eqb, leb, List, [], ◌∷◌, ◌++◌, set, IfSome, Some, None, Option, refl, ap, subst, inl, inr, arith}
use Rattle.std.specs.List.{slice_get}
use Rattle.std.proofs.lemmas.Bool.{both_ways, leb-false, cases_eq}
use Rattle.slot_memory.specs.declared.Cell.{Cell}
use Rattle.slot_memory.specs.Meaning.{Meaning, mark}
use Rattle.slot_memory.specs.Rules.{Free, May}
use Rattle.dock_rules.specs.declared.Refusal.{Refusal}
use Rattle.dock_rules.specs.declared.Outcome.{Outcome}
use Rattle.dock_rules.specs.declared.Attempt.{Attempt}
use Rattle.dock_rules.specs.declared.BayRecord.{BayRecord}
use Rattle.dock_rules.specs.declared.BayRecord.TheVariants.{Free as Idle, UnderWay, Ended, Owed}
use Rattle.dock_rules.specs.Words.{number, Side, Putting, Taking}
use Rattle.dock_rules.specs.Calls.{World, Book, Call, Open, Put, Take, Step, Collect, Abandon, Enter, Waive, Answer, record_of, attempt, outcome, is_free, owed_of, is_it, reasons, refusal, after_end, granted, answered, does, touches, attempted, step, collect, abandon, MayCall}
use Rattle.dock_rules.specs.History.{Moment, Event, Quiet, event, event_of, stored_by, running}
use Rattle.dock_rules.specs.Law.{Each, Progress, bound, is_step, is_end, steps_in, ends_in}
use Rattle.dock_rules.specs.Runs.{Start, State, handing, carried, moment_of, Reached, just_opened, one_more}
use Rattle.dock_rules.proofs.Sound.{Sound}
use Rattle.dock_rules.proofs.Reasons.{no_reason, refused_quiet}
use Rattle.dock_rules.proofs.Rank.{before, rank, potential, marked_same, potential_most, falls_by_nothing, falls_by_rank}
use Rattle.dock_rules.proofs.Falls.{Lowers, turn}

-- a record with an attempt is that of a call under way
under_way : (r : BayRecord) (a : Attempt) → attempt r ≡ Some a → r ≡ UnderWay a
under_way r a e = grind arith

-- a bay with no call under way, or with one at its first line: both have one rank
abbrev rests : BayRecord → Bool
rests Idle = true
rests (UnderWay a) = eqb (number a.line) 5
rests (Ended n o) = true
rests (Owed n) = true

-- what put and take find
free_rests : (r : BayRecord) → not (is_free r) ≡ false → rests r ≡ true
free_rests r e = grind arith

-- what enter and waive find
owed_rests : (r : BayRecord) (n : ℕ) → not (is_it n (owed_of r)) ≡ false → rests r ≡ true
owed_rests r n e = grind arith

-- what collect finds
ended_rests : (r : BayRecord) (o : Outcome) → outcome r ≡ Some o → rests r ≡ true
ended_rests r o e = grind arith

-- what collect leaves
after_rests : (n : ℕ) (o : Outcome) → rests (after_end n o) ≡ true
after_rests n o = grind arith

-- a bay at rest is before its slot store
rests_before : (r : BayRecord) → rests r ≡ true → before r ≡ 1
rests_before r e = grind arith

module _ {E : Type 0} where
  -- a bay at rest has rank 5, whatever its mark
  rests_rank : (m : Meaning E) (k : Option Cell) (r : BayRecord) → rests r ≡ true → rank m k r ≡ 5
  rests_rank m k r e = grind arith

-- one call after a reached history
module _ {E : Type 0} (K : ℕ) (st : Start) (h : List (Moment E)) (s : State E) (sound : Sound K st h s) where
  -- nothing happens
  stays : Lowers K st h s Quiet s.dock.records s.memory
  stays x e _ _ _ = omega (arith, falls_by_nothing st.base st.bays K x h s.dock.records s.memory (λ d. rw e))

  -- one bay's record changes, at rest before and after, and no step is made
  settles : (b : ℕ) (e : Event E) (r : BayRecord) → b < st.bays → rests (record_of s.dock b) ≡ true → rests r ≡ true → ((d : Side) → stored_by d e (running st.base h) ≡ []) → is_step e ≡ 0 → Lowers K st h s e (set s.dock.records b r) s.memory
  settles b e r here old new none calm x is _ _ _ =
      let m = s.memory in
      let q = record_of s.dock b in
      let more = falls_by_rank st.base st.bays K (is_step e) b m.spare x h s.dock.records r m (mark m b) here (omega (arith, sound.few, sound.records)) (omega (arith, sound.few, sound.marks)) (λ d. rw is (none d)) (omega (arith, rests_before q old, rests_before r new)) (omega (arith, rests_rank m (mark m b) q old, rests_rank m (mark m b) r new)) in
      rw (marked_same m b) at more

  module _ (t : List E) (k : Book E) (f : Free) where
    abbrev given : World E
    given = handing s t k

    -- what the call answers and leaves lowers the potential
    abbrev Done : Call E → Answer × World E → Type 0
    Done c p = Lowers K st h s (event_of c p.0) p.1.dock.records p.1.memory

    -- a bay that a granted call names is one of the run's
    within : (b : ℕ) → leb s.dock.bays b ≡ false → b < st.bays
    within b e = omega (arith, leb-false s.dock.bays b e, sound.bays)

    -- a step, by the call under way
    steps : (b : ℕ) (o : Option Attempt) → b < st.bays → attempt (record_of s.dock b) ≡ o → IfSome (attempted given b o) (λ p. May K s.memory p f) → Done (Step b) (step given b o f)
    steps b None here is may = stays
    steps b (Some a) here is may = (turn K st h s sound b here a (under_way _ a is) (slice_get t b) f may).lowers

    -- a collect, by the outcome
    collects : (b n : ℕ) (o : Option Outcome) → b < st.bays → outcome (record_of s.dock b) ≡ o → Done (Collect b n) (collect given b n o)
    collects b n None here is = stays
    collects b n (Some o) here is = settles b _ _ here (ended_rests _ o is) (after_rests n o) (λ d. refl) refl

    -- an abandon, by the call under way: it ends that
    abandons : (b n : ℕ) (o : Option Attempt) → Done (Abandon b n) (abandon given b n o)
    abandons b n None = stays
    abandons b n (Some a) = λ x is _ _ z. omega arith

    -- a call that no test turns down
    grants : (c : Call E) → Each (λ t. t.0 ≡ false) (reasons given c) → IfSome (touches given c) (λ p. May K s.memory p f) → Done c (granted given c f)
    grants (Open n life base) p may = absurd (both_ways _ p.0 sound.opened)
    grants (Put b x) p may = settles b _ _ (within b p.1.1.0) (free_rests _ p.1.1.1.0) refl (λ d. refl) refl
    grants (Take b) p may = settles b _ _ (within b p.1.0) (free_rests _ p.1.1.0) refl (λ d. refl) refl
    grants (Step b) p may = steps b (attempt (record_of s.dock b)) (within b p.1.1.0) refl may
    grants (Collect b n) p may = collects b n (outcome (record_of s.dock b)) (within b p.1.0) refl
    grants (Abandon b n) p may = abandons b n (attempt (record_of s.dock b))
    grants (Enter b n) p may = settles b _ _ (within b p.1.1.0) (owed_rests _ n p.1.1.1.0) refl (λ d. refl) refl
    grants (Waive b n) p may = settles b _ _ (within b p.1.0) (owed_rests _ n p.1.1.0) refl (λ d. refl) refl

    -- every call, turned down or not
    lowers : (c : Call E) → MayCall K given c f → Done c (does given c f)
    lowers c may = go (refusal given c) refl
      where
        go : (o : Option Refusal) → refusal given c ≡ o → Done c (answered given c f o)
        go None e = grants c (no_reason (reasons given c) e) (rw e at may)
        go (Some r) e = rw refused_quiet stays

-- a stretch with no end uses up the potential by its steps
uses_up : {E : Type 0} (K : ℕ) (st : Start) (h : List (Moment E)) (s : State E) → ((g : List (Moment E)) (o : State E) → Reached K st g o → Sound K st g o) → Reached K st h s → (stretch earlier : List (Moment E)) → h ≡ stretch ++ earlier → ends_in stretch ≡ 0 → steps_in stretch + potential st.base st.bays K h s.dock.records s.memory < bound st.bays K
uses_up {E} K st h s sounds r [] earlier e z =
    let sound = sounds h s r in
    omega (arith, potential_most st.base st.bays K h s.dock.records s.memory (omega (arith, sound.one Putting, sound.one Taking)) sound.spare)
uses_up {E} K st h s sounds (just_opened w v n life base f _ _ _ _) (m ∷ stretch) earlier e z = let never : ◌≡◌ {A = ℕ} 0 1 = cc in omega arith
uses_up {E} K st h s sounds (one_more {h = past} {s = was} r c t k f a w handed may is) (m ∷ stretch) earlier e z =
    let sound = sounds h s (one_more r c t k f a w handed may is) in
    let x = moment_of c a (carried was t w) in
    let it : x ≡ m = cc in
    let stopped : is_end (event x) ≡ is_end (event m) = ap (λ (y : Moment E). is_end (event y)) it in
    let stepped : is_step (event x) ≡ is_step (event m) = ap (λ (y : Moment E). is_step (event y)) it in
    let rest = uses_up K st past was sounds r stretch earlier (cc) (omega arith) in
    let one : Lowers K st past was (event_of c a) w.dock.records w.memory = rw is at (lowers K st past was (sounds past was r) t k f c may) in
    omega (arith, one x refl sound.spare sound.indices (omega arith))

-- what a reached history goes back to was reached
earlier_reached : {E : Type 0} (K : ℕ) (st : Start) (h : List (Moment E)) (s : State E) → Reached K st h s → (later earlier : List (Moment E)) → h ≡ later ++ earlier → (o : State E) × Reached K st earlier o
earlier_reached {E} K st h s r [] earlier e = (s, subst (λ (g : List (Moment E)). Reached K st g s) e r)
earlier_reached K st h s (just_opened w v n life base f _ _ _ _) (m ∷ later) earlier e = let never : ◌≡◌ {A = ℕ} 0 1 = cc in absurd (omega arith)
earlier_reached K st h s (one_more {h = past} {s = was} r c t k f a w _ _ _) (m ∷ later) earlier e = earlier_reached K st past was r later earlier (cc)

-- a stretch of as many steps as the bound holds an end
pub progress : {E : Type 0} (K : ℕ) (st : Start) → ((h : List (Moment E)) (s : State E) → Reached K st h s → Sound K st h s) → (h : List (Moment E)) (s : State E) → Reached K st h s → Progress st.bays K h
progress K st sounds h s r later stretch earlier e many =
    let (o, q) = earlier_reached K st h s r later (stretch ++ earlier) e in
    elim (cases_eq (ends_in stretch) 0) [
      | inl none ↦ omega (arith, uses_up K st (stretch ++ earlier) o sounds q stretch earlier refl none)
      | inr some ↦ omega arith
    ]
