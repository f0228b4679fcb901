-- One granted step of a call, by its stage: it ends the call, or the potential falls. Assumes nothing.
use Rattle.std.proofs.Common.{◌≡◌, ℕ, ◌+◌, ◌*◌, ◌%◌, ◌<◌, ◌≤◌, Bool, true, false, cond, not, ◌&&◌, eqb, List, [], ◌∷◌, length, set, is_some, Some, None, Option, refl, subst, mod-lt, arith}
use Rattle.std.proofs.lemmas.Bool.{not_from_false, ne_eqb, cond-false, and_right}
use Rattle.std.proofs.lemmas.Bool.Decides.{when_true, nat_tests}
use Rattle.slot_memory.proofs.Ranges.{slot_known, index-known}
use Rattle.slot_memory.specs.declared.Cell.{Cell}
use Rattle.slot_memory.specs.declared.Cell.TheVariants.{Slot, At}
use Rattle.slot_memory.specs.declared.Index.{Index}
use Rattle.slot_memory.specs.declared.Stored.TheVariants.{Accepted, Refused}
use Rattle.slot_memory.specs.Meaning.{Meaning, index, known, live, mark}
use Rattle.slot_memory.specs.Rules.{Write, InSlot, InIndex, Operation, Mark, Store, Reply, Verdict, Free, target, reading, marked, written, touched, May, MayStore}
use Rattle.dock_rules.specs.declared.Attempt.{Attempt}
use Rattle.dock_rules.specs.declared.BayRecord.{BayRecord}
use Rattle.dock_rules.specs.declared.BayRecord.TheVariants.{UnderWay}
use Rattle.dock_rules.specs.declared.Outcome.{Outcome}
use Rattle.dock_rules.specs.Words.{Side, side, number}
use Rattle.dock_rules.specs.Lines.{wrap, operation, next, Next, To, Ends, content_in}
use Rattle.dock_rules.specs.Calls.{record_of, answer_of, record_after}
use Rattle.dock_rules.specs.History.{Moment, Running, Event, Goes, event, stepping, same_side, altered, is_store, when, index_in, running, stored}
use Rattle.dock_rules.specs.Law.{is_step, is_end}
use Rattle.dock_rules.specs.Runs.{Start, State}
use Rattle.dock_rules.proofs.Sound.{own, Tied, Sound}
use Rattle.dock_rules.proofs.Stages.{early_at, Stage, S5, S6, S9, S10, S12, S13, S15, S16, S17, number_at, line_at, stage, side_at, stage_at, number_is, operation-is, next-is, operation_at, next_at, outrun, left_in}
use Rattle.dock_rules.proofs.Rank.{rank_of, waits, waits_rise, waits_fall, potential, marked_same, falls_by_rank, falls_by_budget}

-- an index holds what was written in it
index-written : {E : Type 0} (m : Meaning E) (i : Index) (v sp : ℕ) → index (written m (InIndex i v) sp) i ≡ v
index-written m i v sp = grind arith

-- what the spare loses by a live store refused pays for a rise of up to 6
spare_pays : (on : Bool) (sp spare rise : ℕ) → rise ≤ 6 → sp + cond on 1 0 ≤ spare → 6 * sp + rise ≤ 6 * spare + cond on 0 rise
spare_pays on sp spare rise l less = grind arith

-- a call that stays before its slot store, or past it, makes none
none_made : (g next : Stage) → early_at next ≡ early_at g → (eqb (number_at g) 15 && eqb (number_at next) 16) ≡ false
none_made g next same = grind arith

module _ {E : Type 0} (K : ℕ) (m : Meaning E) (b : ℕ) (f : Free) (G : Reply E × Meaning E → Type 0) where
  -- what holds after a mark: the spare does not rise
  mark_way : (c : Cell) → known m b c ≡ true → May K m (Mark b c) f → ((sp : ℕ) → sp ≤ m.spare → G (reading m c, marked m b (Some c) sp)) → G (touched m (Mark b c) f)
  mark_way c here may g = rw here (g f.spare (when_true _ _ here may))

  -- what holds after a store: it was live and is accepted, or it is refused, and the spare falls if it was live
  store_way : (w : Write E) → known m b (target w) ≡ true → May K m (Store b w) f → (live m b (target w) ≡ true → G (Verdict Accepted, written m w f.spare)) → ((sp : ℕ) → sp + cond (live m b (target w)) 1 0 ≤ m.spare → G (Verdict Refused, marked m b None sp)) → G (touched m (Store b w) f)
  store_way w here may accepted refused = rw here (go (live m b (target w)) f.refuse refl refl (when_true _ _ here may))
    where
      go : (on denied : Bool) → live m b (target w) ≡ on → f.refuse ≡ denied → MayStore K m (live m b (target w)) f → G (cond (on && not denied) (Verdict Accepted, written m w f.spare) (Verdict Refused, marked m b None f.spare))
      go true true e r may = let less : f.spare < m.spare = when_true _ _ r (rw e at may) in refused f.spare (rw e (omega arith))
      go true false e r may = accepted e
      go false denied e r may = let same : f.spare ≤ m.spare = rw e at may in refused f.spare (rw e (omega arith))

-- a moment of this event leaves these records and this memory: it ends a call, or lowers the potential by its step
module _ {E : Type 0} (K : ℕ) (st : Start) (h : List (Moment E)) (s : State E) where
  abbrev pub Lowers : Event E → List BayRecord → Meaning E → Type 0
  Lowers e rs m =
      (x : Moment E)
      → event x ≡ e
      → m.spare ≤ K
      → ((d : Side) → index m (own d) ≡ index_in st.base (x ∷ h) d)
      → is_end e ≡ 0
      → is_step e + potential st.base st.bays K (x ∷ h) rs m ≤ potential st.base st.bays K h s.dock.records s.memory

-- a step of the call under way in a bay
module _ {E : Type 0} (K : ℕ) (st : Start) (h : List (Moment E)) (s : State E) (sound : Sound K st h s) (b : ℕ) (here : b < st.bays) (a : Attempt) (is : record_of s.dock b ≡ UnderWay a) where
  abbrev mine : Side
  mine = side a.line

  abbrev now : Meaning E
  now = s.memory

  -- the slot that the call means, and the index of its side
  abbrev slot : Cell
  slot = Slot (a.index % length now.slots)

  abbrev tip : Cell
  tip = At (own mine)

  -- the step goes there and leaves this memory
  pub record Turn (n : Next) (m : Meaning E) : Type 0 where
    pub lowers : Lowers K st h s (stepping b (answer_of n)) (set s.dock.records b (record_after a.serial n)) m

  -- a step tells of no slot store, unless the call passes from before it to past it
  none-stored : (x : Moment E) (next : Stage) → event x ≡ Goes b (line_at mine next) → early_at next ≡ early_at (stage a.line) → (d : Side) → stored st.base x h d ≡ []
  none-stored x next e same d = rw e (go (running st.base h b) (rw is at (sound.tied b here)))
    where
      go : (o : Option (Running E)) → Tied o (UnderWay a) → when (is_store d (line_at mine next)) o ≡ []
      go None t = refl
      go (Some r) t = cond-false _ (r ∷ []) [] (and_right (same_side (side r.line) d) _ (simp (t.1, number_is, stage_at) (none_made (stage a.line) next same)))

  -- to another stage on the same side of the slot store, with a new mark and a new spare
  onward : (g next : Stage) (i : ℕ) (held : Bool) (k : Option Cell) (sp : ℕ) → stage a.line ≡ g → early_at next ≡ early_at g → 1 + (6 * sp + rank_of now k mine next i held) ≤ 6 * now.spare + rank_of now (mark now b) mine g a.index a.held → Turn (To (line_at mine next) i held) (marked now b k sp)
  onward g next i held k sp stood same less =
      record {
        lowers = λ x e _ _ _.
            falls_by_rank st.base st.bays K 1 b sp x h s.dock.records _ now k here
            (omega (arith, sound.few, sound.records))
            (omega (arith, sound.few, sound.marks))
            (none-stored x next e (rw stood same))
            (simp (is, stage_at, stood) same)
            (simp (is, side_at, stage_at, stood) less);
      }

  -- to another stage, over the memory as it is
  reads_on : (g next : Stage) (i : ℕ) (held : Bool) → stage a.line ≡ g → early_at next ≡ early_at g → rank_of now (mark now b) mine next i held < rank_of now (mark now b) mine g a.index a.held → Turn (To (line_at mine next) i held) now
  reads_on g next i held stood same less =
      subst (Turn (To (line_at mine next) i held)) (marked_same now b) (onward g next i held (mark now b) now.spare stood same (omega arith))

  -- to the call's end
  ends : (o : Outcome) (m : Meaning E) → Turn (Ends o) m
  ends o m = record { lowers = λ x e _ _ z. omega arith }

  -- by a test
  branch : {m : Meaning E} {x y : Next} (t : Bool) → (t ≡ true → Turn x m) → (t ≡ false → Turn y m) → Turn (cond t x y) m
  branch true p q = p refl
  branch false p q = q refl

  -- by an accepted store that lowers the budget
  spends : (g next : Stage) (m : Meaning E) → stage a.line ≡ g → ((x : Moment E) → event x ≡ Goes b (line_at mine next) → ((d : Side) → index m (own d) ≡ index_in st.base (x ∷ h) d) → 2 * early_at next + waits st.base (x ∷ h) < 2 * early_at g + waits st.base h) → Turn (To (line_at mine next) a.index a.held) m
  spends g next m stood less =
      record {
        lowers = λ x e fits indices _.
            falls_by_budget st.base st.bays K b x h s.dock.records _ now m here
            (omega (arith, sound.few, sound.records))
            fits
            (simp (is, stage_at, stood) (less x e indices));
      }

  -- line 13's accepted store: the index is altered, and a call that waited waits no more
  helps : stage a.line ≡ S13 → live now b tip ≡ true → (sp : ℕ) → Turn (To (line_at mine S5) a.index a.held) (written now (InIndex (own mine) (wrap (a.index + 1))) sp)
  helps stood on sp = spends S13 S5 _ stood (λ x e indices. let f = waits_fall st.base x h mine (none-stored x S5 e (rw stood)) (moved x (indices mine)) (sound.behind b here a is at13 on) in omega arith)
    where
      at13 : number a.line ≡ 13
      at13 = rw (number_is, stood)

      moved : (x : Moment E) → index (written now (InIndex (own mine) (wrap (a.index + 1))) sp) (own mine) ≡ index_in st.base (x ∷ h) mine → altered st.base x h mine ≡ true
      moved x e = not_from_false _ (ne_eqb _ _ (λ same. omega (arith, same, e, index-written now (own mine) (wrap (a.index + 1)) sp, sound.still b here a is at13 on, sound.indices mine)))

  -- line 15's accepted store: the call has made its slot store, and waits
  stores : stage a.line ≡ S15 → (m : Meaning E) → Turn (To (line_at mine S16) a.index a.held) m
  stores stood m = spends S15 S16 m stood (λ x e _. omega (arith, waits_rise st.base x h))

  -- both are cells of the memory
  slot_known_here : known now b slot ≡ true
  slot_known_here = slot_known now b (omega (arith, sound.few)) (a.index % length now.slots) (mod-lt a.index (omega (arith, sound.slots, sound.some)))

  -- the index of its side is a cell of the memory
  tip_known_here : known now b tip ≡ true
  tip_known_here = index-known now b (omega (arith, sound.few)) (own mine)

  -- the call's index is what the memory has
  abbrev fresh : Bool
  fresh = eqb (index now (own mine)) a.index

  -- the operation of a stage, and the step after its reply
  abbrev operation_from : Stage → Option E → Operation E
  operation_from g e = operation_at mine g b (length now.slots) a.index e

  -- the step goes as the stage says after that reply
  abbrev After : Stage → Reply E × Meaning E → Type 0
  After g t = Turn (next_at mine g (length now.slots) a.index a.held t.0) t.1

  -- each stage's step ends the call or lowers the potential
  turn_at : (g : Stage) → stage a.line ≡ g → (e : Option E) (f : Free) → May K now (operation_from g e) f → After g (touched now (operation_from g e) f)
  turn_at S5 stood e f may = reads_on S5 S6 (index now (own mine)) a.held stood refl (grind (arith, nat_tests))
  turn_at S6 stood e f may = branch _ (λ _. ends _ now) (λ _. reads_on S6 S9 a.index a.held stood refl (grind (arith, nat_tests)))
  turn_at S9 stood e f may =
      mark_way K now b f (After S9) slot slot_known_here may (λ sp l. onward S9 S10 a.index (is_some (content_in (reading now slot))) (Some slot) sp stood refl (grind (arith, nat_tests)))
  turn_at S10 stood e f may =
      branch fresh (
      λ t. branch (outrun mine a.held)
      (λ o. reads_on S10 S12 a.index a.held stood refl (grind (arith, nat_tests)))
      (λ o. reads_on S10 S15 a.index a.held stood refl (grind (arith, nat_tests)))
      ) (λ t. reads_on S10 S5 a.index a.held stood refl (grind (arith, nat_tests)))
  turn_at S12 stood e f may =
      mark_way K now b f (After S12) tip tip_known_here may (
      λ sp l. branch fresh
      (λ t. onward S12 S13 a.index a.held (Some tip) sp stood refl (grind (arith, nat_tests)))
      (λ t. onward S12 S5 a.index a.held (Some tip) sp stood refl (grind (arith, nat_tests)))
      )
  turn_at S13 stood e f may =
      store_way K now b f (After S13) (InIndex (own mine) (wrap (a.index + 1))) tip_known_here may
      (λ on. helps stood on f.spare)
      (λ sp less. onward S13 S5 a.index a.held None sp stood refl (omega (arith, spare_pays (live now b tip) sp now.spare 6 (omega arith) less)))
  turn_at S15 stood e f may =
      store_way K now b f (After S15) (InSlot (a.index % length now.slots) (left_in mine e)) slot_known_here may
      (λ on. stores stood _)
      (λ sp less. onward S15 S5 a.index a.held None sp stood refl (omega (arith, spare_pays (live now b slot) sp now.spare 6 (omega arith) less)))
  turn_at S16 stood e f may =
      mark_way K now b f (After S16) tip tip_known_here may (
      λ sp l. branch fresh (λ t. onward S16 S17 a.index a.held (Some tip) sp stood refl (grind (arith, nat_tests))) (λ t. ends _ (marked now b (Some tip) sp))
      )
  turn_at S17 stood e f may =
      store_way K now b f (After S17) (InIndex (own mine) (wrap (a.index + 1))) tip_known_here may
      (λ on. ends _ _)
      (λ sp less. onward S17 S16 a.index a.held None sp stood refl (omega (arith, spare_pays (live now b tip) sp now.spare 2 (omega arith) less)))

  -- so does each line's, since it is its stage's
  pub turn : (e : Option E) (f : Free) → let o = operation a.line b (length now.slots) a.index e in May K now o f → Turn (next a.line (length now.slots) a.index a.held (touched now o f).0) (touched now o f).1
  turn e f may = rw (operation-is, next-is) (turn_at (stage a.line) refl e f (rw operation-is at may))
