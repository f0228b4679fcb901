-- A play is a run: what its calls need is a test, which computes. Assumes nothing.
use Rattle.std.proofs.Common.{◌≡◌, ℕ, ◌<◌, ◌≤◌, Bool, true, false, cond, ◌&&◌, eqb, ltb, leb, List, [], ◌∷◌, length, IfSome, IfNone, Some, None, MatchBool, Option, refl, subst, inl}
use Rattle.std.proofs.lemmas.Bool.{and_parts, ltb-true, leb-true}
use Rattle.slot_memory.specs.Meaning.{Meaning, known, live}
use Rattle.slot_memory.specs.Rules.{Operation, Clear, Read, Mark, Store, Free, target, May, MayStore}
use Rattle.dock_rules.specs.declared.Refusal.{Refusal}
use Rattle.dock_rules.specs.Calls.{World, Call, Answer, refusal, touches, does, MayCall}
use Rattle.dock_rules.specs.History.{Moment}
use Rattle.dock_rules.specs.Runs.{Start, Reached, one_more, carried, moment_of}
use Rattle.board.specs.Game.{Game, makes, taken, called}
use Rattle.worked_examples.specs.Play.{after}
use Rattle.worked_examples.specs.Histories.{state_of, told}

-- whether free results may be

abbrev may_store : ℕ → Meaning ℕ → Bool → Free → Bool
may_store K m true f = cond f.refuse (ltb f.spare m.spare) (leb f.spare K)
may_store K m false f = leb f.spare m.spare

abbrev may : ℕ → Meaning ℕ → Operation ℕ → Free → Bool
may K m (Clear base) f = leb f.spare K
may K m (Read i) f = true
may K m (Mark b c) f = cond (known m b c) (leb f.spare m.spare) true
may K m (Store b w) f = cond (known m b (target w)) (may_store K m (live m b (target w)) f) true

abbrev may_touch : ℕ → Meaning ℕ → Option (Operation ℕ) → Free → Bool
may_touch K m None f = true
may_touch K m (Some o) f = may K m o f

abbrev may_answer : ℕ → Meaning ℕ → Option Refusal → Option (Operation ℕ) → Free → Bool
may_answer K m None o f = may_touch K m o f
may_answer K m (Some r) o f = true

may_store_lem : (K : ℕ) (m : Meaning ℕ) (l : Bool) (f : Free) → may_store K m l f ≡ true → MayStore K m l f
may_store_lem K m true f e = go f.refuse e
  where
    go : (r : Bool) → cond r (ltb f.spare m.spare) (leb f.spare K) ≡ true → MatchBool r (f.spare < m.spare) (f.spare ≤ K)
    go true h = ltb-true f.spare m.spare h
    go false h = leb-true f.spare K h
may_store_lem K m false f e = leb-true f.spare m.spare e

-- what holds where the test passes holds as needed
needed : {P : Type 0} (k t : Bool) → (t ≡ true → P) → cond k t true ≡ true → MatchBool k P (Unit {0})
needed true t p e = p e
needed false t p e = tt

may_do : (K : ℕ) (m : Meaning ℕ) (o : Operation ℕ) (f : Free) → may K m o f ≡ true → May K m o f
may_do K m (Clear base) f e = leb-true f.spare K e
may_do K m (Read i) f e = tt
may_do K m (Mark b c) f e = needed (known m b c) (leb f.spare m.spare) (leb-true f.spare m.spare) e
may_do K m (Store b w) f e =
    needed (known m b (target w)) (may_store K m (live m b (target w)) f) (may_store_lem K m (live m b (target w)) f) e

may_answer_lem : (K : ℕ) (m : Meaning ℕ) (r : Option Refusal) (o : Option (Operation ℕ)) (f : Free) → may_answer K m r o f ≡ true → IfNone r (IfSome o (λ p. May K m p f))
may_answer_lem K m None None f e = tt
may_answer_lem K m None (Some o) f e = may_do K m o f e
may_answer_lem K m (Some r) o f e = tt

abbrev pub may_call : ℕ → World ℕ → Call ℕ → Free → Bool
may_call K w c f = may_answer K w.memory (refusal w c) (touches w c) f

pub may_call_lem : (K : ℕ) (w : World ℕ) (c : Call ℕ) (f : Free) → may_call K w c f ≡ true → MayCall K w c f
may_call_lem K w c f e = may_answer_lem K w.memory (refusal w c) (touches w c) f e

-- whether each call of a play is one of a run: there are as many trays as bays, and the board takes
-- free results that may be

abbrev own_trays : World ℕ → Bool
own_trays w = eqb (length w.trays) w.dock.bays

abbrev freely : Game ℕ → Call ℕ → Free
freely g c = taken g.kind g.world.memory (makes g.world c)

abbrev pub is_run : ℕ → Game ℕ → List (Call ℕ) → Bool
is_run K g [] = true
is_run K g (c ∷ cs) = own_trays g.world && (may_call K g.world c (freely g c) && is_run K (called g c).1 cs)

carried_on : (w v : World ℕ) → own_trays w ≡ true → carried (state_of w) w.trays v ≡ state_of v
carried_on w v e = λ i. record { dock = v.dock; memory = v.memory; trays = cond (e i) v.trays w.trays }

module _ (K : ℕ) (st : Start) where
  one_call : (h : List (Moment ℕ)) (w : World ℕ) (c : Call ℕ) (f : Free) (a : Answer) (v : World ℕ) → does w c f ≡ (a, v) → own_trays w ≡ true → MayCall K w c f → Reached K st h (state_of w) → Reached K st (moment_of c a (state_of v) ∷ h) (state_of v)
  one_call h w c f a v does-so own so r =
      subst (λ s. Reached K st (moment_of c a s ∷ h) s) (carried_on w v own)
      (one_more r c w.trays w.book f a v (inl refl) so does-so)

  pub play_reaches : (cs : List (Call ℕ)) (h : List (Moment ℕ)) (g : Game ℕ) → is_run K g cs ≡ true → Reached K st h (state_of g.world) → Reached K st (told g h cs) (state_of (after g cs).world)
  play_reaches [] h g e r = r
  play_reaches (c ∷ cs) h g e r =
      let own = and_parts (own_trays g.world) (may_call K g.world c (freely g c) && is_run K (called g c).1 cs) e in
      let rest = and_parts (may_call K g.world c (freely g c)) (is_run K (called g c).1 cs) own.1 in
      let so = may_call_lem K g.world c (freely g c) rest.0 in
      play_reaches cs _ (called g c).1 rest.1 (one_call h g.world c (freely g c) _ _ refl own.0 so r)
