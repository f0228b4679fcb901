-- What a call's contract takes from the theorem: a call that does as defined continues every run, lawfully. Assumes nothing.
use Rattle.std.proofs.Common.{◌≡◌, ℕ, ◌^◌, ◌<◌, true, cond, eqb, List, ◌∷◌, length, sym, refl, ap, ◌∙◌, subst, inl, eq-eqb}
use Rattle.slot_memory.specs.Rules.{Free}
use Rattle.dock_rules.specs.Calls.{World, Call, Open, Answer, does, MayCall}
use Rattle.dock_rules.specs.History.{Moment}
use Rattle.dock_rules.specs.Runs.{Start, Reached, just_opened, one_more, Lawful, carried, carrying, moment_of, GoesOn, Begins}
use Rattle.dock_rules.proofs.Theorem.{reached_keeps, every_run}

module _ {E : Type 0} (K : ℕ) (w : World E) where
  pub goes_on : (c : Call E) (a : Answer) (x : World E) (f : Free) → MayCall K w c f → (a, x) ≡ does w c f → GoesOn K w c a x
  goes_on c a x f may is st h s reached dock memory handed =
      let same : record { dock = s.dock; memory = s.memory; trays = w.trays; book = w.book } ≡ w = λ i. record { dock = dock i; memory = memory i; trays = w.trays; book = w.book } in
      let more = one_more reached c w.trays w.book f a x handed (subst (λ y. MayCall K y c f) (sym same) may) (ap (λ y. does y c f) same ∙ sym is) in
      (more, every_run E K st _ _ more)

  pub begins : (n life base : ℕ) (a : Answer) (x : World E) (f : Free) → base < 2 ^ 32 → MayCall K w (Open n life base) f → (a, x) ≡ does w (Open n life base) f → Begins K w n base a x
  begins n life base a x f fits may is opened long =
      let start = just_opened w x n life base f fits long may (sym is ∙ ap (λ y. (y, x)) opened) in
      (start, every_run E K _ _ _ start)

  -- a run goes on with its own trays
  pub continues : (c : Call E) (a : Answer) (x : World E) → GoesOn K w c a x → (st : Start) (h : List (Moment E)) → Reached K st h (carrying w) → Reached K st (moment_of c a (carrying x) ∷ h) (carrying x) × Lawful K st (moment_of c a (carrying x) ∷ h)
  continues c a x goes st h reached =
      let static = (reached_keeps reached).inner.static in
      let own : eqb (length w.trays) w.dock.bays ≡ true = eq-eqb _ _ (static.trays ∙ sym static.bays) in
      let same : carried (carrying w) w.trays x ≡ carrying x = λ i. record { dock = x.dock; memory = x.memory; trays = cond (own i) x.trays w.trays } in
      let both = goes st h (carrying w) reached refl refl (inl refl) in
      subst (λ s. Reached K st (moment_of c a s ∷ h) s × Lawful K st (moment_of c a s ∷ h)) same both
