-- The law over histories.
--
--   plain queue    the sequential queue: a list of at most L elements, empty at first
--   gives          what the plain queue answers a call, fed the placed calls in the order of their places
--   places         the moments at which a call has its place
--   stretch        an unbroken part of a history; only its granted steps count
--
-- Assumes nothing.
use Rattle.std.specs.Prelude.{◌≡◌, ℕ, ◌+◌, ◌*◌, ◌<◌, ◌≤◌, cond, List, [], ◌∷◌, ◌++◌, length, Some, None, Option, ◌==◌}
use Rattle.dock_rules.specs.declared.Outcome.{Outcome}
use Rattle.dock_rules.specs.declared.Outcome.TheVariants.{Full, Stored, Empty, Taken}
use Rattle.dock_rules.specs.Words.{Putting, Taking}
use Rattle.dock_rules.specs.History.{Moment, Request, PutOf, TakeOf, Event, Starts, Goes, Stops, Gives, Quiet, Placed, EndedCall, event, alterations, stored, placed, ended, untouched}

-- it holds of each
abbrev pub Each : {X : Type 0} → (X → Type 0) → List X → Type 0
Each P [] = Unit {0}
Each P (x ∷ xs) = P x × Each P xs

-- how many granted steps may pass without an end, over n bays and a memory with spares up to K
abbrev pub bound : ℕ → ℕ → ℕ
bound n K = (2 * n + 3) * (10 * n + 6 * K + 1)

module _ {E : Type 0} where
  abbrev pub plain_take : List E → (Outcome × Option E) × List E
  plain_take [] = ((Empty, None), [])
  plain_take (x ∷ xs) = ((Taken, Some x), xs)

  -- what the plain queue of L places answers, and what it holds then
  abbrev pub plain : ℕ → List E → Request E → (Outcome × Option E) × List E
  plain L q (PutOf e) = cond (length q == L) ((Full, None), q) ((Stored, None), q ++ e ∷ [])
  plain L q TakeOf = plain_take q

  -- what the plain queue holds after the placed calls, the newest first
  abbrev pub queue : ℕ → List (Placed E) → List E
  queue L [] = []
  queue L (p ∷ ps) = (plain L (queue L ps) p.request).1

  abbrev pub gives : ℕ → ℕ → List (Placed E) → Option (Outcome × Option E)
  gives L s [] = None
  gives L s (p ∷ ps) = cond (p.serial == s) (Some (plain L (queue L ps) p.request).0) (gives L s ps)

  abbrev pub places : ℕ → List (Placed E) → List ℕ
  places s [] = []
  places s (p ∷ ps) = cond (p.serial == s) (p.moment ∷ places s ps) (places s ps)

  -- each place is at a later moment than the one before
  abbrev pub Apart : List (Placed E) → Type 0
  Apart [] = Unit {0}
  Apart (p ∷ ps) = Each (λ q. q.moment < p.moment) ps × Apart ps

  -- an ended call has exactly one place, after its start and no later than its end
  abbrev pub HasPlace : List (Placed E) → EndedCall E → Type 0
  HasPlace ps c = (k : ℕ) × (places c.serial ps ≡ k ∷ []) × (c.since < k) × (k ≤ c.moment)

  -- each accepted slot store found its index where the call had read it
  abbrev pub Unmoved : ℕ → List (Moment E) → Type 0
  Unmoved base [] = Unit {0}
  Unmoved base (m ∷ h) =
      Each (λ r. r.read ≡ alterations base h Putting) (stored base m h Putting)
      × Each (λ r. r.read ≡ alterations base h Taking) (stored base m h Taking)
      × Unmoved base h

  pub record Linearizable (L base : ℕ) (h : List (Moment E)) : Type 0 where
    pub place : Each (HasPlace (placed base h)) (ended base h)
    pub apart : Apart (placed base h)
    pub untouched : Each (λ r. places r.serial (placed base h) ≡ []) (untouched base h)
    pub agrees : Each (λ c. gives L c.serial (placed base h) ≡ Some (c.outcome, c.element)) (ended base h)
    pub unmoved : Unmoved base h

  abbrev pub is_step : Event E → ℕ
  is_step (Starts c q n) = 0
  is_step (Goes c l) = 1
  is_step (Stops c o) = 1
  is_step (Gives c a) = 0
  is_step Quiet = 0

  abbrev pub is_end : Event E → ℕ
  is_end (Starts c q n) = 0
  is_end (Goes c l) = 0
  is_end (Stops c o) = 1
  is_end (Gives c a) = 1
  is_end Quiet = 0

  -- how many granted steps a stretch holds
  abbrev pub steps_in : List (Moment E) → ℕ
  steps_in [] = 0
  steps_in (m ∷ h) = is_step (event m) + steps_in h

  -- how many calls end or are given up in it
  abbrev pub ends_in : List (Moment E) → ℕ
  ends_in [] = 0
  ends_in (m ∷ h) = is_end (event m) + ends_in h

  abbrev pub Progress : ℕ → ℕ → List (Moment E) → Type 0
  Progress n K h =
      (later stretch earlier : List (Moment E)) → h ≡ later ++ (stretch ++ earlier) → bound n K ≤ steps_in stretch → 0 < ends_in stretch
