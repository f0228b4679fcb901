-- Runs: which states a history reaches, and the theorem.
--
--   state     what a run carries from call to call: the dock's record, the memory's meaning, the trays
--   handed    put, step and enter are handed the run's trays, or other than n, and are refused then
--   K         the memory's largest spare
--
-- Assumes nothing.
use Rattle.std.specs.Prelude.{◌≡◌, ℕ, ◌^◌, ◌<◌, cond, ◌⊎◌, List, [], ◌∷◌, length, ◌==◌, ◌≢◌}
use Rattle.slot_memory.specs.Meaning.{Meaning}
use Rattle.slot_memory.specs.Rules.{Free}
use Rattle.dock_rules.specs.declared.DockState.{DockState}
use Rattle.dock_rules.specs.Calls.{World, Book, Call, Open, Answer, Opened, does, MayCall}
use Rattle.dock_rules.specs.History.{Moment}
use Rattle.dock_rules.specs.Law.{Linearizable, Progress}

-- what a run starts with: its bays, its slots and its base
pub record Start : Type 0 where
  pub bays : ℕ
  pub length : ℕ
  pub base : ℕ

pub record State (E : Type 0) : Type 0 where
  pub dock : DockState
  pub memory : Meaning E
  pub trays : List E

module _ {E : Type 0} where
  abbrev pub handing : State E → List E → Book E → World E
  handing s t k = record { dock = s.dock; memory = s.memory; trays = t; book = k }

  -- the run's own trays, or another number of them
  abbrev pub Handed : State E → List E → Type 0
  Handed s t = (t ≡ s.trays) ⊎ (length t ≢ s.dock.bays)

  -- what the run carries on; trays of another number are none of its own
  abbrev pub carried : State E → List E → World E → State E
  carried s t w = record { dock = w.dock; memory = w.memory; trays = cond (length t == s.dock.bays) w.trays s.trays }

  abbrev pub moment_of : Call E → Answer → State E → Moment E
  moment_of c a s = record { call = c; answer = a; tail = s.memory.tail; head = s.memory.head; trays = s.trays }

  pub data Reached (K : ℕ) : Start → List (Moment E) → State E → Type 0 where
    just_opened : (w v : World E) (n life base : ℕ) (f : Free) → base < 2 ^ 32 → lib.ListN.length w.trays ≡ n → MayCall K w (Open n life base) f → does w (Open n life base) f ≡ (Opened, v) → Reached K (record { bays = n; length = lib.ListN.length w.memory.slots; base = base }) [] (record { dock = v.dock; memory = v.memory; trays = v.trays })
    one_more : {st : Start} {h : List (Moment E)} {s : State E} → Reached K st h s → (c : Call E) (t : List E) (k : Book E) (f : Free) (a : Answer) (w : World E) → Handed s t → MayCall K (handing s t k) c f → does (handing s t k) c f ≡ (a, w) → Reached K st (moment_of c a (carried s t w) ∷ h) (carried s t w)

  -- linearizability and the progress bound
  pub record Lawful (K : ℕ) (st : Start) (h : List (Moment E)) : Type 0 where
    pub linearizable : Linearizable st.length st.base h
    pub progress : Progress st.bays K h

module _ {E : Type 0} where
  -- a call at world w that answers a and leaves x: every run that has come to w, handed these trays, goes on so, lawfully
  abbrev pub GoesOn : ℕ → World E → Call E → Answer → World E → Type 0
  GoesOn K w c a x =
      (st : Start) (h : List (Moment E)) (s : State E) → Reached K st h s → s.dock ≡ w.dock → s.memory ≡ w.memory → Handed s w.trays
      → Reached K st (moment_of c a (carried s w.trays x) ∷ h) (carried s w.trays x)
      × Lawful K st (moment_of c a (carried s w.trays x) ∷ h)

  -- what a run has just after its open
  abbrev pub opening : World E → ℕ → ℕ → Start
  opening w n base = record { bays = n; length = lib.ListN.length w.memory.slots; base = base }

  abbrev pub carrying : World E → State E
  carrying x = record { dock = x.dock; memory = x.memory; trays = x.trays }

  -- an open at world w that answers a and leaves x: granted, with n trays, it starts a run, lawfully
  abbrev pub Begins : ℕ → World E → ℕ → ℕ → Answer → World E → Type 0
  Begins K w n base a x =
      a ≡ Opened → lib.ListN.length w.trays ≡ n
      → Reached K (opening w n base) [] (carrying x) × Lawful {E = E} K (opening w n base) []

-- every run over every memory that keeps the rules, for every kind of element
abbrev pub EveryRun : Type 0 → Type 0
EveryRun E = (K : ℕ) (st : Start) (h : List (Moment E)) (s : State E) → Reached K st h s → Lawful K st h
