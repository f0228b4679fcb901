-- The ranking function: how far each bay is from an end, and what a dock has left to do without one.
--
--   fresh    the call's index is what the memory has
--   live     the call's mark is on the cell that it stores in next
--   before   a bay whose call has not made its slot store, or that has no call under way
--   budget   how many stores may still be accepted without an end: two for each bay before its slot
--            store, and one for each call that waits
--
-- Assumes nothing.
use Rattle.std.proofs.Common.{◌≡◌, ℕ, suc, ◌+◌, ◌*◌, ◌%◌, ◌<◌, ◌≤◌, Bool, true, cond, ◌||◌, eqb, ltb, List, [], ◌∷◌, ◌++◌, length, get_or, set, None, Option, ap, mul-le-mul_right, arith}
use Rattle.std.proofs.lemmas.List.{get_or-set_same, get_or-set_other, set-get_or, length-append}
use Rattle.slot_memory.specs.declared.Cell.{Cell}
use Rattle.slot_memory.specs.declared.Cell.TheVariants.{Slot, At}
use Rattle.slot_memory.specs.Meaning.{Meaning, index, is_on, mark}
use Rattle.slot_memory.specs.Rules.{marked}
use Rattle.dock_rules.specs.declared.BayRecord.{BayRecord}
use Rattle.dock_rules.specs.declared.BayRecord.TheVariants.{Free as Idle, UnderWay, Ended, Owed}
use Rattle.dock_rules.specs.Words.{Side, Putting, Taking, side}
use Rattle.dock_rules.specs.History.{Moment, Event, Running, event, stored_by, altered, running, waiting, stored}
use Rattle.dock_rules.specs.Law.{bound}
use Rattle.dock_rules.proofs.Sound.{own}
use Rattle.dock_rules.proofs.Stages.{early_at, Stage, S5, S6, S9, S10, S12, S13, S15, S16, S17, stage, number_at, outrun}
use Rattle.dock_rules.proofs.Sums.{sum_to, sum_change, sum-most}

-- the rank of a call at a stage, by whether it is fresh, goes from line 10 to line 12, and is live
abbrev pub rank_at : Stage → Bool → Bool → Bool → ℕ
rank_at S5 fresh on live = 5
rank_at S6 fresh on live = cond fresh 4 8
rank_at S9 fresh on live = cond fresh 3 7
rank_at S10 fresh on live = cond fresh (cond (on || live) 2 7) 6
rank_at S12 fresh on live = cond fresh 1 6
rank_at S13 fresh on live = cond live 0 6
rank_at S15 fresh on live = cond live 0 6
rank_at S16 fresh on live = 1
rank_at S17 fresh on live = cond live 0 2

-- the cell that a call at this stage stores in next
abbrev pub aim : Side → Stage → ℕ → ℕ → Cell
aim d g L i = cond (ltb (number_at g) 12 || eqb (number_at g) 15) (Slot (i % L)) (At (own d))

-- 1 for a bay whose call has not made its slot store, or that has no call and may still begin one
abbrev pub before : BayRecord → ℕ
before Idle = 1
before (UnderWay a) = early_at (stage a.line)
before (Ended s o) = 1
before (Owed s) = 1

-- how many bays are before their slot store
befores : ℕ → List BayRecord → ℕ
befores n rs = sum_to n (λ c. before (get_or rs c Idle))

-- a new record at b changes the number of bays before their slot store as it changes b
befores_change : (n b : ℕ) (rs : List BayRecord) (r : BayRecord) → b < n → b < length rs → befores n (set rs b r) + before (get_or rs b Idle) ≡ befores n rs + before r
unfolding befores
befores_change n b rs r l k =
    let e = sum_change n b (λ c. before (get_or (set rs b r) c Idle)) (λ c. before (get_or rs c Idle)) l (λ c ne. ap before (get_or-set_other rs b c r Idle ne)) in
    omega (arith, e, ap before (get_or-set_same rs b r Idle k))

-- a bay counts once
before_most : (r : BayRecord) → before r ≤ 1
before_most r = grind arith

-- what one of the budget is worth: more than all spares and ranks together
abbrev worth : ℕ → ℕ → ℕ
worth n K = 10 * n + 6 * K + 1

module _ {E : Type 0} where
  -- the rank of a call of this side at this stage, with this mark, index and sight of its slot
  abbrev pub rank_of : Meaning E → Option Cell → Side → Stage → ℕ → Bool → ℕ
  rank_of m k d g i held = rank_at g (eqb (index m (own d)) i) (outrun d held) (is_on (aim d g (length m.slots) i) k)

  -- the rank of a bay with this mark and this record; a bay with no call has that of line 5
  abbrev pub rank : Meaning E → Option Cell → BayRecord → ℕ
  rank m k Idle = 5
  rank m k (UnderWay a) = rank_of m k (side a.line) (stage a.line) a.index a.held
  rank m k (Ended s o) = 5
  rank m k (Owed s) = 5

  -- the ranks of n bays
  ranks : ℕ → Meaning E → List BayRecord → ℕ
  ranks n m rs = sum_to n (λ c. rank m (mark m c) (get_or rs c Idle))

  -- how many calls wait on either side
  abbrev pub waits : ℕ → List (Moment E) → ℕ
  waits base h = length (waiting base h Putting) + length (waiting base h Taking)

  -- how many stores may still be accepted without an end
  budget : ℕ → ℕ → List (Moment E) → List BayRecord → ℕ
  budget base n h rs = 2 * befores n rs + waits base h

  -- how many granted steps may still follow without an end
  pub potential : ℕ → ℕ → ℕ → List (Moment E) → List BayRecord → Meaning E → ℕ
  potential base n K h rs m = budget base n h rs * worth n K + (6 * m.spare + ranks n m rs)

  -- the largest rank is 8
  rank_most : (m : Meaning E) (k : Option Cell) (r : BayRecord) → rank m k r ≤ 10
  rank_most m k r = grind arith

  -- a mark or a spare alters no rank at a given mark
  rank_marked : (m : Meaning E) (b sp : ℕ) (j k : Option Cell) (r : BayRecord) → rank (marked m b j sp) k r ≡ rank m k r
  rank_marked m b sp j k r = grind arith

  -- a new mark and a new record at b change the ranks as they change b's
  ranks_change : (n b sp : ℕ) (m : Meaning E) (k : Option Cell) (rs : List BayRecord) (r : BayRecord) → b < n → b < length rs → b < length m.marks → ranks n (marked m b k sp) (set rs b r) + rank m (mark m b) (get_or rs b Idle) ≡ ranks n m rs + rank m k r
  unfolding ranks
  ranks_change n b sp m k rs r l lr lm =
      let new = marked m b k sp in
      let e = sum_change n b (λ c. rank new (mark new c) (get_or (set rs b r) c Idle)) (λ c. rank m (mark m c) (get_or rs c Idle)) l elsewhere in
      omega (arith, e, here)
    where
      elsewhere : (c : ℕ) → (c ≡ b → ⊥) → rank (marked m b k sp) (mark (marked m b k sp) c) (get_or (set rs b r) c Idle) ≡ rank m (mark m c) (get_or rs c Idle)
      elsewhere c ne = cc (rank_marked m b sp k (mark m c) (get_or rs c Idle), get_or-set_other m.marks b c k None ne, get_or-set_other rs b c r Idle ne)

      here : rank (marked m b k sp) (mark (marked m b k sp) b) (get_or (set rs b r) b Idle) ≡ rank m k r
      here = cc (rank_marked m b sp k k r, get_or-set_same m.marks b k None lm, get_or-set_same rs b r Idle lr)

  -- a bay's own mark and the spare, given anew, are the memory as it was
  pub marked_same : (m : Meaning E) (b : ℕ) → marked m b (mark m b) m.spare ≡ m
  marked_same m b = λ i. record { slots = m.slots; tail = m.tail; head = m.head; marks = set-get_or m.marks b None i; spare = m.spare }

  -- at each moment at most what is stored joins those that wait
  waiting-most : (base : ℕ) (x : Moment E) (h : List (Moment E)) (d : Side) → length (waiting base (x ∷ h) d) ≤ length (stored base x h d) + length (waiting base h d)
  waiting-most base x h d = kept_most (stored base x h d) (waiting base h d) (altered base x h d)
    where
      kept_most : (xs ys : List (Running E)) (t : Bool) → length (xs ++ cond t [] ys) ≤ length xs + length ys
      kept_most xs ys t = grind (arith, length-append)

  -- at each moment at most one call joins those that wait
  pub waits_rise : (base : ℕ) (x : Moment E) (h : List (Moment E)) → waits base (x ∷ h) ≤ 1 + waits base h
  waits_rise base x h = omega (arith, waiting-most base x h Putting, waiting-most base x h Taking, stored_one (event x))
    where
      stored_one : (e : Event E) → length (stored_by Putting e (running base h)) + length (stored_by Taking e (running base h)) ≤ 1
      stored_one e = grind arith

  -- where nothing is stored and an index is altered for which a call waits, fewer wait
  pub waits_fall : (base : ℕ) (x : Moment E) (h : List (Moment E)) (d : Side) → ((e : Side) → stored base x h e ≡ []) → altered base x h d ≡ true → 0 < length (waiting base h d) → waits base (x ∷ h) < waits base h
  waits_fall base x h d none moved some = go d emptied some
    where
      emptied : length (waiting base (x ∷ h) d) ≡ 0
      emptied = rw (none d, moved)

      go : (d : Side) → length (waiting base (x ∷ h) d) ≡ 0 → 0 < length (waiting base h d) → waits base (x ∷ h) < waits base h
      go Putting z some = omega (arith, waiting-most base x h Taking, ap length (none Taking))
      go Taking z some = omega (arith, waiting-most base x h Putting, ap length (none Putting))

  -- spare and ranks stay below what one of the budget is worth
  ranks_most : (n K : ℕ) (rs : List BayRecord) (m : Meaning E) → m.spare ≤ K → 6 * m.spare + ranks n m rs < worth n K
  unfolding ranks
  ranks_most n K rs m l = omega (arith, sum-most n 10 (λ c. rank m (mark m c) (get_or rs c Idle)) (λ c. rank_most m (mark m c) (get_or rs c Idle)))

  -- with at most two calls that wait, the potential is below the bound
  pub potential_most : (base n K : ℕ) (h : List (Moment E)) (rs : List BayRecord) (m : Meaning E) → waits base h ≤ 2 → m.spare ≤ K → potential base n K h rs m < bound n K
  unfolding potential budget befores
  potential_most base n K h rs m w l =
      let few = sum-most n 1 (λ c. before (get_or rs c Idle)) (λ c. before_most (get_or rs c Idle)) in
      let all : (2 * befores n rs + waits base h) * worth n K ≤ (2 * n + 2) * worth n K = mul-le-mul_right (worth n K) (omega arith) in
      omega (arith, ranks_most n K rs m l)

  -- where a new record at b and the calls that wait lower the budget, the potential falls, whatever the ranks
  pub falls_by_budget : (base n K b : ℕ) (x : Moment E) (h : List (Moment E)) (rs : List BayRecord) (r : BayRecord) (m new : Meaning E) → b < n → b < length rs → new.spare ≤ K → 2 * before r + waits base (x ∷ h) < 2 * before (get_or rs b Idle) + waits base h → 1 + potential base n K (x ∷ h) (set rs b r) new ≤ potential base n K h rs m
  unfolding potential budget
  falls_by_budget base n K b x h rs r m new l lr fits less =
      let c = befores_change n b rs r l lr in
      let all : suc (2 * befores n (set rs b r) + waits base (x ∷ h)) * worth n K ≤ (2 * befores n rs + waits base h) * worth n K = mul-le-mul_right (worth n K) (omega arith) in
      omega (arith, ranks_most n K (set rs b r) new fits)

  -- where nothing is stored, no more wait
  waits_none : (base : ℕ) (x : Moment E) (h : List (Moment E)) → ((d : Side) → stored base x h d ≡ []) → waits base (x ∷ h) ≤ waits base h
  waits_none base x h none =
      omega (arith, waiting-most base x h Putting, waiting-most base x h Taking, ap length (none Putting), ap length (none Taking))

  -- where nothing is stored and nothing changes, the potential does not rise
  pub falls_by_nothing : (base n K : ℕ) (x : Moment E) (h : List (Moment E)) (rs : List BayRecord) (m : Meaning E) → ((d : Side) → stored base x h d ≡ []) → potential base n K (x ∷ h) rs m ≤ potential base n K h rs m
  unfolding potential budget
  falls_by_nothing base n K x h rs m none =
      let all : (2 * befores n rs + waits base (x ∷ h)) * worth n K ≤ (2 * befores n rs + waits base h) * worth n K = mul-le-mul_right (worth n K) (omega (arith, waits_none base x h none)) in
      omega arith

  -- where nothing is stored and a new record at b keeps the budget, spare and b's rank tell how the potential changes
  pub falls_by_rank : (base n K step b sp : ℕ) (x : Moment E) (h : List (Moment E)) (rs : List BayRecord) (r : BayRecord) (m : Meaning E) (k : Option Cell) → b < n → b < length rs → b < length m.marks → ((d : Side) → stored base x h d ≡ []) → before r ≡ before (get_or rs b Idle) → step + (6 * sp + rank m k r) ≤ 6 * m.spare + rank m (mark m b) (get_or rs b Idle) → step + potential base n K (x ∷ h) (set rs b r) (marked m b k sp) ≤ potential base n K h rs m
  unfolding potential budget
  falls_by_rank base n K step b sp x h rs r m k l lr lm none same less =
      let e : befores n (set rs b r) ≡ befores n rs = omega (arith, befores_change n b rs r l lr) in
      rw e (omega (arith, falls_by_nothing base n K x h rs m none, ranks_change n b sp m k rs r l lr lm))
