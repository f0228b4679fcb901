-- What each bay knows by the line that it stands at, and that another bay's step leaves it so. Assumes nothing.
--
--   view    what the bays share: the ring's length and base, Tail and Head as counts that do not wrap, the slots, the calls
--           that wait and the calls that are placed
--   pos     the count at which a call read its index
--   lim     the count at which a side is full or empty
use Rattle.std.proofs.Common.{◌≡◌, ℕ, ◌+◌, ◌%◌, ◌<◌, ◌≤◌, Bool, true, false, ◌⊎◌, List, [], ◌∷◌, length, get_or, is_some, Some, None, Option, sym, refl, ◌∙◌, subst, arith}
use Rattle.std.specs.List.{slice_get}
use Rattle.std.proofs.lemmas.Bool.{false≢true}
use Rattle.std.proofs.lemmas.Bool.Decides.{nat_tests}
use Rattle.slot_memory.specs.declared.Cell.{Cell}
use Rattle.slot_memory.specs.declared.Cell.TheVariants.{Slot, At}
use Rattle.slot_memory.specs.Meaning.{same_cell, is_on, unless_on}
use Rattle.dock_rules.specs.declared.Outcome.{Outcome}
use Rattle.dock_rules.specs.declared.Outcome.TheVariants.{Stored, Taken}
use Rattle.dock_rules.specs.Words.{Side, Putting, Taking}
use Rattle.dock_rules.specs.History.{Running, Placed}
use Rattle.dock_rules.specs.Law.{queue, gives, places}
use Rattle.dock_rules.proofs.Sound.{own}
use Rattle.dock_rules.proofs.Stages.{Stage, S5, S6, S9, S10, S12, S13, S15, S16, S17, outrun}

-- what the bays share
pub record View (E : Type 0) : Type 0 where
  pub T : ℕ
  pub H : ℕ
  pub slots : List (Option E)
  pub puts : List (Running E)
  pub takes : List (Running E)
  pub ps : List (Placed E)

-- a store kills the marks on its cell
abbrev pub killed : Option Cell → Cell → Bool
killed None c = false
killed (Some k) c = same_cell c k

-- the mark that is left of one
abbrev pub spared : Option Cell → Option Cell → Option Cell
spared None mk = mk
spared (Some k) mk = unless_on k mk

-- the mark is on the side's index
abbrev pub on_index : Side → Option Cell → Bool
on_index d mk = is_on (At (own d)) mk

-- the test of cells tells
pub same_cell_lem : (c d : Cell) → same_cell c d ≡ true → c ≡ d
same_cell_lem c d e = grind arith

-- a mark that is spared was there before, and its cell was not stored in
pub was_on : (kill : Option Cell) (c : Cell) (mk : Option Cell) → is_on c (spared kill mk) ≡ true → (is_on c mk ≡ true) × (killed kill c ≡ false)
was_on None c mk e = (e, refl)
was_on (Some k) c None e = absurd (false≢true e)
was_on (Some k) c (Some d) e = grind (arith, nat_tests, same_cell_lem)

module _ {E : Type 0} where
  -- the index of a side as a count
  abbrev pub count : View E → Side → ℕ
  count v Putting = v.T
  count v Taking = v.H

  -- the calls of a side that wait
  abbrev pub wait : View E → Side → List (Running E)
  wait v Putting = v.puts
  wait v Taking = v.takes

  -- the index is behind: a call of that side waits
  abbrev pub Behind : View E → Side → Type 0
  Behind v d = 0 < length (wait v d)

  -- what a call carried out is answered
  abbrev pub answer : Side → Option E → Outcome × Option E
  answer Putting tr = (Stored, None)
  answer Taking tr = (Taken, tr)

module _ {E : Type 0} (L base : ℕ) where
  -- the count at which the ring is full for a put, or empty for a take
  abbrev pub lim : View E → Side → ℕ
  lim v Putting = v.H + L
  lim v Taking = v.T

  -- the plain queue after the placed calls
  abbrev pub queue_of : View E → List E
  queue_of v = queue L v.ps

  -- the count at which a call read its index
  abbrev pub pos : Running E → ℕ
  pos r = base + r.read

  -- what the slot of a count holds
  abbrev pub content : View E → ℕ → Option E
  content v i = get_or v.slots (i % L) None

  -- the slot is as the side wants it: empty for a put, with the tray's element for a take
  abbrev pub Ready : View E → Side → ℕ → Option E → Type 0
  Ready v Putting i tr = content v i ≡ None
  Ready v Taking i tr = content v i ≡ tr

  -- a take that waits holds the first of the queue
  abbrev pub First : View E → Side → Option E → Type 0
  First v Putting tr = Unit {0}
  First v Taking tr = slice_get (queue_of v) 0 ≡ tr

  -- the call waits for its index to move
  pub record Waits (v : View E) (d : Side) (r : Running E) (tr : Option E) : Type 0 where
    pub at : pos r ≡ count v d
    pub it : Running E
    pub only : wait v d ≡ it ∷ []
    pub serial : it.serial ≡ r.serial
    pub first : First v d tr

  -- the call has its place
  pub record Counted (v : View E) (d : Side) (r : Running E) (tr : Option E) : Type 0 where
    pub past : pos r < count v d
    pub moment : ℕ
    pub place : places r.serial v.ps ≡ moment ∷ []
    pub since : r.since < moment
    pub gives : gives L r.serial v.ps ≡ Some (answer d tr)

  -- past its slot store a call waits or has its place
  abbrev pub Kept : View E → Side → Running E → Option E → Type 0
  Kept v d r tr = Waits v d r tr ⊎ Counted v d r tr

  -- the mark is on the slot that the call means
  abbrev pub on_slot : Running E → Option Cell → Bool
  on_slot r mk = is_on (Slot (pos r % L)) mk

  -- by the line: the call r of that side, with held as noted, the bay's mark and its tray
  abbrev pub Stands : View E → Side → Stage → Running E → Bool → Option Cell → Option E → Type 0
  Stands v d S5 r held mk tr = Unit {0}
  Stands v d S6 r held mk tr = pos r ≤ count v d
  Stands v d S9 r held mk tr = (pos r ≤ count v d) × (pos r < lim v d)
  Stands v d S10 r held mk tr =
      (pos r ≤ count v d) × (pos r < lim v d)
      × (outrun d held ≡ true → pos r ≡ count v d → Behind v d)
      × (outrun d held ≡ false → on_slot r mk ≡ true → Ready v d (pos r) tr)
  Stands v d S12 r held mk tr = (pos r ≤ count v d) × (pos r ≡ count v d → Behind v d)
  Stands v d S13 r held mk tr = (pos r ≤ count v d) × (on_index d mk ≡ true → (pos r ≡ count v d) × Behind v d)
  Stands v d S15 r held mk tr =
      (pos r ≤ count v d) × (pos r < lim v d) × (on_slot r mk ≡ true → (pos r ≡ count v d) × Ready v d (pos r) tr)
  Stands v d S16 r held mk tr = (pos r ≤ count v d) × Kept v d r tr
  Stands v d S17 r held mk tr = (pos r ≤ count v d) × Kept v d r tr × (on_index d mk ≡ true → pos r ≡ count v d)

  -- what another bay's step may do to what the bays share, at a moment of that number
  pub record Change (now : ℕ) (v w : View E) (kill : Option Cell) : Type 0 where
    pub counts : (d : Side) → count v d ≤ count w d
    pub lims : (d : Side) → lim v d ≤ lim w d
    -- an index moves only by a store on it, which kills the marks on it
    pub moves : (d : Side) → killed kill (At (own d)) ≡ false → count w d ≡ count v d
    pub behind : (d : Side) → Behind v d → count w d ≡ count v d → Behind w d
    -- a slot changes only by a store on it
    pub ready : (d : Side) (i : ℕ) (tr : Option E) → killed kill (Slot (i % L)) ≡ false → Ready v d i tr → Ready w d i tr
    -- an index stays while its slot is ready
    pub stays : (d : Side) (tr : Option E) → is_some tr ≡ true → Ready v d (count v d) tr → count w d ≡ count v d
    pub kept : (d : Side) (r : Running E) (tr : Option E) → r.since < now → Kept v d r tr → Kept w d r tr

  -- what a line knows survives another bay's step, its mark if spared
  pub frame : {now : ℕ} {v w : View E} {kill : Option Cell} → Change now v w kill → (d : Side) (g : Stage) (r : Running E) (held : Bool) (mk : Option Cell) (tr : Option E) → r.since < now → is_some tr ≡ true → Stands v d g r held mk tr → Stands w d g r held (spared kill mk) tr
  frame c d S5 r held mk tr since some k = tt
  frame c d S6 r held mk tr since some k = omega (arith, c.counts d)
  frame c d S9 r held mk tr since some k = (omega (arith, c.counts d), omega (arith, c.lims d))
  frame {kill = kill} c d S10 r held mk tr since some k = (
    omega (arith, c.counts d),
    omega (arith, c.lims d),
    λ busy here. c.behind d (k.2 busy (omega (arith, c.counts d))) (omega (arith, c.counts d)),
    λ calm on. let was = was_on kill _ mk on in c.ready d _ tr was.1 (k.3 calm was.0),
  )
  frame c d S12 r held mk tr since some k = (
    omega (arith, c.counts d),
    λ here. c.behind d (k.1 (omega (arith, c.counts d))) (omega (arith, c.counts d)),
  )
  frame {kill = kill} c d S13 r held mk tr since some k = (
    omega (arith, c.counts d),
    λ on.
        let was = was_on kill _ mk on in
        let still = c.moves d was.1 in
        let old = k.1 was.0 in
        (old.0 ∙ sym still, c.behind d old.1 still),
  )
  frame {v = v} {kill = kill} c d S15 r held mk tr since some k = (
    omega (arith, c.counts d),
    omega (arith, c.lims d),
    λ on.
        let was = was_on kill _ mk on in
        let old = k.2 was.0 in
        let still = c.stays d tr some (subst (λ i. Ready v d i tr) old.0 old.1) in
        (old.0 ∙ sym still, c.ready d _ tr was.1 old.1),
  )
  frame c d S16 r held mk tr since some k = (omega (arith, c.counts d), c.kept d r tr since k.1)
  frame {kill = kill} c d S17 r held mk tr since some k = (
    omega (arith, c.counts d),
    c.kept d r tr since k.1,
    λ on. let was = was_on kill _ mk on in k.2 was.0 ∙ sym (c.moves d was.1),
  )
