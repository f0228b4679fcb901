-- The rules that every slot memory keeps: what each operation answers and leaves.
--
--   operation   clear, read an index, mark a cell, or store in a cell; mark and store are a bay's
--   write       what a store would put where: content into a slot, a number into an index
--   reply       what the operation answers
--   free        the two free results: whether a live store is refused, and the new spare
--
-- `touched` gives the reply and the meaning afterwards, whole, from the free results; `May` says
-- which free results may be. Nothing else is left open.
-- Assumes nothing.
use Rattle.std.specs.Prelude.{◌≡◌, ℕ, ◌<◌, ◌≤◌, Bool, true, false, cond, not, ◌&&◌, map, length, replicate, Some, None, MatchBool, Option, slice_index_or, slice_set}
use Rattle.slot_memory.specs.declared.Cell.{Cell}
use Rattle.slot_memory.specs.declared.Cell.TheVariants.{Slot, At}
use Rattle.slot_memory.specs.declared.Index.{Index}
use Rattle.slot_memory.specs.declared.Index.TheVariants.{Tail, Head}
use Rattle.slot_memory.specs.declared.Stored.{Stored}
use Rattle.slot_memory.specs.declared.Stored.TheVariants.{Accepted, Refused}
use Rattle.slot_memory.specs.Meaning.{Meaning, bays, index, known, live, unless_on}

pub data Write (E : Type 0) : Type 0 where
  InSlot : ℕ → Option E → Write E
  InIndex : Index → ℕ → Write E

pub data Operation (E : Type 0) : Type 0 where
  Clear : ℕ → Operation E
  Read : Index → Operation E
  Mark : ℕ → Cell → Operation E
  Store : ℕ → Write E → Operation E

pub data Reply (E : Type 0) : Type 0 where
  Done : Reply E
  Number : ℕ → Reply E
  Content : Option E → Reply E
  Verdict : Stored → Reply E

pub record Free : Type 0 where
  pub refuse : Bool
  pub spare : ℕ

abbrev pub is_refused : Stored → Bool
is_refused Accepted = false
is_refused Refused = true

module _ {E : Type 0} where
  abbrev pub target : Write E → Cell
  target (InSlot i content) = Slot i
  target (InIndex i number) = At i

  abbrev pub reading : Meaning E → Cell → Reply E
  reading m (Slot i) = Content (slice_index_or m.slots i None)
  reading m (At i) = Number (index m i)

  -- what a mark out of range answers
  abbrev pub nothing : Cell → Reply E
  nothing (Slot i) = Content None
  nothing (At i) = Number 0

  abbrev pub cleared : Meaning E → ℕ → ℕ → Meaning E
  cleared m base spare =
      record { slots = replicate (length m.slots) None; tail = base; head = base; marks = replicate bays None; spare = spare }

  -- the bay's mark and the spare are as given, the rest stays
  abbrev pub marked : Meaning E → ℕ → Option Cell → ℕ → Meaning E
  marked m b k spare =
      record { slots = m.slots; tail = m.tail; head = m.head; marks = slice_set m.marks b k; spare = spare }

  -- the write is made and every mark on its cell goes
  abbrev pub written : Meaning E → Write E → ℕ → Meaning E
  written m (InSlot i content) spare =
      record { slots = slice_set m.slots i content; tail = m.tail; head = m.head; marks = map (unless_on (Slot i)) m.marks; spare = spare }
  written m (InIndex Tail number) spare =
      record { slots = m.slots; tail = number; head = m.head; marks = map (unless_on (At Tail)) m.marks; spare = spare }
  written m (InIndex Head number) spare =
      record { slots = m.slots; tail = m.tail; head = number; marks = map (unless_on (At Head)) m.marks; spare = spare }

  -- a store in range
  abbrev pub stored : Meaning E → ℕ → Write E → Free → Reply E × Meaning E
  stored m b w f =
      cond (live m b (target w) && not f.refuse)
      (Verdict Accepted, written m w f.spare)
      (Verdict Refused, marked m b None f.spare)

  abbrev pub touched : Meaning E → Operation E → Free → Reply E × Meaning E
  touched m (Clear base) f = (Done, cleared m base f.spare)
  touched m (Read i) f = (Number (index m i), m)
  touched m (Mark b c) f = cond (known m b c) (reading m c, marked m b (Some c) f.spare) (nothing c, m)
  touched m (Store b w) f = cond (known m b (target w)) (stored m b w f) (Verdict Refused, m)

  -- which free results a store in range may have: only a live store is refused freely, and then the
  -- spare falls, so that none is refused at spare 0
  abbrev pub MayStore : ℕ → Meaning E → Bool → Free → Type 0
  MayStore K m true f = MatchBool f.refuse (f.spare < m.spare) (f.spare ≤ K)
  MayStore K m false f = f.spare ≤ m.spare

  -- which free results may be; out of range none is used
  abbrev pub May : ℕ → Meaning E → Operation E → Free → Type 0
  May K m (Clear base) f = f.spare ≤ K
  May K m (Read i) f = Unit {0}
  May K m (Mark b c) f = MatchBool (known m b c) (f.spare ≤ m.spare) (Unit {0})
  May K m (Store b w) f = MatchBool (known m b (target w)) (MayStore K m (live m b (target w)) f) (Unit {0})

  -- the free results as the outcome shows them
  abbrev pub seen : Reply E → Meaning E → Free
  seen Done m = record { refuse = false; spare = m.spare }
  seen (Number n) m = record { refuse = false; spare = m.spare }
  seen (Content o) m = record { refuse = false; spare = m.spare }
  seen (Verdict s) m = record { refuse = is_refused s; spare = m.spare }

  -- a memory with spares up to K answers the operation at m with this reply, and means n afterwards
  pub record Keeps (K : ℕ) (m : Meaning E) (o : Operation E) (r : Reply E) (n : Meaning E) : Type 0 where
    pub may : May K m o (seen r n)
    pub is : (r, n) ≡ touched m o (seen r n)
