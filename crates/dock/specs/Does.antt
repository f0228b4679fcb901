-- What a call on a dock is to do.
--
--   world    the dock's record, what its memory means, and the trays and the book that are handed over
--   free     whether the memory refuses a live store, and its new spare: the only freedoms
--   of       the memory's ghost members: what it means, its largest spare, what it does exactly
--
-- Assumes nothing.
use Rattle.std.specs.Prelude.{◌≡◌, ℕ, false, List, replicate}
use Rattle.slot_memory.specs.declared.SlotMemory.{Ghosts}
use Rattle.slot_memory.specs.Rules.{Reply, Free}
use Rattle.dock_rules.specs.declared.Attempt.{Attempt}
use Rattle.dock_rules.specs.declared.BayRecord.TheVariants.{Free as Idle, UnderWay}
use Rattle.dock_rules.specs.declared.DockState.{DockState}
use Rattle.dock_rules.specs.declared.Stepped.{Stepped}
use Rattle.dock_rules.specs.Calls.{World, Book, Call, Open, Answer, most_bays, record_of, stepped, does, MayCall}
use Rattle.dock_rules.specs.Runs.{GoesOn, Begins}
use Rattle.dock.specs.declared.Dock.{Dock}
use Rattle.dock.specs.declared.Book as held
use Rattle.dock.specs.Answered.{stood}
use Rattle.dock.specs.Line.{line_operation}

-- at free results that may be, over a memory with spares up to K, the answer and the world afterwards
-- are those of the rules
pub record Does {E : Type 0} (K : ℕ) (w : World E) (c : Call E) (a : Answer) (v : World E) : Type 0 where
  pub free : Free
  pub may : MayCall K w c free
  pub is : (a, v) ≡ does w c free

-- the law that the call carries: every run that has come to this world goes on through the call, to a history that is
-- linearizable and keeps the progress bound
pub record Carries {E : Type 0} (K : ℕ) (w : World E) (c : Call E) (a : Answer) (v : World E) : Type 0 where
  pub law : GoesOn K w c a v

-- and of an open: granted, with n trays, it starts a run
pub record Starts {E : Type 0} (K : ℕ) (w : World E) (n life base : ℕ) (a : Answer) (v : World E) : Type 0 where
  pub starts : Begins K w n base a v
  pub law : GoesOn K w (Open n life base) a v

-- what a dock notes when it is made
abbrev pub shut_state : DockState
shut_state = record { opened = false; bays = 0; lifetime = 0; started = 0; records = replicate most_bays Idle }

abbrev pub book_of : {E : Type 0} → held.Book E → Book E
book_of k = record { row = k.row.now; entered = k.entered }

module _ {M E : Type 0} (of : Ghosts M E) where
  abbrev pub world : Dock M E of → List E → Book E → World E
  world d t k = record { dock = d.state; memory = of.meaning d.memory; trays = t; book = k }

  -- a call that is handed neither trays nor a book
  abbrev pub DoesAlone : Dock M E of → Call E → Answer → Dock M E of → Type 0
  DoesAlone d c a e = (t : List E) (k : Book E) → Does (of.limit d.memory) (world d t k) c a (world e t k)

  -- a call that is handed trays
  abbrev pub DoesOver : Dock M E of → List E → Call E → Answer → Dock M E of → List E → Type 0
  DoesOver d t c a e u = (k : Book E) → Does (of.limit d.memory) (world d t k) c a (world e u k)

  abbrev pub CarriesAlone : Dock M E of → Call E → Answer → Dock M E of → Type 0
  CarriesAlone d c a e = (t : List E) (k : Book E) → Carries (of.limit d.memory) (world d t k) c a (world e t k)

  abbrev pub CarriesOver : Dock M E of → List E → Call E → Answer → Dock M E of → List E → Type 0
  CarriesOver d t c a e u = (k : Book E) → Carries (of.limit d.memory) (world d t k) c a (world e u k)

  abbrev pub StartsAlone : Dock M E of → ℕ → ℕ → ℕ → Answer → Dock M E of → Type 0
  StartsAlone d n life base a e = (t : List E) (k : Book E) → Starts (of.limit d.memory) (world d t k) n life base a (world e t k)

  -- a step whose line's one operation was answered by the memory in its own way: answer and world come
  -- from that reply
  pub record Ran (d : Dock M E of) (t : List E) (b : ℕ) (s : Stepped) (e : Dock M E of) (u : List E) : Type 0 where
    pub call : Attempt
    pub under : record_of d.state b ≡ UnderWay call
    pub reply : Reply E
    pub exact : of.exactly d.memory (line_operation of d.memory b call.line call.index t) reply e.memory
    pub is : (k : Book E) → (stood s, world e u k) ≡ stepped (world d t k) b call (reply, of.meaning e.memory)
