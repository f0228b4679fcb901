-- A line has run once its one operation is made on the memory. Assumes nothing.
use Rattle.std.proofs.Common.{◌≡◌, ℕ, List, length, sym, refl, ap, ◌∙◌, subst}
use Rattle.slot_memory.specs.declared.SlotMemory.{Ghosts}
use Rattle.slot_memory.specs.Rules.{Operation, Reply, Keeps}
use Rattle.dock_rules.specs.declared.Line.{Line}
use Rattle.dock_rules.specs.declared.Attempt.{Attempt}
use Rattle.dock_rules.specs.declared.BayRecord.{BayRecord}
use Rattle.dock_rules.specs.declared.BayRecord.TheVariants.{UnderWay, Ended as OverBy}
use Rattle.dock_rules.specs.declared.DockState.{DockState}
use Rattle.dock_rules.specs.declared.Stepped.{Stepped}
use Rattle.dock_rules.specs.declared.Stepped.TheVariants.{At, Ended}
use Rattle.dock_rules.specs.Lines.{next, trays_after}
use Rattle.dock_rules.specs.Calls.{World, Book, Answer, with_record, answer_of, record_after, stepped}
use Rattle.dock.specs.Answered.{stood}
use Rattle.dock.specs.Line.{leads, line_operation, Runs}

module _ {M E : Type 0} (of : Ghosts M E) where
  -- what a memory tells of an operation that may alter it
  abbrev Told : M → Operation E → Reply E → M → Type 0
  Told m o r n = record { rules : Keeps (of.limit m) (of.meaning m) o r (of.meaning n); exact : of.exactly m o r n; fixed : of.limit n ≡ of.limit m }

  -- and of one that does not
  abbrev Seen : M → Operation E → Reply E → Type 0
  Seen m o r = record { rules : Keeps (of.limit m) (of.meaning m) o r (of.meaning m); exact : of.exactly m o r m }

module _ {M E : Type 0} {of : Ghosts M E} {m : M} {b : ℕ} {a z : Attempt} {t u : List E} {s : Stepped} {l : Line} where
  pub touching : {n : M} (k : Line) → l ≡ k → (r : Reply E) {o : Operation E} → o ≡ line_operation of m b k a.index t → Told of m o r n → leads s z.index z.held ≡ next k (length (of.meaning m).slots) a.index a.held r → z.serial ≡ a.serial → u ≡ trays_after k t b r → Runs of m b l a t s n z u
  touching {n} k at r same told goes serial trays =
      subst (λ l. Runs of m b l a t s n z u) (sym at)
      (record {
        reply = r;
        exact = subst (λ o. of.exactly m o r n) same told.exact;
        rules = subst (λ o. Keeps (of.limit m) (of.meaning m) o r (of.meaning n)) same told.rules;
        fixed = told.fixed;
        goes = goes;
        serial = serial;
        trays = trays;
      })

  pub reading : (k : Line) → l ≡ k → (r : Reply E) {o : Operation E} → o ≡ line_operation of m b k a.index t → Seen of m o r → leads s z.index z.held ≡ next k (length (of.meaning m).slots) a.index a.held r → z.serial ≡ a.serial → u ≡ trays_after k t b r → Runs of m b l a t s m z u
  reading k at r same seen goes serial trays = touching k at r same (record { rules = seen.rules; exact = seen.exact; fixed = refl }) goes serial trays

-- what a step notes of the bay
abbrev pub noting : Stepped → Attempt → BayRecord
noting (At l) z = UnderWay (record { serial = z.serial; line = l; index = z.index; held = z.held })
noting (Ended o) z = OverBy z.serial o

noting_leads : (s : Stepped) (z : Attempt) → ◌≡◌ {A = Answer × BayRecord} (stood s, noting s z) (answer_of (leads s z.index z.held), record_after z.serial (leads s z.index z.held))
noting_leads (At l) z = refl
noting_leads (Ended o) z = refl

module _ {M E : Type 0} (of : Ghosts M E) where
  -- a dock's step, from its line: it answers p and notes h
  pub stepped_by : (d : DockState) (m n : M) (b : ℕ) (a z : Attempt) (t u : List E) (s p : Stepped) (h : BayRecord) → p ≡ s → h ≡ noting s z → (ran : Runs of m b a.line a t s n z u) (k : Book E) → ◌≡◌ {A = Answer × World E} (stood p, record { dock = with_record d b h; memory = of.meaning n; trays = u; book = k }) (stepped (record { dock = d; memory = of.meaning m; trays = t; book = k }) b a (ran.reply, of.meaning n))
  stepped_by d m n b a z t u s p h same notes ran k =
      (λ j. (stood (same j), record { dock = with_record d b (notes j); memory = of.meaning n; trays = u; book = k }))
      ∙ ap (λ x. (x.0, record { dock = with_record d b x.1; memory = of.meaning n; trays = u; book = k })) (noting_leads s z)
      ∙ (λ j. (answer_of (ran.goes j), record { dock = with_record d b (record_after (ran.serial j) (ran.goes j)); memory = of.meaning n; trays = ran.trays j; book = k }))
