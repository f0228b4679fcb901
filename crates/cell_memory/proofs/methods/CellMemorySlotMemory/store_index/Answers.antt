use Rattle.std.proofs.Common.{sym, refl, subst}
use Rattle.slot_memory.specs.Rules.{InIndex}
use Rattle.cell_memory.specs.declared.CellMemory.{CellMemory}
use Rattle.cell_memory.proofs.Kept.{keeps}
use Rattle.cell_memory.proofs.Exactly.{Wrote, accepted_exactly, refused_exactly}
use Rattle.cell_memory.proofs.methods.CellMemorySlotMemory.store_index.Goals as goal

pub returns-then-not-settle : goal.returns-then-not-settle
returns-then-not-settle g c =
    let m = c.args.self.now in
    let k = g.K.Marking in
    let laws = g.met.K.Marking.laws in
    let told = c.if-not-settle.ensures in
    let known = sym c.if-not-knows.ensures.known in
    let n : CellMemory _ _ = record { slots = m.slots; tail = m.tail; head = m.head; marks = c.settle.new.self } in
    let e = refused_exactly k laws m n c.args.bay (InIndex c.args.index c.args.number) known (sym told.accepted) told.after (refl, refl, refl) in
    record { rules = keeps k laws m told.long _ _ n e; exact = e; fixed = refl }

pub returns-in-Tail : goal.returns-in-Tail
returns-in-Tail g c =
    let m = c.args.self.now in
    let k = g.K.Marking in
    let laws = g.met.K.Marking.laws in
    let told = c.if-not-settle.ensures in
    let known = sym c.if-not-knows.ensures.known in
    let n : CellMemory _ _ = record { slots = m.slots; tail = c.args.number; head = m.head; marks = c.settle.new.self } in
    let wrote = subst (λ i. Wrote k laws m (InIndex i c.args.number) n) (sym c.in-Tail.is) (refl, refl, refl) in
    let e = accepted_exactly k laws m n c.args.bay (InIndex c.args.index c.args.number) known (sym told.accepted) told.after wrote in
    record { rules = keeps k laws m told.long _ _ n e; exact = e; fixed = refl }

pub returns-in-Head : goal.returns-in-Head
returns-in-Head g c =
    let m = c.args.self.now in
    let k = g.K.Marking in
    let laws = g.met.K.Marking.laws in
    let told = c.if-not-settle.ensures in
    let known = sym c.if-not-knows.ensures.known in
    let n : CellMemory _ _ = record { slots = m.slots; tail = m.tail; head = c.args.number; marks = c.settle.new.self } in
    let wrote = subst (λ i. Wrote k laws m (InIndex i c.args.number) n) (sym c.in-Head.is) (refl, refl, refl) in
    let e = accepted_exactly k laws m n c.args.bay (InIndex c.args.index c.args.number) known (sym told.accepted) told.after wrote in
    record { rules = keeps k laws m told.long _ _ n e; exact = e; fixed = refl }
