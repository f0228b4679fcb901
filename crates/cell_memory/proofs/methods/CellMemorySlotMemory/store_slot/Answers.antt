use Rattle.std.proofs.Common.{sym, refl}
use Rattle.slot_memory.specs.Rules.{InSlot}
use Rattle.cell_memory.specs.declared.CellMemory.{CellMemory}
use Rattle.cell_memory.proofs.Kept.{keeps}
use Rattle.cell_memory.proofs.Exactly.{accepted_exactly, refused_exactly}
use Rattle.cell_memory.proofs.methods.CellMemorySlotMemory.store_slot.Goals as goal

pub returns-then-not-settle : goal.returns-then-not-settle
returns-then-not-settle g c =
    let m = c.args.self.now in
    let k = g.K.Marking in
    let laws = g.met.K.Marking.laws in
    let told = c.if-not-settle.ensures in
    let known = sym c.if-not-knows.ensures.known in
    let n : CellMemory _ _ = record { slots = m.slots; tail = m.tail; head = m.head; marks = c.settle.new.self } in
    let e = refused_exactly k laws m n c.args.bay (InSlot c.args.slot c.args.content) known (sym told.accepted) told.after (refl, refl, refl) in
    record { rules = keeps k laws m told.long _ _ n e; exact = e; fixed = refl }

pub returns : goal.returns
returns g c =
    let m = c.args.self.now in
    let k = g.K.Marking in
    let laws = g.met.K.Marking.laws in
    let told = c.if-not-settle.ensures in
    let known = sym c.if-not-knows.ensures.known in
    let n : CellMemory _ _ = record { slots = c.put.new.self; tail = m.tail; head = m.head; marks = c.settle.new.self } in
    let e = accepted_exactly k laws m n c.args.bay (InSlot c.args.slot c.args.content) known (sym told.accepted) told.after (c.put.ensures.contents, refl, refl) in
    record { rules = keeps k laws m told.long _ _ n e; exact = e; fixed = refl }
