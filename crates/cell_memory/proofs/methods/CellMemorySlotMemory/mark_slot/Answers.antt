use Rattle.std.proofs.Common.{sym, refl, ap}
use Rattle.slot_memory.specs.declared.Cell.TheVariants.{Slot}
use Rattle.slot_memory.specs.Rules.{Content}
use Rattle.cell_memory.specs.declared.CellMemory.{CellMemory}
use Rattle.cell_memory.proofs.Kept.{keeps}
use Rattle.cell_memory.proofs.Exactly.{marked_exactly}
use Rattle.cell_memory.proofs.methods.CellMemorySlotMemory.mark_slot.Goals as goal

pub returns : goal.returns
returns g c =
    let m = c.args.self.now in
    let k = g.K.Marking in
    let laws = g.met.K.Marking.laws in
    let known = sym c.if-not-knows.ensures.known in
    let n : CellMemory _ _ = record { slots = m.slots; tail = m.tail; head = m.head; marks = c.make.new.self } in
    let e = marked_exactly k laws m n c.args.bay (Slot c.args.slot) (Content c.get.result) known (ap Content c.get.ensures) c.make.ensures.made (refl, refl, refl) in
    record { rules = keeps k laws m c.make.ensures.long _ _ n e; exact = e; fixed = refl }
