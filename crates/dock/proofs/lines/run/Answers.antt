-- An answer for each way out of a line, which names the reply: the check does not choose it. Assumes nothing.
use Rattle.std.proofs.Common.{refl, rules}
use Rattle.std.proofs.lemmas.Option.{slice_get_read}
use Rattle.slot_memory.specs.Rules.{Number, Content, Verdict}
use Rattle.dock.proofs.Running.{touching, reading}
use Rattle.dock.proofs.lines.run.Goals as goal

pub returns-in-E5 : goal.returns-in-E5
returns-in-E5 g c = reading _ c.in-E5.is (Number _) refl c.read-call.ensures refl refl refl

pub returns-then-head-length : goal.returns-then-head-length
returns-then-head-length g c = reading _ c.in-E6.is (Number _) refl c.read-head.ensures (search rules) refl refl

pub returns-else-head-length : goal.returns-else-head-length
returns-else-head-length g c = reading _ c.in-E6.is (Number _) refl c.read-head.ensures (search rules) refl refl

pub returns-in-E9 : goal.returns-in-E9
returns-in-E9 g c = touching _ c.in-E9.is (Content _) (search rules) c.mark_slot.ensures (search rules) refl refl

pub returns-then-tail-call : goal.returns-then-tail-call
returns-then-tail-call g c = reading _ c.in-E10.is (Number _) refl c.read-tail.ensures (search rules) refl refl

pub returns-then-call : goal.returns-then-call
returns-then-call g c = reading _ c.in-E10.is (Number _) refl c.read-tail.ensures (search rules) refl refl

pub returns-else-call : goal.returns-else-call
returns-else-call g c = reading _ c.in-E10.is (Number _) refl c.read-tail.ensures (search rules) refl refl

pub returns-then-tail-call-2 : goal.returns-then-tail-call-2
returns-then-tail-call-2 g c = touching _ c.in-E12.is (Number _) refl c.mark_index-tail.ensures (search rules) refl refl

pub returns-else-tail-call-2 : goal.returns-else-tail-call-2
returns-else-tail-call-2 g c = touching _ c.in-E12.is (Number _) refl c.mark_index-tail.ensures (search rules) refl refl

pub returns-in-E13 : goal.returns-in-E13
returns-in-E13 g c = touching _ c.in-E13.is (Verdict _) refl c.store_index.ensures refl refl refl

pub returns-in-Accepted : goal.returns-in-Accepted
returns-in-Accepted g c = touching _ c.in-E15.is (Verdict _) (let lies = slice_get_read c.args.trays.now _ c.args.bay c.index-trays-bay.result refl (search rules) c.index-trays-bay.is in search rules) c.in-Accepted.ensures refl refl refl

pub returns-in-Refused : goal.returns-in-Refused
returns-in-Refused g c = touching _ c.in-E15.is (Verdict _) (let lies = slice_get_read c.args.trays.now _ c.args.bay c.index-trays-bay.result refl (search rules) c.index-trays-bay.is in search rules) c.in-Refused.ensures refl refl refl

pub returns-then-tail-call-3 : goal.returns-then-tail-call-3
returns-then-tail-call-3 g c = touching _ c.in-E16.is (Number _) refl c.mark_index-tail-in-E16.ensures (search rules) refl refl

pub returns-else-tail-call-3 : goal.returns-else-tail-call-3
returns-else-tail-call-3 g c = touching _ c.in-E16.is (Number _) refl c.mark_index-tail-in-E16.ensures (search rules) refl refl

pub returns-in-Accepted-store_index : goal.returns-in-Accepted-store_index
returns-in-Accepted-store_index g c = touching _ c.in-E17.is (Verdict _) refl c.in-Accepted-store_index.ensures refl refl refl

pub returns-in-Refused-store_index : goal.returns-in-Refused-store_index
returns-in-Refused-store_index g c = touching _ c.in-E17.is (Verdict _) refl c.in-Refused-store_index.ensures refl refl refl

pub returns-in-D5 : goal.returns-in-D5
returns-in-D5 g c = reading _ c.in-D5.is (Number _) refl c.read-call-in-D5.ensures refl refl refl

pub returns-then-tail-call-4 : goal.returns-then-tail-call-4
returns-then-tail-call-4 g c = reading _ c.in-D6.is (Number _) refl c.read-tail-in-D6.ensures (search rules) refl refl

pub returns-else-tail-call-4 : goal.returns-else-tail-call-4
returns-else-tail-call-4 g c = reading _ c.in-D6.is (Number _) refl c.read-tail-in-D6.ensures (search rules) refl refl

pub returns-in-Some : goal.returns-in-Some
returns-in-Some g c = touching _ c.in-D9.is (Content _) (search rules) c.mark_slot-found.ensures (search rules) refl (search rules)

pub returns-in_default : goal.returns-in_default
returns-in_default g c = touching _ c.in-D9.is (Content _) (search rules) c.mark_slot-found.ensures (search rules) refl (search rules)

pub returns-then-head-call : goal.returns-then-head-call
returns-then-head-call g c = reading _ c.in-D10.is (Number _) refl c.read-head-in-D10.ensures (search rules) refl refl

pub returns-then-call-2 : goal.returns-then-call-2
returns-then-call-2 g c = reading _ c.in-D10.is (Number _) refl c.read-head-in-D10.ensures (search rules) refl refl

pub returns-else-call-2 : goal.returns-else-call-2
returns-else-call-2 g c = reading _ c.in-D10.is (Number _) refl c.read-head-in-D10.ensures (search rules) refl refl

pub returns-then-head-call-2 : goal.returns-then-head-call-2
returns-then-head-call-2 g c = touching _ c.in-D12.is (Number _) refl c.mark_index-head.ensures (search rules) refl refl

pub returns-else-head-call-2 : goal.returns-else-head-call-2
returns-else-head-call-2 g c = touching _ c.in-D12.is (Number _) refl c.mark_index-head.ensures (search rules) refl refl

pub returns-in-D13 : goal.returns-in-D13
returns-in-D13 g c = touching _ c.in-D13.is (Verdict _) refl c.store_index-in-D13.ensures refl refl refl

pub returns-in-Accepted-store_slot : goal.returns-in-Accepted-store_slot
returns-in-Accepted-store_slot g c = touching _ c.in-D15.is (Verdict _) (search rules) c.in-Accepted-store_slot.ensures refl refl refl

pub returns-in-Refused-store_slot : goal.returns-in-Refused-store_slot
returns-in-Refused-store_slot g c = touching _ c.in-D15.is (Verdict _) (search rules) c.in-Refused-store_slot.ensures refl refl refl

pub returns-then-head-call-3 : goal.returns-then-head-call-3
returns-then-head-call-3 g c = touching _ c.in-D16.is (Number _) refl c.mark_index-head-in-D16.ensures (search rules) refl refl

pub returns-else-head-call-3 : goal.returns-else-head-call-3
returns-else-head-call-3 g c = touching _ c.in-D16.is (Number _) refl c.mark_index-head-in-D16.ensures (search rules) refl refl

pub returns-in-Accepted-store_index-2 : goal.returns-in-Accepted-store_index-2
returns-in-Accepted-store_index-2 g c = touching _ c.in-D17.is (Verdict _) refl c.in-Accepted-store_index-2.ensures refl refl refl

pub returns-in-Refused-store_index-2 : goal.returns-in-Refused-store_index-2
returns-in-Refused-store_index-2 g c = touching _ c.in-D17.is (Verdict _) refl c.in-Refused-store_index-2.ensures refl refl refl
