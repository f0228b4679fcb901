use Rattle.std.proofs.Common.{◌<◌, take, drop, sym, refl, ap, ◌∙◌, arith, length-take}
use Rattle.std.proofs.lemmas.List.{set_past, drop-set-lt}
use Rattle.std.proofs.Math.Seq.{take-set-lt}
use Rattle.slot_memory.proofs.lent.Lent.put.Goals as goal

pub write-requires : goal.write-requires
write-requires g c = omega (arith, c.len.ensures, length-take 1025 c.args.self.now.row.now)

pub returns-then-slot-len : goal.returns-then-slot-len
returns-then-slot-len g c =
    let row = c.args.self.now.row.now in
    let here : c.args.slot < 1025 = omega (arith, c.len.ensures, length-take 1025 row) in
    record {
      contents = ap (take 1025) c.write.ensures ∙ take-set-lt 1025 row c.args.slot c.args.content here;
      rest = ap (drop 1025) c.write.ensures ∙ drop-set-lt 1025 row c.args.slot c.args.content here;
    }

pub returns-else-slot-len : goal.returns-else-slot-len
returns-else-slot-len g c = record { contents = sym (set_past _ _ _ (omega (arith, c.len.ensures))); rest = refl }
