use Rattle.std.proofs.Common.{length, take, drop, ap, ◌∙◌}
use Rattle.slot_memory.proofs.Fronts.{fill_front, behind_front}
use Rattle.slot_memory.proofs.lent.Lent.clear.Goals as goal

pub returns : goal.returns
returns g c =
    let long = ap length c.used-end.ensures.contents in
    record {
      contents = ap (take 1025) c.empty.ensures ∙ fill_front 1025 _ _ _ long;
      rest = ap (drop 1025) c.empty.ensures ∙ behind_front 1025 _ _ _ long;
    }
