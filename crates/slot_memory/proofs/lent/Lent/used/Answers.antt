use Rattle.std.proofs.Common.{length-take, rules}
use Rattle.std.proofs.lemmas.List.{take_min}
use Rattle.slot_memory.proofs.lent.Lent.used.Goals as goal

pub returns : goal.returns
returns g c = record { contents = search (rules, take_min); few = search (rules, length-take) }
