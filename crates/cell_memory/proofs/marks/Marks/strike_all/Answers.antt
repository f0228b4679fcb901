use Rattle.std.proofs.Common.{◌∙◌, append-nil, rules}
use Rattle.std.proofs.lemmas.List.{take_all, drop_all}
use Rattle.std.proofs.lemmas.List.Edits.{map_over_more}
use Rattle.cell_memory.specs.Marks.{struck}
use Rattle.cell_memory.proofs.marks.Marks.strike_all.Goals as goal

pub loop-mark-preserved : goal.loop-mark-preserved
loop-mark-preserved g c = (c.loop-mark.invariant.0, search (rules, map_over_more (struck g.K.Marking c.args.cell)))

pub returns : goal.returns
returns g c = c.loop-mark.invariant.1 ∙ search (rules, take_all, drop_all, append-nil)
