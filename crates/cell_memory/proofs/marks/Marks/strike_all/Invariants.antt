use Rattle.std.proofs.Common.{◌≡◌, ◌++◌, map, length, take, drop}
use Rattle.cell_memory.specs.Marks.{struck}
use Rattle.cell_memory.proofs.marks.Marks.strike_all.Given as goal

abbrev pub invariant-loop-mark : goal.invariant-loop-mark
invariant-loop-mark g l =
    (length l.initial.mark-items ≡ 16)
    × (l.mark-items ≡ map (struck g.K.Marking l.cell) (take l.mark-index l.initial.mark-items) ++ drop l.mark-index l.initial.mark-items)
