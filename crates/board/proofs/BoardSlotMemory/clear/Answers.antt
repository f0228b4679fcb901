use Rattle.std.proofs.Common.{sym, ap, subst}
use Rattle.slot_memory.specs.Rules.{Clear, Done}
use Rattle.board.specs.declared.Board.TheVariants.{Rows}
use Rattle.board.specs.Kinds.{OnRows, Plays}
use Rattle.board.proofs.BoardSlotMemory.clear.Goals as goal

pub returns-in-Rows-clause-exact : goal.returns-in-Rows-clause-exact
returns-in-Rows-clause-exact g c =
    let exact = c.clear-in-Rows.ensures.exact in
    subst (λ b. Plays b (Clear c.args.base) Done (Rows c.clear-in-Rows.new.self)) (sym c.in-Rows.is)
    (record { is = exact.is; kind = ap OnRows exact.marks })
