use Rattle.std.proofs.Common.{sym, ap, ◌∙◌}
use Rattle.board.specs.Kinds.{OnRows, fresh_kind}
use Rattle.board.proofs.Board.new.Goals as goal

pub returns-in-Rows : goal.returns-in-Rows
returns-in-Rows g c =
    record {
      kind = ap OnRows c.new-in-Rows.ensures.marks ∙ ap fresh_kind (sym c.in-Rows.is);
      meaning = c.new-in-Rows.ensures.meaning;
      rest = c.new-in-Rows.ensures.rest;
    }
