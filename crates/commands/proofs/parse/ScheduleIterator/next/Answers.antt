use Rattle.std.proofs.Common.{ap, ◌∙◌, rules}
use Rattle.commands.specs.Commands.{lines_left, next_command}
use Rattle.commands.proofs.Parts.{now_or, command_next, goes, line_fewer}
use Rattle.commands.proofs.parse.ScheduleIterator.next.Goals as goal

pub returns : goal.returns
returns c =
    let steps = command_next c.args.self.now.text.now c.cut.result.0.now c.unwrap_or-self.result.now _ c.try_from.result (search rules) c.cut.ensures.front c.cut.ensures.back (ap (λ x. x.now) c.unwrap_or-self.ensures ∙ now_or c.cut.result.1 _) c.try_from.ensures in
    record { steps = steps; goes = goes lines_left next_command line_fewer _ _ _ _ steps }
