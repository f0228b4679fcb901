use Rattle.std.proofs.Common.{◌∙◌}
use Rattle.commands.specs.Tokens.{words_left}
use Rattle.commands.proofs.Commanding.{commanded, no_more, one_more}
use Rattle.commands.proofs.parse.CommandTryFromRefSliceU8.try_from.Goals as goal

pub returns-in-None : goal.returns-in-None
returns-in-None c =
    let first = rw c.in-Some-Word.field-0-is at c.in-Some-Word.ensures.steps in
    no_more c.in_ok-command.command (words_left c.command.new.self) c.in-None.ensures.steps
    ∙ commanded c.args.line.now (words_left c.command.new.self) c.in_ok-command.command c.over-lexer.ensures first c.in_ok-verb_of.ensures c.in_ok-command.ensures

pub returns-in-Some : goal.returns-in-Some
returns-in-Some c =
    let first = rw c.in-Some-Word.field-0-is at c.in-Some-Word.ensures.steps in
    one_more c.in_ok-command.command (words_left c.command.new.self) c.in-Some.ensures.steps
    ∙ commanded c.args.line.now (words_left c.command.new.self) c.in_ok-command.command c.over-lexer.ensures first c.in_ok-verb_of.ensures c.in_ok-command.ensures
