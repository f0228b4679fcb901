use Rattle.std.proofs.Common.{ap}
use Rattle.std.specs.Option.{ok_or}
use Rattle.commands.specs.declared.Fault.TheVariants.{Command}
use Rattle.commands.proofs.Spelling.{not_text}
use Rattle.commands.proofs.parse.verb_of.Goals as goal

pub returns-in-Err : goal.returns-in-Err
returns-in-Err c = ap (λ v. ok_or v Command) (not_text c.args.word.now c.in-Err.ensures.cases.0)
