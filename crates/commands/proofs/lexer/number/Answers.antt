use Rattle.std.proofs.Common.{◌∙◌, rules}
use borrow.Author.Tests.{tests}
use Rattle.std.proofs.lemmas.Iterator.{YieldsList-from_slice}
use Rattle.commands.specs.Text.{value_next}
use Rattle.commands.proofs.Reading.{try_fold_from_yields_List, number_read}
use Rattle.commands.proofs.lexer.number.Goals as goal

pub returns : goal.returns
returns c =
    let read = try_fold_from_yields_List _ _ _ value_next (λ a x r q k. search (rules, tests)) _ 0 c.try_fold.result c.try_fold.ensures.ran (YieldsList-from_slice c.args.word.now cc) in
    read ∙ number_read c.args.word.now (search rules) (search rules)
