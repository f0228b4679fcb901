use Rattle.std.proofs.Common.{sym, ◌∙◌, rules}
use borrow.Author.Tests.{tests}
use Rattle.std.proofs.lemmas.Iterator.{YieldsList-from_slice}
use Rattle.std.proofs.lemmas.Iterator.Search.{position_from_yields_List}
use Rattle.commands.proofs.Cutting.{is_cut, cut_at, not_cut}
use Rattle.commands.proofs.lexer.cut.Goals as goal

pub returns-in-Some : goal.returns-in-Some
returns-in-Some c =
    let found = position_from_yields_List (is_cut c.args.at) _ _ c.position.result c.position.ensures.ran (YieldsList-from_slice c.args.text.now cc) (λ x b q k. search (rules, tests)) in
    let e = cut_at c.args.at c.args.text.now c.in-Some.place (sym found ∙ c.in-Some.is) in record { front = e.0; back = e.1 }

pub returns-in-None : goal.returns-in-None
returns-in-None c =
    let found = position_from_yields_List (is_cut c.args.at) _ _ c.position.result c.position.ensures.ran (YieldsList-from_slice c.args.text.now cc) (λ x b q k. search (rules, tests)) in
    let e = not_cut c.args.at c.args.text.now (sym found ∙ c.in-None.is) in record { front = e.0; back = e.1 }
