use Rattle.std.proofs.Common.{sym, refl, ap, rules}
use Rattle.std.proofs.lemmas.List.{with_items_is}
use Rattle.board.specs.Kinds.{kind_of, memory}
use Rattle.dock_rules.specs.Calls.{Put}
use Rattle.dock.specs.Does.{book_of, world}
use Rattle.schedule.proofs.Moving.{made_dry}
use Rattle.schedule.proofs.session.Session.put.Goals as goal

pub returns : goal.returns
returns c =
    let s = c.args.self.now in
    let k = book_of s.book in
    let back = with_items_is s.trays c.put.new.trays (search rules) in
    made_dry s _ (Put c.args.bay c.args.word) _ (ap (λ x. world memory s.dock x k) c.as_mut_slice.ensures.value) (ap (λ x. world memory c.put.new.self x k) (sym back)) (c.put.ensures.law k) refl tt (c.put.ensures.does k) (ap kind_of c.put.ensures.kept)
