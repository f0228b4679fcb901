use Rattle.std.proofs.Common.{sym, refl, rules}
use Rattle.std.proofs.lemmas.List.{with_items_is}
use Rattle.schedule.proofs.Moving.{made-step}
use Rattle.schedule.proofs.session.Session.step.Goals as goal

pub returns : goal.returns
returns c =
    let s = c.args.self.now in
    let back = with_items_is s.trays c.step.new.trays (search rules) in
    made-step s _ c.args.bay refl refl {r = c.step.result} c.as_mut_slice.ensures.value (sym back)
    (record { does = c.step.ensures.does; law = c.step.ensures.law; exact = c.step.ensures.exact })
