use Rattle.std.proofs.Common.{sym, refl, subst}
use Rattle.std.proofs.lemmas.Result.{err_from_is_err_and}
use Rattle.dock_rules.specs.Calls.{Collect}
use Rattle.schedule.proofs.Moving.{made_alone, stays}
use Rattle.schedule.proofs.Ending.{Ending, refused_ends, collected_ends, turns_ended}
use Rattle.schedule.proofs.session.Session.collect.Goals as goal

pub returns-in_err-collected : goal.returns-in_err-collected
returns-in_err-collected c =
    let told = c.in_err-collected.ensures in
    let n = c.serial-serial.result in
    let made = made_alone c.args.self.now c.collect.new.self (Collect c.args.bay n) _ tt told.does told.law told.kept in
    let why = err_from_is_err_and c.from_residual.result c.from_residual.ensures.1 in
    rw (why.1, why.2) (turns_ended (Collect c.args.bay) c.args.bay n c.serial-serial.ensures made (refused_ends c.args.bay n _) refl stays)

pub returns : goal.returns
returns c =
    let told = c.in_ok-collected.ensures in
    let n = c.serial-serial.result in
    let made = made_alone c.args.self.now c.collect.new.self (Collect c.args.bay n) _ tt told.does told.law told.kept in
    let ending = subst (Ending c.args.bay n _) (sym c.from.ensures) (collected_ends c.args.bay n c.in_ok-collected.collected told.receipt) in
    turns_ended (Collect c.args.bay) c.args.bay n c.serial-serial.ensures made ending c.finish.ensures.response c.finish.ensures.moved
