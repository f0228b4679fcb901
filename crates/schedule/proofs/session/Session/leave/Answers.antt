use Rattle.std.proofs.Common.{sym, refl, subst}
use Rattle.std.proofs.lemmas.Result.{err_from_is_err_and}
use Rattle.dock_rules.specs.Calls.{Abandon}
use Rattle.schedule.proofs.Moving.{made_alone, stays}
use Rattle.schedule.proofs.Ending.{Ending, refused_ends, left_ends, turns_ended}
use Rattle.schedule.proofs.session.Session.leave.Goals as goal

pub returns-in_err-left : goal.returns-in_err-left
returns-in_err-left c =
    let told = c.in_err-left.ensures in
    let n = c.serial-serial.result in
    let made = made_alone c.args.self.now c.abandon.new.self (Abandon c.args.bay n) _ tt told.does told.law told.kept in
    let why = err_from_is_err_and c.from_residual.result c.from_residual.ensures.1 in
    rw (why.1, why.2) (turns_ended (Abandon c.args.bay) c.args.bay n c.serial-serial.ensures made (refused_ends c.args.bay n _) refl stays)

pub returns : goal.returns
returns c =
    let told = c.in_ok-left.ensures in
    let n = c.serial-serial.result in
    let made = made_alone c.args.self.now c.abandon.new.self (Abandon c.args.bay n) _ tt told.does told.law told.kept in
    let ending = subst (Ending c.args.bay n _) (sym c.from.ensures) (left_ends c.args.bay n c.in_ok-left.left told.receipt) in
    turns_ended (Abandon c.args.bay) c.args.bay n c.serial-serial.ensures made ending c.finish.ensures.response c.finish.ensures.moved
