use Rattle.std.proofs.Common.{refl, ap}
use Rattle.schedule.specs.declared.session.Session.{Session}
use Rattle.schedule.specs.Sessions.{game_of}
use Rattle.std.proofs.lemmas.Result.{err_from_is_err_and}
use Rattle.dock_rules.specs.Calls.{Take}
use Rattle.schedule.proofs.Moving.{made_alone, turns_start}
use Rattle.schedule.proofs.session.Session.start_take.Goals as goal

pub returns-in_err-serial : goal.returns-in_err-serial
returns-in_err-serial c =
    let told = c.in_err-serial.ensures in
    let made = made_alone c.args.self.now c.take.new.self (Take c.args.bay) _ tt told.does told.law told.kept in
    let why = err_from_is_err_and c.from_residual.result c.from_residual.ensures.1 in
    rw (why.1, why.2) (turns_start made c.args.bay refl refl (λ e. refl))

pub returns : goal.returns
returns c =
    let told = c.in_ok-serial.ensures in
    let made = made_alone c.args.self.now c.take.new.self (Take c.args.bay) _ tt told.does told.law told.kept in
    turns_start made c.args.bay (ap game_of c.note.ensures.session) (ap (λ (s : Session). s.last) c.note.ensures.session) (λ e. c.note.ensures.response)
