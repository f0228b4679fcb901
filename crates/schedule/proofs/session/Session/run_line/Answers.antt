use Rattle.std.proofs.Common.{refl}
use Rattle.std.proofs.lemmas.Result.{err_from_is_err_and}
use Rattle.schedule.proofs.Moving.{turns}
use Rattle.schedule.proofs.session.Session.run_line.Goals as goal

pub returns-in_err-stepped : goal.returns-in_err-stepped
returns-in_err-stepped c =
    let why = err_from_is_err_and c.from_residual.result c.from_residual.ensures.1 in
    rw (why.1, why.2) (turns c.in_err-stepped.ensures c.args.bay refl)

pub returns : goal.returns
returns c = turns c.in_ok-stepped.ensures c.args.bay c.stood.ensures
