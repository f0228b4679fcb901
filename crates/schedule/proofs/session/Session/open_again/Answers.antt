use Rattle.std.proofs.Common.{refl}
use Rattle.std.proofs.lemmas.Result.{err_from_is_err_and}
use Rattle.schedule.proofs.Moving.{turns}
use Rattle.schedule.proofs.session.Session.open_again.Goals as goal

pub returns-in_err-open : goal.returns-in_err-open
returns-in_err-open c =
    let why = err_from_is_err_and c.from_residual.result c.from_residual.ensures.1 in
    rw (why.1, why.2) (turns c.in_err-open.ensures.made 0 refl)

pub returns : goal.returns
returns c = turns c.in_ok-open.ensures.made 0 refl
