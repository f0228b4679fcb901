use Rattle.std.proofs.Common.{ap, arith}
use Rattle.std.proofs.lemmas.Bool.Decides.{nat_tests}
use Rattle.std.proofs.lemmas.Result.{err_from_is_err_and}
use Rattle.dock.proofs.Lawful.{carries}
use Rattle.dock.proofs.Doing.{turned_down, taking}
use Rattle.dock.proofs.Dock.take.Goals as goal

pub returns-in_err-check_open-clause-does : goal.returns-in_err-check_open-clause-does
returns-in_err-check_open-clause-does g c = let p = err_from_is_err_and c.from_residual.result c.from_residual.ensures.1 in rw (p.1, p.2) (λ t k. turned_down _ _ _ _ (grind (arith, nat_tests)))

pub returns-in_err-check_open-clause-law : goal.returns-in_err-check_open-clause-law
returns-in_err-check_open-clause-law g c = λ t k. carries (returns-in_err-check_open-clause-does g c t k)

pub returns-clause-does : goal.returns-clause-does
returns-clause-does g c = λ t k. taking _ _ _ _ _ _ c.in_ok-check_open.ensures c.begin.ensures.begins c.begin.ensures.unmoved (ap g.M.SlotMemory.meaning c.begin.ensures.memory)

pub returns-clause-law : goal.returns-clause-law
returns-clause-law g c = λ t k. carries (returns-clause-does g c t k)
