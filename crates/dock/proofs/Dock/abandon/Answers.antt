use Rattle.std.proofs.Common.{refl, rules, arith}
use Rattle.std.proofs.lemmas.Bool.Decides.{nat_tests}
use Rattle.std.proofs.lemmas.Result.{err_from_is_err_and}
use Rattle.dock.proofs.Lawful.{carries}
use Rattle.dock.proofs.Doing.{turned_down, granted_dry}
use Rattle.dock.proofs.Dock.abandon.Goals as goal

pub returns-in_err-line-clause-does : goal.returns-in_err-line-clause-does
returns-in_err-line-clause-does g c = let p = err_from_is_err_and c.from_residual.result c.from_residual.ensures.1 in rw (p.1, p.2) (λ t k. turned_down _ _ _ _ (grind (arith, nat_tests)))

pub returns-in_err-line-clause-law : goal.returns-in_err-line-clause-law
returns-in_err-line-clause-law g c = λ t k. carries (returns-in_err-line-clause-does g c t k)

pub returns-in_default-clause-does : goal.returns-in_default-clause-does
returns-in_default-clause-does g c = λ t k. turned_down _ _ _ _ (grind (arith, nat_tests))

pub returns-in_default-clause-law : goal.returns-in_default-clause-law
returns-in_default-clause-law g c = λ t k. carries (returns-in_default-clause-does g c t k)

pub returns-clause-does : goal.returns-clause-does
returns-clause-does g c = λ t k. granted_dry _ _ _ _ _ refl (grind (arith, nat_tests)) (search rules)

pub returns-clause-law : goal.returns-clause-law
returns-clause-law g c = λ t k. carries (returns-clause-does g c t k)
