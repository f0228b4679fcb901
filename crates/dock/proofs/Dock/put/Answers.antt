use Rattle.std.proofs.Common.{refl, ap, rules, arith}
use Rattle.std.proofs.lemmas.Bool.Decides.{nat_tests}
use Rattle.std.proofs.lemmas.Result.{err_from_is_err_and}
use Rattle.dock.proofs.Lawful.{carries}
use Rattle.dock.proofs.Doing.{turned_down, not_begun, granted_dry}
use Rattle.dock.proofs.Dock.put.Goals as goal

pub returns-in_err-check_trays-clause-does : goal.returns-in_err-check_trays-clause-does
returns-in_err-check_trays-clause-does g c = let p = err_from_is_err_and c.from_residual.result c.from_residual.ensures.1 in rw (p.1, p.2) (λ k. turned_down _ _ _ _ (grind (arith, nat_tests)))

pub returns-in_err-check_trays-clause-law : goal.returns-in_err-check_trays-clause-law
returns-in_err-check_trays-clause-law g c = λ k. carries (returns-in_err-check_trays-clause-does g c k)

pub returns-in_err-serial-clause-does : goal.returns-in_err-serial-clause-does
returns-in_err-serial-clause-does g c = let p = err_from_is_err_and c.from_residual-in_err-serial.result c.from_residual-in_err-serial.ensures.1 in rw (p.1, p.2) (λ k. not_begun _ _ _ _ _ _ (grind (arith, nat_tests)) c.in_err-serial.ensures.unmoved (ap g.M.SlotMemory.meaning c.begin.ensures.memory))

pub returns-in_err-serial-clause-law : goal.returns-in_err-serial-clause-law
returns-in_err-serial-clause-law g c = λ k. carries (returns-in_err-serial-clause-does g c k)

pub returns-clause-does : goal.returns-clause-does
returns-clause-does g c = λ k. granted_dry _ _ _ _ _ refl (grind (arith, nat_tests)) (search rules)

pub returns-clause-law : goal.returns-clause-law
returns-clause-law g c = λ k. carries (returns-clause-does g c k)
