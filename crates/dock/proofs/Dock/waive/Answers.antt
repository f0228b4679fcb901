use Rattle.std.proofs.Common.{refl, arith}
use Rattle.std.proofs.lemmas.Bool.Decides.{nat_tests}
use Rattle.dock.proofs.Lawful.{carries}
use Rattle.dock.proofs.Doing.{turned_down, granted_dry}
use Rattle.dock.proofs.Dock.waive.Goals as goal

pub returns-in-Err-clause-does : goal.returns-in-Err-clause-does
returns-in-Err-clause-does g c = λ t k. turned_down _ _ _ _ (grind (arith, nat_tests))

pub returns-in-Err-clause-law : goal.returns-in-Err-clause-law
returns-in-Err-clause-law g c = λ t k. carries (returns-in-Err-clause-does g c t k)

pub returns-clause-does : goal.returns-clause-does
returns-clause-does g c = λ t k. granted_dry _ _ _ _ _ refl (grind (arith, nat_tests)) refl

pub returns-clause-law : goal.returns-clause-law
returns-clause-law g c = λ t k. carries (returns-clause-does g c t k)
