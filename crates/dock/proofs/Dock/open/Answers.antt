use Rattle.std.proofs.Common.{arith}
use Rattle.std.proofs.lemmas.Bool.Decides.{nat_tests}
use Rattle.dock.proofs.Lawful.{starts}
use Rattle.dock.proofs.Doing.{turned_down, opening}
use Rattle.dock.proofs.Dock.open.Goals as goal

pub returns-then-self-clause-does : goal.returns-then-self-clause-does
returns-then-self-clause-does g c = λ t k. turned_down _ _ _ _ (grind (arith, nat_tests))

pub returns-then-self-clause-law : goal.returns-then-self-clause-law
returns-then-self-clause-law g c = λ t k. starts c.ranges.base.fits (returns-then-self-clause-does g c t k)

pub returns-then-not-fits_ring-clause-does : goal.returns-then-not-fits_ring-clause-does
returns-then-not-fits_ring-clause-does g c = λ t k. turned_down _ _ _ _ (grind (arith, nat_tests))

pub returns-then-not-fits_ring-clause-law : goal.returns-then-not-fits_ring-clause-law
returns-then-not-fits_ring-clause-law g c = λ t k. starts c.ranges.base.fits (returns-then-not-fits_ring-clause-does g c t k)

pub returns-then-not-contains-clause-does : goal.returns-then-not-contains-clause-does
returns-then-not-contains-clause-does g c = λ t k. turned_down _ _ _ _ (grind (arith, nat_tests))

pub returns-then-not-contains-clause-law : goal.returns-then-not-contains-clause-law
returns-then-not-contains-clause-law g c = λ t k. starts c.ranges.base.fits (returns-then-not-contains-clause-does g c t k)

pub returns-then-not-contains-2-clause-does : goal.returns-then-not-contains-2-clause-does
returns-then-not-contains-2-clause-does g c = λ t k. turned_down _ _ _ _ (grind (arith, nat_tests))

pub returns-then-not-contains-2-clause-law : goal.returns-then-not-contains-2-clause-law
returns-then-not-contains-2-clause-law g c = λ t k. starts c.ranges.base.fits (returns-then-not-contains-2-clause-does g c t k)

pub returns-clause-does : goal.returns-clause-does
returns-clause-does g c = λ t k. opening _ _ _ _ _ _ (grind (arith, nat_tests)) c.clear.ensures.rules

pub returns-clause-law : goal.returns-clause-law
returns-clause-law g c = λ t k. starts c.ranges.base.fits (returns-clause-does g c t k)
