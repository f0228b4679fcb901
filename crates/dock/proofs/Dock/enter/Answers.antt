use Rattle.std.proofs.Common.{refl, rules, arith}
use Rattle.std.proofs.lemmas.Bool.Decides.{nat_tests}
use Rattle.std.proofs.lemmas.Option.{slice_get_read}
use Rattle.dock.proofs.Lawful.{carries}
use Rattle.dock.proofs.Doing.{turned_down, granted_dry}
use Rattle.dock.proofs.Dock.enter.Goals as goal

pub returns-in-Err-clause-does : goal.returns-in-Err-clause-does
returns-in-Err-clause-does g c = turned_down _ _ _ _ (grind (arith, nat_tests))

pub returns-in-Err-clause-law : goal.returns-in-Err-clause-law
returns-in-Err-clause-law g c = carries (returns-in-Err-clause-does g c)

pub returns-clause-does : goal.returns-clause-does
returns-clause-does g c =
    let lies = slice_get_read c.args.trays.now _ c.args.receipt.bay c.index-trays-bay.result refl (search rules) c.index-trays-bay.is in
    granted_dry _ _ _ _ _ refl (grind (arith, nat_tests)) (search rules)

pub returns-clause-law : goal.returns-clause-law
returns-clause-law g c = carries (returns-clause-does g c)
