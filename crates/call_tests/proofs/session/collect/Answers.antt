use Rattle.std.proofs.Common.{[]}
use Rattle.call_tests.proofs.Owing.{closes-collect}
use Rattle.call_tests.proofs.session.collect.Goals as goal

pub returns : goal.returns
returns g c =
    let told = c.collect.ensures in
    rw c.from.ensures (closes-collect told.stays _ told.receipt told.out (told.does [] (record { row = []; entered = 0 })))
