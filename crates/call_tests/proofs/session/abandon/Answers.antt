use Rattle.std.proofs.Common.{[]}
use Rattle.call_tests.proofs.Owing.{closes-abandon}
use Rattle.call_tests.proofs.session.abandon.Goals as goal

pub returns : goal.returns
returns g c =
    let told = c.abandon.ensures in
    rw c.from.ensures (closes-abandon told.stays _ told.receipt told.out (told.does [] (record { row = []; entered = 0 })))
