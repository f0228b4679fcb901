use Rattle.schedule.proofs.Lines.{was_read, goes_on}
use Rattle.schedule.proofs.transcript.Transcript.heed_all.Goals as goal

pub loop-read-preserved : goal.loop-read-preserved
loop-read-preserved c =
    let told = c.in-Some.ensures in
    let line = was_read c.loop-read.self c.in-Some.read c.read.new.self told.lines told.out told.number in
    let printed = c.in_ok-print.ensures in
    goes_on c.args.session.now c.args.self.now c.loop-read.invariant line c.heed.ensures (record { lines = printed.lines; out = printed.out; number = printed.number })
