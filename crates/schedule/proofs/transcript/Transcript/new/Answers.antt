use Rattle.std.proofs.Common.{length, ap, arith}
use Rattle.schedule.proofs.Lines.{lines_few}
use Rattle.schedule.proofs.transcript.Transcript.new.Goals as goal

pub invariant_of-result : goal.invariant_of-result
invariant_of-result c = record { fits = omega (arith, ap length c.new.ensures, lines_few c.args.text.now) }
