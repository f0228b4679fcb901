use Rattle.std.proofs.Common.{length}
use Rattle.commands.specs.Commands.{lines_left}
use Rattle.schedule.proofs.Lines.{Going}
use Rattle.schedule.proofs.transcript.Transcript.heed_all.Given as goal

-- session and transcript stand where the lines so far brought them
abbrev pub invariant-loop-read : goal.invariant-loop-read
invariant-loop-read l = Going l.initial.session l.initial.self l.session l.self

abbrev pub decreases-loop-read : goal.decreases-loop-read
decreases-loop-read l = length (lines_left l.self.schedule)
