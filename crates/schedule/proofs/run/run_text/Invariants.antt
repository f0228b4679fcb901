use Rattle.std.proofs.Common.{length}
use Rattle.commands.specs.Commands.{lines_left}
use Rattle.schedule.specs.Output.{NotOpen}
use Rattle.schedule.specs.Sessions.{Passes}
use Rattle.schedule.proofs.run.run_text.Given as goal

-- what is printed so far, and what is printed of the lines that are left, is the output
abbrev pub invariant-loop-read : goal.invariant-loop-read
invariant-loop-read l = Passes NotOpen l.initial.transcript NotOpen l.transcript

abbrev pub decreases-loop-read : goal.decreases-loop-read
decreases-loop-read l = length (lines_left l.transcript.schedule)
