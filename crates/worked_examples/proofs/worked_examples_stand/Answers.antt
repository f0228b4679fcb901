use Rattle.worked_examples.proofs.Examples.{stand}
use Rattle.worked_examples.proofs.worked_examples_stand.Goals as goal

pub returns : goal.returns
returns c = stand
