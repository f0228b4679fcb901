-- The contract of every_run_stands is the run law. Assumes nothing.
use Rattle.dock_rules.proofs.Theorem.{every_run}
use Rattle.dock_rules.proofs.every_run_stands.Goals as goal

pub returns : goal.returns
returns g c = every_run g.row.E.Denot
