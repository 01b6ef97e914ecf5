use Rattle.run_report.proofs.Changes.{change_applied}
use Rattle.run_report.proofs.laws.changes_are_applied.Goals as goal

pub returns : goal.returns
returns c = change_applied
