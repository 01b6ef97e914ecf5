use Rattle.run_report.proofs.OneSummary.{summary_one}
use Rattle.run_report.proofs.laws.summaries_are_one.Goals as goal

pub returns : goal.returns
returns c = summary_one
