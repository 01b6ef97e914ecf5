use Rattle.run_lifecycle.proofs.Crashes.{have_digests, survives}
use Rattle.run_lifecycle.proofs.laws.disks_keep_runs.Goals as goal

pub returns-clause-complete : goal.returns-clause-complete
returns-clause-complete g c start told given now run = have_digests g.D.Disk.state c.runs_follow.ensures start told given now run

pub returns-clause-crash : goal.returns-clause-crash
returns-clause-crash g c start told given now run want was = survives g.D.Disk.state c.runs_follow.ensures start told given now run want was
