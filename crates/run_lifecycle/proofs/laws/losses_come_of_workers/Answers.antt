use Rattle.run_lifecycle.proofs.Linked.{lengths_come, losses_come}
use Rattle.run_lifecycle.proofs.laws.losses_come_of_workers.Goals as goal

pub returns-clause-lost : goal.returns-clause-lost
returns-clause-lost g c words gids doors disk out ended out' ran = losses_come ran

pub returns-clause-sized : goal.returns-clause-sized
returns-clause-sized g c words gids doors disk out ended out' ran = lengths_come ran
