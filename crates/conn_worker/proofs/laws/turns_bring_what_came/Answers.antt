use Rattle.conn_worker.proofs.Bringing.{brings_what_came}
use Rattle.conn_worker.proofs.Later.{links_go_on}
use Rattle.conn_worker.proofs.laws.turns_bring_what_came.Goals as goal

pub returns : goal.returns
returns c = record { brought = brings_what_came; links = links_go_on }
