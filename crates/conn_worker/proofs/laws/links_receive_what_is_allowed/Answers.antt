use Rattle.conn_worker.proofs.Allowing.{receives_allowed}
use Rattle.conn_worker.proofs.laws.links_receive_what_is_allowed.Goals as goal

pub returns : goal.returns
returns c = receives_allowed
