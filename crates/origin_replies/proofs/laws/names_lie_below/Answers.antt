use Rattle.origin_replies.proofs.Cutting.{names_lie_below}
use Rattle.origin_replies.proofs.laws.names_lie_below.Goals as goal

pub returns : goal.returns
returns c = names_lie_below
