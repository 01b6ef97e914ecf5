use Rattle.origin_replies.proofs.Within.{spans_lie_within}
use Rattle.origin_replies.proofs.laws.spans_lie_within.Goals as goal

pub returns : goal.returns
returns c = spans_lie_within
