use Rattle.ftp_fetches.proofs.Silence.{nothing_heard}
use Rattle.ftp_fetches.proofs.laws.nothing_heard_is_due.Goals as goal

pub returns : goal.returns
returns c = nothing_heard c.replies_are_one_and_stay.ensures.whole
