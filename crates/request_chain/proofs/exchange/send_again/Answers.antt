use Rattle.std.proofs.Common.{inr}
use Rattle.request_chain.proofs.AnsweredLemmas.{answered_sent}
use Rattle.request_chain.proofs.exchange.send_again.Goals as goal

pub returns-in-Ok-clause-answered : goal.returns-in-Ok-clause-answered
returns-in-Ok-clause-answered g c told before =
    let opened = c.requires.opened told in
    answered_sent c.replies_are_read_short.ensures.nothing before _ _ _ _ _ opened.at (inr opened.listens) (c.in-Ok.ensures.sent told)
