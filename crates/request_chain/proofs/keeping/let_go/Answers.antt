use Rattle.request_chain.proofs.AnsweredLemmas.{answered_closed}
use Rattle.request_chain.proofs.keeping.let_go.Goals as goal

pub returns-then-not-whole-clause-answered : goal.returns-then-not-whole-clause-answered
returns-then-not-whole-clause-answered g c told url others before and few old were =
    answered_closed before _ _ (c.hang_up.ensures.closed told) old (c.reads_whole-whole.ensures.answered told url others before and few old were)

pub returns-else-not-whole-clause-whole : goal.returns-else-not-whole-clause-whole
returns-else-not-whole-clause-whole g c told url before and rests = c.reads_whole-whole.ensures.whole rests told url before and
