use Rattle.request_chain.proofs.keeping.reads_whole.Goals as goal

pub returns-clause-whole : goal.returns-clause-whole
returns-clause-whole g c one told url before and =
    c.receive_byte.ensures.byte one told url before c.args.head.now and (c.ends_in_byte.ensures c.if-not-ends_in_byte.false)

pub returns-clause-answered : goal.returns-clause-answered
returns-clause-answered g c told url others before and few =
    c.receive_byte.ensures.answered told url others before c.args.head.now and (c.ends_in_byte.ensures c.if-not-ends_in_byte.false) few
