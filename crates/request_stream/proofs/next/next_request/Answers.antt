use Rattle.request_stream.proofs.next.next_request.Goals as goal

pub returns-in-Some-clause-next : goal.returns-in-Some-clause-next
returns-in-Some-clause-next c = (c.in-Some.ensures c.args.most c.requires.read).unfinished

pub returns-in-Some-clause-read : goal.returns-in-Some-clause-read
returns-in-Some-clause-read c = (c.in-Some.ensures c.args.most c.requires.read).read
