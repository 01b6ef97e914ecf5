use Rattle.request_stream.proofs.next.read_anew.Goals as goal

pub returns-in-More-clause-read : goal.returns-in-More-clause-read
returns-in-More-clause-read c = c.head_progress.ensures c.args.most
