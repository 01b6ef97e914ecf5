use Rattle.request_stream.proofs.next.head_progress.Goals as goal

pub returns-in-Some : goal.returns-in-Some
returns-in-Some c = λ most. (c.in-Some.ensures most).read
