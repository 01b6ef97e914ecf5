use Rattle.memory_reply_laws.proofs.Answering.{requests_are_alike, requests_are_answered, none_is_next}
use Rattle.memory_reply_laws.proofs.laws.requests_are_answered.Goals as goal

pub returns : goal.returns
returns c = record { alike = requests_are_alike; answered = requests_are_answered; none_next = none_is_next }
