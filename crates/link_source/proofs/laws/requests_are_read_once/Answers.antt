use Rattle.std.proofs.Common.{refl}
use Rattle.link_source.proofs.Reading.{asks_once}
use Rattle.link_source.proofs.laws.requests_are_read_once.Goals as goal

pub returns-clause-once : goal.returns-clause-once
returns-clause-once c = asks_once

pub returns-clause-answered : goal.returns-clause-answered
returns-clause-answered c = λ old new host target reply port first last served ordered bounded answers.
    answers.asked target first last served (record { text = refl; ordered = ordered; bounded = bounded })
