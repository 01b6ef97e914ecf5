use Rattle.link_source.proofs.Answering.{answered}
use Rattle.link_source.proofs.mirrors.answer.Goals as goal

pub returns : goal.returns
returns c =
    let asks = rw c.in-Some.is at c.in_ok-asked.ensures in
    answered _ _ _ _ _ _ _ _ _ _ _ _ asks c.number_of-mirror.ensures c.next_of-next.ensures c.in_ok-text.ensures
