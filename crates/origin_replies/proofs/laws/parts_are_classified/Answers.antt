use Rattle.origin_replies.proofs.Classes.{parts_are_sent, parts_are_classified}
use Rattle.origin_replies.proofs.laws.parts_are_classified.Goals as goal

pub returns : goal.returns
returns c =
    let laws = c.numbers_and_ranges_are_read.ensures in
    record {
      sent = parts_are_sent laws.numbers;
      classified = parts_are_classified laws.numbers laws.ranges;
    }
