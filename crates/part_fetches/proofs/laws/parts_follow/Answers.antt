use Rattle.part_fetches.proofs.Following.{part_begins, part_is_cut, part_leaves_more}
use Rattle.part_fetches.proofs.laws.parts_follow.Goals as goal

pub returns : goal.returns
returns c = record { begins = part_begins; leaves = part_leaves_more; cut = part_is_cut }
