use Rattle.bencode_core.proofs.Whole.{one_at_front}
use Rattle.bencode_core.proofs.laws.no_spelling_begins_another.Goals as goal

pub returns : goal.returns
returns c = one_at_front
