use Rattle.std.proofs.Common.{refl, []}
use Rattle.bencode_core.proofs.Whole.{one_at_front}
use Rattle.bencode_core.proofs.laws.one_spelling.Goals as goal

pub returns-clause-value : goal.returns-clause-value
returns-clause-value c = λ v w bytes first second. (one_at_front v w bytes bytes [] [] first second refl).0
