use Rattle.meta_v2.proofs.PieceLengths.{is_length, length_sound}
use Rattle.meta_v2.proofs.laws.lengths_are_those_of_pieces.Goals as goal

pub returns : goal.returns
returns c = λ n. (length_sound n, is_length n)
