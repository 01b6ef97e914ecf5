use Rattle.bencode_core.proofs.Whole.{reading_takes, reading_again}
use Rattle.bencode_core.proofs.laws.reads_what_is_spelled.Goals as goal

pub returns : goal.returns
returns c = λ v bytes fits. (reading_takes bytes v fits, reading_again bytes v)
