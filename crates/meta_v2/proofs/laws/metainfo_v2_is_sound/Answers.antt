use Rattle.meta_v2.proofs.Soundness.{sound}
use Rattle.meta_v2.proofs.laws.metainfo_v2_is_sound.Goals as goal

pub returns : goal.returns
returns c = λ meta some. sound some.0 meta some.1 some.2
