use Rattle.metainfo.proofs.Sound.{sound}
use Rattle.metainfo.proofs.laws.metainfo_is_sound.Goals as goal

pub returns : goal.returns
returns c = λ said some. sound some.0 said some.1
