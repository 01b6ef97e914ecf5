use Rattle.metainfo.proofs.Sound.{given_sound}
use Rattle.metainfo.proofs.meta.Meta.read.Goals as goal

pub returns-clause-sound : goal.returns-clause-sound
returns-clause-sound c = given_sound c.args.bytes.now c.meta_of.result c.meta_of.ensures.exact
