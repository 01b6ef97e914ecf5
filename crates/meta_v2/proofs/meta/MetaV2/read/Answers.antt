use Rattle.meta_v2.proofs.Soundness.{given_sound}
use Rattle.meta_v2.proofs.meta.MetaV2.read.Goals as goal

pub returns-clause-sound : goal.returns-clause-sound
returns-clause-sound c = given_sound c.args.bytes.now c.meta_of.result c.requires c.meta_of.ensures
