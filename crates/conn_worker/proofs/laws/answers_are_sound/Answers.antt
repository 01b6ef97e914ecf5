use Rattle.conn_worker.proofs.Sounds.{answers_sound}
use Rattle.conn_worker.proofs.laws.answers_are_sound.Goals as goal

pub returns : goal.returns
returns c = answers_sound
