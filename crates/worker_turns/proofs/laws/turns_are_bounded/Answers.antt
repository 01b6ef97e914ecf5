use Rattle.worker_turns.proofs.Counting.{turns_bounded}
use Rattle.worker_turns.proofs.laws.turns_are_bounded.Goals as goal

pub returns : goal.returns
returns c = turns_bounded c.answers_are_sound.ensures
