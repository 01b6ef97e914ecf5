use Rattle.std.proofs.Common.{arith}
use Rattle.solo_run.proofs.laws.bounds_are_told.Goals as goal

pub returns : goal.returns
returns c blocks pieces mirrors tries = record { claims = omega arith; events = omega arith; clears = omega arith }
