use Rattle.std.proofs.Common.{length, ◌≢◌, ◌-◌, ◌+◌, ◌≤◌, take, vec_len, vec_capacity}
use Rattle.body_frames.specs.Reading.{Reads}
use Rattle.body_frames.specs.declared.phase.Phase.TheVariants.{Stopped}
use Rattle.body_frames.proofs.body.Body.read.Given as goal

abbrev pub invariant-loop-used : goal.invariant-loop-used
invariant-loop-used l = record {
  bound : l.used ≤ length l.piece;
  open_phase : l.self.phase ≢ Stopped;
  grows : vec_len l.initial.out ≤ vec_len l.out;
  len : vec_len l.out ≤ vec_len l.initial.out + l.used;
  capacity : vec_capacity l.initial.out ≤ vec_capacity l.out;
  room : vec_len l.out + (length l.piece - l.used) ≤ vec_capacity l.out;
  reads : Reads l.initial.self.phase (take l.used l.piece) l.initial.out.items l.out.items l.self.phase;
}

abbrev pub decreases-loop-used : goal.decreases-loop-used
decreases-loop-used l = length l.piece - l.used
