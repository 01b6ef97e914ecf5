use Rattle.std.proofs.Common.{◌≡◌, length}
use Rattle.dl_kinds.specs.Plan.{blocks_of}
use Rattle.tests_machine.proofs.rig.rows.Given as goal

abbrev pub invariant-loop-block : goal.invariant-loop-block
invariant-loop-block l = length l.blocks ≡ blocks_of l.plan.total l.plan.piece_len
