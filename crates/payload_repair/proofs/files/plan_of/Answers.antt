use Rattle.std.proofs.Common.{arith}
use Rattle.payload_repair.proofs.FileLemmas.{is_plan}
use Rattle.payload_repair.proofs.files.plan_of.Goals as goal

pub unreachable-requires : goal.unreachable-requires
unreachable-requires c =
    let some = c.new.ensures.found.1 (is_plan c.args.len c.args.piece_len c.requires.piece_len (omega (arith, c.requires.few)) (omega (arith, c.requires.bounded))) in
    let none = rw c.in-None.is at some in cc
