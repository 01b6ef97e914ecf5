use Rattle.std.proofs.Common.{arith}
use Rattle.payload_repair.specs.Jobs.{hashed, copy_bytes}
use Rattle.payload_repair.proofs.MendingLemmas.{no_copy}
use Rattle.payload_repair.proofs.PieceLemmas.{wrong_past, ends_some}
use Rattle.payload_repair.proofs.checking.read_copy.Goals as goal

pub returns-in-None-clause-right : goal.returns-in-None-clause-right
returns-in-None-clause-right g c told =
    let job = c.args.job.now in
    let seen = (g.D.Disk.state c.args.disk.now).seen in
    let none = no_copy job seen c.in-None.is in
    let some = ends_some job.plan.total job.plan.piece_len c.args.piece (omega (arith, c.requires.job.piece_len.least)) (omega (arith, c.requires.piece, job.plan.pieces_are)) in
    wrong_past (hashed job) (copy_bytes job seen) c.args.piece (omega (arith, none, some))
