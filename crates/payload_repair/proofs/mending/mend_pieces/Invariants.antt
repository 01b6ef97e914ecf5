use Rattle.std.proofs.Common.{◌≡◌, ◌*◌, ◌≤◌, min, length, IsTrue}
use Rattle.payload_repair.specs.Ahead.{AreRight}
use Rattle.payload_repair.specs.Counting.{AreOf}
use Rattle.payload_repair.specs.Jobs.{hashed, own_bytes, copy_bytes, HasOtherCopy}
use Rattle.payload_repair.specs.Mending.{ChangesPieces, PutsPieces}
use Rattle.payload_repair.specs.Placed.{own_content, IsFitted}
use Rattle.payload_repair.specs.Repairs.{counts_upto}
use Rattle.payload_repair.proofs.mending.mend_pieces.Given as goal

abbrev pub invariant-loop-piece : goal.invariant-loop-piece
invariant-loop-piece g l =
    let start = g.D.Disk.state l.fn.disk in
    let now = g.D.Disk.state l.disk in
    record {
      counts : IsTrue g.D.Disk.tells → HasOtherCopy l.job → l.counts ≡ counts_upto (hashed l.job) (own_bytes l.job start.seen) (copy_bytes l.job start.seen) l.piece;
      bounded : AreOf l.piece (min (l.piece * l.job.plan.piece_len) l.job.plan.total) l.counts;
      reached : IsTrue g.D.Disk.tells → l.job.len ≤ length (own_content l.job now.seen);
      fitted : IsTrue g.D.Disk.tells → ¬ (l.counts.repaired ≡ 0) → IsFitted l.job now;
      puts : IsTrue g.D.Disk.tells → HasOtherCopy l.job → PutsPieces l.job l.piece start now;
      keeps : IsTrue g.D.Disk.tells → HasOtherCopy l.job → ChangesPieces l.job l.piece start now;
      ahead : IsTrue g.D.Disk.tells → AreRight l.job l.ahead.known l.piece now.seen;
      faults : g.D.Disk.faults l.disk ≡ g.D.Disk.faults l.fn.disk;
    }
