use Rattle.std.proofs.Common.{IsTrue}
use Rattle.dl_disk.specs.Files.{IsSame}
use Rattle.resume_core.specs.Tables.{IsTableOf}
use Rattle.tests_store.proofs.bringing.settle_pieces.Given as goal

abbrev pub invariant-loop-piece : goal.invariant-loop-piece
invariant-loop-piece g l = record {
  table : IsTableOf l.want l.table;
  seen : IsTrue g.D.Disk.tells → IsSame (g.D.Disk.state l.fn.disk).seen (g.D.Disk.state l.disk).seen;
}
