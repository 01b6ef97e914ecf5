use Rattle.std.proofs.Common.{◌≡◌, ◌<◌, ◌↔◌, ℕ, length, slice_get, Some, true, IsTrue}
use Rattle.payload_files.specs.Names.{IsOther}
use Rattle.resume_core.specs.Openings.{LooksPast, MatchesPiece}
use Rattle.resume_core.specs.Wants.{files_in}
use Rattle.resume_core.proofs.matching.matching_pieces.Given as goal

abbrev pub invariant-loop-piece : goal.invariant-loop-piece
invariant-loop-piece g l = record {
  len : length l.row ≡ l.want.plan.pieces;
  exact : IsTrue g.D.Disk.tells → (k : ℕ) → (slice_get l.row k ≡ Some true)
      ↔ ((k < l.piece) × MatchesPiece l.want (files_in l.want (g.D.Disk.state l.fn.disk).seen) k);
  looks : IsTrue g.D.Disk.tells
      → LooksPast (IsOther l.want.dir l.want.layout) (g.D.Disk.state l.fn.disk) (g.D.Disk.state l.disk);
  faults : g.D.Disk.faults l.disk ≡ g.D.Disk.faults l.fn.disk;
}
