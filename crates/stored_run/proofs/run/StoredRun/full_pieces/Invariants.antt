use Rattle.std.proofs.Common.{◌≡◌, ◌<◌, ◌≤◌, ℕ, length}
use Rattle.std.specs.Prelude.{◌↔◌, IsTrue}
use Rattle.dl_history.specs.HistoryLaws.{IsFullIn}
use Rattle.machine_core.specs.Reads.{lengths_of_gid}
use Rattle.stored_run.specs.Deliveries.{first_piece, mark_at}
use Rattle.stored_run.specs.Views.{own_in}
use Rattle.stored_run.proofs.run.StoredRun.full_pieces.Given as goal

-- of the pieces so far the row tells whether they are full
abbrev pub invariant-loop-piece : goal.invariant-loop-piece
invariant-loop-piece g l =
    let lengths = lengths_of_gid l.fn.self.machine l.fn.gid in
    record {
      from : l.first ≤ l.piece;
      many : length l.full ≡ 64;
      told : (p : ℕ) → first_piece lengths l.fn.run ≤ p → p < l.piece
          → IsTrue (mark_at lengths l.fn.run l.full p) ↔ IsFullIn lengths.total lengths.piece_len (own_in l.fn.self l.fn.gid) p;
    }
