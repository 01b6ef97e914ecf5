use Rattle.std.proofs.Common.{◌≡◌, ℕ, ◌<◌, length, slice_index}
use Rattle.piece_table.specs.Progress.{landed_count}
use Rattle.piece_table.proofs.start.counts_of.Given as goal

abbrev pub invariant-loop-piece : goal.invariant-loop-piece
invariant-loop-piece l =
    record {
      many : length l.held.items ≡ l.piece;
      each : (k : ℕ) → k < l.piece → slice_index l.held.items k ≡ landed_count l.plan.total l.plan.piece_len l.landed k;
    }
