use Rattle.std.proofs.Common.{◌≡◌, ◌+◌, true}
use Rattle.piece_table.proofs.SoFar.{AreSoFar}
use Rattle.segment_claim.specs.Open.{is_open_in}
use Rattle.segment_claim.proofs.open.open_runs.Given as goal

abbrev pub invariant-loop-block : goal.invariant-loop-block
invariant-loop-block l =
    record {
      so_far : AreSoFar (λ block. is_open_in l.plan.piece_len l.landed l.closed l.claim block ≡ true) l.fn.run.first
          l.runs l.last;
      end : l.last.first + l.last.count ≡ l.block;
    }
