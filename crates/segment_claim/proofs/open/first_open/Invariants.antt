use Rattle.std.proofs.Common.{◌≡◌, ◌+◌, ◌-◌}
use Rattle.std.specs.Prelude.{find}
use Rattle.std.specs.List.{range_with_len}
use Rattle.segment_claim.specs.Open.{claimed_blocks, is_open_in}
use Rattle.segment_claim.proofs.open.first_open.Given as goal

abbrev pub invariant-loop-from : goal.invariant-loop-from
invariant-loop-from l =
    record {
      end : l.end ≡ l.claim.run.first + l.claim.run.count;
      rest : find (is_open_in l.plan.piece_len l.landed l.closed l.claim) (claimed_blocks l.claim)
          ≡ find (is_open_in l.plan.piece_len l.landed l.closed l.claim) (range_with_len l.from (l.end - l.from));
    }

abbrev pub decreases-loop-from : goal.decreases-loop-from
decreases-loop-from l = l.end - l.from
