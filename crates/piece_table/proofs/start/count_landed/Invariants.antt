use Rattle.std.proofs.Common.{◌≡◌, ◌-◌, ◌≤◌}
use Rattle.dl_kinds.specs.Lists.{part_at}
use Rattle.piece_table.proofs.Counts.{count_of}
use Rattle.piece_table.proofs.start.count_landed.Given as goal

abbrev pub invariant-loop-block : goal.invariant-loop-block
invariant-loop-block l =
    record {
      counted : l.count ≡ count_of (part_at l.landed l.fn.run.first (l.block - l.fn.run.first));
      bound : l.count ≤ l.block - l.fn.run.first;
    }
