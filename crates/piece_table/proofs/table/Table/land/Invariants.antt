use Rattle.std.proofs.Common.{◌≡◌, ◌-◌}
use Rattle.piece_table.specs.Steps.{landed_by}
use Rattle.piece_table.proofs.table.Table.land.Given as goal

abbrev pub invariant-loop-block : goal.invariant-loop-block
invariant-loop-block l = l.self ≡ landed_by l.fn.self (record { first = l.fn.run.first; count = l.block - l.fn.run.first }) l.mirror
