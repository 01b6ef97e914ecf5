use Rattle.std.proofs.Common.{inl, inr}
use Rattle.option_set.proofs.Limits.{outside}
use Rattle.option_set.proofs.setting.read_number.Goals as goal
use Rattle.option_set.proofs.setting.read_number.Goals.{then-value-row-via-then-value-row, then-value-row-via-else-value-row+then-row-value}

pub returns-then-value-row : goal.returns-then-value-row
returns-then-value-row c =
    outside c.row-row.result c.args.num c.args.value.now c.in-Some.value c.row-row.ensures c.in-Some.ensures
    (elim c.then-value-row.branch [
      | then-value-row-via-then-value-row w ↦ inl w.if-value-row.true
      | then-value-row-via-else-value-row+then-row-value w ↦ inr w.if-row-value.true
    ])
