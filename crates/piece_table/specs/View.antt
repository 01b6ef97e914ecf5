-- What a table tells.
use Rattle.piece_table.specs.Kept.{KeepsTable}
use Rattle.piece_table.specs.Progress.{Progress}
use Rattle.piece_table.specs.declared.table.Table.TheInside.{Inside}

abbrev pub progress_of : Inside → Progress
progress_of t =
    record {
      total = t.plan.total;
      piece_len = t.plan.piece_len;
      landed = t.landed;
      verified = t.verified;
      sole = t.sole;
      wrong = t.wrong;
      givers = t.givers.items;
    }

abbrev pub IsSoundTable : Inside → Type 0
IsSoundTable t = KeepsTable (progress_of t) t.held.items t.completed t.verified_bytes
