use Rattle.std.proofs.Common.{◌≡◌, ◌-◌, Bool, List, drop}
use Rattle.dl_history.specs.Accounts.{Account, without_soles}
use Rattle.segment_claim.specs.Situation.{IsTableOfClaims}
use Rattle.one_download.specs.PayloadViews.{with_parts}
use Rattle.one_download.proofs.halts.end_soles.Given as goal

abbrev pub invariant-loop-done : goal.invariant-loop-done
invariant-loop-done l = record {
  account : (k : Account) (row : List Bool) → with_parts k l.table l.claims row
      ≡ without_soles (with_parts k l.fn.table l.fn.claims row) (drop (l.count - l.done) l.fn.claims.standing);
  verified : l.table.verified ≡ l.fn.table.verified;
  total : l.table.total ≡ l.fn.table.total;
  piece_len : l.table.piece_len ≡ l.fn.table.piece_len;
  together : IsTableOfClaims l.claims l.table;
  room : l.claims.spare ≡ l.fn.claims.spare;
}
