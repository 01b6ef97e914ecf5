use Rattle.std.proofs.Common.{◌≡◌, ◌+◌, ◌-◌, length}
use Rattle.dl_kinds.specs.Plan.{pieces_of}
use Rattle.dl_history.specs.Accounts.{unsettled_by}
use Rattle.one_download.proofs.payload.unsettle.Given as goal

abbrev pub invariant-loop-block : goal.invariant-loop-block
invariant-loop-block l =
    let len = l.plan.piece_len in
    let end = l.fn.run.first + l.fn.run.count in
    record {
      row : length l.settled ≡ pieces_of l.plan.total l.plan.piece_len;
      rest : unsettled_by len l.fn.run l.fn.settled
          ≡ unsettled_by len (record { first = l.block; count = end - l.block }) l.settled;
    }
