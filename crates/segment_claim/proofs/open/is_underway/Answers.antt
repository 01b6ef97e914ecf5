use Rattle.std.proofs.Common.{◌+◌, ◌-◌, ◌≤◌, sym, ◌∙◌, arith}
use Rattle.segment_claim.specs.Open.{is_open_in}
use Rattle.segment_claim.proofs.Finding.{find_some}
use Rattle.segment_claim.proofs.open.is_underway.Goals as goal

pub returns-then-is_open : goal.returns-then-is_open
returns-then-is_open c =
    let a = c.args in
    let run = a.claim.now.run in
    let some : 1 ≤ run.count = c.requires.claim.some in
    sym (find_some (is_open_in a.plan.now.piece_len a.landed.now a.closed.now a.claim.now) run.first run.count
    (run.first + run.count - 1) (omega arith) (omega arith) (sym c.is_open.ensures ∙ c.if-is_open.true))
