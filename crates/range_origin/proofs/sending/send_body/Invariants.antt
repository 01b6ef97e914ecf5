use Rattle.std.specs.Prelude.{◌≡◌, ◌-◌}
use Rattle.range_origin.specs.Talking.{origin_at}
use Rattle.range_origin.proofs.SentTexts.{IsSending}
use Rattle.range_origin.proofs.sending.send_body.Given as goal

abbrev pub invariant-loop-done : goal.invariant-loop-done
invariant-loop-done g l =
    IsSending g.T.Desk.sight g.D.Disk g.A.Doors l.name l.first l.len l.done (origin_at l.fn.desk l.fn.door)
    (origin_at l.desk l.door)
    × (g.T.Desk.desk_id l.desk ≡ g.T.Desk.desk_id l.fn.desk)

abbrev pub decreases-loop-done : goal.decreases-loop-done
decreases-loop-done g l = l.len - l.done
