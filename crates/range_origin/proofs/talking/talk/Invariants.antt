use Rattle.std.specs.Prelude.{◌≡◌}
use Rattle.range_origin.specs.Conversations.{talk_at}
use Rattle.range_origin.specs.Talking.{origin_at}
use Rattle.range_origin.proofs.Talks.{IsTalking}
use Rattle.range_origin.proofs.talking.talk.Given as goal

abbrev pub invariant-loop : goal.invariant-loop
invariant-loop g l =
    IsTalking g.T.Desk.sight g.D.Disk g.A.Doors (origin_at l.fn.desk l.fn.door) (talk_at l.desk l.door l.intake)
    × (g.T.Desk.desk_id l.desk ≡ g.T.Desk.desk_id l.fn.desk)
