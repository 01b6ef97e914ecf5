use Rattle.std.proofs.Common.{◌∙◌, refl}
use Rattle.range_origin.specs.Conversations.{talk_at}
use Rattle.range_origin.specs.Talking.{origin_at}
use Rattle.range_origin.proofs.Talks.{goes_on_talking, starts_talking}
use Rattle.range_origin.proofs.talking.talk.Goals as goal

pub loop-init : goal.loop-init
loop-init g c = (
  starts_talking g.T.Desk.sight g.D.Disk g.A.Doors c.turns_add_up.ensures.none c.args.desk.now c.args.door.now c.args.intake.now
      c.requires.fresh c.requires.opened,
  refl,
)

pub go_on-requires : goal.go_on-requires
go_on-requires g c = record { opened = c.loop.invariant.0.stays_open }

pub returns-in-Some-go_on-clause-desk_id : goal.returns-in-Some-go_on-clause-desk_id
returns-in-Some-go_on-clause-desk_id g c = c.in-Some-go_on.ensures.desk_id ∙ c.loop.invariant.1

pub returns-in-Some-go_on-clause-ends : goal.returns-in-Some-go_on-clause-ends
returns-in-Some-go_on-clause-ends g c =
    let is = c.loop.invariant.0 in
    c.in-Some-go_on.ensures.goes_on (origin_at c.args.desk.now c.args.door.now) is.answers is.talked

pub loop-preserved : goal.loop-preserved
loop-preserved g c = (
  goes_on_talking g.T.Desk.sight g.D.Disk g.A.Doors (origin_at c.args.desk.now c.args.door.now)
      (talk_at c.loop.desk c.loop.door c.loop.intake) (talk_at c.go_on.new.desk c.go_on.new.door c.go_on.new.intake) c.go_on.result
      c.loop.invariant.0 c.in_default.is c.go_on.ensures.stays_open c.go_on.ensures.goes_on,
  c.go_on.ensures.desk_id ∙ c.loop.invariant.1,
)
