use Rattle.std.proofs.Common.{◌∙◌, arith, refl, subst}
use Rattle.range_origin.specs.Keeping.{KeepsOn}
use Rattle.range_origin.specs.Talking.{origin_at}
use Rattle.range_origin.proofs.Doors.{kept_none}
use Rattle.range_origin.proofs.keeping.keep_with.Goals as goal

pub loop-init : goal.loop-init
loop-init g c =
    let none = c.requires.none in (
      kept_none g.T.Desk.sight g.D.Disk g.A.Doors c.turns_add_up.ensures.none (origin_at c.args.desk.now c.args.door.now)
          c.args.starved.now (omega (arith, none)),
      refl,
    )

pub returns-in-Some-keep_on-clause-desk_id : goal.returns-in-Some-keep_on-clause-desk_id
returns-in-Some-keep_on-clause-desk_id g c = c.in-Some-keep_on.ensures.desk_id ∙ c.loop.invariant.1

pub returns-in-Some-keep_on-clause-kept : goal.returns-in-Some-keep_on-clause-kept
returns-in-Some-keep_on-clause-kept g c =
    c.in-Some-keep_on.ensures.kept (origin_at c.args.desk.now c.args.door.now) c.args.starved.now c.loop.invariant.0

pub loop-preserved : goal.loop-preserved
loop-preserved g c =
    let on = subst
    (λ end. KeepsOn g.T.Desk.sight g.D.Disk g.A.Doors (origin_at c.loop.desk c.loop.door) c.loop.starved
    (origin_at c.keep_on.new.desk c.keep_on.new.door) c.keep_on.new.starved end) c.in_default.is c.keep_on.ensures.kept in (
      on (origin_at c.args.desk.now c.args.door.now) c.args.starved.now c.loop.invariant.0,
      c.keep_on.ensures.desk_id ∙ c.loop.invariant.1,
    )
