use Rattle.std.proofs.Common.{refl, arith, ◌∙◌}
use Rattle.tests_desk.proofs.Adding.{none_yet, one_more, at_places}
use Rattle.tests_desk.proofs.callers.repeat.Goals as goal

pub loop-init : goal.loop-init
loop-init g c = (
  none_yet g.S.Served.relates (g.T.Desk.sight c.args.desk.now) c.args.op c.turns_add_up.ensures.none,
  refl,
)

pub loop-preserved : goal.loop-preserved
loop-preserved g c = (
  one_more g.S.Served.relates (g.T.Desk.sight c.args.desk.now) (g.T.Desk.sight c.loop.desk)
      (g.T.Desk.sight c.turn.new.self) c.args.op c.turn.result c.loop.counter
      c.turns_add_up.ensures.one c.turns_add_up.ensures.more c.loop.invariant.0 c.turn.ensures.took,
  c.turn.ensures.desk_id ∙ c.loop.invariant.1,
)

pub returns-clause-took : goal.returns-clause-took
returns-clause-took g c =
    let low = c.loop-test.false in
    let high = c.loop.auto.counter-end in
    at_places g.S.Served.relates (g.T.Desk.sight c.args.desk.now)
    (g.T.Desk.sight c.loop.desk) c.args.op c.loop.counter c.args.times
    (omega (arith, low, high)) c.own_turns_are_placed.ensures c.loop.invariant.0

pub returns-clause-desk_id : goal.returns-clause-desk_id
returns-clause-desk_id g c = c.loop.invariant.1
