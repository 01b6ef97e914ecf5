use Rattle.std.proofs.Common.{refl, ◌∙◌, arith}
use Rattle.conn_worker.specs.Works.{workplace}
use Rattle.conn_worker.proofs.TakingTurns.{all_spent, ends_within, goes_further, none_yet, not_some}
use Rattle.conn_worker.proofs.working.take_turns.Goals as goal

pub loop-init : goal.loop-init
loop-init g c = (
  none_yet g.L.Links g.K.Clock
      (workplace (g.T.Desk.sight c.args.desk.now) c.args.state.now c.args.link.now c.args.clock.now)
      c.turns_add_up.ensures.none,
  refl,
)

pub returns-in-Some-clause-went : goal.returns-in-Some-clause-went
returns-in-Some-clause-went g c =
    let o = c.work_once.new in
    ends_within g.L.Links g.K.Clock
    (workplace (g.T.Desk.sight c.args.desk.now) c.args.state.now c.args.link.now c.args.clock.now)
    (workplace (g.T.Desk.sight c.loop.desk) c.loop.state c.loop.link c.loop.clock)
    (workplace (g.T.Desk.sight o.desk) o.state o.link o.clock) c.loop.counter c.work_once.result c.in-Some.end
    c.in-Some.is c.loop-test.true c.turns_add_up.ensures.more c.loop.invariant.0 c.work_once.ensures.went

pub loop-preserved : goal.loop-preserved
loop-preserved g c =
    let o = c.work_once.new in (
      goes_further g.L.Links g.K.Clock
          (workplace (g.T.Desk.sight c.args.desk.now) c.args.state.now c.args.link.now c.args.clock.now)
          (workplace (g.T.Desk.sight c.loop.desk) c.loop.state c.loop.link c.loop.clock)
          (workplace (g.T.Desk.sight o.desk) o.state o.link o.clock) c.loop.counter c.work_once.result
          (not_some c.work_once.result c.in_default.not-Some) c.turns_add_up.ensures.more c.loop.invariant.0
          c.work_once.ensures.went,
      c.work_once.ensures.desk_id ∙ c.loop.invariant.1,
    )

pub returns-clause-went : goal.returns-clause-went
returns-clause-went g c =
    let low = c.loop-test.false in
    let high = c.loop.auto.counter-end in
    all_spent g.L.Links g.K.Clock
    (workplace (g.T.Desk.sight c.args.desk.now) c.args.state.now c.args.link.now c.args.clock.now)
    (workplace (g.T.Desk.sight c.loop.desk) c.loop.state c.loop.link c.loop.clock) c.loop.counter (record {})
    (omega (arith, low, high)) c.loop.invariant.0
