use Rattle.std.proofs.Common.{refl, ◌∙◌}
use Rattle.conn_worker.specs.Works.{workplace}
use Rattle.conn_worker.proofs.TakingTurns.{ends_so, goes_further, none_yet, not_some}
use Rattle.conn_worker.proofs.keeping.keep_turns.Goals as goal

pub loop-init : goal.loop-init
loop-init g c = (
  (
    0,
    none_yet g.L.Links g.K.Clock
        (workplace (g.T.Desk.sight c.args.desk.now) c.args.state.now c.args.link.now c.args.clock.now)
        c.turns_add_up.ensures.none,
  ),
  refl,
)

pub returns-in-Some-work_once-clause-went : goal.returns-in-Some-work_once-clause-went
returns-in-Some-work_once-clause-went g c =
    let o = c.work_once.new in
    let goes = c.loop.invariant.0 in
    (ends_so g.L.Links g.K.Clock
    (workplace (g.T.Desk.sight c.args.desk.now) c.args.state.now c.args.link.now c.args.clock.now)
    (workplace (g.T.Desk.sight c.loop.desk) c.loop.state c.loop.link c.loop.clock)
    (workplace (g.T.Desk.sight o.desk) o.state o.link o.clock) goes.0 c.work_once.result c.in-Some-work_once.end
    c.in-Some-work_once.is c.turns_add_up.ensures.more goes.1 c.work_once.ensures.went).0

pub loop-preserved : goal.loop-preserved
loop-preserved g c =
    let o = c.work_once.new in
    let goes = c.loop.invariant.0 in (
      (
        _,
        goes_further g.L.Links g.K.Clock
            (workplace (g.T.Desk.sight c.args.desk.now) c.args.state.now c.args.link.now c.args.clock.now)
            (workplace (g.T.Desk.sight c.loop.desk) c.loop.state c.loop.link c.loop.clock)
            (workplace (g.T.Desk.sight o.desk) o.state o.link o.clock) goes.0 c.work_once.result
            (not_some c.work_once.result c.in_default.not-Some) c.turns_add_up.ensures.more goes.1
            c.work_once.ensures.went,
      ),
      c.work_once.ensures.desk_id ∙ c.loop.invariant.1,
    )
