use Rattle.std.proofs.Common.{◌≡◌, ◌-◌, max, ℕ, Option, Some, refl, sym, ap, subst, ◌∙◌}
use Rattle.std.specs.Option.{option_or}
use Rattle.dl_kinds.specs.declared.runs.Moment.{Moment}
use Rattle.engine_turns.specs.declared.operations.Answer.{Answer}
use Rattle.engine_turns.specs.declared.operations.Said.{Said}
use Rattle.conn_worker.specs.Clocks.{PausesBy}
use Rattle.conn_worker.specs.Ends.{moment_behind, pause_of}
use Rattle.conn_worker.specs.Hands.{WorkerAt, link_at}
use Rattle.conn_worker.specs.Holding.{StandsAs}
use Rattle.conn_worker.specs.Parts.{part_behind}
use Rattle.conn_worker.specs.declared.ends.WorkEnd.{WorkEnd}
use Rattle.conn_worker.specs.declared.state.WorkState.{WorkState}
use Rattle.conn_worker.proofs.Asked.{asked_for}
use Rattle.conn_worker.proofs.TakingTurns.{Parts, once}
use Rattle.conn_worker.proofs.turning.work_once.Goals as goal

pub returns-clause-went : goal.returns-clause-went
returns-clause-went g c =
    let links = g.L.Links in
    let clocks = g.K.Clock in
    let took = c.turn-said.ensures.took in
    let said = c.turn-said.result.said in
    let said_is : took.turn.answer.said ≡ said = ap (λ (a : Answer). a.said) took.answer_is in
    let old = c.args.state.now in
    let new : WorkState = record {
      alloc = old.alloc;
      worker = old.worker;
      moment = c.pause-state.result;
      part = c.behind-state.result;
      hand = Some c.follow-next.result;
    } in
    let told = c.now-told.result.0 in
    let now = c.turn_moment-now.result in
    let parts : Parts old.worker told took.turn old new c.due-op.result.0 said now c.unwrap-hand.result
    c.follow-next.result c.due-op.result.1 c.with_buffer.result c.end.result = record {
      held = sym c.take.ensures.value ∙ c.unwrap-hand.ensures;
      told_is = c.now-told.ensures.within;
      now_is = c.turn_moment-now.ensures;
      due = c.due-op.ensures.made;
      stays = c.with_buffer.ensures;
      op_is = took.op_is;
      said_is = said_is;
      moment = c.pause-state.ensures.moment ∙ ap (λ (p : Option ℕ). moment_behind now.0 p) c.pause_of-rest.ensures;
      hand = refl {a = new.hand};
      ends = c.end.ensures;
    } in
    let part : new.part.bytes ≡ part_behind took.turn.answer.said (max told old.moment.0 - old.moment.0) old.part.bytes =
    c.behind-state.ensures
    ∙ (ap (λ (m : Moment). part_behind said (m.0 - old.moment.0) old.part.bytes) c.turn_moment-now.ensures
    ∙ ap (λ (s : Said). part_behind s (max told old.moment.0 - old.moment.0) old.part.bytes) (sym said_is)) in
    let from = c.now-told.new.self in
    let to = c.pause-state.new.clock in
    let link = link_at links c.args.link.now in
    let link' = link_at links c.follow-next.new.link in
    let then = λ (a : WorkerAt) (st : StandsAs links.tells old link a).
    once links.tells old.worker told took.turn old new c.due-op.result.0 said now c.unwrap-hand.result
    c.follow-next.result c.due-op.result.1 c.with_buffer.result c.end.result link link' a parts c.follow-next.ensures st in
    let first = c.requires in
    let next = then first.0 first.1 in
    record {
      turn = took.turn;
      went = c.turns_add_up.ensures.one (g.T.Desk.sight c.args.desk.now) (g.T.Desk.sight c.turn-said.new.self)
          c.due-op.result.0 c.turn-said.result took;
      told = told;
      asked = asked_for clocks links.tells old.worker told took.turn old new link link' first.0 next.0
          c.args.clock.now to next.1 first.1 next.2 (
            from,
            c.now-told.ensures.reads,
            subst (λ (s : Said). PausesBy clocks from (pause_of s) to) (sym said_is)
                (subst (λ (p : Option ℕ). PausesBy clocks from p to) c.pause_of-rest.ensures c.pause-state.ensures.clock),
          );
      worker = refl {a = old.worker};
      part = part;
      does = λ a st.
          let r = then a st in (
            r.0,
            r.1,
            r.2,
            c.or-end.ensures ∙ (ap (λ (e : Option WorkEnd). option_or e c.end.result) c.end_of-end.ensures ∙ r.3),
          );
    }
