use Rattle.std.proofs.Common.{inr, refl, sym, subst}
use Rattle.engine_turns.specs.declared.operations.Answer.{Answer}
use Rattle.engine_turns.specs.declared.operations.Operation.TheVariants as operation
use Rattle.rpc_envelope.specs.Outcomes.{outcome_if_any}
use Rattle.console_session.proofs.Carrying.{call_taken}
use Rattle.console_session.specs.CallTurns.{IsToldOrLost, outcome_by}
use Rattle.console_session.specs.Sessions.{session_at}
use Rattle.console_session.proofs.session.ConsoleSession.carry_out.Goals as goal

pub returns-clause-carries : goal.returns-clause-carries
returns-clause-carries g c =
    let took = c.turn-said.ensures.took in
    let a = session_at c.args.self.now c.args.desk.now in
    let b = session_at c.note.new.self c.turn-said.new.self in
    inr (
      took.turn,
      c.now-now.result.0,
      took.op_is,
      subst (λ (x : Answer). IsToldOrLost (outcome_by c.args.keys.now x.said) (outcome_if_any c.outcome_by.result))
          (sym took.answer_is) c.outcome_by.ensures.told,
      call_taken g.T.Desk.sight g.T.Desk.desk_id g.K.Clock.reads a b _ took.turn c.args.call c.now-now.result.0
          c.turn-said.result took.op_is took.answer_is (record { number = refl; secret = refl })
          c.in_ok-reserve.ensures.items refl c.now-now.ensures.reads c.note.ensures
          (c.turns_add_up.ensures.one (g.T.Desk.sight c.args.desk.now) (g.T.Desk.sight c.turn-said.new.self)
          (operation.Call c.args.self.now.number c.args.call c.now-now.result) c.turn-said.result took)
          c.turn-said.ensures.desk_id,
    )
