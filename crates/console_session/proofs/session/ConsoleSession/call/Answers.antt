use Rattle.std.proofs.Common.{inl, inr, Some, Err, refl, ap, subst}
use Rattle.rpc_console.specs.Dispatch.{InvocationAsks, RefusesInvocation}
use Rattle.rpc_console.specs.Options.{IfRefused}
use Rattle.rpc_console.specs.declared.asking.Asking.{Asking}
use Rattle.rpc_console.specs.declared.errors.RpcErr.{RpcErr}
use Rattle.rpc_envelope.specs.Turns.{failed}
use Rattle.rpc_envelope.specs.declared.fault.RpcFault.{RpcFault}
use Rattle.rpc_envelope.specs.Outcomes.{called, outcome_if_any, seen_if_any}
use Rattle.console_session.proofs.Carrying.{by_call_turn, needs_none}
use Rattle.console_session.proofs.Telling.{methods_told}
use Rattle.console_session.specs.Sessions.{secret_of, session_at}
use Rattle.console_session.proofs.session.ConsoleSession.call.Goals as goal

pub returns-in-Ok-One-clause-carries : goal.returns-in-Ok-One-clause-carries
returns-in-Ok-One-clause-carries g c =
    by_call_turn g.T.Desk.sight g.T.Desk.desk_id g.K.Clock.reads (session_at c.args.self.now c.args.desk.now)
    (session_at c.carry_out.new.self c.carry_out.new.desk) (called c.args.method.now (seen_if_any c.args.params))
    (outcome_if_any c.carry_out.result) c.in-Ok-One.call c.in-Ok-One.keys
    (subst (InvocationAsks (secret_of c.args.self.now) (called c.args.method.now (seen_if_any c.args.params)))
    c.in-Ok-One.field-0-is c.in-Ok-One.ensures.ok) c.carry_out.ensures.carries

pub returns-in-Ok-Methods-clause-carries : goal.returns-in-Ok-Methods-clause-carries
returns-in-Ok-Methods-clause-carries g c =
    let invocation = called c.args.method.now (seen_if_any c.args.params) in
    needs_none g.T.Desk.sight g.T.Desk.desk_id g.K.Clock.reads c.turns_add_up.ensures.none
    (session_at c.args.self.now c.args.desk.now) invocation (outcome_if_any c.methods_outcome.result)
    (methods_told (secret_of c.args.self.now) c.args.self.now.number invocation c.methods_outcome.result
    (subst (InvocationAsks (secret_of c.args.self.now) invocation) c.in-Ok-Methods.field-0-is
    c.in-Ok-Methods.ensures.ok)
    c.methods_outcome.ensures.told)

pub returns-in-Err-Refused-clause-carries : goal.returns-in-Err-Refused-clause-carries
returns-in-Err-Refused-clause-carries g c =
    let invocation = called c.args.method.now (seen_if_any c.args.params) in
    let Refuses : RpcFault → Type 0 = RefusesInvocation (secret_of c.args.self.now) invocation in
    let refused = subst (λ (error : RpcErr). IfRefused {T = Asking} (Err error) Refuses) c.in-Err-Refused.field-0-is
    c.in-Err-Refused.ensures.refused in
    needs_none g.T.Desk.sight g.T.Desk.desk_id g.K.Clock.reads c.turns_add_up.ensures.none
    (session_at c.args.self.now c.args.desk.now) invocation _
    (inr (inl (
      c.in-Err-Refused.fault,
      refused,
      ap (λ (fault : RpcFault). Some (failed fault)) c.in-Err-Refused.fault-is,
    )))

pub returns-in-Err-NoMemory-clause-carries : goal.returns-in-Err-NoMemory-clause-carries
returns-in-Err-NoMemory-clause-carries g c =
    needs_none g.T.Desk.sight g.T.Desk.desk_id g.K.Clock.reads c.turns_add_up.ensures.none
    (session_at c.args.self.now c.args.desk.now) (called c.args.method.now (seen_if_any c.args.params)) _ (inl refl)
