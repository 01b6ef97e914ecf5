-- What is told by replies.
use Rattle.std.proofs.Common.{◌≡◌, inl, inr, ℕ, List, Option, Some, None, Result, Ok, Err, refl, ap}
use Rattle.std.specs.Prelude.{IfOk, IsErr, IsOk, codes}
use Rattle.std.proofs.lemmas.Bool.{false≢true}
use Rattle.dl_queue.specs.declared.kinds.QueueErr.TheVariants as refusal
use Rattle.reply_values.specs.Members.{gid_data}
use Rattle.reply_values.specs.Outcomes.{IsRefusal, methods_outcome, options_data, refusal_fault, reply_outcome, version_data}
use Rattle.reply_values.specs.Views.{files_data, stat_data, status_data, statuses_data, uris_data}
use Rattle.rpc_console.specs.Dispatch.{InvocationAsks}
use Rattle.rpc_console.specs.declared.asking.Asking.TheVariants.{Methods}
use Rattle.rpc_console.specs.declared.asking.Keys.{Keys}
use Rattle.rpc_envelope.specs.Outcomes.{outcome_if_any, outcome_view}
use Rattle.rpc_envelope.specs.Turns.{Invocation, OutcomeData, given, failed}
use Rattle.rpc_envelope.specs.declared.caller.Outcome.{Outcome}
use Rattle.rpc_envelope.specs.declared.fault.RpcFault.{RpcFault}
use Rattle.run_report.specs.declared.kinds.Reply.{Reply}
use Rattle.run_report.specs.declared.kinds.Reply.TheVariants as reply
use Rattle.serde_json.specs.Data.{Data, number, string, unsigned}
use Rattle.console_session.specs.CallTurns.{IsToldOrLost, NeedsNoTurn, told_of_reply}

value_or_lost : {E : Type 0} (value : Data) (result : Result Outcome E)
    → IfOk result (λ outcome. outcome_view outcome ≡ given value) → IsToldOrLost (Some (given value)) (outcome_if_any result)
value_or_lost value (Err error) told = inr refl
value_or_lost value (Ok outcome) told = inl (ap (λ (o : OutcomeData). Some o) told)

fault_told : {E : Type 0} (fault : RpcFault) (result : Result Outcome E)
    → IfOk result (λ outcome. outcome_view outcome ≡ failed fault) → IsOk result → outcome_if_any result ≡ Some (failed fault)
fault_told fault (Err error) told ok = absurd (false≢true ok)
fault_told fault (Ok outcome) told ok = ap (λ (o : OutcomeData). Some o) told

want_told : {E : Type 0} (result : Result Outcome E) → IsErr result → IsToldOrLost None (outcome_if_any result)
want_told (Err error) lost = inl refl
want_told (Ok outcome) lost = absurd (false≢true lost)

pub told_or_lost : {E : Type 0} (r : Reply) (keys : Keys) (result : Result Outcome E)
    → IfOk result (λ outcome. outcome_view outcome ≡ reply_outcome r keys)
    → (r ≡ reply.Refused refusal.NoMemory → IsErr result) → (IsRefusal r → IsOk result)
    → IsToldOrLost (told_of_reply r keys) (outcome_if_any result)
told_or_lost (reply.Gid gid) keys result told memory refused = value_or_lost (gid_data gid) result told
told_or_lost reply.Fine keys result told memory refused = value_or_lost (string (codes "OK")) result told
told_or_lost (reply.Status status) keys result told memory refused = value_or_lost (status_data keys status) result told
told_or_lost (reply.Statuses statuses) keys result told memory refused =
    value_or_lost (statuses_data keys statuses) result told
told_or_lost (reply.Files files) keys result told memory refused = value_or_lost (files_data files) result told
told_or_lost (reply.Uris uris) keys result told memory refused = value_or_lost (uris_data uris) result told
told_or_lost (reply.Options pairs) keys result told memory refused = value_or_lost (options_data pairs) result told
told_or_lost (reply.Position place) keys result told memory refused =
    value_or_lost (number (unsigned place)) result told
told_or_lost (reply.Stat stat) keys result told memory refused = value_or_lost (stat_data stat) result told
told_or_lost reply.Version keys result told memory refused = value_or_lost version_data result told
told_or_lost (reply.Refused refusal.NotFound) keys result told memory refused =
    fault_told (refusal_fault refusal.NotFound) result told (refused tt)
told_or_lost (reply.Refused (refusal.Ambiguous count)) keys result told memory refused =
    fault_told (refusal_fault (refusal.Ambiguous count)) result told (refused tt)
told_or_lost (reply.Refused (refusal.WrongStatus status)) keys result told memory refused =
    fault_told (refusal_fault (refusal.WrongStatus status)) result told (refused tt)
told_or_lost (reply.Refused refusal.SameGid) keys result told memory refused =
    fault_told (refusal_fault refusal.SameGid) result told (refused tt)
told_or_lost (reply.Refused (refusal.Full count)) keys result told memory refused =
    fault_told (refusal_fault (refusal.Full count)) result told (refused tt)
told_or_lost (reply.Refused refusal.NoMemory) keys result told memory refused = want_told result (memory refl)

-- the methods are listed, or memory ran out
pub methods_told : {E : Type 0} (secret : Option (List ℕ)) (session : ℕ) (invocation : Invocation)
    (result : Result Outcome E) → InvocationAsks secret invocation Methods → IfOk result (λ outcome. outcome_view outcome ≡ methods_outcome)
    → NeedsNoTurn secret session invocation (outcome_if_any result)
methods_told secret session invocation (Err error) asks told = inl refl
methods_told secret session invocation (Ok outcome) asks told =
    inr (inr (asks, ap (λ (o : OutcomeData). Some o) told))
