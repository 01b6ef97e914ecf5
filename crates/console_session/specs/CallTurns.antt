-- The turns of a session of the console, and what each call of it was told.
use Rattle.std.specs.Prelude.{◌≡◌, ◌⊎◌, ◌+◌, ℕ, if◌then◌else◌, Bool, true, false, List, [], ◌∷◌, ◌++◌, Option, Some, None}
use Rattle.dl_queue.specs.declared.kinds.QueueErr.TheVariants as refusal
use Rattle.engine_core.specs.EngineViews.{EngineStart}
use Rattle.engine_turns.specs.Told.{RunTurn}
use Rattle.engine_turns.specs.declared.operations.Answer.{Answer}
use Rattle.engine_turns.specs.declared.operations.Operation.{Operation}
use Rattle.engine_turns.specs.declared.operations.Operation.TheVariants as operation
use Rattle.engine_turns.specs.declared.operations.Said.{Said}
use Rattle.engine_turns.specs.declared.operations.Said.TheVariants as said
use Rattle.machine_core.specs.declared.calls.Call.{Call}
use Rattle.machine_core.specs.declared.events.Event.{Event}
use Rattle.reply_values.specs.Outcomes.{methods_outcome, reply_outcome}
use Rattle.rpc_console.specs.Dispatch.{InvocationAsks, RefusesInvocation}
use Rattle.rpc_console.specs.declared.asking.Asking.TheVariants.{Methods, One}
use Rattle.rpc_console.specs.declared.asking.Keys.{Keys}
use Rattle.rpc_envelope.specs.Turns.{Invocation, Invoked, OutcomeData, failed}
use Rattle.rpc_envelope.specs.declared.fault.RpcFault.{RpcFault}
use Rattle.rpc_envelope.specs.declared.fault.RpcFault.TheVariants.{JournalFull}
use Rattle.run_report.specs.declared.kinds.Reply.{Reply}
use Rattle.run_report.specs.declared.kinds.Reply.TheVariants as reply
use Rattle.turn_desk.specs.declared.turn.Sight.{Sight}

-- what a session knows of the run at whose desk it is
abbrev pub SessionSight : Type 0 → Type 0
SessionSight D = Sight (EngineStart D) Operation Answer Event

-- ---- turns

-- a call of this session, or an asking whether the run is finished, or for notices
abbrev pub IsOfSession : ℕ → Operation → Type 0
IsOfSession session (operation.Call number call now) = number ≡ session
IsOfSession session operation.Pulse = Unit {0}
IsOfSession session (operation.Notices from) = Unit {0}
IsOfSession session other = ⊥

abbrev pub is_call : Operation → Bool
is_call (operation.Call session call now) = true
is_call other = false

-- the turns of calls, in order
abbrev pub call_turns : List RunTurn → List RunTurn
call_turns [] = []
call_turns (t ∷ ts) = if is_call t.op then t ∷ call_turns ts else call_turns ts

abbrev pub is_finish : Said → Bool
is_finish said.Finished = true
is_finish other = false

-- the last of these turns asked whether the run is finished, and it was
pub record FindsFinish (turns : List RunTurn) : Type 0 where
  pub front : List RunTurn
  pub asking : RunTurn
  pub are : turns ≡ front ++ asking ∷ []
  pub op : asking.op ≡ operation.Pulse
  pub said : asking.answer.said ≡ said.Finished

-- ---- replies

-- where the event of the call stands in the history
abbrev pub places_by : Said → List ℕ
places_by (said.Replied place reply starved) = place ∷ []
places_by other = []

-- where the events of calls stand that were replied to, in order
abbrev pub reply_places : List RunTurn → List ℕ
reply_places [] = []
reply_places (t ∷ ts) = places_by t.answer.said ++ reply_places ts

-- whether the call left out saves for want of memory: none or one
abbrev pub starved_in_reply : Said → ℕ
starved_in_reply (said.Replied place reply starved) = if starved then 1 else 0
starved_in_reply other = 0

-- how many of the calls did
abbrev pub starved_replies : List RunTurn → ℕ
starved_replies [] = 0
starved_replies (t ∷ ts) = starved_in_reply t.answer.said + starved_replies ts

-- ---- what calls were told

-- what a reply tells, of the keys that were asked for; none where memory was wanting for the call
abbrev pub told_of_reply : Reply → Keys → Option OutcomeData
told_of_reply (reply.Refused refusal.NoMemory) keys = None
told_of_reply reply keys = Some (reply_outcome reply keys)

-- .. an answer; where it is no reply and the journal isn't full, memory was wanting
abbrev pub outcome_by : Keys → Said → Option OutcomeData
outcome_by keys (said.Replied place reply starved) = told_of_reply reply keys
outcome_by keys (said.JournalFull count) = Some (failed JournalFull)
outcome_by keys other = None

-- it was told so, or memory ran out before; a fault takes no memory to be told
abbrev pub IsToldOrLost : Option OutcomeData → Option OutcomeData → Type 0
IsToldOrLost (Some (failed fault)) came = came ≡ Some (failed fault)
IsToldOrLost told came = (came ≡ told) ⊎ (came ≡ None)

module _ (secret : Option (List ℕ)) (session : ℕ) where
  -- the call was carried out in this turn, and was told the turn's reply
  pub record IsCarriedOut (invocation : Invocation) (came : Option OutcomeData) (t : RunTurn) : Type 0 where
    pub call : Call
    pub keys : Keys
    pub moment : ℕ
    pub asks : InvocationAsks secret invocation (One call keys)
    pub op : t.op ≡ operation.Call session call (record { 0 = moment })
    pub told : IsToldOrLost (outcome_by keys t.answer.said) came

  -- it is refused for its first fault, or lists the methods, or memory ran out
  abbrev pub NeedsNoTurn : Invocation → Option OutcomeData → Type 0
  NeedsNoTurn invocation came =
      (came ≡ None)
      ⊎ ((fault : RpcFault) × RefusesInvocation secret invocation fault × (came ≡ Some (failed fault)))
      ⊎ (InvocationAsks secret invocation Methods × (came ≡ Some methods_outcome))

  -- by one turn, or none
  abbrev pub CameBy : List RunTurn → Invoked → Type 0
  CameBy [] (invocation, came) = NeedsNoTurn invocation came
  CameBy (t ∷ []) (invocation, came) = IsCarriedOut invocation came t
  CameBy (t ∷ u ∷ more) invoked = ⊥

  -- each of these calls, in order, by its own turns, and no turn is left
  abbrev pub CameInOrder : List RunTurn → List Invoked → Type 0
  CameInOrder turns [] = turns ≡ []
  CameInOrder turns (invoked ∷ rest) =
      (its : List RunTurn) × (others : List RunTurn) × (turns ≡ its ++ others) × CameBy its invoked
      × CameInOrder others rest

-- ---- moments

abbrev pub moment_of_call : Operation → ℕ
moment_of_call (operation.Call session call now) = now.0
moment_of_call other = 0

-- the clock was read once for each of these turns, in order, and told its moment
abbrev pub AreReadFrom : {K : Type 0} → (K → ℕ → K → Type 0) → K → List RunTurn → K → Type 0
AreReadFrom {K} reads clock [] now = now ≡ clock
AreReadFrom {K} reads clock (t ∷ ts) now =
    (next : K) × reads clock (moment_of_call t.op) next × AreReadFrom reads next ts now
