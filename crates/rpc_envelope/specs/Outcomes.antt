-- What values, and outcomes of calls, stand for.
use Rattle.std.specs.Prelude.{◌≡◌, ℕ, List, ◌++◌, map, Option, Some, None, option_map, Result, Ok, Err}
use Rattle.std.specs.Borrow.{Bor}
use Rattle.std.specs.Option.{option_to_list}
use Rattle.serde_json.specs.Data.{Data}
use Rattle.serde_json.specs.View.{view}
use Rattle.serde_json.specs.declared.value.Value.{Value}
use Rattle.rpc_envelope.specs.Turns.{Invocation, OutcomeData, given, failed, Invoked}
use Rattle.rpc_envelope.specs.declared.caller.Outcome.{Outcome}
use Rattle.rpc_envelope.specs.declared.caller.Outcome.TheVariants.{Given, Failed}

abbrev pub value_if_any : Option (Bor Value) → Option Data
value_if_any found = option_map (λ value. view value.now) found

abbrev pub seen_if_any : Option (Bor (List Value)) → Option (List Data)
seen_if_any found = option_map (λ list. map view list.now) found

-- these answers were put behind those that stood in the list
abbrev pub AddsAnswers : List Value → List Value → List Data → Type 0
AddsAnswers old new answers = map view new ≡ map view old ++ answers

-- the answer, where there is one
abbrev pub answers_in : Option Value → List Data
answers_in answer = option_to_list (option_map view answer)

abbrev pub outcome_view : Outcome → OutcomeData
outcome_view (Given value) = given (view value)
outcome_view (Failed fault) = failed fault

abbrev pub outcome_if_any : {E : Type 0} → Result Outcome E → Option OutcomeData
outcome_if_any (Ok outcome) = Some (outcome_view outcome)
outcome_if_any (Err error) = None

abbrev pub called : List ℕ → Option (List Data) → Invocation
called method params = record { method = method; params = params }

-- the call of this method with these parameters, and what came of it
abbrev pub turn_of : {E : Type 0} → List ℕ → Option (List Data) → Result Outcome E → Invoked
turn_of method params result = (called method params, outcome_if_any result)
