-- The calls of a request, and its response.
use Rattle.std.specs.Prelude.{ℕ, List, [], Option}
use Rattle.request_stream.specs.Requests.{Request, served, turned_away}
use Rattle.request_stream.specs.Responses.{served_response, refusal_response}
use Rattle.rpc_envelope.specs.Answers.{answer_text, read_bytes}
use Rattle.rpc_envelope.specs.Asks.{found_calls}
use Rattle.rpc_envelope.specs.Turns.{Invocation, OutcomeData}

abbrev pub calls_in_request : Request → List Invocation
calls_in_request (served body last) = found_calls (read_bytes body)
calls_in_request (turned_away refusal) = []

-- by what came of its calls
abbrev pub response_to : Request → List (Option OutcomeData) → List ℕ
response_to (served body last) came = served_response (answer_text (read_bytes body) came)
response_to (turned_away refusal) came = refusal_response refusal
