-- The answers to requests, made of what came of their calls (JSON-RPC 2.0 sections 5 and 6).
use Rattle.std.specs.Prelude.{ℕ, List, [], ◌∷◌, ◌++◌, length, take, drop, codes, if◌then◌else◌, Option, Some, None, option_map}
use Rattle.std.specs.Str.{is_utf8}
use Rattle.serde_json.specs.Data.{Data, null, string, array, object, Items, no_items, item, no_members, member}
use Rattle.serde_json.specs.Find.{get, as_array}
use Rattle.serde_json.specs.Read.{read}
use Rattle.serde_json.specs.View.{items_of}
use Rattle.serde_json.specs.Written.{compact_text}
use Rattle.rpc_envelope.specs.Asks.{data_of, is_request, invocation_in, is_multicall, parts_of, part_calls, member_calls}
use Rattle.rpc_envelope.specs.Faults.{fault_data}
use Rattle.rpc_envelope.specs.Turns.{Invocation, OutcomeData, given, failed}
use Rattle.rpc_envelope.specs.declared.fault.RpcFault.TheVariants.{NoJson, NoRequest, BadParams, Nested, JournalFull}

-- Of a list of askers each takes as many of the outcomes as it has calls, in order, and gives what it makes of them.
abbrev pub shared_out : {A C S B : Type 0} → (A → List C) → (A → List S → List B) → List A → List S → List B
shared_out calls f [] ss = []
shared_out calls f (a ∷ rest) ss = f a (take (length (calls a)) ss) ++ shared_out calls f rest (drop (length (calls a)) ss)

-- What came of the first call. Each asker has what came of all its calls, so the fault in place of nothing is never told.
abbrev pub outcome_or_full : Option OutcomeData → OutcomeData
outcome_or_full None = failed JournalFull
outcome_or_full (Some came) = came

abbrev pub first_outcome : List (Option OutcomeData) → OutcomeData
first_outcome [] = failed JournalFull
first_outcome (s ∷ ss) = outcome_or_full s

-- ---- several calls in one

-- a list of the one value, or the fault
abbrev pub part_data : OutcomeData → Data
part_data (given d) = array (item d no_items)
part_data (failed fault) = fault_data fault

abbrev pub part_outcome : Invocation → List (Option OutcomeData) → OutcomeData
part_outcome call ss = if is_multicall call then failed Nested else first_outcome ss

abbrev pub outcome_of_part : Data → List (Option OutcomeData) → OutcomeData
outcome_of_part d ss = part_outcome (invocation_in (codes "methodName") d) ss

abbrev pub part_answers : Data → List (Option OutcomeData) → List Data
part_answers d ss = part_data (outcome_of_part d ss) ∷ []

abbrev pub answers_of_parts : List Data → List (Option OutcomeData) → List Data
answers_of_parts parts ss = shared_out part_calls part_answers parts ss

abbrev pub several_outcome : Option (List Data) → List (Option OutcomeData) → OutcomeData
several_outcome None ss = failed BadParams
several_outcome (Some parts) ss = given (array (items_of (answers_of_parts parts ss)))

-- ---- a request

abbrev pub outcome_by_method : Invocation → List (Option OutcomeData) → OutcomeData
outcome_by_method call ss = if is_multicall call then several_outcome (parts_of call.params) ss else first_outcome ss

abbrev pub request_outcome : Data → List (Option OutcomeData) → OutcomeData
request_outcome d ss = outcome_by_method (invocation_in (codes "method") d) ss

-- the members stand in ascending order
abbrev pub answer : Data → OutcomeData → Data
answer id (given d) =
    object (member (codes "id") id (member (codes "jsonrpc") (string (codes "2.0")) (member (codes "result") d no_members)))
answer id (failed fault) =
    object (member (codes "error") (fault_data fault) (member (codes "id") id (member (codes "jsonrpc") (string (codes "2.0")) no_members)))

-- nothing for a notification, which has no id
abbrev pub answer_if : Option Data → OutcomeData → List Data
answer_if None came = []
answer_if (Some id) came = answer id came ∷ []

abbrev pub request_answers : Data → List (Option OutcomeData) → List Data
request_answers d ss = answer_if (get (codes "id") d) (request_outcome d ss)

-- what is no request is answered with a fault
unfoldable pub member_answers : Data → List (Option OutcomeData) → List Data
member_answers d ss =
    if is_request d then request_answers d ss else answer null (failed NoRequest) ∷ []

abbrev pub answers_of_all : List Data → List (Option OutcomeData) → List Data
answers_of_all members ss = shared_out member_calls member_answers members ss

-- ---- a body

abbrev pub first_of : List Data → Option Data
first_of [] = None
first_of (d ∷ ds) = Some d

abbrev pub list_if_any : List Data → Option Data
list_if_any [] = None
list_if_any (d ∷ ds) = Some (array (items_of (d ∷ ds)))

-- a batch has a member
abbrev pub batch_answer : Items → List (Option OutcomeData) → Option Data
batch_answer no_items ss = Some (answer null (failed NoRequest))
batch_answer (item d ds) ss = list_if_any (answers_of_all (data_of (item d ds)) ss)

abbrev pub answer_by_kind : Option Items → Data → List (Option OutcomeData) → Option Data
answer_by_kind None d ss = first_of (member_answers d ss)
answer_by_kind (Some ds) d ss = batch_answer ds ss

abbrev pub body_answer : Data → List (Option OutcomeData) → Option Data
body_answer d ss = answer_by_kind (as_array d) d ss

abbrev pub answer_as_read : Option Data → List (Option OutcomeData) → Option Data
answer_as_read None ss = Some (answer null (failed NoJson))
answer_as_read (Some d) ss = body_answer d ss

-- the text that answers a body; none where nothing is to be answered
abbrev pub answer_text : Option Data → List (Option OutcomeData) → Option (List ℕ)
answer_text found ss = option_map compact_text (answer_as_read found ss)

-- what bytes read as: nothing where they are no JSON
abbrev pub read_bytes : List ℕ → Option Data
read_bytes bytes = if is_utf8 bytes then read bytes else None
