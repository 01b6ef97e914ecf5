-- What a value of JSON asks for (JSON-RPC 2.0 sections 4 and 6; aria2 manual, "system.multicall").
use Rattle.std.specs.Prelude.{ℕ, ◌&&◌, List, [], ◌∷◌, codes, Bool, true, false, if◌then◌else◌, Option, Some, None, option_map, option_and_then, is_some, unwrap_or, bytes_eq, nat_eq}
use Rattle.std.specs.List.{list_all, flat_map, starts_with}
use Rattle.serde_json.specs.Data.{unsigned, negative, float, Data, null, boolean, number, string, array, object, Items, no_items, item}
use Rattle.serde_json.specs.Find.{get, as_str, as_array}
use Rattle.rpc_envelope.specs.Turns.{Invocation}

abbrev pub data_of : Items → List Data
data_of no_items = []
data_of (item first others) = first ∷ data_of others

-- ---- a request

abbrev pub is_text : List ℕ → Option Data → Bool
is_text want found = unwrap_or (option_and_then (λ d. option_and_then (λ s. Some (bytes_eq s want)) (as_str d)) found) false

-- null, a text, or a whole number of 64 bits; what is written with a fraction or an exponent, and -0, is a float
abbrev pub is_id : Data → Bool
is_id null = true
is_id (boolean b) = false
is_id (number (unsigned n)) = true
is_id (number (negative z)) = true
is_id (number (float x)) = false
is_id (string s) = true
is_id (array ds) = false
is_id (object ms) = false

abbrev pub is_list_or_object : Data → Bool
is_list_or_object null = false
is_list_or_object (boolean b) = false
is_list_or_object (number n) = false
is_list_or_object (string s) = false
is_list_or_object (array ds) = true
is_list_or_object (object ms) = true

abbrev pub is_absent_or : (Data → Bool) → Option Data → Bool
is_absent_or test None = true
is_absent_or test (Some d) = test d

abbrev pub text_at : List ℕ → Data → Option (List ℕ)
text_at key d = option_and_then as_str (get key d)

unfoldable pub is_request : Data → Bool
is_request d =
    is_text (codes "2.0") (get (codes "jsonrpc") d)
    && is_some (text_at (codes "method") d)
    && is_absent_or is_list_or_object (get (codes "params") d)
    && is_absent_or is_id (get (codes "id") d)

-- ---- a call

-- the items, where it is a list
abbrev pub list_if : Data → Option (List Data)
list_if d = option_and_then (λ ds. Some (data_of ds)) (as_array d)

-- no parameters where there are none, and no list where they are an object
abbrev pub params_of : Option Data → Option (List Data)
params_of None = Some []
params_of (Some d) = list_if d

-- the call that a method and its parameters make, by the name of the member that has the method
abbrev pub invocation_in : List ℕ → Data → Invocation
invocation_in key d = record { method = unwrap_or (text_at key d) []; params = params_of (get (codes "params") d) }

abbrev pub is_multicall : Invocation → Bool
is_multicall call = bytes_eq call.method (codes "system.multicall")

-- ---- several calls in one

-- a text that begins with `token:`
abbrev pub is_token : Data → Bool
is_token d = unwrap_or (option_map (λ text. starts_with nat_eq text (codes "token:")) (as_str d)) false

-- without a token in front
abbrev pub untokened : List Data → List Data
untokened [] = []
untokened (first ∷ others) = if is_token first then others else first ∷ others

-- an object with a method's name and a list of parameters
abbrev pub is_call_part : Data → Bool
is_call_part d = is_some (text_at (codes "methodName") d) && is_some (option_and_then as_array (get (codes "params") d))

abbrev pub parts_if_all : List Data → Option (List Data)
parts_if_all ds = if list_all is_call_part ds then Some ds else None

-- the one list
abbrev pub list_in : List Data → Option (List Data)
list_in [] = None
list_in (d ∷ []) = list_if d
list_in (d ∷ e ∷ ds) = None

-- the parts of a multicall, where its parameters are one list of such objects
abbrev pub parts_of : Option (List Data) → Option (List Data)
parts_of None = None
parts_of (Some params) = option_and_then parts_if_all (list_in (untokened params))

-- ---- the calls, in order

-- a multicall in a multicall is refused, and calls nothing
abbrev pub calls_unless_nested : Invocation → List Invocation
calls_unless_nested call = if is_multicall call then [] else call ∷ []

abbrev pub part_calls : Data → List Invocation
part_calls d = calls_unless_nested (invocation_in (codes "methodName") d)

abbrev pub calls_of_parts : List Data → List Invocation
calls_of_parts parts = flat_map part_calls parts

abbrev pub several_calls : Option (List Data) → List Invocation
several_calls None = []
several_calls (Some parts) = calls_of_parts parts

abbrev pub calls_by_method : Invocation → List Invocation
calls_by_method call = if is_multicall call then several_calls (parts_of call.params) else call ∷ []

abbrev pub request_calls : Data → List Invocation
request_calls d = calls_by_method (invocation_in (codes "method") d)

-- what is no request calls nothing
unfoldable pub member_calls : Data → List Invocation
member_calls d = if is_request d then request_calls d else []

abbrev pub calls_of_all : List Data → List Invocation
calls_of_all members = flat_map member_calls members

-- a batch, or one request
abbrev pub calls_by : Option Items → Data → List Invocation
calls_by None d = member_calls d
calls_by (Some ds) d = calls_of_all (data_of ds)

abbrev pub body_calls : Data → List Invocation
body_calls d = calls_by (as_array d) d

-- none where the body is no JSON
abbrev pub found_calls : Option Data → List Invocation
found_calls None = []
found_calls (Some d) = body_calls d
