-- No answer has a float.
use Rattle.std.proofs.Common.{◌≡◌, ◌&&◌, ◌||◌, List, [], ◌∷◌, ◌++◌, Bool, true, false, length, take, drop, codes, Option, Some, None, refl, if◌then◌else◌}
use Rattle.std.proofs.lemmas.List.Elements.{All-head, All-take, All-drop}
use Rattle.std.specs.Prelude.{All}
use Rattle.serde_json.specs.Data.{unsigned, negative, float, Data, null, boolean, number, string, array, object}
use Rattle.serde_json.specs.Find.{get}
use Rattle.serde_json.specs.View.{items_of}
use Rattle.serde_json.specs.Written.{has_float, items_have_float}
use Rattle.rpc_envelope.specs.Answers.{shared_out, outcome_or_full, first_outcome, part_data, part_outcome, part_answers, several_outcome, outcome_by_method, request_outcome, answer, answer_if, member_answers}
use Rattle.rpc_envelope.specs.Asks.{is_id, is_absent_or, is_request, is_multicall, invocation_in, parts_of, part_calls}
use Rattle.rpc_envelope.specs.Faults.{fault_data}
use Rattle.rpc_envelope.specs.Texts.{ArePlainData}
use Rattle.rpc_envelope.specs.Turns.{Invocation, OutcomeData, given, failed, IsPlain, CamePlain}
use Rattle.rpc_envelope.specs.declared.fault.RpcFault.{RpcFault}
use Rattle.rpc_envelope.specs.declared.fault.RpcFault.TheVariants.{NoJson, NoRequest, NoMethod, BadParams, Unauthorized, Nested, JournalFull, GidUnknown, GidAmbiguous, WrongStatus, GidInUse, TooManyDownloads, NotBencode, UnusableTorrent, NoUsableUri, TooManyUris, OptionUnknown, OptionBadValue, OptionOutOfRange, OptionFixed}

abbrev AreOutcomes : List (Option OutcomeData) → Type 0
AreOutcomes ss = All CamePlain ss

neither : (a b : Bool) → a ≡ false → b ≡ false → a || b ≡ false
neither a b e f = rw (e, f) refl

second : (a b : Bool) → a || b ≡ false → b ≡ false
second true b e = cc
second false b e = e

first : (a b : Bool) → a || b ≡ false → a ≡ false
first true b e = e
first false b e = refl

plain_append : (xs ys : List Data) → ArePlainData xs → ArePlainData ys → ArePlainData (xs ++ ys)
plain_append [] ys h k = k
plain_append (x ∷ xs) ys h k = neither (has_float x) _ (first (has_float x) _ h) (plain_append xs ys (second (has_float x) _ h) k)

plain_shared : {A : Type 0} (calls : A → List Invocation) (f : A → List (Option OutcomeData) → List Data)
    → ((a : A) (ss : List (Option OutcomeData)) → AreOutcomes ss → ArePlainData (f a ss))
    → (xs : List A) (ss : List (Option OutcomeData)) → AreOutcomes ss → ArePlainData (shared_out calls f xs ss)
plain_shared calls f h [] ss all = refl
plain_shared calls f h (a ∷ xs) ss all =
    let n = length (calls a) in
    plain_append (f a (take n ss)) _ (h a _ (All-take CamePlain n ss all)) (plain_shared calls f h xs (drop n ss) (All-drop CamePlain n ss all))

fault_plain : (f : RpcFault) → has_float (fault_data f) ≡ false
fault_plain NoJson = refl
fault_plain NoRequest = refl
fault_plain NoMethod = refl
fault_plain BadParams = refl
fault_plain Unauthorized = refl
fault_plain Nested = refl
fault_plain JournalFull = refl
fault_plain GidUnknown = refl
fault_plain GidAmbiguous = refl
fault_plain (WrongStatus status) = refl
fault_plain GidInUse = refl
fault_plain TooManyDownloads = refl
fault_plain NotBencode = refl
fault_plain UnusableTorrent = refl
fault_plain NoUsableUri = refl
fault_plain TooManyUris = refl
fault_plain OptionUnknown = refl
fault_plain OptionBadValue = refl
fault_plain OptionOutOfRange = refl
fault_plain OptionFixed = refl

or_full_plain : (s : Option OutcomeData) → CamePlain s → IsPlain (outcome_or_full s)
or_full_plain None h = absurd h
or_full_plain (Some o) h = h

first_plain : (ss : List (Option OutcomeData)) → AreOutcomes ss → IsPlain (first_outcome ss)
first_plain [] all = tt
first_plain (s ∷ ss) all = or_full_plain s (All-head CamePlain s ss all)

if_plain_outcome : (nested : Bool) (one other : OutcomeData) → IsPlain one → IsPlain other → IsPlain (if nested then one else other)
if_plain_outcome true one other h k = h
if_plain_outcome false one other h k = k

part_plain : (call : Invocation) (ss : List (Option OutcomeData)) → AreOutcomes ss → IsPlain (part_outcome call ss)
part_plain call ss all = if_plain_outcome (is_multicall call) (failed Nested) (first_outcome ss) tt (first_plain ss all)

data_plain : (o : OutcomeData) → IsPlain o → ArePlainData (part_data o ∷ [])
data_plain (given d) h = neither _ _ (neither _ _ h refl) refl
data_plain (failed f) h = neither _ _ (fault_plain f) refl

several_plain : (parts : Option (List Data)) (ss : List (Option OutcomeData)) → AreOutcomes ss → IsPlain (several_outcome parts ss)
several_plain None ss all = tt
several_plain (Some parts) ss all =
    plain_shared part_calls part_answers
    (λ d ts plain. data_plain (part_outcome (invocation_in (codes "methodName") d) ts) (part_plain (invocation_in (codes "methodName") d) ts plain)) parts ss all

method_plain : (call : Invocation) (ss : List (Option OutcomeData)) → AreOutcomes ss → IsPlain (outcome_by_method call ss)
method_plain call ss all =
    if_plain_outcome (is_multicall call) (several_outcome (parts_of call.params) ss) (first_outcome ss) (several_plain (parts_of call.params) ss all) (first_plain ss all)

answer_plain : (id : Data) (o : OutcomeData) → has_float id ≡ false → IsPlain o → has_float (answer id o) ≡ false
answer_plain id (given d) h k = neither (has_float id) _ h (neither (has_float d) false k refl)
answer_plain id (failed f) h k = neither (has_float (fault_data f)) _ (fault_plain f) (neither (has_float id) false h refl)

id_plain : (d : Data) → is_id d ≡ true → has_float d ≡ false
id_plain null h = refl
id_plain (boolean b) h = refl
id_plain (number (unsigned n)) h = refl
id_plain (number (negative z)) h = refl
id_plain (number (float x)) h = cc
id_plain (string s) h = refl
id_plain (array ds) h = cc
id_plain (object ms) h = cc

if_plain : (id : Option Data) (o : OutcomeData) → is_absent_or is_id id ≡ true → IsPlain o → ArePlainData (answer_if id o)
if_plain None o h k = refl
if_plain (Some id) o h k = neither _ _ (answer_plain id o (id_plain id h) k) refl

last_of : (a b : Bool) → a && b ≡ true → b ≡ true
last_of true b e = e
last_of false b e = cc

members_plain_at : (b : Bool) (d : Data) (ss : List (Option OutcomeData)) → AreOutcomes ss → (b ≡ true → is_absent_or is_id (get (codes "id") d) ≡ true)
    → ArePlainData (if b then answer_if (get (codes "id") d) (request_outcome d ss) else answer null (failed NoRequest) ∷ [])
members_plain_at true d ss all h = if_plain (get (codes "id") d) _ (h refl) (method_plain (invocation_in (codes "method") d) ss all)
members_plain_at false d ss all h = refl

-- the answers to a member have no float
pub members_plain : (d : Data) (ss : List (Option OutcomeData)) → AreOutcomes ss → ArePlainData (member_answers d ss)
unfolding member_answers is_request
members_plain d ss all = members_plain_at (is_request d) d ss all (λ e. last_of _ _ e)
