-- Lists of values, as the data that they are seen as.
use Rattle.std.proofs.Common.{◌≡◌, ◌==◌, ◌∙◌, ◌&&◌, ℕ, true, true≢false, List, [], ◌∷◌, ◌<◌, length, Option, Some, option_map, map, refl, sym, ap, arith}
use Rattle.std.specs.List.{list_all}
use Rattle.serde_json.specs.Data.{Data, null}
use Rattle.serde_json.specs.View.{view, items_of, items_view}
use Rattle.serde_json.specs.Written.{compact_text}
use Rattle.serde_json.specs.declared.value.Value.{Value}
use Rattle.rpc_envelope.specs.Answers.{answer, batch_answer, list_if_any, shared_out, member_answers}
use Rattle.rpc_envelope.specs.Asks.{data_of, is_call_part, member_calls, calls_of_all}
use Rattle.rpc_envelope.specs.Turns.{OutcomeData, Since, Walks, failed}
use Rattle.rpc_envelope.specs.declared.fault.RpcFault.TheVariants.{NoRequest}
use Rattle.rpc_envelope.proofs.TextLemmas.{some_is}
use Rattle.rpc_envelope.proofs.Walks.{walks_none}

data_of-items_of : (ds : List Data) → data_of (items_of ds) ≡ ds
data_of-items_of [] = refl
data_of-items_of (d ∷ ds) = ap (λ others. d ∷ others) (data_of-items_of ds)

pub list_of_items : (values : List Value) → data_of (items_view values) ≡ map view values
list_of_items values = data_of-items_of (map view values)

pub all_seen : (values : List Value) → list_all (λ value. is_call_part (view value)) values ≡ list_all is_call_part (map view values)
all_seen [] = refl
all_seen (value ∷ values) = ap (λ others. is_call_part (view value) && others) (all_seen values)

pub batch_some : (values : List Value) (ss : List (Option OutcomeData)) → 0 < length values
    → batch_answer (items_view values) ss ≡ list_if_any (shared_out member_calls member_answers (map view values) ss)
batch_some [] ss some = absurd (omega (arith, some))
batch_some (value ∷ values) ss some =
    ap (λ members. list_if_any (shared_out member_calls member_answers members ss)) (list_of_items (value ∷ values))

-- a batch without members is answered with a fault, and calls nothing
pub empty_batch : {S T : Type 0} (W : Since S T) (values : List Value) (text : List ℕ) → (length values == 0) ≡ true
    → text ≡ compact_text (answer null (failed NoRequest))
    → Walks W W (calls_of_all (map view values)) (λ ss. Some text ≡ option_map compact_text (batch_answer (items_view values) ss))
empty_batch W [] text none is = walks_none W _ (ap Some is)
empty_batch W (value ∷ values) text none is = absurd (true≢false (sym none ∙ some_is value values))
