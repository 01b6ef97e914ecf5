-- Lists of values, as the data that they are seen as.
use Rattle.std.proofs.Common.{◌≡◌, List, [], ◌∷◌, map, refl, ap}
use Rattle.serde_json.specs.Data.{Data}
use Rattle.serde_json.specs.View.{view, items_of, items_view}
use Rattle.serde_json.specs.declared.value.Value.{Value}
use Rattle.rpc_envelope.specs.Asks.{data_of}

data_of-items_of : (ds : List Data) → data_of (items_of ds) ≡ ds
data_of-items_of [] = refl
data_of-items_of (d ∷ ds) = ap (λ others. d ∷ others) (data_of-items_of ds)

pub list_of_items : (values : List Value) → data_of (items_view values) ≡ map view values
list_of_items values = data_of-items_of (map view values)
