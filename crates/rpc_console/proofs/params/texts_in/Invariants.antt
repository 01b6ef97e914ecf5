use Rattle.std.proofs.Common.{◌≡◌, ◌++◌, map, drop, option_map}
use Rattle.serde_json.specs.View.{view}
use Rattle.rpc_console.specs.Params.{texts_in}
use Rattle.rpc_console.proofs.params.texts_in.Given as goal

abbrev pub invariant-loop-value : goal.invariant-loop-value
invariant-loop-value l =
    texts_in (map view l.list) ≡ option_map (λ others. l.texts ++ others) (texts_in (map view (drop l.value-index l.list)))
