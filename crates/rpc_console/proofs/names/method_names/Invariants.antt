use Rattle.std.proofs.Common.{◌≡◌, map, take}
use Rattle.serde_json.specs.View.{view}
use Rattle.rpc_console.specs.Names.{name_data}
use Rattle.rpc_console.specs.declared.methods.TheConstants.{METHODS}
use Rattle.rpc_console.proofs.names.method_names.Given as goal

abbrev pub invariant-loop-method : goal.invariant-loop-method
invariant-loop-method l = map view l.names.items ≡ map name_data (take l.method-index METHODS)
