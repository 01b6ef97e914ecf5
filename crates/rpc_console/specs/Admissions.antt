-- Which method is called, with which parameters behind a token; or the first fault (aria2 manual, "RPC interface").
use Rattle.std.specs.Prelude.{ℕ, List, if◌then◌else◌, ◌||◌, Bool, true, false, Option, Some, None, Result, Ok, Err}
use Rattle.rpc_console.specs.Methods.{method_named}
use Rattle.rpc_console.specs.Tokens.{is_authorized}
use Rattle.rpc_console.specs.declared.methods.Method.{Method}
use Rattle.rpc_console.specs.declared.methods.Method.TheVariants as method
use Rattle.rpc_envelope.specs.Asks.{untokened}
use Rattle.rpc_envelope.specs.declared.fault.RpcFault.{RpcFault}
use Rattle.rpc_envelope.specs.declared.fault.RpcFault.TheVariants.{NoMethod, Unauthorized, BadParams}
use Rattle.serde_json.specs.Data.{Data}

-- the list of methods is told to all
abbrev pub needs_no_token : Method → Bool
needs_no_token method.ListMethods = true
needs_no_token other = false

-- behind a token, whether or not a secret is set; an object is no list
abbrev pub with_list : Method → Option (List Data) → Result (Method × List Data) RpcFault
with_list which None = Err BadParams
with_list which (Some params) = Ok (which, untokened params)

abbrev pub admits : Option (List ℕ) → Option Method → Option (List Data) → Result (Method × List Data) RpcFault
admits secret None params = Err NoMethod
admits secret (Some which) params =
    if needs_no_token which || is_authorized secret params then with_list which params else Err Unauthorized

-- first the method, then the token, then the parameters
unfoldable pub admission : Option (List ℕ) → List ℕ → Option (List Data) → Result (Method × List Data) RpcFault
admission secret name params = admits secret (method_named name) params
