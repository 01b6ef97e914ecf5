-- What each method asks for, and why a call is refused (aria2 manual, "RPC interface").
use Rattle.std.specs.Prelude.{◌≡◌, ◌⊎◌, ℕ, List, [], ◌∷◌, Option, Some, None, Ok, Err}
use Rattle.rpc_console.specs.Admissions.{admission}
use Rattle.rpc_console.specs.Askings.{bare_asking, keyed_asking, status_asking, active_asking, window_asking, position_asking}
use Rattle.rpc_console.specs.Changes.{IsChange, IsGlobalChange, RefusesChange, RefusesGlobalChange}
use Rattle.rpc_console.specs.Torrents.{IsTorrentAsking, RefusesTorrentAsking}
use Rattle.rpc_console.specs.Uris.{IsUriAsking, RefusesUriAsking}
use Rattle.rpc_console.specs.declared.asking.Asking.{Asking}
use Rattle.rpc_console.specs.declared.asking.Asking.TheVariants.{Methods}
use Rattle.rpc_console.specs.declared.methods.Method.{Method}
use Rattle.rpc_console.specs.declared.methods.Method.TheVariants as method
use Rattle.rpc_envelope.specs.Turns.{Invocation}
use Rattle.rpc_envelope.specs.declared.fault.RpcFault.{RpcFault}
use Rattle.rpc_envelope.specs.declared.fault.RpcFault.TheVariants.{BadParams}
use Rattle.serde_json.specs.Data.{Data}

-- no parameters
abbrev pub list_asking : List Data → Option Asking
list_asking [] = Some Methods
list_asking (d ∷ ds) = None

-- of a method that sets no options
abbrev pub asking_without_options : Method → List Data → Option Asking
asking_without_options (method.Bare which) params = bare_asking which params
asking_without_options method.ChangePosition params = position_asking params
asking_without_options (method.Keyed which) params = keyed_asking which params
asking_without_options method.ListMethods params = list_asking params
asking_without_options method.TellActive params = active_asking params
asking_without_options method.TellStatus params = status_asking params
asking_without_options (method.Window which) params = window_asking which params
asking_without_options other params = None

-- the method, with these parameters behind a token, asks for this
abbrev pub IsAskingOf : Method → List Data → Asking → Type 0
IsAskingOf method.AddTorrent params asking = IsTorrentAsking params asking
IsAskingOf method.AddUri params asking = IsUriAsking params asking
IsAskingOf method.ChangeGlobalOption params asking = IsGlobalChange params asking
IsAskingOf method.ChangeOption params asking = IsChange params asking
IsAskingOf other params asking = asking_without_options other params ≡ Some asking

-- .. or it is refused, and this is the first fault
abbrev pub RefusesAskingOf : Method → List Data → RpcFault → Type 0
RefusesAskingOf method.AddTorrent params fault = RefusesTorrentAsking params fault
RefusesAskingOf method.AddUri params fault = RefusesUriAsking params fault
RefusesAskingOf method.ChangeGlobalOption params fault = RefusesGlobalChange params fault
RefusesAskingOf method.ChangeOption params fault = RefusesChange params fault
RefusesAskingOf other params fault = (asking_without_options other params ≡ None) × (fault ≡ BadParams)

-- ---- a call by the name of its method, where this secret is set, or none

-- the call is admitted, and asks for this
abbrev pub InvocationAsks : Option (List ℕ) → Invocation → Asking → Type 0
InvocationAsks secret call asking =
    (which : Method) × (params : List Data) × (admission secret call.method call.params ≡ Ok (which, params))
    × IsAskingOf which params asking

-- it isn't admitted, or its parameters are refused
abbrev pub RefusesInvocation : Option (List ℕ) → Invocation → RpcFault → Type 0
RefusesInvocation secret call fault =
    (admission secret call.method call.params ≡ Err fault)
    ⊎ ((which : Method) × (params : List Data) × (admission secret call.method call.params ≡ Ok (which, params))
    × RefusesAskingOf which params fault)
