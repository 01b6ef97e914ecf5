-- What methods and their parameters ask for; none where the parameters aren't the method's (aria2 manual, "RPC interface").
use Rattle.std.specs.Prelude.{List, [], ◌∷◌, Option, Some, None, option_map, option_and_then}
use Rattle.machine_core.specs.declared.calls.Call.{Call}
use Rattle.machine_core.specs.declared.calls.Call.TheVariants.{TellStatus, TellActive, ChangePosition}
use Rattle.rpc_console.specs.Methods.{bare_call, keyed_call, window_call}
use Rattle.rpc_console.specs.Params.{key_in, whole_in, count_in, how_in, keys_at}
use Rattle.rpc_console.specs.declared.asking.Asking.{Asking}
use Rattle.rpc_console.specs.declared.asking.Asking.TheVariants.{One}
use Rattle.rpc_console.specs.declared.asking.Keys.TheVariants.{All}
use Rattle.rpc_console.specs.declared.methods.BareMethod.{BareMethod}
use Rattle.rpc_console.specs.declared.methods.KeyMethod.{KeyMethod}
use Rattle.rpc_console.specs.declared.methods.WindowMethod.{WindowMethod}
use Rattle.serde_json.specs.Data.{Data}

-- a call whose reply is shown whole
abbrev pub plain : Call → Asking
plain call = One call All

-- no parameters
abbrev pub bare_asking : BareMethod → List Data → Option Asking
bare_asking method [] = Some (plain (bare_call method))
bare_asking method (d ∷ ds) = None

-- a gid
abbrev pub keyed_asking : KeyMethod → List Data → Option Asking
keyed_asking method [] = None
keyed_asking method (d ∷ []) = option_map (λ key. plain (keyed_call method key)) (key_in d)
keyed_asking method (d ∷ e ∷ ds) = None

-- a gid, and keys
abbrev pub status_asking : List Data → Option Asking
status_asking [] = None
status_asking (d ∷ ds) = option_and_then (λ key. option_map (One (TellStatus key)) (keys_at ds)) (key_in d)

-- keys
abbrev pub active_asking : List Data → Option Asking
active_asking ds = option_map (One TellActive) (keys_at ds)

-- an offset, how many, and keys
abbrev pub window_asking : WindowMethod → List Data → Option Asking
window_asking method [] = None
window_asking method (d ∷ []) = None
window_asking method (d ∷ e ∷ ds) =
    option_and_then (λ offset. option_and_then (λ num. option_map (One (window_call method offset num)) (keys_at ds)) (count_in e)) (whole_in d)

-- a gid, a position, and from where it counts
abbrev pub position_asking : List Data → Option Asking
position_asking [] = None
position_asking (d ∷ []) = None
position_asking (d ∷ e ∷ []) = None
position_asking (d ∷ e ∷ f ∷ []) =
    option_and_then (λ key. option_and_then (λ pos. option_map (λ from. plain (ChangePosition key pos from)) (how_in f)) (whole_in e)) (key_in d)
position_asking (d ∷ e ∷ f ∷ g ∷ ds) = None
