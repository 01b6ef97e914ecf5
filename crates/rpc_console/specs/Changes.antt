-- What the methods that change options ask for, and why they are refused (aria2 manual, "RPC interface").
use Rattle.std.specs.Prelude.{◌≡◌, ◌⊎◌, List, [], ◌∷◌, Some, None}
use Rattle.dl_kinds.specs.declared.gid_key.GidKey.{GidKey}
use Rattle.machine_core.specs.declared.calls.Call.TheVariants.{ChangeOption, ChangeGlobalOption}
use Rattle.option_set.specs.declared.setting.Assigned.{Assigned}
use Rattle.rpc_console.specs.Askings.{plain}
use Rattle.rpc_console.specs.Options.{AreOptions, RefusesOptions}
use Rattle.rpc_console.specs.Params.{key_in}
use Rattle.rpc_console.specs.declared.asking.Asking.{Asking}
use Rattle.rpc_console.specs.declared.options.OptionUse.TheVariants.{Changing, ChangingGlobally}
use Rattle.rpc_envelope.specs.declared.fault.RpcFault.{RpcFault}
use Rattle.rpc_envelope.specs.declared.fault.RpcFault.TheVariants.{BadParams}
use Rattle.serde_json.specs.Data.{Data}
use Rattle.serde_json.specs.Find.{as_object}

-- options
abbrev pub IsGlobalChange : List Data → Asking → Type 0
IsGlobalChange [] asking = ⊥
IsGlobalChange (d ∷ []) asking =
    (options : List Assigned) × AreOptions ChangingGlobally (as_object d) options × (asking ≡ plain (ChangeGlobalOption options))
IsGlobalChange (d ∷ e ∷ ds) asking = ⊥

abbrev pub RefusesGlobalChange : List Data → RpcFault → Type 0
RefusesGlobalChange [] fault = fault ≡ BadParams
RefusesGlobalChange (d ∷ []) fault = RefusesOptions ChangingGlobally (as_object d) fault
RefusesGlobalChange (d ∷ e ∷ ds) fault = fault ≡ BadParams

-- a gid, and options
abbrev pub IsChange : List Data → Asking → Type 0
IsChange [] asking = ⊥
IsChange (d ∷ []) asking = ⊥
IsChange (d ∷ e ∷ []) asking =
    (key : GidKey) × (key_in d ≡ Some key) × (options : List Assigned) × AreOptions Changing (as_object e) options
    × (asking ≡ plain (ChangeOption key options))
IsChange (d ∷ e ∷ f ∷ ds) asking = ⊥

abbrev pub RefusesChange : List Data → RpcFault → Type 0
RefusesChange [] fault = fault ≡ BadParams
RefusesChange (d ∷ []) fault = fault ≡ BadParams
RefusesChange (d ∷ e ∷ []) fault =
    ((key_in d ≡ None) × (fault ≡ BadParams))
    ⊎ ((key : GidKey) × (key_in d ≡ Some key) × RefusesOptions Changing (as_object e) fault)
RefusesChange (d ∷ e ∷ f ∷ ds) fault = fault ≡ BadParams
