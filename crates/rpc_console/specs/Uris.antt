-- What `aria2.addUri` asks for, and why it is refused (aria2 manual, `aria2.addUri`).
use Rattle.std.specs.Prelude.{◌≡◌, ◌==◌, ◌⊎◌, ℕ, All, List, [], ◌∷◌, length, nat_lt, if◌then◌else◌, true, false, Option, Some, None}
use Rattle.dl_kinds.specs.declared.claims.TheConstants.{MAX_MIRRORS}
use Rattle.link_source.specs.Endpoint.{IsUsable}
use Rattle.machine_core.specs.declared.calls.Call.TheVariants.{AddUri}
use Rattle.option_set.specs.declared.setting.Assigned.{Assigned}
use Rattle.rpc_console.specs.Askings.{plain}
use Rattle.rpc_console.specs.Further.{are_further, further_options, further_position}
use Rattle.rpc_console.specs.Options.{AreOptions, RefusesOptions}
use Rattle.rpc_console.specs.Params.{text_list}
use Rattle.rpc_console.specs.declared.asking.Asking.{Asking}
use Rattle.rpc_console.specs.declared.options.OptionUse.TheVariants.{Adding}
use Rattle.rpc_envelope.specs.declared.fault.RpcFault.{RpcFault}
use Rattle.rpc_envelope.specs.declared.fault.RpcFault.TheVariants.{BadParams, NoUsableUri, TooManyUris}
use Rattle.serde_json.specs.Data.{Data}

-- ---- mirrors

-- why there may not be so many
abbrev pub mirrors_fault : ℕ → Option RpcFault
mirrors_fault count =
    if count == 0 then Some NoUsableUri else (if nat_lt MAX_MIRRORS count then Some TooManyUris else None)

-- a URI leads to no mirror
abbrev pub RefusesUnusable : List (List ℕ) → RpcFault → Type 0
RefusesUnusable uris fault = (All IsUsable uris → ⊥) × (fault ≡ NoUsableUri)

-- ---- the call

-- URIs, and what stands behind them
abbrev pub AreUriParams : Data → List Data → List (List ℕ) → Type 0
AreUriParams d further uris = (text_list d ≡ Some uris) × (are_further further ≡ true)

abbrev pub AreNoUriParams : Data → List Data → Type 0
AreNoUriParams d further = (text_list d ≡ None) ⊎ (are_further further ≡ false)

-- each URI leads to a mirror, there are some and not too many, and the call takes the options
abbrev pub AddsUris : List (List ℕ) → List Data → Asking → Type 0
AddsUris uris further asking =
    All IsUsable uris × (mirrors_fault (length uris) ≡ None)
    × (options : List Assigned) × AreOptions Adding (further_options further) options
    × (asking ≡ plain (AddUri uris options (further_position further)))

-- the first of these isn't so
abbrev pub RefusesUris : List (List ℕ) → List Data → RpcFault → Type 0
RefusesUris uris further fault =
    RefusesUnusable uris fault
    ⊎ (All IsUsable uris × (mirrors_fault (length uris) ≡ Some fault))
    ⊎ (All IsUsable uris × (mirrors_fault (length uris) ≡ None) × RefusesOptions Adding (further_options further) fault)

abbrev pub IsUriAsking : List Data → Asking → Type 0
IsUriAsking [] asking = ⊥
IsUriAsking (d ∷ further) asking = (uris : List (List ℕ)) × AreUriParams d further uris × AddsUris uris further asking

abbrev pub RefusesUriAsking : List Data → RpcFault → Type 0
RefusesUriAsking [] fault = fault ≡ BadParams
RefusesUriAsking (d ∷ further) fault =
    (AreNoUriParams d further × (fault ≡ BadParams))
    ⊎ ((uris : List (List ℕ)) × AreUriParams d further uris × RefusesUris uris further fault)
