-- Options, as an object of texts (aria2 manual, "RPC interface", options).
use Rattle.std.specs.Prelude.{◌≡◌, ◌≢◌, ◌⊎◌, ◌&&◌, ℕ, Bool, true, false, List, [], ◌∷◌, Option, Some, None, is_some, option_map, Result, Ok, Err, String, ⊤}
use Rattle.std.specs.BTreeMap.{BTreeMap}
use Rattle.std.specs.Borrow.{Bor}
use Rattle.std.specs.declared.alloc.Global.{Global}
use Rattle.option_set.specs.Assignments.{IsSettingOf, option_of}
use Rattle.option_set.specs.Settings.{IsOutside, SpellsValue}
use Rattle.option_set.specs.Table.{table_row, is_changed_by_option, is_changed_globally}
use Rattle.option_set.specs.Values.{is_of_downloads}
use Rattle.option_set.specs.declared.kinds.Opt.{Opt}
use Rattle.option_set.specs.declared.setting.Assigned.{Assigned}
use Rattle.rpc_console.specs.declared.errors.RpcErr.{RpcErr}
use Rattle.rpc_console.specs.declared.errors.RpcErr.TheVariants.{Refused, NoMemory}
use Rattle.rpc_console.specs.declared.options.OptionUse.{OptionUse}
use Rattle.rpc_console.specs.declared.options.OptionUse.TheVariants.{Adding, Changing, ChangingGlobally}
use Rattle.rpc_envelope.specs.declared.fault.RpcFault.{RpcFault}
use Rattle.rpc_envelope.specs.declared.fault.RpcFault.TheVariants.{BadParams, OptionUnknown, OptionBadValue, OptionOutOfRange, OptionFixed}
use Rattle.serde_json.specs.Data.{Data, Members, no_members, member}
use Rattle.serde_json.specs.Find.{as_str}
use Rattle.serde_json.specs.View.{members_view}
use Rattle.serde_json.specs.declared.value.Value.{Value}

-- P of the fault, where the answer is one
abbrev pub IfRefused : {T : Type 0} → Result T RpcErr → (RpcFault → Type 0) → Type 0
IfRefused (Ok value) P = ⊤
IfRefused (Err (Refused fault)) P = P fault
IfRefused (Err NoMemory) P = ⊤

-- which options each kind of call takes
abbrev pub takes_option : OptionUse → Opt → Bool
takes_option Adding option = is_of_downloads (table_row option).scope
takes_option Changing option = is_changed_by_option (table_row option).change
takes_option ChangingGlobally option = is_changed_globally (table_row option).change

-- ---- one option

-- the name and the text make no setting
abbrev pub RefusesValue : List ℕ → List ℕ → RpcFault → Type 0
RefusesValue name text OptionUnknown = (option : Opt) → (table_row option).name ≢ name
RefusesValue name text OptionBadValue = (option : Opt) × ((table_row option).name ≡ name) × (SpellsValue option text → ⊥)
RefusesValue name text OptionOutOfRange = (least : ℕ) × (most : ℕ) × IsOutside name text least most
RefusesValue name text other = ⊥

-- the name and the text make this setting, and the call takes it
abbrev pub SetsText : OptionUse → List ℕ → List ℕ → Assigned → Type 0
SetsText call name text setting = IsSettingOf name text setting × (takes_option call (option_of setting) ≡ true)

-- they make no setting, or one that the call doesn't take
abbrev pub RefusesText : OptionUse → List ℕ → List ℕ → RpcFault → Type 0
RefusesText call name text fault =
    RefusesValue name text fault
    ⊎ ((setting : Assigned) × IsSettingOf name text setting × (takes_option call (option_of setting) ≡ false) × (fault ≡ OptionFixed))

abbrev pub Sets : OptionUse → List ℕ → Data → Assigned → Type 0
Sets call name d setting = (text : List ℕ) × (as_str d ≡ Some text) × SetsText call name text setting

abbrev pub RefusesOption : OptionUse → List ℕ → Data → RpcFault → Type 0
RefusesOption call name d fault =
    ((as_str d ≡ None) × (fault ≡ BadParams)) ⊎ ((text : List ℕ) × (as_str d ≡ Some text) × RefusesText call name text fault)

-- ---- all options of an object

abbrev pub are_texts : Members → Bool
are_texts no_members = true
are_texts (member name d others) = is_some (as_str d) && are_texts others

-- each member sets an option, in order
abbrev pub AreSettings : OptionUse → Members → List Assigned → Type 0
AreSettings call no_members settings = settings ≡ []
AreSettings call (member name d members) settings =
    (first : Assigned) × (others : List Assigned) × (settings ≡ first ∷ others) × Sets call name d first × AreSettings call members others

-- the first member that sets none has this fault
abbrev pub RefusesSettings : OptionUse → Members → RpcFault → Type 0
RefusesSettings call no_members fault = ⊥
RefusesSettings call (member name d members) fault =
    RefusesOption call name d fault ⊎ ((first : Assigned) × Sets call name d first × RefusesSettings call members fault)

-- an object of texts sets these
abbrev pub AreOptions : OptionUse → Option Members → List Assigned → Type 0
AreOptions call None settings = ⊥
AreOptions call (Some members) settings = (are_texts members ≡ true) × AreSettings call members settings

-- it is no object of texts, or its first member that sets none has this fault
abbrev pub RefusesOptions : OptionUse → Option Members → RpcFault → Type 0
RefusesOptions call None fault = fault ≡ BadParams
RefusesOptions call (Some members) fault =
    ((are_texts members ≡ false) × (fault ≡ BadParams)) ⊎ ((are_texts members ≡ true) × RefusesSettings call members fault)

-- the members of an object that may be there
abbrev pub members_if_any : Option (Bor (BTreeMap (String Global) Value)) → Option Members
members_if_any found = option_map (λ members. members_view members.now.entries) found
