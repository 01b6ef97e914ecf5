-- Laws of what methods ask for.
use Rattle.std.specs.Prelude.{◌≡◌, ◌↔◌, ℕ, List, Some}
use Rattle.machine_core.specs.LawfulCalls.{IsLawful}
use Rattle.rpc_console.specs.Dispatch.{IsAskingOf}
use Rattle.rpc_console.specs.Methods.{method_name, method_named}
use Rattle.rpc_console.specs.declared.asking.Asking.{Asking}
use Rattle.rpc_console.specs.declared.asking.Asking.TheVariants.{One, Methods}
use Rattle.rpc_console.specs.declared.methods.Method.{Method}
use Rattle.serde_json.specs.Data.{Data}

-- the call may be made
abbrev pub IsLawfulAsking : Asking → Type 0
IsLawfulAsking (One call keys) = IsLawful call
IsLawfulAsking Methods = Unit {0}

-- .. which is so whatever a method asks for
abbrev pub AskingsAreLawful : Type 0
AskingsAreLawful = (which : Method) (params : List Data) (asking : Asking) → IsAskingOf which params asking → IsLawfulAsking asking

-- a method is found by its name, and by no other
abbrev pub MethodsHaveNames : Type 0
MethodsHaveNames = (name : List ℕ) (which : Method) → method_named name ≡ Some which ↔ method_name which ≡ name
