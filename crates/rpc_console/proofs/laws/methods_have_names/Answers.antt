use Rattle.std.proofs.Common.{◌≡◌, List, [], ◌∷◌, Bool, true, false, Some, refl, subst, ap}
use Rattle.std.proofs.lemmas.Slice.Eq.{bytes_eq-Decides}
use Rattle.std.specs.Prelude.{bytes_eq, find, if◌then◌else◌, unwrap_or}
use Rattle.rpc_console.specs.Laws.{MethodsHaveNames}
use Rattle.rpc_console.specs.Methods.{method_name, method_named}
use Rattle.rpc_console.specs.declared.methods.BareMethod.TheVariants as bare
use Rattle.rpc_console.specs.declared.methods.KeyMethod.TheVariants as keyed
use Rattle.rpc_console.specs.declared.methods.Method.{Method}
use Rattle.rpc_console.specs.declared.methods.Method.TheVariants as method
use Rattle.rpc_console.specs.declared.methods.TheConstants.{METHODS}
use Rattle.rpc_console.specs.declared.methods.WindowMethod.TheVariants as window
use Rattle.rpc_console.proofs.laws.methods_have_names.Goals as goal

known : (which : Method) → method_named (method_name which) ≡ Some which
known method.AddTorrent = refl
known method.AddUri = refl
known (method.Bare bare.GetGlobalOption) = refl
known (method.Bare bare.GetGlobalStat) = refl
known (method.Bare bare.GetVersion) = refl
known (method.Bare bare.PauseAll) = refl
known (method.Bare bare.Purge) = refl
known (method.Bare bare.Shutdown) = refl
known (method.Bare bare.UnpauseAll) = refl
known method.ChangeGlobalOption = refl
known method.ChangeOption = refl
known method.ChangePosition = refl
known (method.Keyed keyed.GetFiles) = refl
known (method.Keyed keyed.GetOption) = refl
known (method.Keyed keyed.GetUris) = refl
known (method.Keyed keyed.Pause) = refl
known (method.Keyed keyed.Remove) = refl
known (method.Keyed keyed.RemoveResult) = refl
known (method.Keyed keyed.Unpause) = refl
known method.ListMethods = refl
known method.TellActive = refl
known method.TellStatus = refl
known (method.Window window.TellStopped) = refl
known (method.Window window.TellWaiting) = refl

-- what is found has what it was sought by
found : (p : Method → Bool) (all : List Method) (which : Method) → find p all ≡ Some which → p which ≡ true
found p [] which e = cc
found p (first ∷ others) which e = by (p first) refl (found p others which) e where
  by : (b : Bool) → p first ≡ b → (find p others ≡ Some which → p which ≡ true)
      → (if b then Some first else find p others) ≡ Some which → p which ≡ true
  by true holds rest is = subst (λ m. p m ≡ true) (ap (λ o. unwrap_or o first) is) holds
  by false holds rest is = rest is

named : MethodsHaveNames
named name which = (
  (λ e. (bytes_eq-Decides (method_name which) name).0 (found (λ m. bytes_eq (method_name m) name) METHODS which e)),
  (λ e. subst (λ text. method_named text ≡ Some which) e (known which)),
)

pub returns : goal.returns
returns c = record { named = named; ascend = record { names = refl; ascending = refl } }
