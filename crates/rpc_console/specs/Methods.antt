-- The methods by their names (aria2 manual, "RPC interface"), and the calls of those that need no more than a key.
use Rattle.std.specs.Prelude.{ℕ, ℤ, List, codes, bytes_eq, Option, find}
use Rattle.dl_kinds.specs.declared.gid_key.GidKey.{GidKey}
use Rattle.machine_core.specs.declared.calls.Call.{Call}
use Rattle.machine_core.specs.declared.calls.Call.TheVariants as call
use Rattle.rpc_console.specs.declared.methods.BareMethod.{BareMethod}
use Rattle.rpc_console.specs.declared.methods.BareMethod.TheVariants as bare
use Rattle.rpc_console.specs.declared.methods.KeyMethod.{KeyMethod}
use Rattle.rpc_console.specs.declared.methods.KeyMethod.TheVariants as keyed
use Rattle.rpc_console.specs.declared.methods.Method.{Method}
use Rattle.rpc_console.specs.declared.methods.Method.TheVariants as method
use Rattle.rpc_console.specs.declared.methods.TheConstants.{METHODS}
use Rattle.rpc_console.specs.declared.methods.WindowMethod.{WindowMethod}
use Rattle.rpc_console.specs.declared.methods.WindowMethod.TheVariants as window

abbrev pub bare_name : BareMethod → List ℕ
bare_name bare.GetGlobalOption = codes "aria2.getGlobalOption"
bare_name bare.GetGlobalStat = codes "aria2.getGlobalStat"
bare_name bare.GetVersion = codes "aria2.getVersion"
bare_name bare.PauseAll = codes "aria2.pauseAll"
bare_name bare.Purge = codes "aria2.purgeDownloadResult"
bare_name bare.Shutdown = codes "aria2.shutdown"
bare_name bare.UnpauseAll = codes "aria2.unpauseAll"

abbrev pub keyed_name : KeyMethod → List ℕ
keyed_name keyed.GetFiles = codes "aria2.getFiles"
keyed_name keyed.GetOption = codes "aria2.getOption"
keyed_name keyed.GetUris = codes "aria2.getUris"
keyed_name keyed.Pause = codes "aria2.pause"
keyed_name keyed.Remove = codes "aria2.remove"
keyed_name keyed.RemoveResult = codes "aria2.removeDownloadResult"
keyed_name keyed.Unpause = codes "aria2.unpause"

abbrev pub window_name : WindowMethod → List ℕ
window_name window.TellStopped = codes "aria2.tellStopped"
window_name window.TellWaiting = codes "aria2.tellWaiting"

abbrev pub method_name : Method → List ℕ
method_name method.AddTorrent = codes "aria2.addTorrent"
method_name method.AddUri = codes "aria2.addUri"
method_name (method.Bare which) = bare_name which
method_name method.ChangeGlobalOption = codes "aria2.changeGlobalOption"
method_name method.ChangeOption = codes "aria2.changeOption"
method_name method.ChangePosition = codes "aria2.changePosition"
method_name (method.Keyed which) = keyed_name which
method_name method.ListMethods = codes "system.listMethods"
method_name method.TellActive = codes "aria2.tellActive"
method_name method.TellStatus = codes "aria2.tellStatus"
method_name (method.Window which) = window_name which

-- the method of this name, if one has it
abbrev pub method_named : List ℕ → Option Method
method_named name = find (λ which. bytes_eq (method_name which) name) METHODS

-- ---- their calls

abbrev pub bare_call : BareMethod → Call
bare_call bare.GetGlobalOption = call.GetGlobalOption
bare_call bare.GetGlobalStat = call.GetGlobalStat
bare_call bare.GetVersion = call.GetVersion
bare_call bare.PauseAll = call.PauseAll
bare_call bare.Purge = call.Purge
bare_call bare.Shutdown = call.Shutdown
bare_call bare.UnpauseAll = call.UnpauseAll

abbrev pub keyed_call : KeyMethod → GidKey → Call
keyed_call keyed.GetFiles key = call.GetFiles key
keyed_call keyed.GetOption key = call.GetOption key
keyed_call keyed.GetUris key = call.GetUris key
keyed_call keyed.Pause key = call.Pause key
keyed_call keyed.Remove key = call.Remove key
keyed_call keyed.RemoveResult key = call.RemoveResult key
keyed_call keyed.Unpause key = call.Unpause key

abbrev pub window_call : WindowMethod → ℤ → ℕ → Call
window_call window.TellStopped offset num = call.TellStopped offset num
window_call window.TellWaiting offset num = call.TellWaiting offset num
