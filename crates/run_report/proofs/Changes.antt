-- What calls are answered that change the run.
use Rattle.std.proofs.Common.{◌≡◌, ℕ, false, List, refl}
use Rattle.dl_kinds.specs.declared.gid.Gid.{Gid}
use Rattle.dl_kinds.specs.declared.runs.Moment.{Moment}
use Rattle.machine_core.specs.Answers.{applied_by}
use Rattle.machine_core.specs.Starts.{RunStart}
use Rattle.machine_core.specs.declared.calls.Call.{Call}
use Rattle.machine_core.specs.declared.calls.Call.TheVariants as call
use Rattle.machine_core.specs.declared.events.Event.{Event}
use Rattle.run_report.specs.Replies.{applied_reply, is_asking, reply_of}

pub change_applied : (start : RunStart) (past : List Event) (names : Gid → List ℕ) (asked : Call) (now : Moment)
    → is_asking asked ≡ false → reply_of start past names asked now ≡ applied_reply (applied_by start past asked)
change_applied start past names (call.AddUri uris options position) now changes = refl
change_applied start past names (call.AddTorrent meta uris options position) now changes = refl
change_applied start past names (call.Remove key) now changes = refl
change_applied start past names (call.Pause key) now changes = refl
change_applied start past names (call.Unpause key) now changes = refl
change_applied start past names call.PauseAll now changes = refl
change_applied start past names call.UnpauseAll now changes = refl
change_applied start past names (call.ChangeOption key options) now changes = refl
change_applied start past names (call.ChangeGlobalOption options) now changes = refl
change_applied start past names (call.ChangePosition key position how) now changes = refl
change_applied start past names call.Purge now changes = refl
change_applied start past names (call.RemoveResult key) now changes = refl
change_applied start past names call.Shutdown now changes = refl
change_applied start past names (call.TellStatus key) now changes = absurd cc
change_applied start past names call.TellActive now changes = absurd cc
change_applied start past names (call.TellWaiting offset num) now changes = absurd cc
change_applied start past names (call.TellStopped offset num) now changes = absurd cc
change_applied start past names (call.GetUris key) now changes = absurd cc
change_applied start past names (call.GetFiles key) now changes = absurd cc
change_applied start past names (call.GetOption key) now changes = absurd cc
change_applied start past names call.GetGlobalOption now changes = absurd cc
change_applied start past names call.GetGlobalStat now changes = absurd cc
change_applied start past names call.GetVersion now changes = absurd cc
