-- Calls that take no download off.
use Rattle.std.specs.Prelude.{Bool, true}
use Rattle.machine_core.specs.declared.calls.Call.{Call}
use Rattle.machine_core.specs.declared.calls.Call.TheVariants as call
use Rattle.run_report.specs.Replies.{is_asking}

-- it asks, adds a download, or changes the options of one
abbrev pub is_quiet : Call → Bool
is_quiet (call.AddUri uris options position) = true
is_quiet (call.AddTorrent meta uris options position) = true
is_quiet (call.ChangeOption key options) = true
is_quiet other = is_asking other
