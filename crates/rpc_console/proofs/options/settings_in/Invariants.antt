use Rattle.std.proofs.Common.{◌≡◌, List, ◌++◌}
use Rattle.serde_json.proofs.Views.{Entry}
use Rattle.serde_json.specs.View.{members_view}
use Rattle.rpc_console.specs.Options.{AreSettings}
use Rattle.rpc_console.proofs.options.settings_in.Given as goal

abbrev pub invariant-loop-name : goal.invariant-loop-name
invariant-loop-name l =
    (done : List Entry) × (l.members.entries ≡ done ++ l.name-iterator) × AreSettings l.call (members_view done) l.settings
