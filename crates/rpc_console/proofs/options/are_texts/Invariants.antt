use Rattle.std.proofs.Common.{◌≡◌, List, ◌++◌, true}
use Rattle.serde_json.proofs.Views.{Entry}
use Rattle.serde_json.specs.View.{members_view}
use Rattle.rpc_console.specs.Options.{are_texts}
use Rattle.rpc_console.proofs.options.are_texts.Given as goal

abbrev pub invariant-loop-value : goal.invariant-loop-value
invariant-loop-value l =
    (done : List Entry) × (l.members.entries ≡ done ++ l.value-iterator) × (are_texts (members_view done) ≡ true)
