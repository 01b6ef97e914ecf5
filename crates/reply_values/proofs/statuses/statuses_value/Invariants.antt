use Rattle.std.proofs.Common.{◌≡◌, map, take}
use Rattle.serde_json.specs.View.{view}
use Rattle.reply_values.specs.Views.{status_data}
use Rattle.reply_values.proofs.statuses.statuses_value.Given as goal

abbrev pub invariant-loop-status : goal.invariant-loop-status
invariant-loop-status l = map view l.values.items ≡ map (status_data l.keys) (take l.status-index l.statuses)
