use Rattle.std.proofs.Common.{◌≡◌, map, take}
use Rattle.serde_json.specs.View.{view}
use Rattle.reply_values.specs.Views.{uri_data}
use Rattle.reply_values.proofs.files.uris_value.Given as goal

abbrev pub invariant-loop-uri : goal.invariant-loop-uri
invariant-loop-uri l = map view l.values.items ≡ map uri_data (take l.uri-index l.uris)
