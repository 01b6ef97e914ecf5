use Rattle.std.proofs.Common.{refl}
use Rattle.std.specs.Fmt.{digits}
use Rattle.hex.proofs.OnLiterals.{hex_on_literals}
use Rattle.serde_json.proofs.OnLiterals.{serde_json_on_literals}
use Rattle.reply_values.proofs.laws.worked_replies_have_texts.Goals as goal

pub returns : goal.returns
unfolding serde_json_on_literals hex_on_literals digits
returns c = record {
  gid = refl;
  fine = refl;
  position = refl;
  version = refl;
  stat = refl;
  uris = refl;
  options = refl;
  status = refl;
  why_failed = refl;
  chosen = refl;
  none_chosen = refl;
  all_chosen = refl;
  refused = refl;
  refusal_text = refl;
}
