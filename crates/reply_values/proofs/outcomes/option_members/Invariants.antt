use Rattle.std.proofs.Common.{◌≡◌, map, take}
use Rattle.serde_json.specs.Data.{no_members}
use Rattle.serde_json.specs.View.{members_view}
use Rattle.reply_values.specs.Members.{put_all}
use Rattle.reply_values.specs.Outcomes.{named_text}
use Rattle.reply_values.proofs.outcomes.option_members.Given as goal

abbrev pub invariant-loop-name : goal.invariant-loop-name
invariant-loop-name l = members_view l.members.entries ≡ put_all (map named_text (take l.name-index l.pairs)) no_members
