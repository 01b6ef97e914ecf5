use Rattle.std.proofs.Common.{◌∙◌, ap, rules}
use Rattle.std.proofs.lemmas.Map.Made.{filter_same_pairs}
use Rattle.serde_json.specs.View.{members_view}
use Rattle.reply_values.proofs.Choosing.{is_entry_chosen, picked}
use Rattle.reply_values.proofs.members.keep_chosen.Goals as goal

pub returns : goal.returns
returns c =
    let keys = c.args.keys.now in
    let entries = c.args.members.now.entries in
    ap members_view (filter_same_pairs _ (is_entry_chosen keys) _ (λ name value chosen left test called. search rules) entries
    c.retain.new.self.entries c.retain.ensures.filtered)
    ∙ picked keys entries
