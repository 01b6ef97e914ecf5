use Rattle.std.proofs.Common.{◌∷◌, [], ◌++◌, ap, sym, ◌∙◌}
use Rattle.door_source.proofs.Lists.{last_same}
use Rattle.door_source.proofs.laws.newest_connection_is_one.Goals as goal

pub returns : goal.returns
returns c = λ before after newest earlier old new becomes stands.
    let same = last_same becomes.earlier earlier before newest (sym becomes.were ∙ stands) in
    (same.1, becomes.are ∙ ap (λ front. front ++ after ∷ []) same.0)
