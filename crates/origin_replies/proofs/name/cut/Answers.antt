use Rattle.std.proofs.Common.{◌∙◌, ◌+◌, ◌∷◌, sym, ap, take}
use Rattle.std.specs.List.{slice_split}
use Rattle.std.specs.Prelude.{◌==◌}
use Rattle.std.proofs.lemmas.List.{take_rest}
use Rattle.origin_replies.proofs.Cutting.{cut_none, cut_some}
use Rattle.origin_replies.proofs.name.cut.Goals as goal

pub returns-in-Some-clause-cuts : goal.returns-in-Some-clause-cuts
returns-in-Some-clause-cuts c =
    let path = c.args.path.now in
    let place = c.in-Some.place in
    cut_some path place (sym c.in-Some.ensures.place)
    ∙ ap (λ rest. take place path ∷ slice_split (λ byte. byte == 47) rest) (sym (take_rest path (place + 1)))

pub returns-in-None-clause-cuts : goal.returns-in-None-clause-cuts
returns-in-None-clause-cuts c = cut_none c.args.path.now (sym c.in-None.ensures.place)
