use Rattle.std.proofs.Common.{◌∙◌, ap, false, length, replicate, true}
use Rattle.std.proofs.lemmas.List.{length-replicate}
use Rattle.file_choice.proofs.Held.{all_set}
use Rattle.file_choice.proofs.pieces.all_wanted.Goals as goal

pub returns : goal.returns
returns c =
    all_set c.args.plan.now.pieces c.in_ok-row.row c.set_between.new.row
    (ap length c.in_ok-row.ensures ∙ length-replicate c.args.plan.now.pieces false) c.set_between.ensures
    ∙ ap (λ n. replicate n true) c.args.plan.now.pieces_are
