use Rattle.std.proofs.Common.{Some, List, map, ap, sym, ◌∙◌, Option}
use Rattle.meta_v2.specs.Trees.{TreeFile, with_both}
use Rattle.meta_v2.specs.Walks.{seen, files_left}
use Rattle.meta_v2.proofs.Walking.{folder_walked}
use Rattle.meta_v2.proofs.tree.walk.Goals as goal

pub returns-in_ok-open-in-None-clause-leaves : goal.returns-in_ok-open-in-None-clause-leaves
returns-in_ok-open-in-None-clause-leaves c =
    let folder = folder_walked (seen c.args.branch) (sym c.is_dict.ensures ∙ c.if-not-is_dict.false) (sym c.in-None.ensures.member) in
    ap (with_both (Some (map seen c.args.files.now.items)))
    (c.in_ok-open-in-None.ensures.leaves
    ∙ ap (λ (a : Option (List TreeFile)). with_both a (files_left c.args.rest.now.items)) (sym folder))
