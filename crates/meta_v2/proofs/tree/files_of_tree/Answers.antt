use Rattle.std.proofs.Common.{◌≡◌, ◌++◌, ◌∷◌, [], Some, None, List, map, ap, sym, ◌∙◌}
use Rattle.std.proofs.lemmas.List.{map-append}
use Rattle.meta_v2.specs.declared.tree.Branch.{Branch}
use Rattle.meta_v2.specs.Refusals.{or_refusal}
use Rattle.meta_v2.specs.Trees.{TreeFile, with_both, files_of_tree}
use Rattle.meta_v2.specs.Walks.{seen, files_back, branch_files}
use Rattle.meta_v2.specs.declared.refusals.KeyV2.TheVariants.{FileTree}
use Rattle.meta_v2.specs.declared.refusals.V2Err.TheVariants.{BadKind}
use Rattle.meta_v2.proofs.Walking.{bad_rest, next_walked, nothing_left, starts_walking, walked_few}
use Rattle.meta_v2.proofs.tree.files_of_tree.Goals as goal

pub loop-branch-init : goal.loop-branch-init
loop-branch-init c =
    let root : Branch = record { path = c.new.result; found = c.args.tree } in
    starts_walking _ _ c.args.tree (ap (map seen) c.new-files.ensures.items)
    (ap (map seen) (c.in_ok-push.ensures.items ∙ ap (λ xs. xs ++ root ∷ []) c.new-rest.ensures.items)
    ∙ ap (λ parts. record { path = map (λ part. part.now) parts; found = c.args.tree } ∷ []) c.new.ensures.items)

pub returns-then-not-branch : goal.returns-then-not-branch
returns-then-not-branch c =
    let files = map seen c.loop-branch.files.items in
    let rest = map seen c.pop.new.self.items in
    let popped = ap (map seen) c.in-Some.ensures.items ∙ map-append seen c.pop.new.self.items (c.in-Some.branch ∷ []) in
    let bad : branch_files c.in-Some.branch ≡ None = rw c.if-not-branch.true at c.in_ok-walk.ensures.leaves in
    let none : files_of_tree c.args.tree ≡ None =
    sym c.loop-branch.invariant ∙ ap (λ (l : List TreeFile). with_both (Some files) (files_back l)) popped
    ∙ bad_rest files rest (seen c.in-Some.branch) bad in
    record { exact = ap (or_refusal (BadKind FileTree)) none; few = tt }

pub returns-clause-few : goal.returns-clause-few
returns-clause-few c =
    let rest : c.loop-branch.rest.items ≡ [] = nothing_left c.loop-branch.rest.items c.pop.new.self.items
    _ c.in_default.ensures.items c.in_default.ensures.rest c.in_default.ensures.cases.0 in
    walked_few c.args.tree c.loop-branch.files.items
    (ap (λ (l : List Branch). with_both (Some (map seen c.loop-branch.files.items)) (files_back (map seen l))) (sym rest)
    ∙ c.loop-branch.invariant)

pub loop-branch-preserved : goal.loop-branch-preserved
loop-branch-preserved c =
    let files = map seen c.loop-branch.files.items in
    let rest = map seen c.pop.new.self.items in
    let popped = ap (map seen) c.in-Some.ensures.items ∙ map-append seen c.pop.new.self.items (c.in-Some.branch ∷ []) in
    (rw c.if-not-branch.false at c.in_ok-walk.ensures.leaves)
    ∙ sym (next_walked files rest (seen c.in-Some.branch))
    ∙ ap (λ (l : List TreeFile). with_both (Some files) (files_back l)) (sym popped)
    ∙ c.loop-branch.invariant
