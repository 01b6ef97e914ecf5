use Rattle.std.proofs.Common.{ℕ, ◌≡◌, ◌++◌, ◌∷◌, [], List, map, ap, ◌∙◌, arith}
use Rattle.std.proofs.lemmas.List.{map-append}
use Rattle.bencode_core.specs.Placed.{Placed}
use Rattle.meta_v2.specs.Trees.{with_both}
use Rattle.meta_v2.specs.Walks.{seen, files_left, files_of_all}
use Rattle.meta_v2.proofs.Walking.{child, child_step, member_sizes, members_shorter, size_step}
use Rattle.meta_v2.proofs.tree.open.Goals as goal

pub loop-key-init : goal.loop-key-init
loop-key-init c =
    let folder = c.args.folder.now in
    let path = map (λ part. part.now) folder.path.items in
    record {
      leaves = ap (λ ms. with_both (files_of_all (map (child path) ms)) (files_left c.args.rest.now.items)) c.in_ok-members.ensures;
      less = omega (arith, ap member_sizes c.in_ok-members.ensures, members_shorter folder.found);
    }

pub loop-key-preserved : goal.loop-key-preserved
loop-key-preserved c =
    let path = map (λ part. part.now) c.args.folder.now.path.items in
    let front = map (λ m. (m.0.now, m.1)) c.pop.new.self.items in
    let all = map (λ m. (m.0.now, m.1)) c.loop-key.members.items in
    let m : List ℕ × Placed = (c.in-Some.key.now, c.in-Some.found) in
    let last = c.in_ok-in_folder.field-0 in
    let rest = c.loop-key.rest.items in
    let more = c.push.new.self.items in
    let all_is : all ≡ front ++ m ∷ [] =
    ap (map (λ m. (m.0.now, m.1))) c.in-Some.ensures.items
    ∙ map-append (λ m. (m.0.now, m.1)) c.pop.new.self.items ((c.in-Some.key, c.in-Some.found) ∷ []) in
    let path_is = c.in_ok-in_folder.ensures.path ∙ ap (λ parts. map (λ part. part.now) parts ++ c.in-Some.key.now ∷ []) c.deref.ensures.value in
    let last_is : seen last ≡ child path m = λ i. record { path = path_is i; found = c.in_ok-in_folder.ensures.found i } in
    record {
      leaves =
          child_step path front all m (map seen rest) (map seen more) (seen last) all_is
          (ap (map seen) c.in_ok-push.ensures.items ∙ map-append seen rest (last ∷ [])) last_is
          ∙ c.loop-key.invariant.leaves;
      less =
          omega (
            arith,
            size_step front all m rest more last all_is c.in_ok-push.ensures.items c.in_ok-in_folder.ensures.found,
            c.loop-key.invariant.less,
          );
    }
