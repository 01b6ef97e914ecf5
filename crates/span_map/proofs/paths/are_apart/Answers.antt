use Rattle.std.proofs.Common.{rules, ◌≡◌, List, Bor, length, subst}
use Rattle.std.specs.Bool.{MatchBool}
use Rattle.std.specs.List.{AllAdjacentBelow}
use Rattle.std.specs.Ordering.{is_lt}
use Rattle.std.proofs.lemmas.Fn.{always_returns_same}
use Rattle.std.proofs.lemmas.List.Sorted.{ranks_by}
use Rattle.dl_kinds.specs.declared.lists.Texts.{Texts}
use Rattle.span_map.specs.Paths.{Begins}
use Rattle.span_map.specs.Order.{SomeNext, paths_cmp}
use Rattle.span_map.proofs.Order.{paths_total}
use Rattle.span_map.proofs.Clashes.{judged}
use Rattle.span_map.proofs.paths.are_apart.Goals as goal

pub returns : goal.returns
returns c =
    judged (λ path. path.now) c.args.files.now c.in_ok-paths.paths.items c.sort_unstable_by.new.self.items c.some_begins_next.result
    c.in_ok-paths.ensures c.sort_unstable_by.ensures.permutation
    (c.sort_unstable_by.ensures.sorted (λ a b. is_lt (paths_cmp a.now b.now)) (ranks_by paths_total (λ path. path.now))
    (always_returns_same _ (λ a r. is_lt r ≡ is_lt (paths_cmp a.0.now.now a.1.0.now.now)) _ (λ a r f' k. search rules)))
    (subst
    (λ (paths : List (Bor Texts)).
    MatchBool c.some_begins_next.result (SomeNext (λ a b. Begins a.now b.now) paths) (AllAdjacentBelow (λ a b. Begins a.now b.now → ⊥) paths (length paths)))
    c.deref.ensures.value c.some_begins_next.ensures)
