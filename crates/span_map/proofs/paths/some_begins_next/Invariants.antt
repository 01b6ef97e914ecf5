use Rattle.std.specs.List.{AllAdjacentBelow}
use Rattle.span_map.specs.Paths.{Begins}
use Rattle.span_map.proofs.paths.some_begins_next.Given as goal

abbrev pub invariant-loop-place : goal.invariant-loop-place
invariant-loop-place l = AllAdjacentBelow (λ a b. Begins a.now b.now → ⊥) l.paths l.place
