use Rattle.std.proofs.Common.{◌≡◌, vec_capacity}
use Rattle.std.specs.Prelude.{All}
use Rattle.std.proofs.lemmas.List.Filters.{FiltersInPlace}
use Rattle.dl_kinds.specs.Plan.{blocks_of}
use Rattle.segment_claim.specs.Open.{is_underway}
use Rattle.segment_claim.specs.Sound.{IsWithinBlocks}
use Rattle.segment_claim.proofs.open.sweep.Given as goal

abbrev pub invariant-loop-at : goal.invariant-loop-at
invariant-loop-at l = record {
  filters : FiltersInPlace (is_underway l.plan.piece_len l.landed l.closed) l.fn.standing.items l.standing.items
      l.kept l.at;
  within : All (IsWithinBlocks (blocks_of l.plan.total l.plan.piece_len)) l.standing.items;
  capacity : vec_capacity l.standing ≡ vec_capacity l.fn.standing;
}
