use Rattle.std.proofs.Common.{◌≡◌, ◌<◌, ℕ, None, length}
use Rattle.std.specs.Prelude.{slice_index_or}
use Rattle.segment_claim.specs.Book.{first_open_at}
use Rattle.one_download.proofs.halts.first_blocks.Given as goal

abbrev pub invariant-loop-place : goal.invariant-loop-place
invariant-loop-place l = record {
  long : length l.firsts ≡ 64;
  each : (place : ℕ) → place < l.place → slice_index_or l.firsts place None
      ≡ first_open_at l.claims l.table.landed place;
}
