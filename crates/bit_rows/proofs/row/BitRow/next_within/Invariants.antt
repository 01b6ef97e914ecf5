use Rattle.std.proofs.Common.{◌≢◌, ◌^◌, length, ℕ, ◌<◌, ◌≤◌, ◌-◌, Some, slice_get}
use Rattle.bit_rows.proofs.row.BitRow.next_within.Given as goal

abbrev pub invariant-loop-at : goal.invariant-loop-at
invariant-loop-at l =
    record {
      few : l.to < 2 ^ 32;
      within : l.to ≤ length l.self;
      later : l.from ≤ l.at;
      near : l.at < 2 ^ 33;
      passed : (place : ℕ) → l.from ≤ place → place < l.at → slice_get l.self place ≢ Some l.wanted;
    }

abbrev pub decreases-loop-at : goal.decreases-loop-at
decreases-loop-at l = l.to - l.at
