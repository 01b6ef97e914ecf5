use Rattle.std.proofs.Common.{◌≢◌, ℕ, ◌<◌, ◌≤◌, Some, true, slice_get}
use Rattle.bit_rows.specs.Row.{bits_of}
use Rattle.bit_rows.proofs.bits.is_any_set.Given as goal

abbrev pub invariant-loop-at : goal.invariant-loop-at
invariant-loop-at l = (place : ℕ) → l.from ≤ place → place < l.at → slice_get (bits_of l.bytes) place ≢ Some true
