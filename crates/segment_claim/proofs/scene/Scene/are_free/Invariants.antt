use Rattle.std.proofs.Common.{◌≡◌, ◌<◌, ◌≤◌, ℕ, true}
use Rattle.segment_claim.specs.Free.{is_free}
use Rattle.segment_claim.proofs.scene.Scene.are_free.Given as goal

abbrev pub invariant-loop-block : goal.invariant-loop-block
invariant-loop-block l = (block : ℕ) → l.fn.run.first ≤ block → block < l.block → is_free l.self block ≡ true
