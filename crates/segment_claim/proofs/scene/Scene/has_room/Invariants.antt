use Rattle.std.proofs.Common.{◌≤◌, ◌<◌, ℕ, slice_index}
use Rattle.segment_claim.proofs.scene.Scene.has_room.Given as goal

abbrev pub invariant-loop-load : goal.invariant-loop-load
invariant-loop-load l = (mirror : ℕ) → mirror < l.load-index → l.self.per_host ≤ slice_index l.load-items mirror
