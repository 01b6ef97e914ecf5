use Rattle.std.proofs.Common.{inl}
use Rattle.segment_claim.proofs.claims.Claims.mirror_for.Goals as goal

pub scene-requires-clause-made : goal.scene-requires-clause-made
scene-requires-clause-made c = inl c.requires.room
