use Rattle.std.proofs.Common.{refl, inl, subst}
use Rattle.segment_claim.specs.Free.{HasNoFreeClaim}
use Rattle.segment_claim.proofs.claims.Claims.grant_free.Goals as goal

pub scene-requires-clause-made : goal.scene-requires-clause-made
scene-requires-clause-made c = inl c.requires.room

pub returns-in-None-clause-none : goal.returns-in-None-clause-none
returns-in-None-clause-none c = (λ _. subst HasNoFreeClaim c.scene.ensures (c.in-None.ensures.none.0 refl), λ _. refl)
