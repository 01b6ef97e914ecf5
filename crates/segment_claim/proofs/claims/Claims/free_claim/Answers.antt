use Rattle.segment_claim.proofs.claims.Claims.free_claim.Goals as goal

pub returns-clause-none : goal.returns-clause-none
returns-clause-none c = rw (← c.scene.ensures) c.free_claim.ensures.none
