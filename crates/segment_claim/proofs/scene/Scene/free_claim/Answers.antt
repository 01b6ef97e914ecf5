use Rattle.std.proofs.Common.{refl}
use Rattle.segment_claim.proofs.scene.Scene.free_claim.Goals as goal

pub returns-then-not-has_room-clause-none : goal.returns-then-not-has_room-clause-none
returns-then-not-has_room-clause-none c =
    (λ _ run mirror is. c.has_room.ensures c.if-not-has_room.true run mirror is.chosen, λ _. refl)

pub returns-in-Some-clause-claim : goal.returns-in-Some-clause-claim
returns-in-Some-clause-claim c = record {
  stretch = c.in-Some.found.run;
  grantable = c.in-Some.ensures.grantable;
  preferred = λ other mirror is. c.in-Some.ensures.preferred other mirror is.stretch is.chosen;
  cut = c.cut.ensures.value;
}

pub returns-in-None-clause-none : goal.returns-in-None-clause-none
returns-in-None-clause-none c = (λ _ run mirror is. c.in-None.ensures run mirror is.stretch is.chosen, λ _. refl)
