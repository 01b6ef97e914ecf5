use Rattle.std.proofs.Common.{arith}
use Rattle.segment_claim.proofs.OwnRuns.{own_to}
use Rattle.segment_claim.proofs.scene.Scene.is_able.Goals as goal

pub has_thief-requires-clause-within : goal.has_thief-requires-clause-within
has_thief-requires-clause-within c =
    let two = c.if-own-lt2.false in
    let to = own_to c.args.self.now c.args.claim.now c.args.own (omega arith) c.requires.own.own in
    let within = c.requires.claim.run.within in
    record { some = omega arith; within = omega arith }

pub has_thief-requires-clause-bounded : goal.has_thief-requires-clause-bounded
has_thief-requires-clause-bounded c =
    let two = c.if-own-lt2.false in
    let to = own_to c.args.self.now c.args.claim.now c.args.own (omega arith) c.requires.own.own in
    let bound = c.requires.claim.bounded in
    omega arith

pub returns-then-is_without_sole : goal.returns-then-is_without_sole
returns-then-is_without_sole c = (
  λ yes. let found = c.has_thief.ensures.0 yes in
      record {
        whole = c.is_without_sole.ensures.0 c.if-is_without_sole.true;
        two = c.if-own-lt2.false;
        mirror =
            found.0;
        found = found.1;
      },
  λ able. c.has_thief.ensures.1 (able.mirror, able.found),
)
