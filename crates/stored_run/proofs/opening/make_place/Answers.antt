use Rattle.std.proofs.Common.{arith, subst, sym}
use Rattle.stored_run.specs.Opening.{HoldsPlace}
use Rattle.stored_run.proofs.Openings.{holds_more}
use Rattle.stored_run.proofs.opening.make_place.Goals as goal

pub loop-wants-preserved : goal.loop-wants-preserved
loop-wants-preserved c =
    subst (λ items. HoldsPlace c.args.wants.now.items items c.args.place) (sym c.in_ok-push.ensures.items)
    (holds_more c.args.wants.now.items c.loop-wants.wants.items c.args.place c.loop-wants.invariant
    (omega (arith, c.len.ensures, c.loop-wants-test.true)))
