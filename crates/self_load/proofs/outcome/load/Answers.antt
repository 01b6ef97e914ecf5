use Rattle.std.proofs.Common.{◌∙◌, ap, inl, length, refl}
use Rattle.load_setup.proofs.Groups.{digests_long}
use Rattle.self_load.proofs.Outcomes.{counted_comes, failed_comes}
use Rattle.self_load.proofs.outcome.load.Goals as goal

pub counted-requires-after_bounds : goal.counted-requires-after_bounds
counted-requires-after_bounds g c κs within = ap length c.in_ok-digests.ensures ∙ digests_long c.args.n 64

pub returns-in-Done-clause-comes : goal.returns-in-Done-clause-comes
returns-in-Done-clause-comes g c =
    counted_comes _ _ _ _ _ c.args.n c.in_ok-ending.field-0 c.in_ok-digests.digests c.in_ok-outcome-in-Done.outcome
    c.in_ok-ending.ensures.run c.in_ok-ending.ensures.ends c.in-Done.is c.in_ok-digests.ensures
    c.in_ok-outcome-in-Done.ensures

pub returns-in-Done-clause-inner : goal.returns-in-Done-clause-inner
returns-in-Done-clause-inner g c = inl (c.in_ok-ending.field-0, c.in_ok-ending.ensures.run, refl, refl)

pub returns-clause-inner : goal.returns-clause-inner
returns-clause-inner g c = inl (c.in_ok-ending.field-0, c.in_ok-ending.ensures.run, refl, refl)

pub returns-clause-comes : goal.returns-clause-comes
returns-clause-comes g c =
    failed_comes _ _ _ _ _ c.args.n c.in_ok-ending.field-0 c.in_ok-ending.ensures.run c.in_ok-ending.ensures.ends
    c.in_default.not-Done
