use Rattle.std.proofs.Common.{◌≡◌, ◌+◌, ℕ, suc, ap, sym, ◌∙◌, arith}
use Rattle.std.specs.Prelude.{take}
use Rattle.engine_core.specs.Buckets.{all_followed, followed_at, own_rates}
use Rattle.engine_core.proofs.NewRates.{follow_next}
use Rattle.engine_core.proofs.following.follow_from.Goals as goal

pub loop-place-preserved : goal.loop-place-preserved
loop-place-preserved c =
    let m = c.args.machine.now in
    let rates = own_rates m.start m.past in
    let before = c.loop-place.invariant in
    let levels = c.args.limits.now.own in
    let place = c.loop-place.place in
    let next : suc place ≡ place + 1 = omega arith in (
      c.follow_at.ensures.overall ∙ before.0,
      c.follow_at.ensures.own
          ∙ (ap (followed_at place c.rate_at.result c.args.now.0) before.1
          ∙ (sym (follow_next place rates c.rate_at.result c.args.now.0 levels c.rate_at.ensures.rate)
          ∙ ap (λ (n : ℕ). all_followed (take n rates) c.args.now.0 levels) next)),
      c.follow_at.ensures.room ∙ before.2,
      (let within = c.follow_at.ensures.within in omega (arith, within)),
    )
