use Rattle.std.proofs.Common.{◌≡◌, ◌+◌, ◌-◌, ◌∙◌, ℕ, refl, sym, ap, subst, arith}
use Rattle.fetch_session.specs.Blocks.{AreReady, cut}
use Rattle.fetch_session.proofs.Cuts.{cut_inside, cut_next}
use Rattle.fetch_session.proofs.PartSteps.{may_rests}
use Rattle.fetch_session.proofs.Ready.{none_ready}
use Rattle.fetch_session.proofs.Taking.{begun_fetch}
use Rattle.fetch_session.proofs.fetch.Fetch.begin.Goals as goal

pub invariant_of-result-clause-holds : goal.invariant_of-result-clause-holds
invariant_of-result-clause-holds c =
    let job = c.args.job in
    let P : ℕ → Type 0 = AreReady job.plan (job.run.first + job.run.count) (record { first = job.run.first; count = 0 }) in
    subst P (sym c.clear.ensures.len) (none_ready job.plan (job.run.first + job.run.count) job.run.first c.plan_laws.ensures.follow (let some = c.requires.some in omega (arith, some)) c.requires.within)

pub returns-clause-fetch : goal.returns-clause-fetch
returns-clause-fetch c = begun_fetch c.args.job _ c.plan_laws.ensures.follow c.requires refl refl refl c.clear.ensures.items refl c.new.ensures.source c.new.ensures.brought

pub returns-clause-first : goal.returns-clause-first
returns-clause-first c = cut_inside c.args.job.plan c.args.job.run.first (let some = c.requires.some in let within = c.requires.within in omega (arith, some, within))

pub returns-clause-end : goal.returns-clause-end
returns-clause-end c =
    let run = c.args.job.run in
    let some = c.requires.some in
    let within = c.requires.within in
    let next : run.first + run.count ≡ (run.first + run.count - 1) + 1 = omega (arith, some) in
    ap (cut c.args.job.plan) next ∙ sym (cut_next c.args.job.plan (run.first + run.count - 1) c.plan_laws.ensures.follow (omega (arith, some, within)))

pub returns-clause-may : goal.returns-clause-may
returns-clause-may c = λ link begins.
    let may = c.new.ensures.may link begins in
    record { steps = λ none more. may; rests = λ none. may_rests _ link may }
