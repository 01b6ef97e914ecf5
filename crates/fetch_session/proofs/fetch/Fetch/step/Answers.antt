use Rattle.std.proofs.Common.{◌≡◌, [], ◌<◌, ◌∙◌, refl, ap, arith}
use Rattle.dl_kinds.specs.declared.runs.Run.{Run}
use Rattle.fetch_session.proofs.Stepping.{fails_held, steps_over, fails_memory, same_fetch}
use Rattle.fetch_session.proofs.fetch.Fetch.step.Goals as goal

pub returns-in-Some-clause-reads : goal.returns-in-Some-clause-reads
returns-in-Some-clause-reads g c = λ tells job before used handed is gains.
    fails_held c.fetched_bytes_fit_their_parts.ensures.fits c.plan_laws.ensures.follow job used handed c.args.self.now is before _ gains c.args.allow
    c.in-Some.loss c.in-Some.is c.requires.none_ready

pub returns-then-room-eq0-clause-reads : goal.returns-then-room-eq0-clause-reads
returns-then-room-eq0-clause-reads g c = λ tells job before used handed is gains.
    let self = c.args.self.now in
    steps_over c.fetched_bytes_fit_their_parts.ensures.fits c.plan_laws.ensures.follow job used handed _ (same_fetch job used handed self _ (record { plan = refl; end_is = refl; ready = refl; source = refl; held = refl; lost = refl }) is) before _ gains c.args.allow
    c.got.result c.in_default.is c.requires.none_ready (omega (arith, c.missing-room.ensures.value, c.len.ensures, c.if-room-eq0.true))
    c.got.ensures.ready c.got.ensures.taken c.got.ensures.done

pub returns-then-is_err-clause-reads : goal.returns-then-is_err-clause-reads
returns-then-is_err-clause-reads g c = λ tells job before used handed is gains.
    let self = c.args.self.now in
    let shown = c.refill.ensures.shown in
    let ready : c.refill.new.self.ready.count ≡ self.ready.count = ap (λ (r : Run). r.count) shown.ready in
    let some : 0 < c.missing-room.result = (let some = c.if-room-eq0.false in omega (arith, some)) in
    fails_memory c.fetched_bytes_fit_their_parts.ensures.fits c.plan_laws.ensures.follow job used handed self is c.missing-room.result some
    (omega (arith, c.missing-room.ensures.value, c.len.ensures)) _ shown.plan shown.end_is (ap (λ (r : Run). r.first) shown.ready)
    before _ 0 c.args.allow [] _ refl used gains (omega arith) (omega arith) refl (ap (λ v. v.items) shown.held) (ready ∙ c.requires.none_ready)

pub returns-clause-reads : goal.returns-clause-reads
returns-clause-reads g c = λ tells job before used handed is gains.
    c.read_on.ensures.reads tells job before used handed
    (c.refill.ensures.fetch job used handed (same_fetch job used handed c.args.self.now _ (record { plan = refl; end_is = refl; ready = refl; source = refl; held = refl; lost = refl }) is)) gains

pub returns-in-Some-clause-known : goal.returns-in-Some-clause-known
returns-in-Some-clause-known g c = c.args.self.now.known c.in-Some.loss c.in-Some.is

pub returns-clause-answered : goal.returns-clause-answered
returns-clause-answered g c = λ tells job before used handed is gains.
    c.read_on.ensures.answered tells job before used handed
    (c.refill.ensures.fetch job used handed (same_fetch job used handed c.args.self.now _ (record { plan = refl; end_is = refl; ready = refl; source = refl; held = refl; lost = refl }) is)) gains

pub returns-then-is_err-clause-whole : goal.returns-then-is_err-clause-whole
returns-then-is_err-clause-whole g c = λ tells job before used handed is gains were. c.refill.ensures.whole _ were

pub returns-clause-whole : goal.returns-clause-whole
returns-clause-whole g c = λ tells job before used handed is gains were.
    c.read_on.ensures.whole tells job before used handed
    (c.refill.ensures.fetch job used handed (same_fetch job used handed c.args.self.now _ (record { plan = refl; end_is = refl; ready = refl; source = refl; held = refl; lost = refl }) is)) gains
    (c.refill.ensures.whole _ were)
