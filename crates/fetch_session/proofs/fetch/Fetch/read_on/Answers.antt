use Rattle.std.proofs.Common.{◌≡◌, ◌≤◌, ◌+◌, ◌++◌, List, length, take, refl, sym, ap, subst, ◌∙◌, arith}
use Rattle.std.proofs.Math.Seq.{take-append_seam}
use Rattle.link_source.specs.Exchanges.{Exchange}
use Rattle.request_chain.specs.Chains.{received_by}
use Rattle.fetch_session.specs.Sources.{RestsWholeAt}
use Rattle.fetch_session.proofs.Stepping.{source_is, steps_read, steps_lost, steps_at, fails_lost, fails_memory}
use Rattle.fetch_session.proofs.Taking.{room_few}
use Rattle.fetch_session.proofs.fetch.Fetch.read_on.Goals as goal

pub returns-in-Ok-clause-reads : goal.returns-in-Ok-clause-reads
returns-in-Ok-clause-reads g c = λ tells job before used handed is gains.
    let self = c.args.self.now in
    let fits = c.fetched_bytes_fit_their_parts.ensures.fits in
    let follow = c.plan_laws.ensures.follow in
    let room = c.args.room in
    let source = source_is fits follow job used handed self is room c.requires.some_room c.requires.room c.requires.none_lost in
    let read = c.in-Ok.ensures.reads tells job.parts before used (handed ++ self.held.items) source gains in
    steps_at job before used handed _ _ c.args.allow _ _ (c.end_step.ensures.streams tells)
    (steps_read fits follow job used handed self is room c.requires.some_room c.requires.room _ refl refl c.whole_from-self.ensures.first
    before _ 0 c.args.allow read.0 c.end_step.result c.in-Ok.read c.requires.none_lost read.1 read.2
    c.end_step.ensures.ready c.end_step.ensures.taken c.end_step.ensures.done)

pub read-requires-clause-room : goal.read-requires-clause-room
read-requires-clause-room g c =
    let self = c.args.self.now in
    let bounded = room_few self.plan self.end self.held.len c.args.room self.ready c.plan_laws.ensures.follow self.within self.holds c.requires.room in
    omega (arith, bounded, self.held_fits)

pub returns-in-NoMemory-clause-reads : goal.returns-in-NoMemory-clause-reads
returns-in-NoMemory-clause-reads g c = λ tells job before used handed is gains.
    let self = c.args.self.now in
    let fits = c.fetched_bytes_fit_their_parts.ensures.fits in
    let follow = c.plan_laws.ensures.follow in
    let room = c.args.room in
    let source = source_is fits follow job used handed self is room c.requires.some_room c.requires.room c.requires.none_lost in
    let read = c.in-Err.ensures.reads tells job.parts before used (handed ++ self.held.items) source gains in
    let held : c.truncate.new.self.items ≡ self.held.items =
    c.truncate.ensures.items ∙ ap (λ n. take n c.read.new.out.items) (c.len-before.ensures ∙ self.held.ok.0)
    ∙ ap (take (length self.held.items)) read.1 ∙ take-append_seam self.held.items read.0 in
    fails_memory fits follow job used handed self is room c.requires.some_room c.requires.room _ refl refl refl
    before _ 0 c.args.allow read.0 c.in-Err.loss c.in-NoMemory.is read.2.later read.2.gains
    (let took : received_by read.2.later ≡ received_by used + c.read.new.self.taken = read.2.taken in omega (arith, took))
    (let few : c.read.new.self.taken ≤ c.args.allow = read.2.few in
    let took : received_by read.2.later ≡ received_by used + c.read.new.self.taken = read.2.taken in
    omega (arith, few, took)) refl held c.requires.none_ready

pub returns-then-self-eq0-clause-reads : goal.returns-then-self-eq0-clause-reads
returns-then-self-eq0-clause-reads g c = λ tells job before used handed is gains.
    let self = c.args.self.now in
    let fits = c.fetched_bytes_fit_their_parts.ensures.fits in
    let follow = c.plan_laws.ensures.follow in
    let room = c.args.room in
    let source = source_is fits follow job used handed self is room c.requires.some_room c.requires.room c.requires.none_lost in
    let read = c.in-Err.ensures.reads tells job.parts before used (handed ++ self.held.items) source gains in
    fails_lost fits follow job used handed self is room c.requires.some_room c.requires.room _ refl refl c.whole_from-self-in_default.ensures.first
    before _ _ c.args.allow read.0 c.in-Err.loss c.in_default.not-NoMemory refl read.1 read.2 c.if-self-eq0.true

pub returns-else-self-eq0-clause-reads : goal.returns-else-self-eq0-clause-reads
returns-else-self-eq0-clause-reads g c = λ tells job before used handed is gains.
    let self = c.args.self.now in
    let fits = c.fetched_bytes_fit_their_parts.ensures.fits in
    let follow = c.plan_laws.ensures.follow in
    let room = c.args.room in
    let source = source_is fits follow job used handed self is room c.requires.some_room c.requires.room c.requires.none_lost in
    let read = c.in-Err.ensures.reads tells job.parts before used (handed ++ self.held.items) source gains in
    let got = c.end_step-in_default in
    steps_at job before used handed _ _ c.args.allow _ _ (got.ensures.streams tells)
    (steps_lost fits follow job used handed self is room c.requires.some_room c.requires.room _ refl refl c.whole_from-self-in_default.ensures.first
    before _ _ c.args.allow read.0 c.in-Err.loss c.in_default.not-NoMemory refl read.1 read.2 got.result
    got.ensures.ready (got.ensures.taken ∙ c.taken.ensures) got.ensures.done (let some = c.if-self-eq0.false in omega (arith, some)))

pub returns-in-Ok-clause-answered : goal.returns-in-Ok-clause-answered
returns-in-Ok-clause-answered g c = λ tells job before used handed is gains old were.
    let self = c.args.self.now in
    let source = source_is c.fetched_bytes_fit_their_parts.ensures.fits c.plan_laws.ensures.follow job used handed self is c.args.room c.requires.some_room c.requires.room c.requires.none_lost in
    c.end_step.ensures.answered tells before old
    (c.read.ensures.answered tells job.parts before used (handed ++ self.held.items) source gains old were)

pub returns-in-NoMemory-clause-answered : goal.returns-in-NoMemory-clause-answered
returns-in-NoMemory-clause-answered g c = λ tells job before used handed is gains.
    let self = c.args.self.now in
    let source = source_is c.fetched_bytes_fit_their_parts.ensures.fits c.plan_laws.ensures.follow job used handed self is c.args.room c.requires.some_room c.requires.room c.requires.none_lost in
    c.read.ensures.answered tells job.parts before used (handed ++ self.held.items) source gains

pub returns-then-self-eq0-clause-answered : goal.returns-then-self-eq0-clause-answered
returns-then-self-eq0-clause-answered g c = λ tells job before used handed is gains.
    let self = c.args.self.now in
    let source = source_is c.fetched_bytes_fit_their_parts.ensures.fits c.plan_laws.ensures.follow job used handed self is c.args.room c.requires.some_room c.requires.room c.requires.none_lost in
    c.read.ensures.answered tells job.parts before used (handed ++ self.held.items) source gains

pub returns-else-self-eq0-clause-answered : goal.returns-else-self-eq0-clause-answered
returns-else-self-eq0-clause-answered g c = λ tells job before used handed is gains old were.
    let self = c.args.self.now in
    let source = source_is c.fetched_bytes_fit_their_parts.ensures.fits c.plan_laws.ensures.follow job used handed self is c.args.room c.requires.some_room c.requires.room c.requires.none_lost in
    c.end_step-in_default.ensures.answered tells before old
    (c.read.ensures.answered tells job.parts before used (handed ++ self.held.items) source gains old were)

pub returns-in-Ok-clause-whole : goal.returns-in-Ok-clause-whole
returns-in-Ok-clause-whole g c = λ tells job before used handed is gains were.
    let self = c.args.self.now in
    let source = source_is c.fetched_bytes_fit_their_parts.ensures.fits c.plan_laws.ensures.follow job used handed self is c.args.room c.requires.some_room c.requires.room c.requires.none_lost in
    let P : List Exchange → Type 0 = RestsWholeAt c.read.new.self.reader in
    subst P (sym (c.end_step.ensures.streams tells)) (c.read.ensures.whole tells job.parts before used (handed ++ self.held.items) source gains were)

pub returns-else-self-eq0-clause-whole : goal.returns-else-self-eq0-clause-whole
returns-else-self-eq0-clause-whole g c = λ tells job before used handed is gains were.
    let self = c.args.self.now in
    let source = source_is c.fetched_bytes_fit_their_parts.ensures.fits c.plan_laws.ensures.follow job used handed self is c.args.room c.requires.some_room c.requires.room c.requires.none_lost in
    let P : List Exchange → Type 0 = RestsWholeAt c.read.new.self.reader in
    subst P (sym (c.end_step-in_default.ensures.streams tells)) (c.read.ensures.whole tells job.parts before used (handed ++ self.held.items) source gains were)

pub returns-in-NoMemory-clause-whole : goal.returns-in-NoMemory-clause-whole
returns-in-NoMemory-clause-whole g c = λ tells job before used handed is gains were.
    let self = c.args.self.now in
    let source = source_is c.fetched_bytes_fit_their_parts.ensures.fits c.plan_laws.ensures.follow job used handed self is c.args.room c.requires.some_room c.requires.room c.requires.none_lost in
    c.read.ensures.whole tells job.parts before used (handed ++ self.held.items) source gains were

pub returns-then-self-eq0-clause-whole : goal.returns-then-self-eq0-clause-whole
returns-then-self-eq0-clause-whole g c = λ tells job before used handed is gains were.
    let self = c.args.self.now in
    let source = source_is c.fetched_bytes_fit_their_parts.ensures.fits c.plan_laws.ensures.follow job used handed self is c.args.room c.requires.some_room c.requires.room c.requires.none_lost in
    c.read.ensures.whole tells job.parts before used (handed ++ self.held.items) source gains were
