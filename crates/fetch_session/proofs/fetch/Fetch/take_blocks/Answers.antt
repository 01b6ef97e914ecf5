use Rattle.std.proofs.Common.{◌≡◌, ◌++◌, length, refl, sym, ap, ◌∙◌, arith}
use Rattle.fetch_session.proofs.Ready.{taken_ready}
use Rattle.fetch_session.proofs.Taking.{held_few, ready_held, run_cuts, taken_fetch}
use Rattle.fetch_session.proofs.fetch.Fetch.take_blocks.Goals as goal

pub overflow_sub-len : goal.overflow_sub-len
overflow_sub-len c =
    let self = c.args.self.now in
    let held = ready_held self.plan self.end self.held.len self.ready c.plan_laws.ensures.follow self.within self.holds in
    omega (arith, held.0, c.cut.ensures.value, c.cut-2.ensures.value)

pub take_front-blocks-requires-clause-len : goal.take_front-blocks-requires-clause-len
take_front-blocks-requires-clause-len c =
    let self = c.args.self.now in
    let held = ready_held self.plan self.end self.held.len self.ready c.plan_laws.ensures.follow self.within self.holds in
    omega (arith, held.1, c.cut.ensures.value, c.cut-2.ensures.value)

pub take_front-blocks-requires-clause-fits : goal.take_front-blocks-requires-clause-fits
take_front-blocks-requires-clause-fits c =
    let self = c.args.self.now in
    let few = held_few self.plan self.end self.held.len self.ready c.plan_laws.ensures.follow self.within self.holds in
    omega (arith, few, self.spare_fits _ (sym c.in-Some.ensures.value))

pub invariant_of-self-clause-holds : goal.invariant_of-self-clause-holds
invariant_of-self-clause-holds c =
    let self = c.args.self.now in
    let held = ready_held self.plan self.end self.held.len self.ready c.plan_laws.ensures.follow self.within self.holds in
    taken_ready self.plan self.end self.held.len _ self.ready c.plan_laws.ensures.follow self.within self.holds
    (omega (arith, held.0, held.1, c.cut.ensures.value, c.cut-2.ensures.value, c.take_front-blocks.ensures.rest))

pub returns-clause-place : goal.returns-clause-place
returns-clause-place c =
    let self = c.args.self.now in
    let held = ready_held self.plan self.end self.held.len self.ready c.plan_laws.ensures.follow self.within self.holds in
    let len : length c.wrap.result ≡ c.take_front-blocks.result.len = ap length c.wrap.ensures ∙ sym c.take_front-blocks.result.ok.0 in
    omega (arith, held.0, len, c.cut.ensures.value, c.cut-2.ensures.value, c.take_front-blocks.ensures.len)

pub returns-clause-len : goal.returns-clause-len
returns-clause-len c =
    let self = c.args.self.now in
    let held = ready_held self.plan self.end self.held.len self.ready c.plan_laws.ensures.follow self.within self.holds in
    let len : length c.wrap.result ≡ c.take_front-blocks.result.len = ap length c.wrap.ensures ∙ sym c.take_front-blocks.result.ok.0 in
    let cuts = run_cuts self.plan self.end self.ready c.plan_laws.ensures.follow self.within c.requires self.holds.within in
    omega (arith, held.0, len, cuts.0, cuts.1, c.cut.ensures.value, c.cut-2.ensures.value, c.take_front-blocks.ensures.len)

pub returns-clause-takes : goal.returns-clause-takes
returns-clause-takes c = λ job used handed is.
    let self = c.args.self.now in
    let held = ready_held self.plan self.end self.held.len self.ready c.plan_laws.ensures.follow self.within self.holds in
    let len : length c.wrap.result ≡ c.take_front-blocks.result.len = ap length c.wrap.ensures ∙ sym c.take_front-blocks.result.ok.0 in
    taken_fetch job used handed self _ c.wrap.result c.plan_laws.ensures.follow refl refl refl refl refl
    (c.take_front-blocks.ensures.bytes ∙ ap (λ front. front ++ c.take_front-blocks.new.held.items) (sym c.wrap.ensures))
    (omega (arith, held.0, len, c.cut.ensures.value, c.cut-2.ensures.value, c.take_front-blocks.ensures.len)) is
