use Rattle.std.proofs.Common.{◌≡◌, ◌≤◌, min, refl, ap, ◌∙◌, arith}
use Rattle.dl_kinds.specs.declared.runs.Moment.{Moment}
use Rattle.rate_limits.specs.Shared.{lesser_credit, levels_taken, longer_wait, shared_answer}
use Rattle.rate_tokens.specs.declared.bucket.Take.TheVariants.{Go}
use Rattle.engine_turns.specs.declared.limits.TheConstants.{MAX_ALLOWANCE}
use Rattle.engine_core.proofs.Allowing.{holds_of, lets_go_of}
use Rattle.engine_core.proofs.state.EngineState.let_go.Goals as goal

pub returns-in-Go : goal.returns-in-Go
returns-in-Go g c =
    let old = c.args.self.now in
    let at = old.run.now.0 in
    let place = c.args.place in
    let bytes = c.in-Go.bytes in
    let most : MAX_ALLOWANCE ≡ min MAX_ALLOWANCE MAX_ALLOWANCE = omega arith in
    let lets = lets_go_of MAX_ALLOWANCE MAX_ALLOWANCE (lesser_credit old.limits place at) (longer_wait old.limits place at) bytes
    most (c.in-Go.ensures.answer ∙ ap (λ (m : Moment). shared_answer old.limits place MAX_ALLOWANCE m.0) c.moment.ensures) in
    let bytes_are = lets.bytes_are in
    record {
      bytes = omega (arith, bytes_are);
      limits = c.in-Go.ensures.levels ∙ ap (λ (m : Moment). levels_taken place m.0 (Go bytes) old.limits) c.moment.ensures;
      run = refl;
      handed = refl;
    }

pub returns-in-Hold : goal.returns-in-Hold
returns-in-Hold g c =
    let old = c.args.self.now in
    let at = old.run.now.0 in
    let place = c.args.place in
    let most : MAX_ALLOWANCE ≡ min MAX_ALLOWANCE MAX_ALLOWANCE = omega arith in
    let some : 1 ≤ MAX_ALLOWANCE = omega arith in
    let holds = holds_of MAX_ALLOWANCE MAX_ALLOWANCE (lesser_credit old.limits place at) (longer_wait old.limits place at)
    c.in-Hold.field-0 most some
    (c.in-Hold.ensures.answer ∙ ap (λ (m : Moment). shared_answer old.limits place MAX_ALLOWANCE m.0) c.moment.ensures) in
    let none = holds.0 in
    let credit = c.requires.some in
    absurd (omega (arith, none, credit))
