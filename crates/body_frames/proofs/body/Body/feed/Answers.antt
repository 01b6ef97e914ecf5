use Rattle.std.proofs.Common.{◌≡◌, refl, ap, sym, ◌∙◌, inl, inr, Err}
use Rattle.std.proofs.lemmas.Result.{err_from_is_err_and}
use Rattle.body_frames.specs.declared.BodyErr.TheVariants.{BadChunk, LineTooLong, AfterError, NoMemory}
use Rattle.body_frames.specs.declared.phase.Phase.TheVariants.{Over, Stopped}
use Rattle.body_frames.proofs.Feeding.{over, when_over, wrong, when_wrong, read_on, content_gained, used_is, right, read_wrong, standing_wrong, content_before, fed_over, over_gains, over_uses, stopped_gains}
use Rattle.body_frames.proofs.body.Body.feed.Goals as goal

pub returns-in-Stopped-clause-content : goal.returns-in-Stopped-clause-content
returns-in-Stopped-clause-content c = λ framing stream is _. stopped_gains framing stream c.args.piece.now c.args.self.now is c.in-Stopped.is c.args.out.now.items

pub returns-in-Stopped-clause-after_error : goal.returns-in-Stopped-clause-after_error
returns-in-Stopped-clause-after_error c = λ framing stream is. (λ _. wrong framing stream c.args.self.now is c.in-Stopped.is, λ _. refl)

pub returns-in-Over-clause-fed : goal.returns-in-Over-clause-fed
returns-in-Over-clause-fed c = λ framing stream is _. fed_over framing stream c.args.piece.now c.args.self.now is c.in-Over.is

pub returns-in-Over-clause-content : goal.returns-in-Over-clause-content
returns-in-Over-clause-content c = λ framing stream is _. over_gains framing stream c.args.piece.now c.args.self.now is c.in-Over.is c.args.out.now.items

pub returns-in-Over-clause-used : goal.returns-in-Over-clause-used
returns-in-Over-clause-used c = λ framing stream is. over_uses framing stream c.args.piece.now c.args.self.now is c.in-Over.is

pub returns-in-Over-clause-done : goal.returns-in-Over-clause-done
returns-in-Over-clause-done c = λ framing stream is. (λ _. over framing _ c.args.self.now (fed_over framing stream c.args.piece.now c.args.self.now is c.in-Over.is) c.in-Over.is, λ _. refl)

pub returns-in-Over-clause-after_error : goal.returns-in-Over-clause-after_error
returns-in-Over-clause-after_error c = λ framing stream is. (
  λ e. cc,
  λ is_wrong. absurd (let e : Over ≡ Stopped = sym c.in-Over.is ∙ when_wrong framing stream c.args.self.now is is_wrong in cc),
)

pub returns-in_err-used-clause-fed : goal.returns-in_err-used-clause-fed
returns-in_err-used-clause-fed c = λ framing stream is _.
    read_wrong framing stream c.args.piece.now c.args.self.now c.read.new.self is c.in_default.not-Over _ _ c.in_err-used.field-0.0 c.in_err-used.ensures.err c.in_err-used.ensures.stopped

pub returns-in_err-used-clause-content : goal.returns-in_err-used-clause-content
returns-in_err-used-clause-content c = λ framing stream is _.
    rw (← c.reserve.ensures.items) (content_before framing stream c.args.piece.now c.args.self.now c.read.new.self is c.in_default.not-Over _ _ c.in_err-used.field-0.0 c.in_err-used.ensures.err c.in_err-used.ensures.stopped)

pub returns-in_err-used-clause-wrong : goal.returns-in_err-used-clause-wrong
returns-in_err-used-clause-wrong c = λ framing stream is.
    let p = err_from_is_err_and c.from_residual-in_err-used.result c.from_residual-in_err-used.ensures.1 in
    rw (p.1, p.2) (λ _. (
      λ is_wrong. c.in_default.not-Stopped (when_wrong framing stream c.args.self.now is is_wrong),
      standing_wrong framing stream c.args.piece.now c.args.self.now c.read.new.self is c.in_default.not-Over _ _ c.in_err-used.field-0.0 c.in_err-used.ensures.err c.in_err-used.ensures.stopped,
    ))

pub returns-in_err-used-clause-after_error : goal.returns-in_err-used-clause-after_error
returns-in_err-used-clause-after_error c = λ framing stream is.
    let p = err_from_is_err_and c.from_residual-in_err-used.result c.from_residual-in_err-used.ensures.1 in (
      λ after. absurd (elim c.in_err-used.ensures.err.1.fault [
        | inl bad ↦ (let e : Err AfterError ≡ Err BadChunk = sym after ∙ (p.1 ∙ ap (λ x. Err x) (p.2 ∙ bad)) in cc)
        | inr long ↦ (let e : Err AfterError ≡ Err LineTooLong = sym after ∙ (p.1 ∙ ap (λ x. Err x) (p.2 ∙ long)) in cc)
      ]),
      λ is_wrong. absurd (c.in_default.not-Stopped (when_wrong framing stream c.args.self.now is is_wrong)),
    )

pub returns-clause-fed : goal.returns-clause-fed
returns-clause-fed c = λ framing stream is _.
    read_on framing stream c.args.piece.now c.args.self.now c.read.new.self is c.in_default.not-Over c.in_ok-used.used _ _ c.in_ok-used.ensures.ok c.in_ok-used.ensures.all

pub returns-clause-content : goal.returns-clause-content
returns-clause-content c = λ framing stream is _.
    rw (← c.reserve.ensures.items) (content_gained framing stream c.args.piece.now c.args.self.now c.read.new.self is c.in_default.not-Over c.in_ok-used.used _ _ c.in_ok-used.ensures.ok c.in_ok-used.ensures.all)

pub returns-clause-used : goal.returns-clause-used
returns-clause-used c = λ framing stream is.
    used_is framing stream c.args.piece.now c.args.self.now c.read.new.self is c.in_default.not-Over c.in_ok-used.used _ _ c.in_ok-used.ensures.ok c.in_ok-used.ensures.all c.in_ok-used.ensures.used

pub returns-clause-done : goal.returns-clause-done
returns-clause-done c = λ framing stream is.
    let fed = read_on framing stream c.args.piece.now c.args.self.now c.read.new.self is c.in_default.not-Over c.in_ok-used.used _ _ c.in_ok-used.ensures.ok c.in_ok-used.ensures.all in
    (λ done. over framing _ c.read.new.self fed (c.is_over.ensures.0 done), λ is_over. c.is_over.ensures.1 (when_over framing _ c.read.new.self fed is_over))

pub returns-clause-right : goal.returns-clause-right
returns-clause-right c = λ framing stream is is_wrong.
    right framing stream c.args.piece.now c.args.self.now c.read.new.self is c.in_default.not-Over c.in_ok-used.used _ _ c.in_ok-used.ensures.ok c.in_ok-used.ensures.all is_wrong

pub returns-clause-after_error : goal.returns-clause-after_error
returns-clause-after_error c = λ framing stream is. (
  λ e. cc,
  λ is_wrong. absurd (c.in_default.not-Stopped (when_wrong framing stream c.args.self.now is is_wrong)),
)

pub returns-in_err-reserve-clause-after_error : goal.returns-in_err-reserve-clause-after_error
returns-in_err-reserve-clause-after_error c = λ framing stream is.
    let p = err_from_is_err_and c.from_residual.result c.from_residual.ensures.1 in (
      λ after. absurd (let e : Err AfterError ≡ Err NoMemory = sym after ∙ (p.1 ∙ ap (λ x. Err x) p.2) in cc),
      λ is_wrong. absurd (c.in_default.not-Stopped (when_wrong framing stream c.args.self.now is is_wrong)),
    )
