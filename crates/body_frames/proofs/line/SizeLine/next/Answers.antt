use Rattle.std.proofs.Common.{refl}
use Rattle.std.proofs.lemmas.Result.{err_from_is_err_and}
use Rattle.body_frames.proofs.SizeSteps.{goes_on, size_wrong, size_long, size_ended}
use Rattle.body_frames.proofs.line.SizeLine.next.Goals as goal

pub returns-in_err-size-clause-goes_on : goal.returns-in_err-size-clause-goes_on
returns-in_err-size-clause-goes_on c = λ came is.
    let p = err_from_is_err_and c.from_residual.result c.from_residual.ensures.1 in
    rw (p.1, p.2) (size_wrong came c.args.byte c.in_err-size.field-0.0 (c.in_err-size.ensures.goes_on came is))

pub returns-then-self-clause-goes_on : goal.returns-then-self-clause-goes_on
returns-then-self-clause-goes_on c = λ came is.
    let line = c.in-Open.ensures came is.line in
    goes_on came c.args.byte c.in_ok-size.size _ c.args.self c.in-Open.line is line.0 line.1 (c.in_ok-size.ensures.goes_on came is) (rw c.if-self.true refl)

pub returns-else-self-clause-goes_on : goal.returns-else-self-clause-goes_on
returns-else-self-clause-goes_on c = λ came is.
    let line = c.in-Open.ensures came is.line in
    goes_on came c.args.byte c.in_ok-size.size _ c.args.self c.in-Open.line is line.0 line.1 (c.in_ok-size.ensures.goes_on came is) (rw c.if-self.false refl)

pub returns-in-Ended-clause-goes_on : goal.returns-in-Ended-clause-goes_on
returns-in-Ended-clause-goes_on c = λ came is. size_ended came c.args.byte c.in_ok-size.size c.args.self is (c.in_ok-size.ensures.goes_on came is) (c.in-Ended.ensures came is.line)

pub returns-in-TooLong-clause-goes_on : goal.returns-in-TooLong-clause-goes_on
returns-in-TooLong-clause-goes_on c = λ came is. size_long came c.args.byte c.in_ok-size.size (c.in_ok-size.ensures.goes_on came is) (c.in-TooLong.ensures came is.line)
