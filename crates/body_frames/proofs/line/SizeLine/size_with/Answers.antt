use Rattle.std.proofs.Common.{arith, ◌≡◌, ◌<◌, inl, inr}
use Rattle.std.proofs.lemmas.Bool.{both_ways}
use Rattle.body_frames.proofs.SizeSteps.{in_extension, at_end, after_cr, digit_fits, digit_overflows, none_yet, other_byte, semicolon, cr_comes}
use Rattle.body_frames.proofs.line.SizeLine.size_with.Goals as goal

pub returns-then-self-clause-goes_on : goal.returns-then-self-clause-goes_on
returns-then-self-clause-goes_on c = λ came is. in_extension came c.args.self is c.args.byte c.if-self.true

pub returns-then-byte-eq10-clause-goes_on : goal.returns-then-byte-eq10-clause-goes_on
returns-then-byte-eq10-clause-goes_on c = λ came is. rw c.if-byte-eq10.true (at_end came c.args.self is c.if-self.false c.if-self-2.true)

pub returns-else-byte-eq10-clause-goes_on : goal.returns-else-byte-eq10-clause-goes_on
returns-else-byte-eq10-clause-goes_on c = λ came is. after_cr came c.args.self is c.if-self.false c.args.byte c.if-self-2.true c.if-byte-eq10.false

pub returns-in_default-checked_mul-clause-goes_on : goal.returns-in_default-checked_mul-clause-goes_on
returns-in_default-checked_mul-clause-goes_on c = λ came is.
    let digit = rw (c.in-Some.is, c.from.ensures) at c.to_digit.ensures.value in
    let large = rw c.in_default-checked_mul.is at c.checked_mul.ensures in
    digit_overflows came c.args.self is c.if-self.false c.if-self-2.false c.args.byte digit.0 (omega (arith, large))

pub returns-in-Some-clause-goes_on : goal.returns-in-Some-clause-goes_on
returns-in-Some-clause-goes_on c = λ came is.
    let digit = rw (c.in-Some.is, c.from.ensures) at c.to_digit.ensures.value in
    let high = rw c.in-Some-checked_mul.is at c.checked_mul.ensures in
    rw (digit.1, high.1) (digit_fits came c.args.self is c.if-self.false c.if-self-2.false c.args.byte digit.0 (omega arith))

pub returns-then-is_empty-clause-goes_on : goal.returns-then-is_empty-clause-goes_on
returns-then-is_empty-clause-goes_on c = λ came is.
    let digit = rw (c.in_default.is, c.from.ensures) at c.to_digit.ensures.value in
    none_yet came c.args.self is c.if-self.false c.if-self-2.false c.args.byte (c.is_empty.ensures.0 c.if-is_empty.true) (omega (arith, digit))

pub returns-then-byte-eq13-clause-goes_on : goal.returns-then-byte-eq13-clause-goes_on
returns-then-byte-eq13-clause-goes_on c = λ came is.
    let some : 0 < c.args.self.line.len = omega (arith, λ (none : c.args.self.line.len ≡ 0). both_ways _ c.if-is_empty.false (c.is_empty.ensures.1 none)) in
    elim c.if-byte-eq13.either [
      | inl extension ↦ rw extension (semicolon came c.args.self is c.if-self.false c.if-self-2.false some)
      | inr cr ↦ rw cr.1 (cr_comes came c.args.self is c.if-self.false c.if-self-2.false some)
    ]

pub returns-else-byte-eq13-clause-goes_on : goal.returns-else-byte-eq13-clause-goes_on
returns-else-byte-eq13-clause-goes_on c = λ came is.
    let digit = rw (c.in_default.is, c.from.ensures) at c.to_digit.ensures.value in
    other_byte came c.args.self is c.if-self.false c.if-self-2.false c.args.byte c.if-byte-eq13.false.0 c.if-byte-eq13.false.1 (omega (arith, digit))
