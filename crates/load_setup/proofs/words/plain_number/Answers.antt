use Rattle.std.proofs.Common.{arith, ◌≤◌, length}
use Rattle.load_setup.proofs.Numbers.{decimal_leads, plain_read}
use Rattle.load_setup.proofs.words.plain_number.Goals as goal
use Rattle.load_setup.proofs.words.plain_number.Goals.{else-digits-gt1-via-then-digits-gt1+else-digits-eq48, else-digits-gt1-via-else-digits-gt1}

pub returns-then-digits-eq48 : goal.returns-then-digits-eq48
returns-then-digits-eq48 c = λ n small same.
    let short = decimal_leads n small (rw (← same) c.if-digits-eq48.true) in
    let short_digits : length c.args.digits.now ≤ 1 = rw same short in
    omega arith

pub returns : goal.returns
returns c = plain_read _ _ c.numeral_value.ensures
    (elim c.else-digits-gt1.branch [ else-digits-gt1-via-then-digits-gt1+else-digits-eq48 w ↦ (λ zero. absurd (w.if-digits-eq48.false zero)) | else-digits-gt1-via-else-digits-gt1 w ↦ (λ zero. omega arith) ])
