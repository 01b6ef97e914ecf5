use Rattle.std.proofs.Common.{arith, sym, ◌∙◌}
use Rattle.std.proofs.lemmas.Bool.{false≢true}
use Rattle.ftp_replies.proofs.AddressLemmas.{run_is, no_leading_zero, made_number, value_is}
use Rattle.ftp_replies.proofs.ClosingLemmas.{whole_rest}
use Rattle.ftp_replies.proofs.address.number_before.Goals as goal
use Rattle.ftp_replies.proofs.address.number_before.Goals.{then-not-begins-via-then-not-begins, then-not-begins-via-else-not-begins+then-has_leading_zero}

pub returns-clause-some : goal.returns-clause-some
returns-clause-some c =
    let digits = c.split_at.result.0.now in
    let behind = c.split_at.result.1.now in
    made_number c.args.bytes.now digits behind _ c.numeral_len.result c.args.end c.in-Some.number c.split_at.ensures.front c.split_at.ensures.back
    (c.begins.ensures.0 c.if-not-begins.false) c.in-Some.ensures.0.0 c.in-Some.ensures.0.1 c.in-Some.ensures.1
    (λ zero. false≢true (sym c.if-has_leading_zero.false ∙ c.has_leading_zero.ensures.1 zero)) c.if-number-gt255.false
    (whole_rest behind 1)

pub returns-then-not-begins-clause-none : goal.returns-then-not-begins-clause-none
returns-then-not-begins-clause-none c = λ number rest is.
    let digits = c.split_at.result.0.now in
    let behind = c.split_at.result.1.now in
    let run = run_is c.args.bytes.now digits behind c.numeral_len.result c.args.end number rest c.split_at.ensures.front c.split_at.ensures.back
    c.numeral_len.ensures.digits c.numeral_len.ensures.stops c.requires is in
    elim c.then-not-begins.branch [
      | then-not-begins-via-then-not-begins w ↦ false≢true (sym w.if-not-begins.true ∙ c.begins.ensures.1 (rest, run.1))
      | then-not-begins-via-else-not-begins+then-has_leading_zero w ↦
          no_leading_zero number digits is.0 run.0 (w.has_leading_zero.ensures.0 w.if-has_leading_zero.true)
    ]

pub returns-in_default-clause-none : goal.returns-in_default-clause-none
returns-in_default-clause-none c = λ number rest is.
    let digits = c.split_at.result.0.now in
    let run = run_is c.args.bytes.now digits c.split_at.result.1.now c.numeral_len.result c.args.end number rest c.split_at.ensures.front
    c.split_at.ensures.back c.numeral_len.ensures.digits c.numeral_len.ensures.stops c.requires is in
    c.in_default.ensures (value_is number digits is.0 run.0).0

pub returns-then-number-gt255-clause-none : goal.returns-then-number-gt255-clause-none
returns-then-number-gt255-clause-none c = λ number rest is.
    let digits = c.split_at.result.0.now in
    let run = run_is c.args.bytes.now digits c.split_at.result.1.now c.numeral_len.result c.args.end number rest c.split_at.ensures.front
    c.split_at.ensures.back c.numeral_len.ensures.digits c.numeral_len.ensures.stops c.requires is in
    let value = (value_is number digits is.0 run.0).1 in
    let small = is.0 in
    let told = c.in-Some.ensures.1 in
    let large = c.if-number-gt255.true in
    omega (arith, value, small, told, large)
