use Rattle.std.proofs.Common.{subst}
use Rattle.ftp_replies.specs.Addresses.{IsNumberBefore}
use Rattle.ftp_replies.proofs.AddressLemmas.{from_low, from_high, from_fourth, from_third, behind_first, behind_second, behind_third, behind_fourth, high_is, made_address}
use Rattle.ftp_replies.proofs.ClosingLemmas.{whole_rest}
use Rattle.ftp_replies.proofs.address.address_at.Goals as goal

pub returns-in_err-rest-2-clause-none : goal.returns-in_err-rest-2-clause-none
returns-in_err-rest-2-clause-none c = rw c.from_residual-in_err-rest-2.ensures (λ high low is.
    let bytes = c.args.bytes.now in
    let r1 = c.in_ok-rest.rest.now in
    let n1 = subst (λ l. IsNumberBefore 44 l c.in_ok-rest.field-0-0 r1) (whole_rest bytes 1) c.in_ok-rest.ensures.some in
    let from1 = behind_first bytes high low is c.in_ok-rest.field-0-0 r1 n1 in
    c.in_err-rest-2.ensures.none is.second (from_third is) (is.host.1, from1))

pub returns-in_err-rest-3-clause-none : goal.returns-in_err-rest-3-clause-none
returns-in_err-rest-3-clause-none c = rw c.from_residual-in_err-rest-3.ensures (λ high low is.
    let bytes = c.args.bytes.now in
    let r1 = c.in_ok-rest.rest.now in
    let r2 = c.in_ok-rest-2.rest.now in
    let n1 = subst (λ l. IsNumberBefore 44 l c.in_ok-rest.field-0-0 r1) (whole_rest bytes 1) c.in_ok-rest.ensures.some in
    let from1 = behind_first bytes high low is c.in_ok-rest.field-0-0 r1 n1 in
    let from2 = behind_second bytes high low is r1 c.in_ok-rest-2.field-0-0 r2 from1 c.in_ok-rest-2.ensures.some in
    c.in_err-rest-3.ensures.none is.third (from_fourth is) (is.host.2, from2))

pub returns-in_err-rest-4-clause-none : goal.returns-in_err-rest-4-clause-none
returns-in_err-rest-4-clause-none c = rw c.from_residual-in_err-rest-4.ensures (λ high low is.
    let bytes = c.args.bytes.now in
    let r1 = c.in_ok-rest.rest.now in
    let r2 = c.in_ok-rest-2.rest.now in
    let r3 = c.in_ok-rest-3.rest.now in
    let n1 = subst (λ l. IsNumberBefore 44 l c.in_ok-rest.field-0-0 r1) (whole_rest bytes 1) c.in_ok-rest.ensures.some in
    let from1 = behind_first bytes high low is c.in_ok-rest.field-0-0 r1 n1 in
    let from2 = behind_second bytes high low is r1 c.in_ok-rest-2.field-0-0 r2 from1 c.in_ok-rest-2.ensures.some in
    let from3 = behind_third bytes high low is r2 c.in_ok-rest-3.field-0-0 r3 from2 c.in_ok-rest-3.ensures.some in
    c.in_err-rest-4.ensures.none is.fourth (from_high is) (is.host.3, from3))

pub returns-in_err-high-clause-none : goal.returns-in_err-high-clause-none
returns-in_err-high-clause-none c = rw c.from_residual-in_err-high.ensures (λ high low is.
    let bytes = c.args.bytes.now in
    let r1 = c.in_ok-rest.rest.now in
    let r2 = c.in_ok-rest-2.rest.now in
    let r3 = c.in_ok-rest-3.rest.now in
    let r4 = c.in_ok-rest-4.rest.now in
    let n1 = subst (λ l. IsNumberBefore 44 l c.in_ok-rest.field-0-0 r1) (whole_rest bytes 1) c.in_ok-rest.ensures.some in
    let from1 = behind_first bytes high low is c.in_ok-rest.field-0-0 r1 n1 in
    let from2 = behind_second bytes high low is r1 c.in_ok-rest-2.field-0-0 r2 from1 c.in_ok-rest-2.ensures.some in
    let from3 = behind_third bytes high low is r2 c.in_ok-rest-3.field-0-0 r3 from2 c.in_ok-rest-3.ensures.some in
    let from4 = behind_fourth bytes high low is r3 c.in_ok-rest-4.field-0-0 r4 from3 c.in_ok-rest-4.ensures.some in
    c.in_err-high.ensures.none high (from_low is) (is.port.0, from4))

pub returns-in_err-low-clause-none : goal.returns-in_err-low-clause-none
returns-in_err-low-clause-none c = rw c.from_residual-in_err-low.ensures (λ high low is.
    let bytes = c.args.bytes.now in
    let r1 = c.in_ok-rest.rest.now in
    let r2 = c.in_ok-rest-2.rest.now in
    let r3 = c.in_ok-rest-3.rest.now in
    let r4 = c.in_ok-rest-4.rest.now in
    let r5 = c.in_ok-high.rest.now in
    let n1 = subst (λ l. IsNumberBefore 44 l c.in_ok-rest.field-0-0 r1) (whole_rest bytes 1) c.in_ok-rest.ensures.some in
    let from1 = behind_first bytes high low is c.in_ok-rest.field-0-0 r1 n1 in
    let from2 = behind_second bytes high low is r1 c.in_ok-rest-2.field-0-0 r2 from1 c.in_ok-rest-2.ensures.some in
    let from3 = behind_third bytes high low is r2 c.in_ok-rest-3.field-0-0 r3 from2 c.in_ok-rest-3.ensures.some in
    let from4 = behind_fourth bytes high low is r3 c.in_ok-rest-4.field-0-0 r4 from3 c.in_ok-rest-4.ensures.some in
    let port = high_is bytes high low is r4 c.in_ok-high.high r5 from4 c.in_ok-high.ensures.some in
    c.in_err-low.ensures.none low is.behind (is.port.1, port.1))

pub returns-clause-some : goal.returns-clause-some
returns-clause-some c =
    let bytes = c.args.bytes.now in
    let r1 = c.in_ok-rest.rest.now in
    let n1 = subst (λ l. IsNumberBefore 44 l c.in_ok-rest.field-0-0 r1) (whole_rest bytes 1) c.in_ok-rest.ensures.some in
    made_address bytes r1 c.in_ok-rest-2.rest.now c.in_ok-rest-3.rest.now c.in_ok-rest-4.rest.now c.in_ok-high.rest.now c.in_ok-low.field-0-1.now
    c.in_ok-rest.field-0-0 c.in_ok-rest-2.field-0-0 c.in_ok-rest-3.field-0-0 c.in_ok-rest-4.field-0-0 c.in_ok-high.high c.in_ok-low.low
    (c.begins.ensures.0 c.if-not-begins.false) n1 c.in_ok-rest-2.ensures.some c.in_ok-rest-3.ensures.some c.in_ok-rest-4.ensures.some
    c.in_ok-high.ensures.some c.in_ok-low.ensures.some
