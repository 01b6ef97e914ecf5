use Rattle.std.proofs.Common.{◌≡◌, inl, inr, arith, drop, subst, sym}
use Rattle.std.proofs.lemmas.Bool.{cases_lt}
use Rattle.ftp_replies.specs.Addresses.{IsAddress}
use Rattle.ftp_replies.proofs.AddressLemmas.{one_port}
use Rattle.ftp_replies.proofs.ClosingLemmas.{whole_rest}
use Rattle.ftp_replies.proofs.address.passive_port.Goals as goal

pub returns-then-port-eq0-clause-none : goal.returns-then-port-eq0-clause-none
returns-then-port-eq0-clause-none c = λ port some told.
    let line = c.args.line.now in
    let at = c.loop-at.at in
    let found = subst (λ l. IsAddress l c.in-Some.high c.in-Some.low) (whole_rest line at) c.in-Some.ensures.some in
    let is = one_port line at c.in-Some.high c.in-Some.low c.loop-at.invariant found port told in
    let zero = c.if-port-eq0.true in
    let high = c.from.ensures in
    omega (arith, is, some, zero, high)

pub loop-at-preserved : goal.loop-at-preserved
loop-at-preserved c = λ place before high low is.
    let line = c.args.line.now in
    let at = c.loop-at.at in
    elim (cases_lt place at) [
      | inl earlier ↦ c.loop-at.invariant place earlier high low is
      | inr later ↦
          let same : place ≡ at = omega (arith, before, later) in
          let here = subst (λ n. IsAddress (drop n line) high low) same is in
          c.in_default.ensures.none high low (subst (λ l. IsAddress l high low) (sym (whole_rest line at)) here)
    ]
