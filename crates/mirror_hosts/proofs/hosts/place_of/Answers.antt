use Rattle.std.proofs.Common.{◌∙◌, ap, sym, arith}
use Rattle.std.specs.Str.{bytes_eq}
use Rattle.std.proofs.lemmas.Option.{get_or_from_slice_get}
use Rattle.mirror_hosts.proofs.Places.{place_is, one_further}
use Rattle.mirror_hosts.proofs.hosts.place_of.Goals as goal

pub returns-then-eq : goal.returns-then-eq
returns-then-eq c = place_is c.args.host.now c.args.known.now c.loop-place.place
    (omega (arith, c.loop-place-test.true, c.len-place-end.ensures))
    c.loop-place.invariant
    (λ d within.
    ap (bytes_eq c.args.host.now)
    (get_or_from_slice_get c.args.known.now c.loop-place.place c.at.result.now d c.at.ensures
    ∙ sym c.bytes-in-loop-place.ensures)
    ∙ rw (sym c.bytes.ensures) (sym c.if-eq.ensures))

pub loop-place-preserved : goal.loop-place-preserved
loop-place-preserved c = one_further c.args.host.now c.args.known.now c.loop-place.place c.loop-place.invariant
    (λ d. ap (bytes_eq c.args.host.now)
    (get_or_from_slice_get c.args.known.now c.loop-place.place c.at.result.now d c.at.ensures
    ∙ sym c.bytes-in-loop-place.ensures)
    ∙ rw (sym c.bytes.ensures) (sym c.if-eq.ensures))

pub returns : goal.returns
returns c = c.len.ensures ∙ place_is c.args.host.now c.args.known.now _ (omega arith)
    (λ k d below. c.loop-place.invariant k d (omega (arith, below, c.loop-place-test.false, c.len-place-end.ensures)))
    (λ d within. absurd (omega (arith, within)))
