use Rattle.std.proofs.Common.{◌≡◌, ℕ, Option, refl, sym, ap, subst, arith}
use Rattle.body_frames.specs.Bodies.{Framing}
use Rattle.range_http.specs.declared.verdict.Verdict.{Verdict}
use Rattle.reply_reader.specs.Answers.{answer_by}
use Rattle.request_chain.specs.Contents.{IsAtStart}
use Rattle.request_chain.specs.declared.content.Content.{Content}
use Rattle.request_chain.proofs.ContentLemmas.{begun_of, ends_of}
use Rattle.request_chain.proofs.KnownLemmas.{refused_known}
use Rattle.request_chain.proofs.VerdictLemmas.{Fits, verdict_fits}
use Rattle.request_chain.proofs.content.begin.Goals as goal

-- how its body ends is no matter of where it begins
under : (framing : Framing) (skip len last : ℕ) (content result : Content) (ends : Option ℕ) → IsAtStart framing skip len last content
    → result ≡ record content { ends = ends } → IsAtStart framing skip len last result
under framing skip len last content result ends is same =
    subst (IsAtStart framing skip len last) (sym same) (record { at = is.at; last_is = is.last_is; none_came = is.none_came; none_read = is.none_read })

pub new-content-requires-clause-ordered : goal.new-content-requires-clause-ordered
new-content-requires-clause-ordered c =
    let asked = c.args.asked.now in
    let total = c.requires.total in
    let fits = subst (Fits asked) (sym c.in-Part.ensures.value) (verdict_fits c.numbers_and_ranges_are_read.ensures.ranges c.args.head.now asked total.0 total.1 (omega arith)) in
    fits.0

pub new-content-requires-clause-bounded : goal.new-content-requires-clause-bounded
new-content-requires-clause-bounded c =
    let asked = c.args.asked.now in
    let total = c.requires.total in
    let fits = subst (Fits asked) (sym c.in-Part.ensures.value) (verdict_fits c.numbers_and_ranges_are_read.ensures.ranges c.args.head.now asked total.0 total.1 (omega arith)) in
    omega (arith, fits.1)

pub returns-in-Part-clause-begun : goal.returns-in-Part-clause-begun
returns-in-Part-clause-begun c =
    let asked = c.args.asked.now in
    let head = c.args.head.now in
    let total = c.requires.total in
    let fits = subst (Fits asked) (sym c.in-Part.ensures.value) (verdict_fits c.numbers_and_ranges_are_read.ensures.ranges head asked total.0 total.1 (omega arith)) in
    begun_of asked head c.in-Part.framing 0 c.in-Part.last c.under.result (under _ _ _ _ c.new-content.result c.under.result _ c.new-content.ensures c.under.ensures) fits.0 (omega (arith, fits.1)) (omega (arith, fits.0, fits.1)) fits.2
    (λ stream ended. ap (λ (v : Verdict). answer_by head asked v stream ended) (sym c.in-Part.ensures.value))
    (ends_of asked head c.in-Part.framing _ c.under.result.ends refl c.in-Part.ensures.value (ap (λ (x : Content). x.ends) c.under.ensures))

pub returns-in-Whole-clause-begun : goal.returns-in-Whole-clause-begun
returns-in-Whole-clause-begun c =
    let asked = c.args.asked.now in
    let head = c.args.head.now in
    let total = c.requires.total in
    let fits = subst (Fits asked) (sym c.in-Whole.ensures.value) (verdict_fits c.numbers_and_ranges_are_read.ensures.ranges head asked total.0 total.1 (omega arith)) in
    begun_of asked head c.in-Whole.framing asked.first asked.last c.under-in-Whole.result (under _ _ _ _ c.new-content-in-Whole.result c.under-in-Whole.result _ c.new-content-in-Whole.ensures c.under-in-Whole.ensures) c.requires.ordered c.requires.bounded (omega (arith, c.requires.ordered)) fits
    (λ stream ended. ap (λ (v : Verdict). answer_by head asked v stream ended) (sym c.in-Whole.ensures.value))
    (ends_of asked head c.in-Whole.framing _ c.under-in-Whole.result.ends refl c.in-Whole.ensures.value (ap (λ (x : Content). x.ends) c.under-in-Whole.ensures))

pub returns-in-Refused-clause-known : goal.returns-in-Refused-clause-known
returns-in-Refused-clause-known c =
    refused_known c.args.head.now c.args.asked.now c.in-Refused.code c.args.head.now.status (sym c.in-Refused.ensures.value)
