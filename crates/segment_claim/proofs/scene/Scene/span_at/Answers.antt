use Rattle.std.proofs.Common.{◌<◌, refl, sym, ap, ◌∙◌, subst}
use Rattle.dl_kinds.specs.Plan.{blocks_of}
use Rattle.segment_claim.specs.Situation.{Situation}
use Rattle.segment_claim.specs.Spans.{IsCoverAt, may_be_loose}
use Rattle.segment_claim.proofs.Loose.{span_none, span_some}
use Rattle.segment_claim.proofs.scene.Scene.span_at.Goals as goal

pub returns-then-not-may_be_loose : goal.returns-then-not-may_be_loose
returns-then-not-may_be_loose c =
    let known : c.args.at < blocks_of c.self.inside.plan.total c.self.inside.plan.piece_len =
    subst (λ (s : Situation). c.args.at < blocks_of s.total s.piece_len) (sym c.self.view_is) c.requires.within in
    let run = c.piece_run-run.result in
    let first = c.piece_run-run.ensures.first in
    let count = c.piece_run-run.ensures.count in
    rw (← c.self.view_is) (span_none _ c.args.at c.min-end.result c.piece_of-piece.result c.args.cover
    c.plan_laws.ensures.of_pieces c.plan_laws.ensures.numbered
    c.self.invariant.sound known (subst (λ (s : Situation). IsCoverAt s c.args.at c.args.cover)
    (sym c.self.view_is) c.requires.cover)
    c.piece_of-piece.ensures.value (c.min-end.ensures ∙ rw (first, count) refl)
    (rw (← first, ← count) c.piece_run-run.ensures.within)
    (ap (λ (s : Situation). may_be_loose s c.piece_of-piece.result c.args.cover.newest) c.self.view_is
    ∙ sym c.may_be_loose.ensures ∙ c.if-not-may_be_loose.true))

pub returns : goal.returns
returns c =
    let known : c.args.at < blocks_of c.self.inside.plan.total c.self.inside.plan.piece_len =
    subst (λ (s : Situation). c.args.at < blocks_of s.total s.piece_len) (sym c.self.view_is) c.requires.within in
    let run = c.piece_run-run.result in
    let first = c.piece_run-run.ensures.first in
    let count = c.piece_run-run.ensures.count in
    rw (← c.self.view_is) (span_some _ c.args.at c.min-end.result c.next_within.result c.piece_of-piece.result
    c.args.cover c.get-landed.result
    c.plan_laws.ensures.of_pieces c.plan_laws.ensures.numbered
    c.self.invariant.sound known (subst (λ (s : Situation). IsCoverAt s c.args.at c.args.cover)
    (sym c.self.view_is) c.requires.cover)
    c.piece_of-piece.ensures.value (c.min-end.ensures ∙ rw (first, count) refl)
    (rw (← first, ← count) c.piece_run-run.ensures.within)
    (ap (λ (s : Situation). may_be_loose s c.piece_of-piece.result c.args.cover.newest) c.self.view_is
    ∙ sym c.may_be_loose.ensures ∙ c.if-not-may_be_loose.false)
    c.get-landed.ensures c.next_within.ensures.within c.next_within.ensures.found c.next_within.ensures.later
    c.next_within.ensures.passed)
