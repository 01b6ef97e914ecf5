use Rattle.std.proofs.Common.{◌≡◌, inl, inr, refl, ap, sym, ◌∙◌}
use Rattle.body_frames.specs.declared.phase.Phase.TheVariants.{Content, Line as InLine, Over, Stopped}
use Rattle.body_frames.specs.declared.phase.Run.TheVariants.{ToEnd}
use Rattle.body_frames.proofs.Feeding.{whole_at, when_whole}
use Rattle.body_frames.proofs.body.Body.end.Goals as goal

pub returns-in-Over : goal.returns-in-Over
returns-in-Over c = λ framing stream is. (λ _. whole_at framing stream c.args.self.now is (inl c.in-Over.is), λ _. refl)

pub returns-in-Content : goal.returns-in-Content
returns-in-Content c = λ framing stream is. (
  λ whole. whole_at framing stream c.args.self.now is (inr (c.in-Content.is ∙ ap (λ r. Content r) (c.end.ensures.0 whole))),
  λ whole. elim (when_whole framing stream c.args.self.now is whole) [
    | inl over ↦ absurd (let e : Content c.in-Content.run' ≡ Over = sym c.in-Content.is ∙ over in cc)
    | inr run ↦ c.end.ensures.1 (let e : Content c.in-Content.run' ≡ Content ToEnd = sym c.in-Content.is ∙ run in cc)
  ],
)

pub returns-in-Line : goal.returns-in-Line
returns-in-Line c = λ framing stream is. (
  λ e. cc,
  λ whole. absurd (elim (when_whole framing stream c.args.self.now is whole) [
    | inl over ↦ elim c.in-Line.is [ inl line ↦ (let e : InLine line.0 ≡ Over = sym line.1 ∙ over in cc) | inr stopped ↦ (let e : Stopped ≡ Over = sym stopped ∙ over in cc) ]
    | inr run ↦ elim c.in-Line.is [ inl line ↦ (let e : InLine line.0 ≡ Content ToEnd = sym line.1 ∙ run in cc) | inr stopped ↦ (let e : Stopped ≡ Content ToEnd = sym stopped ∙ run in cc) ]
  ]),
)
