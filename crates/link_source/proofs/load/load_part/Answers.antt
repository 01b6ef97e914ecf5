use Rattle.std.proofs.Common.{arith, ap, ◌≡◌, ◌∙◌, ◌++◌, ◌-◌}
use Rattle.link_source.specs.Load.{load_part}
use Rattle.link_source.proofs.Loads.{no_part, part-part}
use Rattle.link_source.proofs.load.load_part.Goals as goal

pub loop-place-init : goal.loop-place-init
loop-place-init c =
    (omega arith, omega arith, c.in_ok-bytes.ensures.items ∙ no_part c.args.n c.args.first _ (omega arith))

pub loop-place-preserved : goal.loop-place-preserved
loop-place-preserved c =
    let old = c.loop-place.invariant in
    let came = c.in_ok-place.ensures.some in (
      omega arith,
      omega arith,
      c.in_ok-place.ensures.added ∙ ap (λ front. front ++ load_part c.args.n c.loop-place.place c.in_ok-place.field-0) old.2
          ∙ part-part c.args.n c.args.first _ c.loop-place.place c.in_ok-place.field-0 _ (omega arith) (omega arith),
    )

pub returns : goal.returns
returns c =
    let old = c.loop-place.invariant in
    let all : c.loop-place.place - c.args.first ≡ c.args.count = omega arith in
    old.2 ∙ ap (load_part c.args.n c.args.first) all
