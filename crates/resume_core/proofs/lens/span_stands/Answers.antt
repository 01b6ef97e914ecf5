use Rattle.std.proofs.Common.{◌∙◌, ◌<◌, List, length, get_or, sym, subst, ap, arith, refl}
use Rattle.std.specs.Prelude.{All}
use Rattle.std.proofs.lemmas.Bool.{false≢true}
use Rattle.std.proofs.lemmas.List.{take_all}
use Rattle.std.proofs.lemmas.List.Elements.{All-more}
use Rattle.span_map.specs.declared.files.Part.{Part}
use Rattle.resume_core.specs.Lens.{PartStands}
use Rattle.resume_core.proofs.Standing.{file_within, parts_stand}
use Rattle.resume_core.proofs.lens.span_stands.Goals as goal

pub part_stands-requires : goal.part_stands-requires
part_stands-requires c =
    let no_part : Part = record { file = 0; at = 0; len = 0 } in
    let k = c.loop-part.part-index in
    let items = c.deref-part-items.ensures.value in
    let many = ap (λ (l : List Part). length l) items in
    let part = c.in_ok-parts.ensures.each k no_part (omega (arith, c.loop-part-test.true, many)) in
    subst (λ (l : List Part). (get_or l k no_part).file < length c.args.lens.now) (sym items)
    (omega (arith, file_within _ c.args.want.now.layout _ part.within, c.requires.lens))

pub returns-then-not-part_stands : goal.returns-then-not-part_stands
returns-then-not-part_stands c =
    let no_part : Part = record { file = 0; at = 0; len = 0 } in
    let law = parts_stand c.args.want.now c.args.lens.now c.args.at c.args.len c.requires.lens c.requires.within in
    let items = c.deref-part-items.ensures.value ∙ c.in_ok-parts.ensures.parts in (
      λ is. absurd (false≢true is),
      λ stands. absurd (false≢true (sym c.if-not-part_stands.true ∙ c.part_stands.ensures.1
          (subst (λ (l : List Part). All (PartStands c.args.lens.now) l) (sym items) (law.1 stands)
          c.loop-part.part-index no_part c.loop-part-test.true))),
    )

pub returns : goal.returns
returns c =
    let law = parts_stand c.args.want.now c.args.lens.now c.args.at c.args.len c.requires.lens c.requires.within in
    let items = c.deref-part-items.ensures.value ∙ c.in_ok-parts.ensures.parts in (
      λ is. law.0 (subst (λ (l : List Part). All (PartStands c.args.lens.now) l)
          (take_all c.loop-part.part-index c.deref-part-items.result.now c.loop-part-test.false
          ∙ items) c.loop-part.invariant),
      λ stands. refl,
    )

pub loop-part-preserved : goal.loop-part-preserved
loop-part-preserved c =
    let no_part : Part = record { file = 0; at = 0; len = 0 } in
    All-more (PartStands c.args.lens.now) c.deref-part-items.result.now c.loop-part.part-index no_part
    c.loop-part-test.true
    c.loop-part.invariant (c.part_stands.ensures.0 c.if-not-part_stands.false)
