use Rattle.std.proofs.Common.{◌≡◌, suc, ◌-◌, rules, arith, sym, ap, min, length, ◌∙◌}
use Rattle.merkle_trees.proofs.Padding.{root_over-one, root_over-cut, cut-fits}
use Rattle.merkle_trees.proofs.trees.+root_over.Goals as goal

pub returns-then-height-eq0 : goal.returns-then-height-eq0
returns-then-height-eq0 t c =
    root_over-one c.args.pad.now c.args.height c.args.nodes.now c.if-height-eq0.true
    (sym c.is_empty.ensures ∙ c.if-is_empty.false)

pub root_over-requires-2 : goal.root_over-requires-2
root_over-requires-2 t c =
    let at : c.args.height ≡ suc (c.args.height - 1) = omega arith in (
      search rules,
      (
        omega arith,
        cut-fits (c.args.height - 1) c.args.height _ c.min.result _ at c.requires.fit
            (c.min.ensures ∙ ap (min (length c.args.nodes.now)) c.width_of.ensures) c.split_at.ensures.back_len,
      ),
    )

pub returns : goal.returns
returns t c =
    let at : c.args.height ≡ suc (c.args.height - 1) = omega arith in
    let whole = root_over-cut c.args.pad.now (c.args.height - 1) c.args.height c.args.nodes.now c.min.result at
    c.requires.fit (c.min.ensures ∙ ap (min (length c.args.nodes.now)) c.width_of.ensures) in
    let halves = c.split_at.ensures in
    cc (whole, halves.front, halves.back, c.root_over.ensures, c.root_over-2.ensures, c.parent.ensures)
