use Rattle.std.proofs.Common.{Bool, inl, subst}
use Rattle.resume_core.specs.Openings.{OpensJust}
use Rattle.resume_core.proofs.OpenedRows.{rows_start, opens_just}
use Rattle.resume_core.proofs.opened.opened_of.Goals as goal

pub returns-clause-rows : goal.returns-clause-rows
returns-clause-rows g c =
    let blocks = c.in_ok-blocks.ensures in
    rows_start c.args.want.now c.requires.want c.in_ok-verified.verified c.in_ok-blocks.blocks
    c.in_ok-verified.ensures.len blocks.len
    (λ block below set. (blocks.exact block).1 (below, inl set))

pub returns-clause-opened : goal.returns-clause-opened
returns-clause-opened g c told =
    let want = c.args.want.now in
    let seen = (g.D.Disk.state c.args.disk.now).seen in
    subst (λ (compared : Bool). OpensJust compared want seen (record
    { verified = c.in_ok-verified.verified; blocks = c.in_ok-blocks.blocks }))
    c.is_compared-compared.ensures
    (opens_just want c.requires.want seen c.args.survey.now (c.requires.survey told) c.in_ok-verified.verified
    c.in_ok-flying.flying c.in_ok-blocks.blocks c.is_compared-compared.result c.requires.control
    (c.in_ok-verified.ensures.exact told) c.in_ok-flying.ensures (rw c.deref.ensures.value at c.in_ok-blocks.ensures))
