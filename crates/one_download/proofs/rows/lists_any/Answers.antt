use Rattle.std.proofs.Common.{◌≡◌, ◌≢◌, true, false, get_or, ◌∙◌, ⊎_elim, arith}
use Rattle.std.proofs.lemmas.Bool.{cases_eq}
use Rattle.std.proofs.lemmas.Option.{get_or_from_slice_get}
use Rattle.dl_kinds.specs.Plan.{piece_of}
use Rattle.one_download.proofs.Blocks.{number_of}
use Rattle.one_download.proofs.rows.lists_any.Goals as goal

pub returns-then-get : goal.returns-then-get
returns-then-get c =
    let total = c.args.plan.now.total in
    let len = c.args.plan.now.piece_len in
    let b = c.loop-block.block in
    let run = c.piece_run-run.ensures in
    let low = c.loop-block.auto.block in
    let high = c.loop-block-test.true in
    let f = run.first in
    let n = run.count in
    let w = run.within in
    let is : piece_of len b ≡ c.args.piece = number_of total len c.args.piece b c.plan_laws.ensures.numbered
    c.args.plan.now.is_plan c.requires.piece (omega arith) (omega arith) in
    let here : get_or c.args.row.now b false ≡ true =
    get_or_from_slice_get c.args.row.now b c.get.result false c.get.ensures ∙ c.if-get.true in (
      λ e. absurd cc,
      λ none. let gone = none b (omega arith) is in absurd cc,
    )

pub loop-block-preserved : goal.loop-block-preserved
loop-block-preserved c b low below =
    ⊎_elim
    (λ (here : b ≡ c.loop-block.block). rw here
    (get_or_from_slice_get c.args.row.now c.loop-block.block c.get.result false c.get.ensures ∙ c.if-get.false))
    (λ (other : b ≢ c.loop-block.block). c.loop-block.invariant b low (omega arith))
    (cases_eq b c.loop-block.block)
