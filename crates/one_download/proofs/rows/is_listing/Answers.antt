use Rattle.std.proofs.Common.{◌≡◌, ◌<◌, Bool, List, false, length, refl, sym, ap, ◌∙◌, arith}
use Rattle.std.proofs.lemmas.Option.{get_or_from_slice_get}
use Rattle.dl_kinds.specs.Plan.{blocks_of}
use Rattle.one_download.proofs.Written.{lists_block, written_none, written_on, written_all, differs, listed_value, apart, not_apart}
use Rattle.one_download.proofs.rows.is_listing.Goals as goal

pub loop-block-init : goal.loop-block-init
loop-block-init c =
    written_none (lists_block c.args.table.now) (length c.args.table.now.landed) c.args.row.now
    (c.requires.row ∙ sym c.blocks-2.ensures.valid.start.blocks)

pub loop-block-preserved : goal.loop-block-preserved
loop-block-preserved c =
    let p = c.args.table.now in
    let b = c.loop-block.block in
    let below : b < blocks_of p.total p.piece_len =
    let t = c.loop-block-test.true in let n = c.len-count.ensures in
    let m : length c.blocks-2.result.now ≡ length p.landed = ap (λ (r : List Bool). length r) c.blocks-2.ensures.row in
    let l = c.blocks-2.ensures.valid.start.blocks in omega arith in
    let known = (c.plan_laws.ensures.of_pieces p.total p.piece_len b c.requires.plan below).piece in
    written_on (lists_block p) (length p.landed) b c.args.row.now c.loop-block.invariant
    (get_or_from_slice_get c.args.row.now b c.get.result false c.get.ensures
    ∙ not_apart c.get.result c.is_listed.result c.if-get-is_listed.false
    ∙ listed_value p b c.is_listed.result c.is_listed.ensures c.blocks-2.ensures.valid below known)

pub returns-then-get-is_listed : goal.returns-then-get-is_listed
returns-then-get-is_listed c =
    let p = c.args.table.now in
    let b = c.loop-block.block in
    let m : length c.blocks-2.result.now ≡ length p.landed = ap (λ (r : List Bool). length r) c.blocks-2.ensures.row in
    let within : b < length p.landed = let t = c.loop-block-test.true in let n = c.len-count.ensures in omega arith in
    let below : b < blocks_of p.total p.piece_len = let l = c.blocks-2.ensures.valid.start.blocks in omega arith in
    let known = (c.plan_laws.ensures.of_pieces p.total p.piece_len b c.requires.plan below).piece in (
      λ e. absurd cc,
      λ same.
          absurd (differs (lists_block p) (length p.landed) b c.args.row.now within
          (λ e. apart c.get.result c.is_listed.result c.if-get-is_listed.true
          (sym (get_or_from_slice_get c.args.row.now b c.get.result false c.get.ensures) ∙ e
          ∙ sym (listed_value p b c.is_listed.result c.is_listed.ensures c.blocks-2.ensures.valid below known)))
          same),
    )

pub returns : goal.returns
returns c =
    let p = c.args.table.now in
    let m : length c.blocks-2.result.now ≡ length p.landed = ap (λ (r : List Bool). length r) c.blocks-2.ensures.row in
    let n = c.len-count.ensures in
    let last = c.loop-block-test.false in (
      λ _. written_all (lists_block p) (length p.landed) c.loop-block.block c.args.row.now c.loop-block.invariant
          (omega arith),
      λ _. refl,
    )
