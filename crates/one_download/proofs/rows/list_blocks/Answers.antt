use Rattle.std.proofs.Common.{◌≡◌, ◌<◌, length, List, Bool, sym, ap, ◌∙◌, arith}
use Rattle.dl_kinds.specs.Plan.{blocks_of}
use Rattle.one_download.proofs.Written.{lists_block, listed_value, written_none, written_more, written_all}
use Rattle.one_download.proofs.rows.list_blocks.Goals as goal

pub loop-block-init : goal.loop-block-init
loop-block-init c =
    let p = c.args.table.now in
    written_none (lists_block p) (length p.landed) c.args.into.now
    (c.requires.row ∙ sym c.blocks-2.ensures.valid.start.blocks)

pub put-requires : goal.put-requires
put-requires c =
    omega (
      arith,
      c.loop-block-test.true,
      c.len-count.ensures,
      c.loop-block.invariant.long,
      ap (λ (row : List Bool). length row) c.blocks-2.ensures.row,
    )

pub is_listed-requires : goal.is_listed-requires
is_listed-requires c =
    omega (
      arith,
      c.loop-block-test.true,
      c.len-count.ensures,
      c.blocks-2.ensures.valid.start.blocks,
      ap (λ (row : List Bool). length row) c.blocks-2.ensures.row,
    )

pub loop-block-preserved : goal.loop-block-preserved
loop-block-preserved c =
    let p = c.args.table.now in
    let block = c.loop-block.block in
    let valid = c.blocks-2.ensures.valid in
    let many : length c.blocks-2.result.now ≡ length p.landed = ap (λ (row : List Bool). length row) c.blocks-2.ensures.row in
    let below : block < length p.landed = omega (arith, c.loop-block-test.true, c.len-count.ensures, many) in
    let within : block < blocks_of p.total p.piece_len = omega (arith, below, valid.start.blocks) in
    written_more (lists_block p) (length p.landed) block c.loop-block.into c.put.new.row c.is_listed.result
    c.loop-block.invariant below
    (listed_value p block c.is_listed.result c.is_listed.ensures valid within
    (c.plan_laws.ensures.of_pieces p.total p.piece_len block c.requires.plan within).piece)
    c.put.ensures

pub returns : goal.returns
returns c =
    let p = c.args.table.now in
    written_all (lists_block p) (length p.landed) c.loop-block.block c.loop-block.into c.loop-block.invariant
    (omega (
      arith,
      c.loop-block-test.false,
      c.len-count.ensures,
      ap (λ (row : List Bool). length row) c.blocks-2.ensures.row,
    ))
