use Rattle.std.proofs.Common.{◌*◌, ap, ◌∙◌}
use Rattle.std.proofs.lemmas.List.{take_rest}
use Rattle.sha2.specs.Sha256.{sha256}
use Rattle.dl_kinds.specs.declared.plan.TheConstants.{BLOCK_LEN}
use Rattle.merkle_trees.proofs.BlockLeaves.{block-cut}
use Rattle.merkle_trees.proofs.blocks.leaf.Goals as goal

pub returns : goal.returns
returns c =
    let rest = take_rest c.args.bytes.now (c.args.place * BLOCK_LEN) in
    c.digest.ensures ∙ ap sha256 (block-cut c.args.bytes.now c.args.place c.min.result _ rest c.min.ensures)
