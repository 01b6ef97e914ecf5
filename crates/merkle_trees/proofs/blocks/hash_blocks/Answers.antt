use Rattle.std.proofs.Common.{◌≡◌, ◌∙◌, ℕ, ◌<◌, [], length, get_or, ap, sym, arith}
use Rattle.merkle_trees.proofs.BlockLeaves.{leaves-each}
use Rattle.merkle_trees.proofs.blocks.hash_blocks.Goals as goal

pub returns : goal.returns
returns g c =
    leaves-each c.args.bytes.now c.for_each_mut.new.s (omega arith)
    (λ place below. let here = (c.for_each_mut.ensures place [] (omega arith)).1 in grind arith)
