use Rattle.std.proofs.Common.{◌∙◌, ℕ, ap, false, replicate}
use Rattle.tests_machine.proofs.Due.{bare_start}
use Rattle.tests_machine.proofs.rig.rows.Goals as goal

pub returns : goal.returns
returns c =
    bare_start c.args.plan.now.total c.args.plan.now.piece_len c.in_ok-verified.verified c.loop-block.blocks
    (c.in_ok-verified.ensures ∙ ap (λ (n : ℕ). replicate n false) c.args.plan.now.pieces_are) c.loop-block.invariant
