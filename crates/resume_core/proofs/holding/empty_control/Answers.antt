use Rattle.std.proofs.lemmas.Result.{IfOk-weaker}
use Rattle.resume_core.proofs.OpenedRows.{empty_start, lists_nothing}
use Rattle.resume_core.proofs.holding.empty_control.Goals as goal

pub control_of-requires-clause-rows : goal.control_of-requires-clause-rows
control_of-requires-clause-rows c =
    rw (c.in_ok-verified.ensures, c.in_ok-blocks.ensures)
    (empty_start c.args.want.now c.requires c.blocks-2.result c.blocks-2.ensures.value)

pub returns : goal.returns
returns c =
    IfOk-weaker c.control_of.result _ _
    (λ control lists. lists_nothing c.args.want.now c.args.want.now.plan.pieces c.blocks-2.result control
    (rw (c.in_ok-verified.ensures, c.in_ok-blocks.ensures) at lists))
    c.control_of.ensures
