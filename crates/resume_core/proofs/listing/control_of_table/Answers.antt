use Rattle.std.proofs.lemmas.Result.{IfOk-weaker}
use Rattle.resume_core.proofs.TableRows.{table_start, lists_table}
use Rattle.resume_core.proofs.listing.control_of_table.Goals as goal

pub control_of-requires-clause-rows : goal.control_of-requires-clause-rows
control_of-requires-clause-rows c =
    table_start c.args.want.now c.args.table.now c.verified.result.now c.in_ok-listed.listed c.requires.want
    c.requires.table c.verified.ensures.valid c.verified.ensures.row c.in_ok-listed.ensures

pub returns : goal.returns
returns c =
    IfOk-weaker c.control_of.result _ _
    (λ control just. lists_table c.args.want.now c.args.table.now c.verified.result.now c.in_ok-listed.listed control
    c.verified.ensures.row c.in_ok-listed.ensures just)
    c.control_of.ensures
