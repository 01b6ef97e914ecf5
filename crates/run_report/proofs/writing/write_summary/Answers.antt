use Rattle.std.proofs.Common.{subst, sym}
use Rattle.dl_kinds.specs.declared.outside.IoErr.TheVariants.{NoMemory}
use Rattle.run_report.specs.Writing.{WritesSummary}
use Rattle.run_report.proofs.Taking.{came_err, heading_alone, nothing, summed}
use Rattle.run_report.proofs.writing.write_summary.Goals as goal

pub returns-in_err-ends : goal.returns-in_err-ends
returns-in_err-ends g c =
    let m = c.args.machine.now in
    subst (WritesSummary g.O.Sink m.start m.past c.args.out.now c.args.out.now)
    (sym (came_err c.from_residual.result NoMemory c.from_residual.ensures.1))
    (nothing g.O.Sink m.start m.past c.args.out.now)

pub returns-in_err-put : goal.returns-in_err-put
returns-in_err-put g c =
    let m = c.args.machine.now in
    let why = c.in_err-put.field-0.0 in
    subst (WritesSummary g.O.Sink m.start m.past c.args.out.now c.put.new.out)
    (sym (came_err c.from_residual-in_err-put.result why c.from_residual-in_err-put.ensures.1))
    (heading_alone g.O.Sink m.start m.past c.args.out.now c.put.new.out why c.in_err-put.ensures)

pub returns : goal.returns
returns g c =
    let m = c.args.machine.now in
    summed g.O.Sink m.start m.past c.args.out.now c.put.new.out c.write_lines.new.out c.write_lines.result
    c.in_ok-put.ensures c.write_lines.ensures
