use Rattle.std.proofs.Common.{subst, sym}
use Rattle.run_report.specs.Lines.{IsDownloadLine}
use Rattle.run_report.specs.Writing.{WritesLines}
use Rattle.run_report.proofs.Taking.{came_err, ends_within, gid_at, has_next}
use Rattle.run_report.proofs.writing.write_lines.Goals as goal

pub returns-in_err-put : goal.returns-in_err-put
returns-in_err-put g c =
    let m = c.args.machine.now in
    let gid = c.in-Some.gid in
    let why = c.in_err-put.field-0.0 in
    let err = came_err c.from_residual-in_err-put.result why c.from_residual-in_err-put.ensures.1 in
    let line = subst (IsDownloadLine m.start m.past gid) (sym c.deref.ensures.value) c.in_ok-line.ensures in
    subst (WritesLines g.O.Sink m.start m.past c.args.out.now c.put.new.out) (sym err)
    (ends_within g.O.Sink m.start m.past c.loop-n.n gid c.deref.result.now c.args.out.now c.loop-n.out c.put.new.out why
    c.loop-n.invariant (gid_at m c.loop-n.n gid c.in-Some.field-0-1 c.in-Some.ensures.found) line
    c.in_err-put.ensures)

pub loop-n-preserved : goal.loop-n-preserved
loop-n-preserved g c =
    let m = c.args.machine.now in
    let gid = c.in-Some.gid in
    let line = subst (IsDownloadLine m.start m.past gid) (sym c.deref.ensures.value) c.in_ok-line.ensures in
    has_next g.O.Sink m.start m.past c.loop-n.n gid c.deref.result.now c.args.out.now c.loop-n.out c.put.new.out
    c.loop-n.invariant (gid_at m c.loop-n.n gid c.in-Some.field-0-1 c.in-Some.ensures.found) line
    c.in_ok-put.ensures
