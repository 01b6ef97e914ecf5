use Rattle.std.proofs.lemmas.Result.{err_from_is_err_and}
use Rattle.control_file.proofs.Steps.{progress_is, progress_wrong, passed_on}
use Rattle.control_file.proofs.reading.read_progress.Goals as goal

pub returns : goal.returns
returns c =
    progress_is c.args.order _ _ _ _ _ _ _ _ _ c.in_ok-pieces.ensures.exact c.in_ok-count.ensures.exact
    c.args.plan.now.pieces_are c.len.ensures _ _ c.in_ok-flight.ensures

pub returns-in_err-flight : goal.returns-in_err-flight
returns-in_err-flight c =
    let p = err_from_is_err_and c.from_residual-in_err-flight.result c.from_residual-in_err-flight.ensures.1 in
    rw (p.1, p.2) (passed_on _ _ _ (progress_wrong c.args.order _ _ _ _ _ _ _ _ _ c.in_ok-pieces.ensures.exact
    c.in_ok-count.ensures.exact c.args.plan.now.pieces_are c.len.ensures) c.in_err-flight.ensures)
