use Rattle.std.proofs.lemmas.Result.{err_from_is_err_and}
use Rattle.control_file.proofs.Steps.{in_flight_is, in_flight_wrong, passed_on}
use Rattle.control_file.proofs.reading.read_in_flight.Goals as goal

pub returns-clause-exact : goal.returns-clause-exact
returns-clause-exact c =
    in_flight_is c.args.order _ _ _ _ _ _ _ _ _ _ c.in_ok-index.ensures.exact c.in_ok-length.ensures.exact
    c.piece_bytes.ensures c.piece_blocks.ensures _ _ c.in_ok-blocks.ensures.exact

pub returns-in_err-blocks-clause-exact : goal.returns-in_err-blocks-clause-exact
returns-in_err-blocks-clause-exact c =
    let p = err_from_is_err_and c.from_residual-in_err-blocks.result c.from_residual-in_err-blocks.ensures.1 in
    rw (p.1, p.2) (passed_on _ _ _ (in_flight_wrong c.args.order _ _ _ _ _ _ _ _ _ _ c.in_ok-index.ensures.exact
    c.in_ok-length.ensures.exact c.piece_bytes.ensures c.piece_blocks.ensures) c.in_err-blocks.ensures.exact)
