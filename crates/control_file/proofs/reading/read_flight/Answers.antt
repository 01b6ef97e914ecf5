use Rattle.std.proofs.Common.{ap, length, ◌∙◌}
use Rattle.std.proofs.lemmas.List.{length-set}
use Rattle.std.proofs.lemmas.Result.{err_from_is_err_and}
use Rattle.control_file.proofs.Flights.{goes_on, ends, is_done}
use Rattle.control_file.proofs.reading.read_flight.Goals as goal

pub returns : goal.returns
returns c = is_done _ _ _ _ c.args.count c.loop.counter _ _ _ c.loop-test.false c.loop.invariant.so_far

pub returns-in_err-piece : goal.returns-in_err-piece
returns-in_err-piece c =
    let p = err_from_is_err_and c.from_residual-in_err-piece.result c.from_residual-in_err-piece.ensures.1 in
    rw (p.1, p.2) (ends _ _ _ _ _ c.args.count c.loop.counter _ _ _ c.loop-test.true c.in_err-piece.ensures.exact
    c.loop.invariant.so_far)

pub loop-preserved : goal.loop-preserved
loop-preserved c = record {
  long = ap length c.set.ensures ∙ length-set _ _ _ ∙ c.loop.invariant.long;
  so_far = rw (c.in_ok-push.ensures.ok, c.set.ensures)
      (goes_on _ _ _ _ c.args.count c.loop.counter _ _ _ _ _ c.loop-test.true c.in_ok-piece.ensures.exact
      c.loop.invariant.so_far);
}
