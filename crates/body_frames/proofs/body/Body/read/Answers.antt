use Rattle.std.proofs.Common.{arith}
use Rattle.std.proofs.lemmas.Result.{err_from_is_err_and}
use Rattle.body_frames.proofs.Feeding.{reads_more, reads_stops}
use Rattle.body_frames.proofs.body.Body.read.Goals as goal

pub returns-in_err-used-clause-err : goal.returns-in_err-used-clause-err
returns-in_err-used-clause-err c =
    let p = err_from_is_err_and c.from_residual.result c.from_residual.ensures.1 in
    rw (p.1, p.2) (reads_stops _ _ c.args.piece.now _ _ c.loop-used.used c.loop-used.invariant.reads _ c.in_err-used.field-0.0 c.in_err-used.ensures.err c.in_err-used.ensures.same)

pub loop-used-preserved : goal.loop-used-preserved
loop-used-preserved c =
    let reads = reads_more _ _ c.args.piece.now _ _ c.loop-used.used c.loop-used.invariant.reads _ _ c.in_ok-used.field-0 c.in_ok-used.ensures.ok in
    record {
      bound = omega (arith, c.in_ok-used.ensures.most);
      open_phase = reads.1.goes_on;
      grows = omega arith;
      len = omega (arith, c.in_ok-used.ensures.len, c.loop-used.invariant.len);
      capacity = omega (arith, c.in_ok-used.ensures.capacity, c.loop-used.invariant.capacity);
      room = omega (arith, c.in_ok-used.ensures.len, c.in_ok-used.ensures.capacity, c.loop-used.invariant.room, c.in_ok-used.ensures.most);
      reads = reads;
    }
