use Rattle.std.proofs.Common.{arith, ap, Err}
use Rattle.reply_reader.proofs.SliceLemmas.{error_state}
use Rattle.reply_reader.proofs.slices.feed.Goals as goal

pub returns-in-Err-clause-fed : goal.returns-in-Err-clause-fed
returns-in-Err-clause-fed c = λ framing stream is. c.in-Err.ensures.fed framing stream is (λ e. omega (arith, c.in-Err.ensures.room e))

pub returns-in-Err-clause-state : goal.returns-in-Err-clause-state
returns-in-Err-clause-state c = λ framing stream is.
    error_state framing stream c.args.bytes.now c.in-Err.field-0
    (λ e. omega (arith, c.in-Err.ensures.room (ap Err e)))
    (c.in-Err.ensures.wrong framing stream is)
    (λ e. (c.in-Err.ensures.after_error framing stream is).0 (ap Err e))
    (c.pieces_join.ensures.wrong framing stream c.args.bytes.now)
