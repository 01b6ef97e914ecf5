use Rattle.body_frames.proofs.Places.{end_opens, end_ends, end_stops}
use Rattle.body_frames.proofs.phase.Line.next_of_chunk_end.Goals as goal

pub returns-in-Open : goal.returns-in-Open
returns-in-Open c = end_opens c.args.byte c.args.line c.in-Open.line c.in-Open.ensures

pub returns-in-Ended : goal.returns-in-Ended
returns-in-Ended c = end_ends c.args.byte c.args.line c.new.result c.new.ensures c.in-Ended.ensures

pub returns-in-TooLong : goal.returns-in-TooLong
returns-in-TooLong c = end_stops c.args.byte c.args.line c.in-TooLong.ensures
