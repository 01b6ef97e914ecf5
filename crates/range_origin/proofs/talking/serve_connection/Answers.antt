use Rattle.range_origin.proofs.talking.serve_connection.Goals as goal

pub returns-clause-served : goal.returns-clause-served
returns-clause-served g c = record {
  closing = c.talk-end.new.door;
  answers = c.talk-end.ensures.ends.0;
  talked = c.talk-end.ensures.ends.1;
  told = c.hang_up.ensures.closed;
  faults = c.hang_up.ensures.faults;
}
