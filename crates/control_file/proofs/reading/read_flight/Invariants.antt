use Rattle.std.proofs.Common.{◌≡◌, ◌-◌, length}
use Rattle.control_file.specs.Unread.{unread}
use Rattle.control_file.specs.Reading.{flight_at}
use Rattle.control_file.proofs.Flights.{with_front}
use Rattle.control_file.proofs.reading.read_flight.Given as goal

abbrev pub invariant-loop : goal.invariant-loop
invariant-loop l = record {
  long : length l.taken ≡ l.plan.pieces;
  so_far : with_front l.flight (flight_at l.order l.plan.total l.plan.piece_len (l.count - l.counter) l.taken
      (unread l.fields))
      ≡ flight_at l.order l.plan.total l.plan.piece_len l.count l.pieces (unread l.fn.fields);
}
