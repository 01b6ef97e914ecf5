use Rattle.console_socket.specs.Keeping.{front_of}
use Rattle.console_socket.specs.Streams.{last_of}
use Rattle.console_socket.proofs.socket.keep_on.Given as goal

abbrev pub ghosts-keep : goal.ghosts-keep
ghosts-keep g a = record {
  name = a.slot.door.ghost_name;
  earlier = front_of (g.A.Doors.state a.slot.door.now).connections;
  newest = last_of (g.A.Doors.state a.slot.door.now).connections;
  is_closed = (g.A.Doors.state a.slot.door.now).is_closed;
  faults = g.A.Doors.faults a.slot.door.now;
  first = a.first.now;
}
