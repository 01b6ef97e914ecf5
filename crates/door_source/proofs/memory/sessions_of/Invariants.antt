use Rattle.std.proofs.Common.{◌≡◌, map}
use Rattle.door_source.specs.Doors.{met}
use Rattle.door_source.proofs.memory.sessions_of.Given as goal

abbrev pub invariant-loop-whole : goal.invariant-loop-whole
invariant-loop-whole l = l.sessions.items ≡ map met l.yielded
