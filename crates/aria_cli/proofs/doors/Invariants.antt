use Rattle.std.proofs.Common.{◌≡◌, length}
use Rattle.aria_cli.proofs.doors.Given as goal

abbrev pub invariant-loop : goal.invariant-loop
invariant-loop l = length l.doors.items ≡ l.counter
