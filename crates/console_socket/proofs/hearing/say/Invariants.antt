use Rattle.std.proofs.Common.{◌≡◌, false, take}
use Rattle.console_socket.specs.Hearing.{is_failing}
use Rattle.console_socket.specs.Sending.{SaysTexts}
use Rattle.console_socket.proofs.hearing.say.Given as goal

abbrev pub invariant-loop-place : goal.invariant-loop-place
invariant-loop-place g l = record {
  sound : is_failing (g.X.Stream.trouble l.socket.stream) ≡ false;
  sends : SaysTexts g.X.Stream.tells g.X.Stream.good (take l.place l.texts) l.fn.socket l.socket;
}
