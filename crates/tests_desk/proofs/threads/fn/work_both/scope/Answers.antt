use Rattle.std.proofs.Common.{rules}
use denote.Param.Send.{IsSend, sendable}
use Rattle.std.proofs.Crossing.{crosses}
use Rattle.turn_desk.proofs.Crosses.{pass_send, desk_sync}
use Rattle.tests_desk.specs.contracts.counter.Counter as counter
use Rattle.tests_desk.proofs.threads.fn.work_both.scope.Goals as goal

counter_send : IsSend counter.the_row
counter_send = search (crosses, sendable) depth 20

pub spawn_with-requires-send-F : goal.spawn_with-requires-send-F
spawn_with-requires-send-F g c κs within = search (counter_send, pass_send, desk_sync, crosses, sendable) depth 20

pub spawn_with-requires-send-T : goal.spawn_with-requires-send-T
unfolding types.Keyed.entry denote.Memory.part_of
spawn_with-requires-send-T g c κs within = search rules
