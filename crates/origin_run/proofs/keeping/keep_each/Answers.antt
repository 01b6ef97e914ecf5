use denote.Param.Send.{param_sync, sendable}
use Rattle.std.proofs.Crossing.{crosses, sync}
use Rattle.desk_participants.proofs.Crosses.{participant_send}
use Rattle.turn_desk.proofs.Crosses.{desk_sync, pass_send}
use Rattle.origin_run.proofs.Sends.{shelf_send, transcript_send}
use Rattle.origin_run.proofs.keeping.keep_each.Goals as goal
use Rattle.origin_run.proofs.keeping.keep_each.Lts as lts

pub for_each_mut-requires-send-T : goal.for_each_mut-requires-send-T
unfolding types.Keyed.entry denote.Memory.part_of
for_each_mut-requires-send-T g c κs within =
    search (g, c, within, participant_send, transcript_send, shelf_send, pass_send, crosses, sendable) depth 20

pub for_each_mut-requires-sync-F : goal.for_each_mut-requires-sync-F
for_each_mut-requires-sync-F g c κs within =
    param_sync 2
    (lts.arg-1-2 g.row.R g.row.D g.row.A g.row.K g.R.laws g.D.laws g.A.laws g.K.laws g.R.Threads g.R.Threads-dict g.R.Wait
    g.R.Wait-dict g.D.Disk g.D.Disk-dict g.A.Doors g.A.Doors-dict κs)
    (search (c, sync, shelf_send, desk_sync, sendable) depth 40 fits 100000)
