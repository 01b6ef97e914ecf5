use denote.Param.Send.{param_sync, sendable}
use Rattle.std.proofs.Crossing.{crosses, sync}
use Rattle.desk_participants.proofs.Crosses.{participant_send}
use Rattle.turn_desk.proofs.Crosses.{desk_sync, pass_send}
use Rattle.shared_run.proofs.Sends.{engine_send}
use Rattle.shared_run.proofs.Syncs.{console_sync, over_sync, transcript_send}
use Rattle.shared_run.proofs.together.spread.Goals as goal
use Rattle.shared_run.proofs.together.spread.Lts as lts

pub for_each_of_both-requires-send-T : goal.for_each_of_both-requires-send-T
unfolding types.Keyed.entry denote.Memory.part_of
for_each_of_both-requires-send-T g c κs within =
    search (g, c, within, participant_send, transcript_send, engine_send, pass_send, crosses, sendable) depth 20

pub for_each_of_both-requires-send-U : goal.for_each_of_both-requires-send-U
unfolding types.Keyed.entry denote.Memory.part_of
for_each_of_both-requires-send-U g c κs within =
    search (g, c, within, participant_send, engine_send, pass_send, crosses, sendable) depth 20

pub for_each_of_both-requires-sync-F : goal.for_each_of_both-requires-sync-F
for_each_of_both-requires-sync-F g c κs within =
    param_sync 3
    (lts.arg-0-3 g.row.R g.row.D g.row.L g.row.A g.row.K g.R.laws g.D.laws g.L.laws g.A.laws g.K.laws g.R.Threads g.R.Threads-dict
    g.R.Wait g.R.Wait-dict g.D.Disk g.D.Disk-dict g.L.Links g.L.Links-dict g.A.Doors g.A.Doors-dict g.K.Clock g.K.Clock-dict κs)
    (search (c, sync, engine_send, desk_sync, console_sync, over_sync, sendable) depth 40 fits 100000)

pub for_each_of_both-requires-sync-G : goal.for_each_of_both-requires-sync-G
for_each_of_both-requires-sync-G g c κs within =
    search (c, within, sync, engine_send, desk_sync, over_sync, sendable) depth 20
