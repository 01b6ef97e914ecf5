use Rattle.std.proofs.Common.{List, refl, subst, sym}
use Rattle.std.specs.List.{list_any}
use Rattle.dl_kinds.specs.declared.gid.Gid.{Gid}
use Rattle.engine_turns.specs.CallRows.{StopRow, stop_events}
use Rattle.engine_turns.specs.Phases.{SavesPhase}
use Rattle.engine_turns.specs.declared.operations.Said.TheVariants.{NoMemory}
use Rattle.engine_turns.specs.declared.outcome.Outcome.TheVariants.{Starved}
use Rattle.machine_core.specs.RunLegal.{is_stop}
use Rattle.stored_run.specs.Saves.{AreSavable, AreStoredApart, SavesDisk}
use Rattle.stored_run.specs.Steps.{DoesPart}
use Rattle.stored_run.proofs.AfterSaves.{halted_leaves, saved_leaves, stop_incomplete}
use Rattle.stored_run.proofs.AfterTelling.{goes_after, may_all, row_here, stored_all}
use Rattle.stored_run.proofs.CallSaves.{last_are, last_once, last_some, last_went_on}
use Rattle.stored_run.proofs.EachSaved.{between_stop}
use Rattle.stored_run.proofs.SavedRows.{saves_starved, stop_row}
use Rattle.stored_run.specs.Writings.{SavesPayloads}
use Rattle.stored_run.proofs.KeptBytes.{same_payloads, saved_payloads}
use Rattle.stored_run.proofs.run.StoredRun.stop.Goals as goal

pub save_all-requires-clause-may : goal.save_all-requires-clause-may
save_all-requires-clause-may g c =
    let d = g.D.Disk in
    let v = c.args.self.now in
    let mid = c.tell_stop.new.self in
    let laws = c.runs_follow.ensures in
    let run = c.tells_stored.ensures in
    let came = c.tell_stop.ensures in
    let between = between_stop laws (list_any is_stop v.machine.past) v mid run.wants_are came in
    let legal = c.tells_stored-2.ensures.legal in
    let due = c.in-Ok.due.items in
    let those = c.in-Ok.ensures.those in
    subst (λ (gids : List Gid). AreSavable mid gids) (sym c.deref.ensures.value)
    (may_all laws d.tells d.faults d.state v mid run (stop_events (list_any is_stop v.machine.past)) came between due
    (last_went_on laws v mid legal came between due those) (last_once laws v mid legal came between due those))

pub save_all-requires-clause-stored : goal.save_all-requires-clause-stored
save_all-requires-clause-stored g c told =
    let d = g.D.Disk in
    let v = c.args.self.now in
    let mid = c.tell_stop.new.self in
    let laws = c.runs_follow.ensures in
    let run = c.tells_stored.ensures in
    let came = c.tell_stop.ensures in
    let between = between_stop laws (list_any is_stop v.machine.past) v mid run.wants_are came in
    let legal = c.tells_stored-2.ensures.legal in
    let due = c.in-Ok.due.items in
    subst (λ (gids : List Gid). AreStoredApart mid gids (d.state mid.disk)) (sym c.deref.ensures.value)
    (stored_all laws d.tells d.faults d.state v mid run (stop_events (list_any is_stop v.machine.past)) came between due
    (last_went_on laws v mid legal came between due c.in-Ok.ensures.those) told)

pub returns-in-Ok-clause-row : goal.returns-in-Ok-clause-row
returns-in-Ok-clause-row g c =
    let d = g.D.Disk in
    let v = c.args.self.now in
    let mid = c.tell_stop.new.self in
    let new = c.save_all.new.self in
    let laws = c.runs_follow.ensures in
    let run = c.tells_stored.ensures in
    let came = c.tell_stop.ensures in
    let between = between_stop laws (list_any is_stop v.machine.past) v mid run.wants_are came in
    let legal = c.tells_stored-2.ensures.legal in
    let due = c.in-Ok.due.items in
    row_here laws d.tells d.faults d.state v mid run (stop_events (list_any is_stop v.machine.past)) came between StopRow new
    (d.faults new.disk) c.done_unless_starved.result
    (stop_row v mid new (d.faults mid.disk) (d.faults new.disk) c.save_all.result c.done_unless_starved.result due came
    (last_are laws v mid legal came between due c.in-Ok.ensures.those)
    (subst
    (λ (gids : List Gid). DoesPart (λ at. SavesPhase at gids) mid (d.faults mid.disk) new (d.faults new.disk) c.save_all.result)
    c.deref.ensures.value c.save_all.ensures.did)
    c.done_unless_starved.ensures)

pub returns-in-Ok-clause-leaves : goal.returns-in-Ok-clause-leaves
returns-in-Ok-clause-leaves g c told =
    let d = g.D.Disk in
    let v = c.args.self.now in
    let mid = c.tell_stop.new.self in
    let new = c.save_all.new.self in
    let laws = c.runs_follow.ensures in
    let run = c.tells_stored.ensures in
    let came = c.tell_stop.ensures in
    let between = between_stop laws (list_any is_stop v.machine.past) v mid run.wants_are came in
    let legal = c.tells_stored-2.ensures.legal in
    let due = c.in-Ok.due.items in
    saved_leaves laws d.tells d.faults d.state v mid run (stop_events (list_any is_stop v.machine.past)) came between
    (stop_incomplete (list_any is_stop v.machine.past)) told due
    (last_went_on laws v mid legal came between due c.in-Ok.ensures.those) new (d.faults mid.disk)
    (d.faults new.disk) c.save_all.result
    (subst
    (λ (gids : List Gid). DoesPart (λ at. SavesPhase at gids) mid (d.faults mid.disk) new (d.faults new.disk) c.save_all.result)
    c.deref.ensures.value c.save_all.ensures.did)
    (subst (λ (gids : List Gid). SavesDisk gids mid new (d.state mid.disk) (d.state new.disk)) c.deref.ensures.value
    (c.save_all.ensures.disk told))

pub returns-in-Err-clause-row : goal.returns-in-Err-clause-row
returns-in-Err-clause-row g c =
    let d = g.D.Disk in
    let v = c.args.self.now in
    let mid = c.tell_stop.new.self in
    let laws = c.runs_follow.ensures in
    let run = c.tells_stored.ensures in
    let came = c.tell_stop.ensures in
    let between = between_stop laws (list_any is_stop v.machine.past) v mid run.wants_are came in
    let some = last_some laws v mid c.tells_stored-2.ensures.legal came between c.in-Err.ensures.some in
    row_here laws d.tells d.faults d.state v mid run (stop_events (list_any is_stop v.machine.past)) came between StopRow mid
    (d.faults mid.disk) NoMemory
    (stop_row v mid mid (d.faults mid.disk) (d.faults mid.disk) Starved NoMemory some.0 came some.1
    (saves_starved mid (d.faults mid.disk) some.0 some.2) refl)

pub returns-in-Err-clause-leaves : goal.returns-in-Err-clause-leaves
returns-in-Err-clause-leaves g c told =
    let d = g.D.Disk in
    let v = c.args.self.now in
    let mid = c.tell_stop.new.self in
    let laws = c.runs_follow.ensures in
    let run = c.tells_stored.ensures in
    let came = c.tell_stop.ensures in
    halted_leaves laws d.tells d.faults d.state v mid run (stop_events (list_any is_stop v.machine.past)) came
    (between_stop laws (list_any is_stop v.machine.past) v mid run.wants_are came)
    (stop_incomplete (list_any is_stop v.machine.past)) told

pub returns-in-Ok-clause-on : goal.returns-in-Ok-clause-on
returns-in-Ok-clause-on g c =
    let d = g.D.Disk in
    let v = c.args.self.now in
    let mid = c.tell_stop.new.self in
    let laws = c.runs_follow.ensures in
    let run = c.tells_stored.ensures in
    let came = c.tell_stop.ensures in
    let between = between_stop laws (list_any is_stop v.machine.past) v mid run.wants_are came in
    goes_after laws d.tells d.faults d.state v mid run (stop_events (list_any is_stop v.machine.past)) came between
    c.save_all.new.self c.save_all.ensures.on

pub returns-in-Err-clause-on : goal.returns-in-Err-clause-on
returns-in-Err-clause-on g c =
    let v = c.args.self.now in
    (between_stop c.runs_follow.ensures (list_any is_stop v.machine.past) v c.tell_stop.new.self
    c.tells_stored.ensures.wants_are c.tell_stop.ensures).on

pub returns-in-Ok-clause-payloads : goal.returns-in-Ok-clause-payloads
returns-in-Ok-clause-payloads g c told =
    let d = g.D.Disk in
    let v = c.args.self.now in
    let mid = c.tell_stop.new.self in
    let new = c.save_all.new.self in
    let laws = c.runs_follow.ensures in
    let run = c.tells_stored.ensures in
    let came = c.tell_stop.ensures in
    let between = between_stop laws (list_any is_stop v.machine.past) v mid run.wants_are came in
    let legal = c.tells_stored-2.ensures.legal in
    let due = c.in-Ok.due.items in
    saved_payloads laws d.tells d.faults d.state v mid run came.disk between due
    (last_went_on laws v mid legal came between due c.in-Ok.ensures.those) (d.state new.disk)
    (subst (λ (gids : List Gid). SavesPayloads gids mid (d.state mid.disk) (d.state new.disk)) c.deref.ensures.value
    (c.save_all.ensures.payloads told))

pub returns-in-Err-clause-payloads : goal.returns-in-Err-clause-payloads
returns-in-Err-clause-payloads g c told =
    same_payloads g.D.Disk.state c.args.self.now c.tell_stop.new.self.disk c.tell_stop.ensures.disk
