use Rattle.std.proofs.Common.{◌∙◌, List, [], ◌∷◌, refl, subst, sym, true}
use Rattle.dl_kinds.specs.declared.gid.Gid.{Gid}
use Rattle.engine_turns.specs.CallRows.{CallRow}
use Rattle.engine_turns.specs.Phases.{SavesPhase}
use Rattle.engine_turns.specs.declared.operations.Said.TheVariants.{Replied}
use Rattle.engine_turns.specs.declared.outcome.Outcome.TheVariants.{Starved}
use Rattle.machine_core.specs.declared.events.Event.TheVariants.{Called}
use Rattle.stored_run.specs.Saves.{AreSavable, AreStoredApart, SavesDisk, UnlessStarved}
use Rattle.stored_run.specs.Steps.{DoesPart}
use Rattle.stored_run.proofs.AfterSaves.{called_incomplete, halted_leaves, saved_leaves}
use Rattle.stored_run.proofs.AfterTelling.{goes_after, may_all, row_here, same_view, stored_all}
use Rattle.stored_run.proofs.CallSaves.{off_are, off_once, off_some, off_went_on}
use Rattle.stored_run.proofs.EachSaved.{between_called, between_none}
use Rattle.stored_run.proofs.SavedRows.{call_row, saves_starved}
use Rattle.stored_run.specs.Writings.{SavesPayloads}
use Rattle.stored_run.proofs.KeptBytes.{same_payloads, saved_payloads}
use Rattle.stored_run.proofs.run.StoredRun.call_saving.Goals as goal

pub returns-in_default-clause-leaves : goal.returns-in_default-clause-leaves
returns-in_default-clause-leaves g c told =
    let d = g.D.Disk in
    let v = c.args.self.now in
    halted_leaves c.runs_follow.ensures d.tells d.faults d.state v v c.tells_stored.ensures [] (same_view v)
    (between_none v v (same_view v)) tt told

pub returns-in_default-apply-clause-leaves : goal.returns-in_default-apply-clause-leaves
returns-in_default-apply-clause-leaves g c told =
    let d = g.D.Disk in
    let v = c.args.self.now in
    let same = c.in_default-apply.ensures.same in
    halted_leaves c.runs_follow.ensures d.tells d.faults d.state v c.apply.new.self c.tells_stored.ensures [] same
    (between_none v c.apply.new.self same) tt told

pub save_all-outcome-requires-clause-may : goal.save_all-outcome-requires-clause-may
save_all-outcome-requires-clause-may g c =
    let d = g.D.Disk in
    let v = c.args.self.now in
    let mid = c.apply.new.self in
    let laws = c.runs_follow.ensures in
    let run = c.tells_stored.ensures in
    let came = c.in-Ok-apply.ensures.came in
    let between = between_called laws c.args.session c.args.call v.now v mid run.wants_are came in
    let was = c.deref.result.now in
    let was_is = c.deref.ensures.value ∙ c.in-Ok.ensures in
    let due = c.in-Ok-due_off.due.items in
    let those = c.in-Ok-due_off.ensures.those in
    subst (λ (gids : List Gid). AreSavable mid gids) (sym c.deref-in-Ok-due_off.ensures.value)
    (may_all laws d.tells d.faults d.state v mid run (Called c.args.session c.args.call v.now ∷ []) came between due
    (off_went_on laws d.tells (d.faults v.disk) (d.state v.disk) v mid run c.args.session c.args.call came was was_is due
    those)
    (off_once laws d.tells (d.faults v.disk) (d.state v.disk) v mid run c.args.session c.args.call came was was_is due
    those))

pub save_all-outcome-requires-clause-stored : goal.save_all-outcome-requires-clause-stored
save_all-outcome-requires-clause-stored g c told =
    let d = g.D.Disk in
    let v = c.args.self.now in
    let mid = c.apply.new.self in
    let laws = c.runs_follow.ensures in
    let run = c.tells_stored.ensures in
    let came = c.in-Ok-apply.ensures.came in
    let between = between_called laws c.args.session c.args.call v.now v mid run.wants_are came in
    let was_is = c.deref.ensures.value ∙ c.in-Ok.ensures in
    let due = c.in-Ok-due_off.due.items in
    subst (λ (gids : List Gid). AreStoredApart mid gids (d.state mid.disk)) (sym c.deref-in-Ok-due_off.ensures.value)
    (stored_all laws d.tells d.faults d.state v mid run (Called c.args.session c.args.call v.now ∷ []) came between due
    (off_went_on laws d.tells (d.faults v.disk) (d.state v.disk) v mid run c.args.session c.args.call came
    c.deref.result.now was_is due c.in-Ok-due_off.ensures.those) told)

pub returns-in-Ok-due_off-clause-row : goal.returns-in-Ok-due_off-clause-row
returns-in-Ok-due_off-clause-row g c =
    let d = g.D.Disk in
    let v = c.args.self.now in
    let mid = c.apply.new.self in
    let new = c.save_all-outcome.new.self in
    let laws = c.runs_follow.ensures in
    let run = c.tells_stored.ensures in
    let came = c.in-Ok-apply.ensures.came in
    let between = between_called laws c.args.session c.args.call v.now v mid run.wants_are came in
    let was_is = c.deref.ensures.value ∙ c.in-Ok.ensures in
    let due = c.in-Ok-due_off.due.items in
    row_here laws d.tells d.faults d.state v mid run (Called c.args.session c.args.call v.now ∷ []) came between
    (λ at s. UnlessStarved (CallRow at s c.args.session c.args.call)) new (d.faults new.disk)
    (Replied c.in-Ok-apply.place c.in-Ok-apply.reply c.has_starved-starved.result)
    (call_row v mid new c.args.session c.args.call (d.faults mid.disk) (d.faults new.disk) c.save_all-outcome.result
    c.in-Ok-apply.place c.in-Ok-apply.reply c.has_starved-starved.result due came
    (off_are laws d.tells (d.faults v.disk) (d.state v.disk) v mid run c.args.session c.args.call came c.deref.result.now
    was_is due c.in-Ok-due_off.ensures.those)
    (subst
    (λ (gids : List Gid). DoesPart (λ at. SavesPhase at gids) mid (d.faults mid.disk) new (d.faults new.disk) c.save_all-outcome.result)
    c.deref-in-Ok-due_off.ensures.value c.save_all-outcome.ensures.did)
    c.in-Ok-apply.ensures.place c.in-Ok-apply.ensures.reply c.has_starved-starved.ensures)

pub returns-in-Ok-due_off-clause-on : goal.returns-in-Ok-due_off-clause-on
returns-in-Ok-due_off-clause-on g c =
    let d = g.D.Disk in
    let v = c.args.self.now in
    let mid = c.apply.new.self in
    let laws = c.runs_follow.ensures in
    let run = c.tells_stored.ensures in
    let came = c.in-Ok-apply.ensures.came in
    goes_after laws d.tells d.faults d.state v mid run (Called c.args.session c.args.call v.now ∷ []) came
    (between_called laws c.args.session c.args.call v.now v mid run.wants_are came) c.save_all-outcome.new.self
    c.save_all-outcome.ensures.on

pub returns-in-Ok-due_off-clause-leaves : goal.returns-in-Ok-due_off-clause-leaves
returns-in-Ok-due_off-clause-leaves g c told =
    let d = g.D.Disk in
    let v = c.args.self.now in
    let mid = c.apply.new.self in
    let new = c.save_all-outcome.new.self in
    let laws = c.runs_follow.ensures in
    let run = c.tells_stored.ensures in
    let came = c.in-Ok-apply.ensures.came in
    let between = between_called laws c.args.session c.args.call v.now v mid run.wants_are came in
    let was_is = c.deref.ensures.value ∙ c.in-Ok.ensures in
    let due = c.in-Ok-due_off.due.items in
    saved_leaves laws d.tells d.faults d.state v mid run (Called c.args.session c.args.call v.now ∷ []) came between
    (called_incomplete c.args.session c.args.call v.now) told due
    (off_went_on laws d.tells (d.faults v.disk) (d.state v.disk) v mid run c.args.session c.args.call came
    c.deref.result.now was_is due c.in-Ok-due_off.ensures.those) new (d.faults mid.disk) (d.faults new.disk) c.save_all-outcome.result
    (subst
    (λ (gids : List Gid). DoesPart (λ at. SavesPhase at gids) mid (d.faults mid.disk) new (d.faults new.disk) c.save_all-outcome.result)
    c.deref-in-Ok-due_off.ensures.value c.save_all-outcome.ensures.did)
    (subst (λ (gids : List Gid). SavesDisk gids mid new (d.state mid.disk) (d.state new.disk))
    c.deref-in-Ok-due_off.ensures.value (c.save_all-outcome.ensures.disk told))

pub returns-clause-row : goal.returns-clause-row
returns-clause-row g c =
    let d = g.D.Disk in
    let v = c.args.self.now in
    let mid = c.apply.new.self in
    let laws = c.runs_follow.ensures in
    let run = c.tells_stored.ensures in
    let came = c.in-Ok-apply.ensures.came in
    let between = between_called laws c.args.session c.args.call v.now v mid run.wants_are came in
    let was_is = c.deref.ensures.value ∙ c.in-Ok.ensures in
    let some = off_some laws d.tells (d.faults v.disk) (d.state v.disk) v mid run c.args.session c.args.call came
    c.deref.result.now was_is c.in-Err.ensures.some in
    row_here laws d.tells d.faults d.state v mid run (Called c.args.session c.args.call v.now ∷ []) came between
    (λ at s. UnlessStarved (CallRow at s c.args.session c.args.call)) mid (d.faults mid.disk)
    (Replied c.in-Ok-apply.place c.in-Ok-apply.reply true)
    (call_row v mid mid c.args.session c.args.call (d.faults mid.disk) (d.faults mid.disk) Starved c.in-Ok-apply.place
    c.in-Ok-apply.reply true some.0 came some.1 (saves_starved mid (d.faults mid.disk) some.0 some.2)
    c.in-Ok-apply.ensures.place c.in-Ok-apply.ensures.reply refl)

pub returns-clause-on : goal.returns-clause-on
returns-clause-on g c =
    let v = c.args.self.now in
    (between_called c.runs_follow.ensures c.args.session c.args.call v.now v c.apply.new.self c.tells_stored.ensures.wants_are
    c.in-Ok-apply.ensures.came).on

pub returns-clause-leaves : goal.returns-clause-leaves
returns-clause-leaves g c told =
    let d = g.D.Disk in
    let v = c.args.self.now in
    let mid = c.apply.new.self in
    let laws = c.runs_follow.ensures in
    let run = c.tells_stored.ensures in
    let came = c.in-Ok-apply.ensures.came in
    halted_leaves laws d.tells d.faults d.state v mid run (Called c.args.session c.args.call v.now ∷ []) came
    (between_called laws c.args.session c.args.call v.now v mid run.wants_are came)
    (called_incomplete c.args.session c.args.call v.now) told

pub returns-in_default-apply-clause-payloads : goal.returns-in_default-apply-clause-payloads
returns-in_default-apply-clause-payloads g c told =
    same_payloads g.D.Disk.state c.args.self.now c.apply.new.self.disk c.in_default-apply.ensures.same.disk

pub returns-in-Ok-due_off-clause-payloads : goal.returns-in-Ok-due_off-clause-payloads
returns-in-Ok-due_off-clause-payloads g c told =
    let d = g.D.Disk in
    let v = c.args.self.now in
    let mid = c.apply.new.self in
    let new = c.save_all-outcome.new.self in
    let laws = c.runs_follow.ensures in
    let run = c.tells_stored.ensures in
    let came = c.in-Ok-apply.ensures.came in
    let between = between_called laws c.args.session c.args.call v.now v mid run.wants_are came in
    let was_is = c.deref.ensures.value ∙ c.in-Ok.ensures in
    let due = c.in-Ok-due_off.due.items in
    saved_payloads laws d.tells d.faults d.state v mid run came.disk between due
    (off_went_on laws d.tells (d.faults v.disk) (d.state v.disk) v mid run c.args.session c.args.call came
    c.deref.result.now was_is due c.in-Ok-due_off.ensures.those) (d.state new.disk)
    (subst (λ (gids : List Gid). SavesPayloads gids mid (d.state mid.disk) (d.state new.disk))
    c.deref-in-Ok-due_off.ensures.value (c.save_all-outcome.ensures.payloads told))

pub returns-clause-payloads : goal.returns-clause-payloads
returns-clause-payloads g c told =
    same_payloads g.D.Disk.state c.args.self.now c.apply.new.self.disk c.in-Ok-apply.ensures.came.disk
