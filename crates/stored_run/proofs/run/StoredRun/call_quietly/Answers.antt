use Rattle.std.proofs.Common.{[], ◌∷◌, arith, false, refl}
use Rattle.engine_turns.specs.CallRows.{CallRow, gids_in}
use Rattle.engine_turns.specs.Phases.{SavesPhase}
use Rattle.engine_turns.specs.declared.operations.Said.TheVariants.{Replied}
use Rattle.engine_turns.specs.declared.outcome.Outcome.TheVariants.{Went}
use Rattle.machine_core.specs.declared.events.Event.TheVariants.{Called}
use Rattle.stored_run.specs.Saves.{UnlessStarved}
use Rattle.stored_run.proofs.AfterSaves.{called_incomplete, halted_leaves}
use Rattle.stored_run.proofs.AfterTelling.{row_here}
use Rattle.stored_run.proofs.Doing.{part_none}
use Rattle.stored_run.proofs.EachSaved.{between_called, between_none}
use Rattle.stored_run.proofs.Quiet.{none_saved}
use Rattle.stored_run.proofs.SavedRows.{call_row}
use Rattle.stored_run.proofs.run.StoredRun.call_quietly.Goals as goal

pub returns-in-Ok-clause-row : goal.returns-in-Ok-clause-row
returns-in-Ok-clause-row g c =
    let d = g.D.Disk in
    let a = c.args in
    let v = a.self.now in
    let mid = c.apply.new.self in
    let laws = c.runs_follow.ensures in
    let run = c.tells_stored.ensures in
    let came = c.in-Ok.ensures.came in
    let events = Called a.session a.call v.now ∷ [] in
    let f = d.faults mid.disk in
    row_here laws d.tells d.faults d.state v mid run events came
    (between_called laws a.session a.call v.now v mid run.wants_are came)
    (λ at s. UnlessStarved (CallRow at s a.session a.call)) mid f
    (Replied c.in-Ok.place c.in-Ok.reply false)
    (call_row v mid mid a.session a.call f f Went c.in-Ok.place c.in-Ok.reply false [] came
    (none_saved v.machine.start v.machine.past a.session a.call v.now c.requires.quiet
    (gids_in v.machine.start (Called a.session a.call v.now ∷ v.machine.past)))
    (part_none (λ at. SavesPhase at []) mid mid f f Went refl refl (λ n below. (refl, refl)))
    c.in-Ok.ensures.place c.in-Ok.ensures.reply refl)

pub returns-in-Ok-clause-on : goal.returns-in-Ok-clause-on
returns-in-Ok-clause-on g c =
    let v = c.args.self.now in
    (between_called c.runs_follow.ensures c.args.session c.args.call v.now v c.apply.new.self
    c.tells_stored.ensures.wants_are c.in-Ok.ensures.came).on

pub returns-in-Ok-clause-leaves : goal.returns-in-Ok-clause-leaves
returns-in-Ok-clause-leaves g c told =
    let d = g.D.Disk in
    let v = c.args.self.now in
    let mid = c.apply.new.self in
    let laws = c.runs_follow.ensures in
    let run = c.tells_stored.ensures in
    let came = c.in-Ok.ensures.came in
    halted_leaves laws d.tells d.faults d.state v mid run (Called c.args.session c.args.call v.now ∷ []) came
    (between_called laws c.args.session c.args.call v.now v mid run.wants_are came)
    (called_incomplete c.args.session c.args.call v.now) told

pub returns-in-Err-clause-leaves : goal.returns-in-Err-clause-leaves
returns-in-Err-clause-leaves g c told =
    let d = g.D.Disk in
    let v = c.args.self.now in
    let same = c.in-Err.ensures.same in
    halted_leaves c.runs_follow.ensures d.tells d.faults d.state v c.apply.new.self c.tells_stored.ensures [] same
    (between_none v c.apply.new.self same) tt told
