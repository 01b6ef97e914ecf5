use Rattle.std.proofs.Common.{◌≡◌, ◌∙◌, List, [], Some, None, refl, sym, ap}
use Rattle.engine_turns.specs.NoticeRows.{notices_from, notices_said}
use Rattle.engine_turns.specs.declared.operations.Said.TheVariants.{Notices}
use Rattle.machine_core.specs.Notices.{end_of}
use Rattle.machine_core.specs.declared.notices.Cursor.{Cursor}
use Rattle.machine_core.specs.declared.notices.Notice.{Notice}
use Rattle.engine_core.specs.Engines.{past_of, start_of}
use Rattle.engine_core.proofs.ToldNotices.{turned_starved, turned_told}
use Rattle.engine_core.proofs.state.EngineState.notices.Goals as goal

pub returns-in_default : goal.returns-in_default
returns-in_default g c =
    let old = c.args.self.now in
    let list = c.of.ensures ∙ c.new.ensures.items in
    let place = c.notices_end.ensures ∙ ap (λ m. end_of m.past) c.machine.ensures in
    turned_told g.D.Disk.tells g.D.Disk.state g.D.Disk.faults c.args.from old c.requires old refl _
    (ap (λ (l : List Notice). Notices l c.notices_end.result) list
    ∙ (ap (λ (p : Cursor). Notices [] p) place
    ∙ ap (notices_said (start_of old) (past_of old)) (sym c.in_default.is)))

pub returns-in-Ok : goal.returns-in-Ok
returns-in-Ok g c =
    let old = c.args.self.now in
    turned_told g.D.Disk.tells g.D.Disk.state g.D.Disk.faults c.args.from old c.requires
    (record old { run = c.notices.new.self }) (ap (λ r. record old { run = r }) c.notices.ensures.same) _
    (ap (λ (l : List Notice). Notices l c.in-Ok.upto) c.in-Ok.ensures.told.list
    ∙ (ap (λ (p : Cursor). Notices (notices_from (start_of old) (past_of old) (Some c.in-Some.from)) p)
    c.in-Ok.ensures.told.upto_is
    ∙ ap (notices_said (start_of old) (past_of old)) (sym c.in-Some.is)))

pub returns-in-Err : goal.returns-in-Err
returns-in-Err g c =
    let old = c.args.self.now in
    turned_starved g.D.Disk.tells g.D.Disk.state g.D.Disk.faults c.args.from old c.requires
    (record old { run = c.notices.new.self }) (ap (λ r. record old { run = r }) c.notices.ensures.same)
