use Rattle.std.proofs.Common.{◌∙◌, true, false, ap, not, sym}
use Rattle.machine_core.specs.DownloadWants.{HasWant}
use Rattle.machine_core.specs.Reads.{IsOpenedGid}
use Rattle.tests_machine.proofs.Due.{told_some}
use Rattle.tests_machine.proofs.DueChecks.{may_check, told_when}
use Rattle.tests_machine.proofs.DueEnds.{done_by}
use Rattle.tests_machine.proofs.rig.Rig.check.Goals as goal

pub check_right-requires-clause-due : goal.check_right-requires-clause-due
check_right-requires-clause-due c =
    let m = c.reserve_turn.new.self in
    let h = told_some (HasWant m.start m.past c.args.gid) _ _ c.in-Some.is c.in_ok-want.ensures.found in
    may_check m c.args.gid true c.in-Some.want h (sym c.is_some.ensures ∙ c.if-is_some.false)
    (λ download added. sym (c.has_checksum.ensures download added) ∙ c.if-not-has_checksum.false)
    (told_when (IsOpenedGid m c.args.gid) c.table.result c.table.ensures.opened
    (c.is_none.ensures ∙ ap not c.if-is_none.false))
    (done_by m c.args.gid c.is_done.result c.is_done.ensures c.if-not-is_done.false)

pub check_wrong-requires-clause-due : goal.check_wrong-requires-clause-due
check_wrong-requires-clause-due c =
    let m = c.reserve_turn.new.self in
    let h = told_some (HasWant m.start m.past c.args.gid) _ _ c.in-Some.is c.in_ok-want.ensures.found in
    may_check m c.args.gid false c.in-Some.want h (sym c.is_some.ensures ∙ c.if-is_some.false)
    (λ download added. sym (c.has_checksum.ensures download added) ∙ c.if-not-has_checksum.false)
    (told_when (IsOpenedGid m c.args.gid) c.table.result c.table.ensures.opened
    (c.is_none.ensures ∙ ap not c.if-is_none.false))
    (done_by m c.args.gid c.is_done.result c.is_done.ensures c.if-not-is_done.false)
