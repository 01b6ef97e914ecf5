use Rattle.std.proofs.Common.{◌∙◌, sym}
use Rattle.machine_core.specs.RunLegal.{MayFollow}
use Rattle.machine_core.specs.declared.ends.End.{End}
use Rattle.machine_core.specs.declared.events.Event.TheVariants.{Ended}
use Rattle.tests_machine.proofs.Due.{told_some}
use Rattle.tests_machine.proofs.DueEnds.{before_opening}
use Rattle.tests_machine.proofs.rig.Rig.clash_next.Goals as goal

pub end-requires-clause-due : goal.end-requires-clause-due
end-requires-clause-due c =
    let m = c.reserve_turn.new.self in
    let gid = c.in-Some.gid in
    let before = before_opening m gid (c.goes_on.ensures c.if-not-goes_on.false)
    (sym c.is_active.ensures ∙ c.if-not-is_active.false) (sym c.next_to_open.ensures ∙ c.in-Some.is) in
    told_some (λ (how : End). MayFollow m.start m.past (Ended gid how)) _ _ c.in-Some-2.is (c.in_ok-end.ensures.may before)
