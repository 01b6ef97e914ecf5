use Rattle.tests_machine.proofs.DueChecks.{may_end_right}
use Rattle.tests_machine.proofs.DueWrong.{is_sized}
use Rattle.tests_machine.proofs.rig.Rig.check_right.Goals as goal

pub end-requires-clause-due : goal.end-requires-clause-due
end-requires-clause-due c =
    let m = c.args.self.now.machine in
    may_end_right c.downloads_stay.ensures.lengths m c.checked.new.self c.args.gid c.journal.ensures.legal
    (is_sized m.start m.past c.args.gid c.requires.sized) c.requires.going c.requires.done c.checked.ensures.event
