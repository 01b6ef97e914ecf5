use Rattle.tests_machine.proofs.DueChecks.{may_end_wrong}
use Rattle.tests_machine.proofs.rig.Rig.check_wrong.Goals as goal

pub end-requires-clause-due : goal.end-requires-clause-due
end-requires-clause-due c =
    may_end_wrong c.args.self.now.machine c.checked.new.self c.args.gid c.requires.going c.checked.ensures.event
