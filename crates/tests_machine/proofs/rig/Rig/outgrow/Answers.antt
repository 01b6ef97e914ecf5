use Rattle.tests_machine.proofs.DueChecks.{may_outgrow}
use Rattle.tests_machine.proofs.rig.Rig.outgrow.Goals as goal

pub end-requires-clause-due : goal.end-requires-clause-due
end-requires-clause-due c =
    may_outgrow c.args.self.now.machine c.sized.new.self c.args.gid c.args.claim c.args.total c.args.probe c.requires.home
    c.requires.going c.requires.long c.sized.ensures.event
