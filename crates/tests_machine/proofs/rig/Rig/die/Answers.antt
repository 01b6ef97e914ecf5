use Rattle.tests_machine.proofs.DueEnds.{may_die}
use Rattle.tests_machine.proofs.rig.Rig.die.Goals as goal

pub end-requires-clause-due : goal.end-requires-clause-due
end-requires-clause-due c =
    may_die c.reserve_turn.new.self c.args.gid c.args.piece c.in-Some.mark (c.goes_on.ensures c.if-not-goes_on.false)
    c.in-Some.ensures.found
