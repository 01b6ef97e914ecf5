use Rattle.std.proofs.lemmas.Bool.{eq-eqb}
use Rattle.tests_machine.proofs.Due.{may_size}
use Rattle.tests_machine.proofs.rig.Rig.size.Goals as goal

pub outgrow-requires-clause-due : goal.outgrow-requires-clause-due
outgrow-requires-clause-due c =
    let going = c.goes_on.ensures c.if-not-goes_on.false in
    may_size c.reserve_turn.new.self c.args.claim c.in-Some.gid c.in-Some.probe c.args.total c.in-Some.ensures.found
    (record { download = going.download; added = going.added }) (eq-eqb c.in-Some.probe.run.count 0 c.if-probe-ne0.false)

pub sized-requires-clause-legal : goal.sized-requires-clause-legal
sized-requires-clause-legal c =
    let going = c.goes_on.ensures c.if-not-goes_on.false in
    may_size c.reserve_turn.new.self c.args.claim c.in-Some.gid c.in-Some.probe c.args.total c.in-Some.ensures.found
    (record { download = going.download; added = going.added }) (eq-eqb c.in-Some.probe.run.count 0 c.if-probe-ne0.false)
