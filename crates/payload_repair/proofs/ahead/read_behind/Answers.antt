use Rattle.payload_repair.proofs.StepLemmas.{steps_look_into}
use Rattle.payload_repair.proofs.ahead.read_behind.Goals as goal

pub returns-clause-steps : goal.returns-clause-steps
returns-clause-steps g c told =
    steps_look_into c.args.name.now (g.D.Disk.state c.args.disk.now) (g.D.Disk.state c.read_at.new.self)
    c.read_at.result (c.read_at.ensures.looks told)
