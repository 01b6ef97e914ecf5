use Rattle.payload_repair.proofs.StepLemmas.{same_on}
use Rattle.payload_repair.proofs.ahead.count_right.Goals as goal

pub returns-clause-steps : goal.returns-clause-steps
returns-clause-steps g c told =
    let d = g.D.Disk in
    same_on (d.state c.args.disk.now) (d.state c.read_behind.new.disk) (d.state c.count_ahead.new.disk)
    (c.read_behind.ensures.steps told) (c.count_ahead.ensures.steps told)
