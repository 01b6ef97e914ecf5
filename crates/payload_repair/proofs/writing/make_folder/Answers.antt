use Rattle.payload_repair.proofs.StepLemmas.{steps_folder}
use Rattle.payload_repair.proofs.writing.make_folder.Goals as goal

pub returns-in-Some-clause-steps : goal.returns-in-Some-clause-steps
returns-in-Some-clause-steps g c told =
    steps_folder _ (g.D.Disk.state c.args.disk.now) (g.D.Disk.state c.make_dir.new.self) c.make_dir.result (c.make_dir.ensures.made told)
