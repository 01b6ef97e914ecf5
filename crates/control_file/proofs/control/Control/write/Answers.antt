use Rattle.control_file.proofs.Found.{read_back}
use Rattle.control_file.proofs.control.Control.write.Goals as goal

pub returns-clause-read_back : goal.returns-clause-read_back
returns-clause-read_back c = read_back _ (c.control_files_are_read.ensures.back c.args.self.now c.requires)
    c.write_all.result c.write_all.ensures
