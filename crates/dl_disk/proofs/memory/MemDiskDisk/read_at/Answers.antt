use Rattle.dl_disk.proofs.NotedCalls.{looks_into}
use Rattle.dl_disk.proofs.memory.MemDiskDisk.read_at.Goals as goal

pub returns-then-is_ok-clause-looks : goal.returns-then-is_ok-clause-looks
returns-then-is_ok-clause-looks c =
    looks_into c.args.self.now c.call-outcome.new.self c.args.name.now c.args.at _ c.call-outcome.result c.call-outcome.ensures.notes

pub returns-else-is_ok-clause-looks : goal.returns-else-is_ok-clause-looks
returns-else-is_ok-clause-looks c =
    looks_into c.args.self.now c.call-outcome.new.self c.args.name.now c.args.at _ c.call-outcome.result c.call-outcome.ensures.notes
