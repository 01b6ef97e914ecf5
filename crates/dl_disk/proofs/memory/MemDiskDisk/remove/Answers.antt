use Rattle.dl_disk.proofs.NotedCalls.{removes, remove_needs, may_remove}
use Rattle.dl_disk.proofs.memory.MemDiskDisk.remove.Goals as goal

pub returns-clause-removed : goal.returns-clause-removed
returns-clause-removed c = removes c.args.self.now c.call.new.self c.args.name.now c.call.result c.call.ensures.notes

pub returns-clause-needs : goal.returns-clause-needs
returns-clause-needs c = remove_needs c.args.self.now c.call.new.self c.args.name.now c.call.result c.call.ensures.notes c.call.ensures.can_do

pub returns-clause-alters : goal.returns-clause-alters
returns-clause-alters c = may_remove c.args.self.now c.call.new.self c.args.name.now c.call.result c.call.ensures.notes
