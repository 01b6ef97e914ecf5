use Rattle.dl_disk.proofs.NotedCalls.{moves, move_needs, may_move}
use Rattle.dl_disk.proofs.memory.MemDiskDisk.replace.Goals as goal

pub returns-clause-moved : goal.returns-clause-moved
returns-clause-moved c =
    moves c.args.self.now c.call.new.self c.args.from.now c.args.to.now c.call.result (rw c.in_ok-to.ensures at c.call.ensures.notes)

pub returns-clause-needs : goal.returns-clause-needs
returns-clause-needs c =
    move_needs c.args.self.now c.call.new.self c.args.from.now c.args.to.now c.call.result (rw c.in_ok-to.ensures at c.call.ensures.notes)
    c.call.ensures.can_do

pub returns-clause-alters : goal.returns-clause-alters
returns-clause-alters c =
    may_move c.args.self.now c.call.new.self c.args.from.now c.args.to.now c.call.result (rw c.in_ok-to.ensures at c.call.ensures.notes)
