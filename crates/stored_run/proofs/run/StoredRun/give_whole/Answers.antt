use Rattle.stored_run.proofs.Grants.{ungiven_counted, ungiven_unread}
use Rattle.stored_run.proofs.run.StoredRun.give_whole.Goals as goal

pub returns-then-has_digests-clause-row : goal.returns-then-has_digests-clause-row
returns-then-has_digests-clause-row g c =
    let faults = g.D.Disk.faults in
    let v = c.args.self.now in
    let p = c.requires.piece in
    ungiven_unread v c.read_whole.new.self c.args.gid c.args.piece (faults v.disk) (faults c.read_whole.new.self.disk) p.download
    p.added (c.has_digests.ensures.listed c.if-has_digests.true p.download p.added) c.read_whole.result
    c.read_whole.ensures.row

pub returns-else-has_digests-clause-row : goal.returns-else-has_digests-clause-row
returns-else-has_digests-clause-row g c =
    let faults = g.D.Disk.faults in
    let v = c.args.self.now in
    ungiven_counted v c.count_whole.new.self c.args.gid c.args.piece (faults v.disk) (faults c.count_whole.new.self.disk)
    (λ download added. c.has_digests.ensures.unlisted c.if-has_digests.false download added) c.count_whole.result
    c.count_whole.ensures.row
