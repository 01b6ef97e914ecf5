use Rattle.tests_store.proofs.Brought.{same_files}
use Rattle.tests_store.proofs.bringing.settle_and_save.Goals as goal

pub save-requires-clause-lengths : goal.save-requires-clause-lengths
save-requires-clause-lengths g c told =
    let d = g.D.Disk in
    same_files c.args.want.now.dir c.args.want.now.layout (d.state c.args.disk.now).seen (d.state c.settle_pieces.new.disk).seen
    (c.settle_pieces.ensures.seen told) (c.requires.files told)
