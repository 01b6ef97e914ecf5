use Rattle.std.proofs.lemmas.Result.{on_ok_weaker}
use Rattle.resume_core.proofs.TableSaves.{performs_table, are_table_saved}
use Rattle.resume_core.proofs.progress.put_table.Goals as goal

pub returns-clause-performs : goal.returns-clause-performs
returns-clause-performs g c told =
    let d = g.D.Disk in
    performs_table c.args.want.now c.args.table.now c.in_ok-control.control c.in_ok-control.ensures
    (d.state c.args.disk.now).seen (d.state c.args.disk.now) (d.state c.put_listing.new.disk)
    (c.put_listing.ensures.performs told)

pub returns-clause-saved : goal.returns-clause-saved
returns-clause-saved g c =
    let d = g.D.Disk in
    on_ok_weaker c.put_listing.result
    (λ saved told. are_table_saved c.args.want.now c.args.table.now c.in_ok-control.control c.in_ok-control.ensures
    (d.state c.args.disk.now).seen (d.state c.put_listing.new.disk).may_leave (saved told)) c.put_listing.ensures.saved
