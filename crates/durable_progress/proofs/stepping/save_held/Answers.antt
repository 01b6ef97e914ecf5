use Rattle.std.proofs.lemmas.Result.{on_ok_weaker}
use Rattle.durable_progress.proofs.Steps.{besides, others_stay, save_stays, seen_held, table_held, unmade_held}
use Rattle.resume_core.specs.Tables.{SavesTable}
use Rattle.resume_core.proofs.Fitted.{has_same}
use Rattle.durable_progress.proofs.stepping.save_held.Goals as goal

pub returns-clause-held : goal.returns-clause-held
returns-clause-held g c told =
    let d = g.D.Disk in
    save_stays c.plan_laws.ensures.of_pieces c.args.want.now c.args.table.now (d.state c.args.disk.now)
    (d.state c.save.new.disk)
    (record {
      want_is = c.requires.want;
      table_is = c.requires.table;
      valid = c.verified.ensures.valid;
      files = c.requires.lengths told;
    })
    (c.save.ensures.payload told) (c.save.ensures.performs told)

pub returns-clause-others : goal.returns-clause-others
returns-clause-others g c told =
    let d = g.D.Disk in
    others_stay c.args.want.now (SavesTable c.args.want.now c.args.table.now (d.state c.args.disk.now).seen)
    (λ x y saves. saves.others) (d.state c.args.disk.now) (d.state c.save.new.disk) (c.save.ensures.performs told)

pub returns-clause-unmade : goal.returns-clause-unmade
returns-clause-unmade g c none told =
    let d = g.D.Disk in
    unmade_held c.args.want.now (d.state c.args.disk.now) (d.state c.save.new.disk) c.requires.want
    (c.save.ensures.payload told) (c.save.ensures.unmade none told)

pub returns-clause-saved : goal.returns-clause-saved
returns-clause-saved g c =
    let d = g.D.Disk in
    on_ok_weaker c.save.result
    (λ saved told.
    table_held c.plan_laws.ensures.of_pieces c.args.want.now c.args.table.now (d.state c.save.new.disk)
    (record {
      want_is = c.requires.want;
      table_is = c.requires.table;
      valid = c.verified.ensures.valid;
      files = has_same c.args.want.now (d.state c.args.disk.now).seen (d.state c.save.new.disk).seen
          (c.save.ensures.payload told) (c.requires.lengths told);
    })
    (saved told))
    c.save.ensures.saved

pub returns-clause-besides : goal.returns-clause-besides
returns-clause-besides g c told =
    let d = g.D.Disk in
    besides c.args.want.now (SavesTable c.args.want.now c.args.table.now (d.state c.args.disk.now).seen)
    (λ x y saves. saves.others) (d.state c.args.disk.now) (d.state c.save.new.disk) (c.save.ensures.performs told)

pub returns-clause-still : goal.returns-clause-still
returns-clause-still g c told listing image =
    let d = g.D.Disk in
    seen_held c.args.want.now listing (d.state c.args.disk.now).seen (d.state c.save.new.disk).seen image
    (c.save.ensures.payload told)
