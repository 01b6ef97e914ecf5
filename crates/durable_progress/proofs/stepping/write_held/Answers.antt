use Rattle.durable_progress.proofs.Steps.{besides, lacks, others_stay, write_stays, write_still}
use Rattle.resume_core.specs.Runs.{TornRun}
use Rattle.durable_progress.proofs.stepping.write_held.Goals as goal

pub write_run-requires-clause-lacks : goal.write_run-requires-clause-lacks
write_run-requires-clause-lacks g c told =
    let d = g.D.Disk in
    let is = c.requires.unlisted told in
    lacks c.control_files_are_read.ensures.back c.plan_laws.ensures.follow c.args.want.now c.args.run c.requires.want
    c.requires.run (d.state c.args.disk.now) (d.state c.args.disk.now) is.0 is.1 is.2

pub returns-clause-held : goal.returns-clause-held
returns-clause-held g c told =
    let d = g.D.Disk in
    write_stays c.control_files_are_read.ensures.back c.plan_laws.ensures.follow c.args.want.now c.args.run
    c.requires.want c.requires.run (d.state c.args.disk.now) (d.state c.write_run.new.disk)
    (c.write_run.ensures.performs told)

pub returns-clause-others : goal.returns-clause-others
returns-clause-others g c told =
    let d = g.D.Disk in
    others_stay c.args.want.now (TornRun c.args.want.now c.args.run)
    (λ x y tears name beside. tears.others name beside.files) (d.state c.args.disk.now) (d.state c.write_run.new.disk)
    (c.write_run.ensures.performs told)

pub returns-clause-besides : goal.returns-clause-besides
returns-clause-besides g c told =
    let d = g.D.Disk in
    besides c.args.want.now (TornRun c.args.want.now c.args.run)
    (λ x y tears name beside. tears.others name beside.files) (d.state c.args.disk.now) (d.state c.write_run.new.disk)
    (c.write_run.ensures.performs told)

pub returns-clause-still : goal.returns-clause-still
returns-clause-still g c told =
    let d = g.D.Disk in
    write_still c.control_files_are_read.ensures.back c.plan_laws.ensures.follow c.args.want.now c.args.run
    c.requires.want c.requires.run (d.state c.args.disk.now) (d.state c.write_run.new.disk)
    (c.write_run.ensures.performs told)
