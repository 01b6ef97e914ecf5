use Rattle.std.proofs.Common.{refl}
use Rattle.tests_store.proofs.Brought.{lack_run, opened_files, written_files}
use Rattle.tests_store.proofs.bringing.bring_run.Goals as goal

pub write_run-requires-clause-lacks : goal.write_run-requires-clause-lacks
write_run-requires-clause-lacks g c told =
    lack_run c.args.want.now c.args.run c.in_ok-opened.opened (g.D.Disk.state c.resume.new.disk) (c.in_ok-opened.ensures.listed told)
    c.saved_files_give_what_is_listed.ensures.used (c.if-not-lacks.ensures refl)

pub returns-then-not-lacks-clause-files : goal.returns-then-not-lacks-clause-files
returns-then-not-lacks-clause-files g c told =
    opened_files c.args.want.now c.args.run c.in_ok-opened.opened (g.D.Disk.state c.resume.new.disk) (c.in_ok-opened.ensures.listed told)

pub returns-clause-files : goal.returns-clause-files
returns-clause-files g c told =
    written_files c.args.want.now c.args.run c.in_ok-opened.opened (g.D.Disk.state c.resume.new.disk) (c.in_ok-opened.ensures.listed told)
    (g.D.Disk.state c.write_run.new.disk) (c.write_run.ensures.performs told)
