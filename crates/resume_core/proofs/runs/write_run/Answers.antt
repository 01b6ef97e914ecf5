use Rattle.resume_core.proofs.WrittenRuns.{written_keeps, written_gives, written_agrees, written_sound}
use Rattle.resume_core.proofs.runs.write_run.Goals as goal

pub returns-in_err-put_run-clause-gives : goal.returns-in_err-put_run-clause-gives
returns-in_err-put_run-clause-gives g c told =
    written_gives c.args.want.now c.args.run (g.D.Disk.state c.args.disk.now) (g.D.Disk.state c.put_run.new.disk)
    c.requires.want c.requires.run (c.requires.lacks told) (c.put_run.ensures.performs told)
    c.torn_files_keep_what_is_given.ensures.same

pub returns-in_err-put_run-clause-sound : goal.returns-in_err-put_run-clause-sound
returns-in_err-put_run-clause-sound g c told =
    written_sound c.args.want.now c.args.run (g.D.Disk.state c.args.disk.now) (g.D.Disk.state c.put_run.new.disk)
    c.requires.want c.requires.run (c.requires.lacks told) (c.put_run.ensures.performs told)
    c.torn_files_keep_what_is_given.ensures.sound c.torn_files_keep_what_is_given.ensures.agree

pub returns-clause-gives : goal.returns-clause-gives
returns-clause-gives g c told =
    written_gives c.args.want.now c.args.run (g.D.Disk.state c.args.disk.now) (g.D.Disk.state c.put_run.new.disk)
    c.requires.want c.requires.run (c.requires.lacks told) (c.put_run.ensures.performs told)
    c.torn_files_keep_what_is_given.ensures.same

pub returns-clause-sound : goal.returns-clause-sound
returns-clause-sound g c told =
    written_sound c.args.want.now c.args.run (g.D.Disk.state c.args.disk.now) (g.D.Disk.state c.put_run.new.disk)
    c.requires.want c.requires.run (c.requires.lacks told) (c.put_run.ensures.performs told)
    c.torn_files_keep_what_is_given.ensures.sound c.torn_files_keep_what_is_given.ensures.agree

pub returns-in_err-put_run-clause-keeps : goal.returns-in_err-put_run-clause-keeps
returns-in_err-put_run-clause-keeps g c told =
    written_keeps c.args.want.now c.args.run (g.D.Disk.state c.args.disk.now) (g.D.Disk.state c.put_run.new.disk)
    c.requires.want c.requires.run (c.requires.lacks told) (c.put_run.ensures.performs told)
    c.torn_files_keep_what_is_given.ensures.pieces c.torn_files_keep_what_is_given.ensures.blocks

pub returns-clause-keeps : goal.returns-clause-keeps
returns-clause-keeps g c told =
    written_keeps c.args.want.now c.args.run (g.D.Disk.state c.args.disk.now) (g.D.Disk.state c.put_run.new.disk)
    c.requires.want c.requires.run (c.requires.lacks told) (c.put_run.ensures.performs told)
    c.torn_files_keep_what_is_given.ensures.pieces c.torn_files_keep_what_is_given.ensures.blocks

pub returns-in_err-put_run-clause-agrees : goal.returns-in_err-put_run-clause-agrees
returns-in_err-put_run-clause-agrees g c told =
    written_agrees c.args.want.now c.args.run (g.D.Disk.state c.args.disk.now) (g.D.Disk.state c.put_run.new.disk)
    c.requires.want c.requires.run (c.requires.lacks told) (c.put_run.ensures.performs told)
    c.torn_files_keep_what_is_given.ensures.agree

pub returns-clause-agrees : goal.returns-clause-agrees
returns-clause-agrees g c told =
    written_agrees c.args.want.now c.args.run (g.D.Disk.state c.args.disk.now) (g.D.Disk.state c.put_run.new.disk)
    c.requires.want c.requires.run (c.requires.lacks told) (c.put_run.ensures.performs told)
    c.torn_files_keep_what_is_given.ensures.agree
