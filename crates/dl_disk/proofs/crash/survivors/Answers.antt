use Rattle.dl_disk.specs.Contents.{files_of}
use Rattle.dl_disk.proofs.CrashLemmas.{crashed_same, crash_more}
use Rattle.dl_disk.proofs.crash.survivors.Goals as goal

pub loop-index-init : goal.loop-index-init
loop-index-init c =
    crashed_same (files_of c.args.start.now) (files_of c.in_ok-files.files) (files_of c.args.start.now) (files_of c.in_ok-left.left) c.args.choices.now c.args.calls.now
    c.in_ok-files.ensures c.in_ok-left.ensures

pub loop-index-preserved : goal.loop-index-preserved
loop-index-preserved c =
    crash_more (files_of c.args.start.now) (files_of c.loop-index.files) (files_of c.leave-in-loop-index.new.left) (files_of c.loop-index.left) (files_of c.leave.new.left) c.args.choices.now c.loop-index.choices.now c.choose-choice.result.1.now
    c.args.calls.now c.loop-index.index c.index-calls-index.result c.index-calls-index.result c.choose-choice.result.0 c.loop-index-test.true c.index-calls-index.is
    c.loop-index.invariant (rw c.behind.ensures at c.choose-choice.ensures.choice) (rw c.behind.ensures at c.choose-choice.ensures.rest) c.in_ok-leave.ensures
    (rw c.as_it_was.ensures at c.in_ok-leave-2.ensures)
