-- A check whose metainfo file was read before.
use Rattle.std.proofs.Common.{◌≡◌, ◌∙◌, ap, sym, subst, arith, ℕ, List, length, Bor}
use Rattle.std.specs.Prelude.{Result, Ok, Err, IsTrue, Option, Contains}
use Rattle.std.proofs.lemmas.Result.{on_ok_weaker, IfOk-weaker}
use mathlib.Core.Path.{fun_ext}
use Rattle.dl_disk.specs.Files.{Files, IsSame}
use Rattle.dl_disk.specs.State.{DiskState}
use Rattle.dl_disk.specs.declared.disk.Disk.{Ghosts as DiskSays}
use Rattle.dl_kinds.specs.declared.outside.Sink.{Ghosts as SinkSays}
use Rattle.meta_v2.specs.declared.meta.MetaV2.{MetaV2}
use Rattle.payload_repair.specs.Promises.{RepairTask, SharesNoFile, WritesNoMore, counts_by}
use Rattle.payload_repair.specs.StepsBy.{StepsBy}
use Rattle.payload_repair.specs.Whole.{FilesAreRepaired}
use Rattle.payload_repair.specs.declared.counts.Counts.{Counts}
use Rattle.payload_repair.specs.declared.repair_err.RepairErr.{RepairErr}
use Rattle.payload_repair.specs.declared.repair_err.RepairErr.TheVariants as repair
use Rattle.payload_repair.proofs.WholeLemmas.{changes_first, keeps_all}
use Rattle.run_lifecycle.specs.Begins.{IsRead}
use Rattle.run_report.specs.declared.endings.RunEnding.{RunEnding}
use Rattle.check_run.specs.Checks.{EndsCheck, IsChecked, task_in}
use Rattle.check_run.specs.OneCheck.{one_check}
use Rattle.check_run.specs.Payloads.{LeavesOtherFiles, MendsPayload}

pub leaves_others : (task : RepairTask) (old new : DiskState) → WritesNoMore task old new → LeavesOtherFiles task old new
leaves_others task old new writes = record {
  seen = λ name other. writes.steps.seen.others name (λ k file before at_k. other k file at_k);
  images = λ name other image left.
      let from = writes.steps.passes.images left.0 image left.1 left.2 left.3 in
      (from.0, from.1, from.2.others name (λ k file before at_k. other k file at_k));
}

-- nothing was changed before
pub mends_since : (task : RepairTask) (a b c : DiskState) (answer : Result Counts RepairErr) → StepsBy IsSame a b
    → MendsPayload task b c answer → MendsPayload task a c answer
mends_since task a b c answer same was =
    let seen_is : b.seen ≡ a.seen = fun_ext (λ name. same.seen name) in
    let changes : SharesNoFile task → WritesNoMore task a c = λ apart.
    changes_first task.piece_len task.dir task.copy task.files (length task.files) a b c same (was.blocks apart) in
    record {
      counts = IfOk-weaker answer _ _ (λ counts is apart. is apart ∙ ap (counts_by task) seen_is) was.counts;
      repaired = on_ok_weaker answer
          (λ repaired apart. subst (λ (seen : Files). FilesAreRepaired task.piece_len task.dir task.copy task.files (length task.files) seen c) seen_is (repaired apart))
          was.repaired;
      blocks = changes;
      kept = λ apart. keeps_all task.piece_len task.dir task.copy task.files a c (changes apart);
      lasts = was.lasts;
      synced = was.synced;
      others = λ apart. leaves_others task a c (changes apart);
    }

module _ {D O : Type 0} (says : DiskSays D) (sinks : SinkSays O) (file dir : List ℕ) (copy : Option (Bor (List ℕ)))
    (start mid last : D) (out out' : O) (ending : RunEnding) (is_read : IsRead says start mid) where
  reads : IsTrue says.tells → StepsBy IsSame (says.state start) (says.state mid)
  reads told = record {
    seen = (is_read.stays told).seen;
    passes = is_read.passes told;
    folders = λ folder has. subst (λ (folders : List (List ℕ)). Contains folders folder) (sym (is_read.folders told)) has;
  }

  ends_since : (answer : Result Counts RepairErr)
      → EndsCheck says sinks (one_check file dir copy mid out ending last out') answer
      → EndsCheck says sinks (one_check file dir copy start out ending last out') answer
  ends_since (Ok counts) ends = ends
  ends_since (Err repair.Disk) (is, rose, same) = let later = is_read.later in (is, omega (arith, later, rose), same)
  ends_since (Err repair.NoMemory) ends = ends

  pub checked_since : (meta : MetaV2)
      → IsChecked says sinks (one_check file dir copy mid out ending last out') meta
      → IsChecked says sinks (one_check file dir copy start out ending last out') meta
  checked_since meta was = record {
    answer = was.answer;
    ends = ends_since was.answer was.ends;
    mends = λ told. mends_since (task_in (one_check file dir copy start out ending last out') meta) (says.state start)
        (says.state mid) (says.state last) was.answer (reads told) (was.mends told);
    later = omega (arith, is_read.later, was.later);
  }
