use Rattle.std.proofs.Common.{◌∙◌, ap, refl, ℕ}
use Rattle.std.specs.Prelude.{Ok, Err}
use Rattle.machine_core.specs.declared.ends.End.TheVariants as download
use Rattle.payload_repair.specs.Promises.{task_of}
use Rattle.payload_repair.specs.declared.repair_err.RepairErr.{RepairErr}
use Rattle.payload_repair.specs.declared.repair_err.RepairErr.TheVariants as repair
use Rattle.run_report.specs.declared.endings.RunEnding.TheVariants.{Failed}
use Rattle.check_run.proofs.Lifting.{leaves_others}
use Rattle.check_run.proofs.checking.check_files.Goals as goal

pub returns-in-Ok : goal.returns-in-Ok
returns-in-Ok g c file =
    let d = g.D.Disk in
    let made = c.in-Ok.ensures in
    record {
      answer = Ok c.in-Ok.counts;
      ends = c.report_counts.ensures;
      mends = λ told. record {
        counts = made.counts told;
        repaired = made.repaired told;
        blocks = made.blocks told;
        kept = made.kept told;
        lasts = made.lasts told;
        synced = made.synced told;
        others = λ apart. leaves_others (task_of c.args.meta.now c.args.dir.now c.args.copy) (d.state c.args.disk.now) (d.state c.repair.new.disk) (made.blocks told apart);
      };
      later = made.later;
    }

pub returns-in-Err-Disk : goal.returns-in-Err-Disk
returns-in-Err-Disk g c file =
    let d = g.D.Disk in
    let made = c.repair.ensures in
    record {
      answer = Err repair.Disk;
      ends = (ap (λ (count : ℕ). Failed (download.Disk count)) c.faults.ensures, made.fault (c.in-Err-Disk.is ∙ ap (λ (e : RepairErr). Err e) c.in-Err-Disk.field-0-is), refl);
      mends = λ told. record {
        counts = tt;
        repaired = tt;
        blocks = made.blocks told;
        kept = made.kept told;
        lasts = tt;
        synced = tt;
        others = λ apart. leaves_others (task_of c.args.meta.now c.args.dir.now c.args.copy) (d.state c.args.disk.now) (d.state c.repair.new.disk) (made.blocks told apart);
      };
      later = made.later;
    }

pub returns-in-Err-NoMemory : goal.returns-in-Err-NoMemory
returns-in-Err-NoMemory g c file =
    let d = g.D.Disk in
    let made = c.repair.ensures in
    record {
      answer = Err repair.NoMemory;
      ends = (refl, refl);
      mends = λ told. record {
        counts = tt;
        repaired = tt;
        blocks = made.blocks told;
        kept = made.kept told;
        lasts = tt;
        synced = tt;
        others = λ apart. leaves_others (task_of c.args.meta.now c.args.dir.now c.args.copy) (d.state c.args.disk.now) (d.state c.repair.new.disk) (made.blocks told apart);
      };
      later = made.later;
    }
