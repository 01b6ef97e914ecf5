use Rattle.std.proofs.Common.{ap, sym, subst, inl, inr}
use Rattle.std.specs.Prelude.{Err}
use Rattle.run_report.specs.declared.endings.RunEnding.{RunEnding}
use Rattle.check_run.specs.Checks.{WhyNoPayload}
use Rattle.check_run.specs.OneCheck.{one_check}
use Rattle.check_run.specs.declared.file_err.FileErr.{FileErr}
use Rattle.check_run.proofs.Lifting.{checked_since}
use Rattle.check_run.proofs.Refusals.{why_refused}
use Rattle.check_run.proofs.checking.check_payload.Goals as goal

pub returns-in-Ok : goal.returns-in-Ok
returns-in-Ok g c = inr (record {
  meta = c.in-Ok.meta;
  sound = c.in-Ok.ensures.sound;
  said = λ told. c.in-Ok.ensures.told told;
  checked = checked_since g.D.Disk g.O.Sink c.args.file.now c.args.dir.now c.args.copy c.args.disk.now c.read_file.new.disk c.check_files.new.disk
      c.args.out.now c.check_files.new.out c.check_files.result c.read_file.ensures.read c.in-Ok.meta (c.check_files.ensures c.args.file.now);
})

pub returns-in-Err : goal.returns-in-Err
returns-in-Err g c =
    let check = one_check c.args.file.now c.args.dir.now c.args.copy c.args.disk.now c.args.out.now c.refuse.result c.read_file.new.disk c.refuse.new.out in
    inl (record {
      refusal = c.refusal_by.result;
      why = subst (λ (refusal : RunEnding). WhyNoPayload g.D.Disk g.O.Sink check refusal) (sym c.refusal_by.ensures)
          (why_refused g.D.Disk g.O.Sink check c.in-Err.error (λ told. c.in-Err.ensures.told told) (λ is. c.in-Err.ensures.fault (ap (λ (e : FileErr). Err e) is)));
      is_read = c.read_file.ensures.read;
      printed = c.refuse.ensures;
    })
