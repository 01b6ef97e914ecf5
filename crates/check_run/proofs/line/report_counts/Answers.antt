use Rattle.std.proofs.Common.{◌∙◌, ap, sym, subst, refl, ℕ, List}
use Rattle.std.specs.Prelude.{Err}
use Rattle.dl_kinds.specs.declared.outside.IoErr.{IoErr}
use Rattle.dl_kinds.specs.declared.outside.IoErr.TheVariants.{NoMemory}
use Rattle.run_report.specs.Writing.{Writes}
use Rattle.run_report.proofs.Taking.{written}
use Rattle.check_run.specs.Endings.{counts_line, ending_of_line}
use Rattle.check_run.proofs.Lines.{unwritten}
use Rattle.check_run.proofs.line.report_counts.Goals as goal
use Rattle.check_run.proofs.line.report_counts.Goals.{After-write}

-- what the sink took of the line
taken : (g : _) (c : After-write g) → Writes g.O.Sink (counts_line c.args.counts) c.args.out.now c.write.new.self c.write.result
taken g c =
    subst (λ (text : List ℕ). Writes g.O.Sink text c.args.out.now c.write.new.self c.write.result) (c.as_bytes.ensures.value ∙ c.in-Ok.ensures)
    (written g.O.Sink c.as_bytes.result.now c.args.out.now c.write.new.self c.write.result c.write.ensures.bytes c.write.ensures.cause)

pub returns-in_default : goal.returns-in_default
returns-in_default g c = (Err NoMemory, unwritten g.O.Sink (counts_line c.args.counts) c.args.out.now, refl)

pub returns-in-Ok-write : goal.returns-in-Ok-write
returns-in-Ok-write g c =
    (c.write.result, taken g (goal.at.returns-in-Ok-write g c).After-write, c.ending_of_counts.ensures ∙ sym (ap (ending_of_line c.args.counts) c.in-Ok-write.is))

pub returns-in-Err-Fault : goal.returns-in-Err-Fault
returns-in-Err-Fault g c = (
  c.write.result,
  taken g (goal.at.returns-in-Err-Fault g c).After-write,
  sym (ap (ending_of_line c.args.counts) (c.in-Err-Fault.is ∙ ap (λ (e : IoErr). Err e) c.in-Err-Fault.field-0-is)),
)

pub returns : goal.returns
returns g c = (
  c.write.result,
  taken g (goal.at.returns g c).After-write,
  sym (ap (ending_of_line c.args.counts) (c.in-Err-NoMemory.is ∙ ap (λ (e : IoErr). Err e) c.in-Err-NoMemory.field-0-is)),
)
