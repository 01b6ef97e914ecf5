use Rattle.std.proofs.Common.{inr}
use Rattle.solo_run.proofs.over.run_over.Goals as goal

pub returns-in-Ok : goal.returns-in-Ok
returns-in-Ok g c = inr record {
  begun = c.in-Ok.begun;
  begins = c.in-Ok.ensures.begins;
  goes = c.go_through.ensures;
}
