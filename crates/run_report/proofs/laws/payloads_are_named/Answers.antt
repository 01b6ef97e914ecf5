use Rattle.run_report.proofs.Naming.{payloads_named}
use Rattle.run_report.proofs.laws.payloads_are_named.Goals as goal

pub returns : goal.returns
returns c = payloads_named c.tests_say_what_holds.ensures.part
