use Rattle.std.proofs.Common.{arith}
use Rattle.payload_repair.proofs.StepLemmas.{on_ok_both}
use Rattle.payload_repair.proofs.placing.fit_first.Goals as goal

pub returns-clause-fitted : goal.returns-clause-fitted
returns-clause-fitted g c =
    on_ok_both c.fit_file.result (λ len made told. record { len = omega (arith, len told); made = λ lacks. made told }) c.fit_file.ensures.len c.fit_file.ensures.made
