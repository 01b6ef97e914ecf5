use Rattle.std.proofs.Common.{Option, ◌∙◌, ap, sym}
use Rattle.std.specs.Option.{option_map, unwrap_or}
use Rattle.machine_core.specs.Asked.{known_by}
use Rattle.machine_core.specs.OwnParts.{no_lengths}
use Rattle.machine_core.specs.declared.asked.Lengths.{Lengths}
use Rattle.run_report.specs.Speeds.{run_bytes}
use Rattle.run_report.proofs.Recent.{no_bytes}
use Rattle.run_report.proofs.speeds.known_run_bytes.Goals as goal

pub returns-in-None : goal.returns-in-None
returns-in-None c =
    sym (ap (λ (o : Option Lengths). run_bytes (unwrap_or (option_map known_by o) no_lengths) c.args.run) c.in-None.is
    ∙ no_bytes c.args.run)
