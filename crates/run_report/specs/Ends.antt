-- What is told of how a download ended (aria2 manual, "EXIT STATUS", and `errorCode`).
use Rattle.std.specs.Prelude.{ℕ, Option, Some, None, List, ⊤}
use Rattle.std.specs.Option.{option_map}
use Rattle.dl_kinds.specs.declared.status.Status.{Status}
use Rattle.dl_kinds.specs.declared.status.Status.TheVariants as status
use Rattle.machine_core.specs.declared.ends.End.{End}
use Rattle.machine_core.specs.declared.events.Event.{Event}
use Rattle.run_report.specs.Endings.{code_by}
use Rattle.run_report.specs.Failures.{HasEnds}
use Rattle.dl_kinds.specs.ExitStatuses.{words_of_code}
use Rattle.run_report.specs.declared.ends.Ends.{Ends}
use Rattle.run_report.specs.declared.ends.Ends.TheVariants.{Sought, Gathered}

-- told of a download that has ended, but not of one that was removed
abbrev pub error_code : Status → Option End → Option ℕ
error_code status.Complete how = Some 0
error_code status.Failed how = Some (code_by how)
error_code other how = None

abbrev pub error_message : Status → Option End → Option (List ℕ)
error_message reached how = option_map words_of_code (error_code reached how)

-- what was gathered of the ends of downloads is what the history tells
abbrev pub AreEnds : Ends → List Event → Type 0
AreEnds Sought past = ⊤
AreEnds (Gathered ends) past = HasEnds ends past
