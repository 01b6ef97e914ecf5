-- What a run and its disk follow: the laws that all its steps stand on, as one record.
use Rattle.dl_history.specs.AccountLaws.{AccountsMatchEvents}
use Rattle.dl_history.specs.HistoryLaws.{HistoriesAreSound}
use Rattle.durable_progress.specs.HeldLaws.{HeldGive, HeldLackRuns, SameHold}
use Rattle.durable_progress.specs.SharingLaws.{AgreeBeside, FilesStayBeside, LengthsStayBeside}
use Rattle.engine_turns.specs.RunLaws.{ActiveAreGoing, EndedAreGone, GoneStay, InactiveAreIdle}
use Rattle.machine_core.specs.DownloadWants.{WantsStay}
use Rattle.machine_core.specs.MachineViews.{NoneGoes, PlacesAreBehind, PlacesStay}
use Rattle.machine_core.specs.RunLegal.{DownloadsAreLegal, DownloadsStay, LengthsStay}

pub record RunFollows : Type 0 where
  pub downloads : DownloadsStay
  pub lengths : LengthsStay
  pub places : PlacesStay
  pub behind : PlacesAreBehind
  pub none : NoneGoes
  pub wants : WantsStay
  pub legal : DownloadsAreLegal
  pub going : ActiveAreGoing
  pub idle : InactiveAreIdle
  pub gone : GoneStay
  pub ended : EndedAreGone
  pub sound : HistoriesAreSound
  pub accounts : AccountsMatchEvents
  pub files : FilesStayBeside
  pub layouts : LengthsStayBeside
  pub agree : AgreeBeside
  pub lack : HeldLackRuns
  pub same : SameHold
  pub give : HeldGive
