-- Why a metainfo file gives no payload, by the error of its reading.
use Rattle.std.proofs.Common.{◌≡◌, refl, IsTrue}
use Rattle.dl_disk.specs.declared.disk.Disk.{Ghosts as DiskSays}
use Rattle.dl_kinds.specs.Counts.{Rose}
use Rattle.dl_kinds.specs.declared.outside.Sink.{Ghosts as SinkSays}
use Rattle.meta_v2.specs.declared.refusals.V2Err.TheVariants as rule
use Rattle.check_run.specs.Checks.{WhyNoPayload}
use Rattle.check_run.specs.Files.{RefusesV2, refusal_by}
use Rattle.check_run.specs.OneCheck.{OneCheck}
use Rattle.check_run.specs.declared.file_err.FileErr.{FileErr}
use Rattle.check_run.specs.declared.file_err.FileErr.TheVariants.{Missing, Fault, TooLong, Broken, NoMemory}

module _ {D O : Type 0} (says : DiskSays D) (sinks : SinkSays O) (check : OneCheck D O) where
  pub why_refused : (error : FileErr)
      → (IsTrue says.tells → RefusesV2 ((says.state check.given.disk).seen check.given.file) error)
      → (error ≡ Fault → Rose (says.faults check.given.disk) (says.faults check.came.disk))
      → WhyNoPayload says sinks check (refusal_by error)
  why_refused Missing tells rose = (refl, tells, λ e. cc)
  why_refused Fault tells rose = (refl, λ told. tt, λ e. rose refl)
  why_refused TooLong tells rose = (refl, tells, λ e. cc)
  why_refused (Broken (rule.Bencode why)) tells rose = (refl, λ told. (why, tells told), λ e. cc)
  why_refused (Broken (rule.Lacks key)) tells rose = (refl, λ told. (rule.Lacks key, refl, tells told), λ e. cc)
  why_refused (Broken (rule.BadKind key)) tells rose = (refl, λ told. (rule.BadKind key, refl, tells told), λ e. cc)
  why_refused (Broken (rule.BadPath file)) tells rose = (refl, λ told. (rule.BadPath file, refl, tells told), λ e. cc)
  why_refused (Broken rule.TooLarge) tells rose = (refl, λ told. (rule.TooLarge, refl, tells told), λ e. cc)
  why_refused (Broken (rule.LayerLength file)) tells rose = (refl, λ told. (rule.LayerLength file, refl, tells told), λ e. cc)
  why_refused (Broken (rule.LayerRoot file)) tells rose = (refl, λ told. (rule.LayerRoot file, refl, tells told), λ e. cc)
  why_refused (Broken rule.NoMemory) tells rose = (refl, λ told. (rule.NoMemory, refl, tells told), λ e. cc)
  why_refused NoMemory tells rose = tt
