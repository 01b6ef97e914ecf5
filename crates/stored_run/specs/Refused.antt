-- Downloads that their store refuses to open: they end as their files say.
use Rattle.std.specs.Prelude.{◌≡◌, ℕ, List, Some}
use Rattle.control_file.specs.declared.want.Want.{Want}
use Rattle.dl_disk.specs.Files.{Files}
use Rattle.dl_kinds.specs.declared.gid.Gid.{Gid}
use Rattle.machine_core.specs.DownloadWants.{HasWant}
use Rattle.machine_core.specs.Starts.{RunStart}
use Rattle.machine_core.specs.declared.ends.End.{End}
use Rattle.machine_core.specs.declared.ends.End.TheVariants as end
use Rattle.machine_core.specs.declared.events.Event.{Event}
use Rattle.machine_core.specs.declared.events.Event.TheVariants.{Ended}
use Rattle.resume_core.specs.Refusals.{open_refusal}
use Rattle.resume_core.specs.declared.refusing.OpenErr.{OpenErr}
use Rattle.stored_run.specs.Opening.{end_by_refusal}
use Rattle.stored_run.specs.Settlings.{CameBetween}
use Rattle.stored_run.specs.declared.run.StoredView.{StoredView}

-- the store refused to open it, for what its files hold
abbrev pub IsRefusalEnd : End → Type 0
IsRefusalEnd (end.Exists length) = Unit {0}
IsRefusalEnd (end.PieceLength have want) = Unit {0}
IsRefusalEnd (end.Length have want) = Unit {0}
IsRefusalEnd end.InfoHash = Unit {0}
IsRefusalEnd (end.Unreadable at) = Unit {0}
IsRefusalEnd other = ⊥

-- A download is refused for the reason that the files of its want give, and ends with just that.
pub record RefusesAsRead (start : RunStart) (past : List Event) (gid : Gid) (how : End) (files : Files) : Type 0 where
  pub want : Want
  pub has : HasWant start past gid want
  pub err : OpenErr
  pub found : open_refusal want files ≡ Some err
  pub ends : (faults : ℕ) → end_by_refusal err faults ≡ Some how

module _ {D : Type 0} where
  -- where the end is a refusal, it is for just that reason
  abbrev pub IsEndAsRead : StoredView D → Gid → Files → End → Type 0
  IsEndAsRead r gid files how = IsRefusalEnd how → RefusesAsRead r.machine.start r.machine.past gid how files

  -- so is each end that came
  abbrev pub EndsAsRead : (old new : StoredView D) → Files → Type 0
  EndsAsRead old new files =
      (gid : Gid) (how : End) → CameBetween old.machine.past new.machine.past (Ended gid how)
      → IsEndAsRead old gid files how
