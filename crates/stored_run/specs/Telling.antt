-- What methods leave that tell of claims, and call no disk.
use Rattle.std.specs.Prelude.{◌≡◌, ◌-◌, ℕ, true, false, List, Some, ◌∷◌}
use Rattle.dl_kinds.specs.declared.claims.Claim.{Claim}
use Rattle.dl_kinds.specs.declared.gid.Gid.{Gid}
use Rattle.dl_kinds.specs.declared.marks.Mark.{Mark}
use Rattle.dl_history.specs.PayloadParts.{is_ended}
use Rattle.engine_turns.specs.ClaimRows.{IsTooLongFor, LossPhase, lost_piece}
use Rattle.engine_turns.specs.Phases.{IfElse, JustEnd, NoEvent, Phase, TurnStart}
use Rattle.machine_core.specs.MachineViews.{MachineView}
use Rattle.machine_core.specs.RunLegal.{download_in}
use Rattle.machine_core.specs.OwnParts.{own_of}
use Rattle.machine_core.specs.Replays.{is_active_in}
use Rattle.machine_core.specs.Starts.{Download, RunStart}
use Rattle.machine_core.specs.declared.ends.End.TheVariants as end
use Rattle.machine_core.specs.declared.events.Event.{Event}
use Rattle.machine_core.specs.declared.events.Event.TheVariants.{Ended}
use Rattle.stored_run.specs.declared.run.StoredView.{StoredView}

-- one event came, and nothing else changed
pub record TellsEvent {D : Type 0} (e : Event) (old new : StoredView D) : Type 0 where
  pub past : new.machine.past ≡ e ∷ old.machine.past
  pub start : new.machine.start ≡ old.machine.start
  pub room : new.machine.spare ≡ old.machine.spare - 1
  pub now : new.now ≡ old.now
  pub wants : new.wants ≡ old.wants
  pub disk : new.disk ≡ old.disk

-- the download stays what it was added as
abbrev pub StaysAdded : Gid → (old new : MachineView) → Type 0
StaysAdded gid old new =
    (download : Download) → download_in old.start old.past gid ≡ Some download
    → download_in new.start new.past gid ≡ Some download

-- the loss of a claim at the piece of its first open block
abbrev pub loss_phase_of : TurnStart → List Event → Download → Claim → Mark → Phase
loss_phase_of at past download claim mark =
    LossPhase at past download claim mark (lost_piece at.start past download.gid claim)

-- where no plan with the download's length of pieces has this total, it ends
abbrev pub too_long_phase : Download → ℕ → Phase
too_long_phase download total =
    IfElse (IsTooLongFor download total) (JustEnd (Ended download.gid (end.TooLarge total))) NoEvent

-- the download of a claim that stands: it is active, and hasn't ended
pub record ClaimGoes (start : RunStart) (past : List Event) (gid : Gid) : Type 0 where
  pub download : Download
  pub added : download_in start past gid ≡ Some download
  pub active : is_active_in start past gid ≡ true
  pub going : is_ended (own_of start past gid) ≡ false
