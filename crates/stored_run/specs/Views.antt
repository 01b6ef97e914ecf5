-- What contracts see of a run and its disk.
use Rattle.std.specs.Prelude.{◌≡◌, true, Option, Some, List, slice_get}
use Rattle.std.specs.Option.{option_and_then}
use Rattle.control_file.specs.declared.want.Want.{Want}
use Rattle.dl_history.specs.OwnEvents.{OwnEvent}
use Rattle.dl_history.specs.PayloadParts.{is_opened}
use Rattle.dl_kinds.specs.declared.gid.Gid.{Gid}
use Rattle.engine_turns.specs.Phases.{IsWantedVerified}
use Rattle.machine_core.specs.MachineViews.{place_in}
use Rattle.machine_core.specs.OwnParts.{own_of}
use Rattle.machine_core.specs.RunLegal.{download_in, goes_on_in}
use Rattle.machine_core.specs.Starts.{Download, RunStart}
use Rattle.machine_core.specs.declared.events.Event.{Event}
use Rattle.stored_run.specs.declared.run.StoredView.{StoredView}

-- what the disk is to keep of a download, where it is opened
abbrev pub kept_want : List (Option Want) → RunStart → List Event → Gid → Option Want
kept_want wants start past gid = option_and_then (λ want. want) (slice_get wants (place_in start past gid))

-- it is opened, and active or waiting
pub record GoesOpened (start : RunStart) (past : List Event) (gid : Gid) : Type 0 where
  pub opened : is_opened (own_of start past gid) ≡ true
  pub goes : goes_on_in start past gid ≡ true

-- each of its wanted pieces is verified
abbrev pub IsDoneIn : RunStart → List Event → Gid → Type 0
IsDoneIn start past gid =
    (download : Download) → download_in start past gid ≡ Some download → IsWantedVerified start past download

module _ {D : Type 0} where
  abbrev pub kept_want_of : StoredView D → Gid → Option Want
  kept_want_of r gid = kept_want r.wants.items r.machine.start r.machine.past gid

  abbrev pub own_in : StoredView D → Gid → List OwnEvent
  own_in r gid = own_of r.machine.start r.machine.past gid

  abbrev pub IsGoing : StoredView D → Gid → Type 0
  IsGoing r gid = GoesOpened r.machine.start r.machine.past gid

  abbrev pub IsDoneOf : StoredView D → Gid → Type 0
  IsDoneOf r gid = IsDoneIn r.machine.start r.machine.past gid
