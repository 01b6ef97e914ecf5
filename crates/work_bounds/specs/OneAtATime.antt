-- A download whose claims are taken one after the other, as by a single worker.
use Rattle.std.specs.Prelude.{◌≤◌, List, [], ◌∷◌, length}
use Rattle.dl_kinds.specs.declared.gid.Gid.{Gid}
use Rattle.dl_history.specs.OwnEvents.{OwnEvent}
use Rattle.dl_history.specs.StandingClaims.{standing_claims}
use Rattle.machine_core.specs.OwnParts.{own_of}
use Rattle.machine_core.specs.Starts.{RunStart}
use Rattle.machine_core.specs.declared.events.Event.{Event}

-- at most one claim stands after each event of the download ..
abbrev pub HasOneClaim : List OwnEvent → Type 0
HasOneClaim [] = Unit {0}
HasOneClaim (e ∷ before) = HasOneClaim before × (length (standing_claims (e ∷ before)) ≤ 1)

-- .. in the history of a run
abbrev pub OneAtATime : RunStart → List Event → Gid → Type 0
OneAtATime start past gid = HasOneClaim (own_of start past gid)
