-- What holds of the downloads of every legal history of a run.
use Rattle.std.specs.Prelude.{◌≡◌, true, false, Some, List, [], ◌∷◌}
use Rattle.dl_kinds.specs.declared.gid.Gid.{Gid}
use Rattle.dl_history.specs.PayloadParts.{is_ended}
use Rattle.dl_history.specs.StandingClaims.{standing_claims}
use Rattle.machine_core.specs.OwnParts.{own_of}
use Rattle.machine_core.specs.Replays.{is_active_in}
use Rattle.machine_core.specs.RunLegal.{IsLegal, download_in, goes_on_in}
use Rattle.machine_core.specs.Starts.{Download, RunStart}
use Rattle.machine_core.specs.declared.events.Event.{Event}

-- a download that ended is never active again
abbrev pub ActiveAreGoing : Type 0
ActiveAreGoing =
    (start : RunStart) (past : List Event) (gid : Gid) → IsLegal start past → is_active_in start past gid ≡ true
    → is_ended (own_of start past gid) ≡ false

-- no claim stands of a download that isn't active
abbrev pub InactiveAreIdle : Type 0
InactiveAreIdle =
    (start : RunStart) (past : List Event) (gid : Gid) → IsLegal start past → is_active_in start past gid ≡ false
    → standing_claims (own_of start past gid) ≡ []

-- one that goes on no more never does again
abbrev pub GoneStay : Type 0
GoneStay =
    (start : RunStart) (past : List Event) (e : Event) (gid : Gid) (download : Download)
    → download_in start past gid ≡ Some download → goes_on_in start past gid ≡ false
    → goes_on_in start (e ∷ past) gid ≡ false

-- and one that ended doesn't go on
abbrev pub EndedAreGone : Type 0
EndedAreGone =
    (start : RunStart) (past : List Event) (gid : Gid) → IsLegal start past → is_ended (own_of start past gid) ≡ true
    → goes_on_in start past gid ≡ false
