-- What an active download has to offer where no claim stands.
use Rattle.std.specs.Prelude.{◌≡◌, ◌≤◌, ℕ, None, Some, List, []}
use Rattle.dl_kinds.specs.declared.gid.Gid.{Gid}
use Rattle.dl_history.specs.StandingClaims.{standing_claims}
use Rattle.machine_core.specs.Choices.{options_now}
use Rattle.machine_core.specs.Claiming.{next_to_open}
use Rattle.machine_core.specs.Offers.{IsOffer}
use Rattle.machine_core.specs.OwnParts.{own_of}
use Rattle.machine_core.specs.RunLegal.{download_in, mirrors_by, tries_in}
use Rattle.machine_core.specs.Starts.{Download, RunStart}
use Rattle.machine_core.specs.declared.events.Event.{Event}
use Rattle.machine_core.specs.declared.offers.Offer.{Offer}
use Rattle.option_set.specs.Values.{number_value}
use Rattle.option_set.specs.declared.kinds.Num.TheVariants.{MaxConnectionPerServer, Split}

-- The download has a mirror, each mirror has a try for a piece, and claims of it may stand: on a
-- host, and of the payload.
pub record MayBeFetched (start : RunStart) (past : List Event) (download : Download) : Type 0 where
  pub mirrors : 1 ≤ mirrors_by download.subject
  pub tries : 1 ≤ tries_in download
  pub per_host : 1 ≤ number_value (options_now start past download) MaxConnectionPerServer
  pub split : 1 ≤ number_value (options_now start past download) Split

-- so may each that was added
abbrev pub AllMayBeFetched : RunStart → List Event → Type 0
AllMayBeFetched start past =
    (gid : Gid) (download : Download) → download_in start past gid ≡ Some download
    → MayBeFetched start past download

-- no claim stands of any download, and none is to be opened
pub record IsAtRest (start : RunStart) (past : List Event) : Type 0 where
  pub none : (gid : Gid) → standing_claims (own_of start past gid) ≡ []
  pub opened : next_to_open start past ≡ None

-- it isn't so that the download has nothing to offer while no piece is handed out
abbrev pub HasOffer : RunStart → List Event → ℕ → Gid → Type 0
HasOffer start past now gid = ¬ ((offer : Offer) → ¬ IsOffer [] start past now gid offer)
