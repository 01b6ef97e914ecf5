-- What is claimed of what was offered, what is opened next, and which blocks of a claim are open.
use Rattle.std.specs.Prelude.{◌≡◌, ◌<◌, ◌≤◌, ◌&&◌, ℕ, Bool, true, false, not, Option, None, List, [], find, length}
use Rattle.std.specs.Option.{is_some}
use Rattle.dl_kinds.specs.declared.claims.Claim.{Claim}
use Rattle.dl_kinds.specs.declared.gid.Gid.{Gid}
use Rattle.dl_kinds.specs.declared.runs.Moment.{Moment}
use Rattle.dl_kinds.specs.declared.runs.Run.{Run}
use Rattle.dl_history.specs.OwnEvents.{OwnEvent}
use Rattle.dl_history.specs.PayloadParts.{is_opened}
use Rattle.dl_history.specs.StandingClaims.{is_open_since}
use Rattle.one_download.specs.DownloadViews.{DownloadView, IsClaimOf, IsProbeAt, is_opened_by}
use Rattle.piece_table.specs.NewRuns.{AreRunsOf}
use Rattle.rate_limits.specs.Shared.{RunLevels}
use Rattle.segment_claim.specs.declared.limits.TheConstants.{MAX_SPLIT}
use Rattle.machine_core.specs.MachineViews.{IsFindingOf, IsNext, MachineView, StandsNowhere, StandsUnder, mark_spare_in}
use Rattle.machine_core.specs.Offers.{IsOffer, IsOffered, active_credits, no_blocks, offered_claim}
use Rattle.machine_core.specs.OwnParts.{own_of, payload_lengths_of}
use Rattle.machine_core.specs.Replays.{queue_in}
use Rattle.machine_core.specs.Starts.{RunStart}
use Rattle.machine_core.specs.declared.events.Event.{Event}
use Rattle.machine_core.specs.declared.events.Event.TheVariants.{Claimed}
use Rattle.machine_core.specs.declared.handed.Handed.{Handed}
use Rattle.machine_core.specs.declared.offers.Offer.TheVariants.{Whole, Blocks, Probe}
use Rattle.machine_core.specs.declared.offers.Offered.{Offered}
use Rattle.machine_core.specs.declared.offers.Offered.TheVariants.{Next}

-- ---- openings

-- the length is known, and the download isn't opened
abbrev pub is_to_open : RunStart → List Event → Gid → Bool
is_to_open start past gid = is_some (payload_lengths_of start past gid) && not (is_opened (own_of start past gid))

-- the first active download that is to be opened
abbrev pub next_to_open : RunStart → List Event → Option Gid
next_to_open start past = find (is_to_open start past) (queue_in start past).active

-- ---- offers

-- what a worker is answered at this moment, while these pieces are handed out and with these buckets
abbrev pub IsOfferedNow : MachineView → List Handed → RunLevels → ℕ → Offered → Type 0
IsOfferedNow m handed levels now offered =
    IsOffered (IsOffer handed m.start m.past now) (active_credits (queue_in m.start m.past) levels now) offered

-- ---- claims

-- a claim of this offer comes, by a worker and under a number: blocks, or the empty run of a probe
abbrev pub IsClaimUnder : ℕ → Gid → ℕ → ℕ → Run → Option ℕ → Moment → Event → Type 0
IsClaimUnder id gid worker mirror run victim now e =
    e ≡ Claimed gid (offered_claim mirror run victim id worker now.0)

-- .. under any number
abbrev pub IsClaimAt : Gid → ℕ → ℕ → Run → Option ℕ → Moment → Event → Type 0
IsClaimAt gid worker mirror run victim now e = (id : ℕ) × IsClaimUnder id gid worker mirror run victim now e

-- what was offered may be taken: a full piece found right, or a claim by any worker
abbrev pub MayBeTaken : MachineView → Moment → Offered → Type 0
MayBeTaken m now (Next gid (Whole piece)) = IsNext m (IsFindingOf gid piece true)
MayBeTaken m now (Next gid (Blocks mirror run victim)) =
    (worker : ℕ) → IsNext m (IsClaimAt gid worker mirror run victim now)
MayBeTaken m now (Next gid (Probe mirror)) = (worker : ℕ) → IsNext m (IsClaimAt gid worker mirror no_blocks None now)
MayBeTaken m now other = Unit {0}

-- there is no less room for marks
abbrev pub KeepsMarkRoom : MachineView → MachineView → Type 0
KeepsMarkRoom old new = (gid : Gid) → mark_spare_in old gid ≤ mark_spare_in new gid

-- ---- what a download is given

-- blocks once it is opened, and a probe while no claim of it stands before that
pub record MayBeGivenClaim (d : DownloadView) (claim : Claim) : Type 0 where
  pub room : 1 ≤ d.spare
  pub blocks : is_opened_by d.account ≡ true → IsClaimOf d claim
  pub few : is_opened_by d.account ≡ true → length d.account.standing < MAX_SPLIT
  pub number : is_opened_by d.account ≡ true → d.account.next ≤ claim.id
  pub alone : is_opened_by d.account ≡ false → d.account.standing ≡ []
  pub probe : is_opened_by d.account ≡ false → IsProbeAt d.mirrors claim

-- but for the claim and the room for it
pub record StaysGiven (old new : DownloadView) : Type 0 where
  pub wanted : new.wanted ≡ old.wanted
  pub mirrors : new.mirrors ≡ old.mirrors
  pub max_tries : new.max_tries ≡ old.max_tries
  pub marks : new.marks ≡ old.marks
  pub mark_spare : new.mark_spare ≡ old.mark_spare

-- ---- open blocks

-- the maximal runs of those blocks of a run that are open in the claim
abbrev pub AreOpenIn : List OwnEvent → Claim → Run → List Run → Type 0
AreOpenIn own claim run runs = AreRunsOf (λ block. is_open_since own claim block ≡ true) run runs

-- the runs of the blocks of a run that are open in the claim under the number; none, where none stands
pub record AreOpenRuns (m : MachineView) (id : ℕ) (run : Run) (runs : List Run) : Type 0 where
  pub stands : (gid : Gid) (claim : Claim) → StandsUnder m id gid claim
      → AreOpenIn (own_of m.start m.past gid) claim run runs
  pub none : StandsNowhere m id → runs ≡ []
