-- What workers are given.
use Rattle.std.specs.Prelude.{◌≡◌, ◌+◌, ℕ, Bool, true, false, Contains, Option, Some, None, List, ◌∷◌, length, slice_get}
use Rattle.dl_kinds.specs.Plan.{piece_end, piece_start}
use Rattle.dl_kinds.specs.declared.claims.Claim.{Claim}
use Rattle.dl_kinds.specs.declared.gid.Gid.{Gid}
use Rattle.dl_kinds.specs.declared.runs.Run.{Run}
use Rattle.engine_turns.specs.NextRows.{CountsAsRight}
use Rattle.engine_turns.specs.Phases.{TurnStart}
use Rattle.engine_turns.specs.Standings.{IsHomeOf, RunStanding}
use Rattle.engine_turns.specs.declared.operations.Said.{Said}
use Rattle.machine_core.specs.Claiming.{IsClaimAt}
use Rattle.machine_core.specs.MachineViews.{IsNext, MachineView, place_in, standing_in}
use Rattle.machine_core.specs.Offers.{no_blocks, offered_claim}
use Rattle.machine_core.specs.OwnParts.{PayloadLengths}
use Rattle.machine_core.specs.Reads.{IsOpenedGid, downloads_in}
use Rattle.machine_core.specs.RunLegal.{download_in, is_listed}
use Rattle.machine_core.specs.Starts.{Download}
use Rattle.machine_core.specs.declared.events.Event.{Event}
use Rattle.machine_core.specs.declared.events.Event.TheVariants.{Claimed}
use Rattle.machine_core.specs.declared.offers.Offer.TheVariants.{Blocks, Probe, Whole}
use Rattle.machine_core.specs.declared.offers.Offered.{Offered}
use Rattle.machine_core.specs.declared.offers.Offered.TheVariants.{Next}
use Rattle.stored_run.specs.Settlings.{IsToBeSettled, UnreadRow}
use Rattle.stored_run.specs.Views.{IsGoing}
use Rattle.stored_run.specs.declared.run.StoredView.{StoredView}

-- a claim stands under this number, and only of the download at this place in the order of adding
pub record IsPlaceOfClaim (m : MachineView) (id place : ℕ) : Type 0 where
  pub download : Download
  pub claim : Claim
  pub home : IsHomeOf m.start m.past id download claim
  pub there : slice_get (downloads_in m) place ≡ Some download
  pub first : place ≡ place_in m.start m.past download.gid
  pub one : (gid : Gid) (twin : Claim) → Contains (standing_in m gid) twin → twin.id ≡ id → gid ≡ download.gid

-- as many bytes as the piece has
abbrev pub IsLongAsPiece : PayloadLengths → ℕ → List ℕ → Type 0
IsLongAsPiece lengths piece bytes =
    piece_start lengths.piece_len piece + length bytes ≡ piece_end lengths.total lengths.piece_len piece

-- ---- a full piece that isn't given

-- with digests it couldn't be read; without them it counts as right
abbrev pub ungiven_row : TurnStart → RunStanding → Download → ℕ → Bool → List Event → Said → Type 0
ungiven_row at s download piece true events said = UnreadRow download.gid at s events said
ungiven_row at s download piece false events said = CountsAsRight at s download piece events said

abbrev pub UngivenRow : Gid → ℕ → TurnStart → RunStanding → List Event → Said → Type 0
UngivenRow gid piece at s events said =
    (download : Download) × (download_in at.start s.past gid ≡ Some download)
    × ungiven_row at s download piece (is_listed download.subject) events said

module _ {D : Type 0} where
  -- a claim of these blocks may come, by any worker
  pub record MayGiveBlocks (r : StoredView D) (gid : Gid) (mirror : ℕ) (run : Run) (victim : Option ℕ) : Type 0 where
    pub opened : IsOpenedGid r.machine gid
    pub next : (worker : ℕ) → IsNext r.machine (IsClaimAt gid worker mirror run victim r.now)

  -- a probe may come, by any worker
  abbrev pub MayGiveProbe : StoredView D → Gid → ℕ → Type 0
  MayGiveProbe r gid mirror = (worker : ℕ) → IsNext r.machine (IsClaimAt gid worker mirror no_blocks None r.now)

  -- what was offered may be given
  abbrev pub MayBeGiven : StoredView D → Offered → Type 0
  MayBeGiven r (Next gid (Whole piece)) = IsGoing r gid × IsToBeSettled r gid piece
  MayBeGiven r (Next gid (Blocks mirror run victim)) = MayGiveBlocks r gid mirror run victim
  MayBeGiven r (Next gid (Probe mirror)) = MayGiveProbe r gid mirror
  MayBeGiven r other = Unit {0}

  -- the claim came under this number, and nothing else changed
  pub record MakesClaim (gid : Gid) (worker mirror : ℕ) (run : Run) (victim : Option ℕ) (id : ℕ) (old new : StoredView D)
      : Type 0 where
    pub past : new.machine.past ≡ Claimed gid (offered_claim mirror run victim id worker old.now.0) ∷ old.machine.past
    pub start : new.machine.start ≡ old.machine.start
    pub disk : new.disk ≡ old.disk
    pub wants : new.wants ≡ old.wants
    pub now : new.now ≡ old.now
