-- What a worker is given to do.
use Rattle.std.specs.Prelude.{◌≡◌, ◌⊎◌, ℕ, ◌+◌, ◌-◌, Bool, true, false, Option, Some, None, List, [], ◌∷◌, length, slice_index_or}
use Rattle.dl_kinds.specs.Plan.{piece_end, piece_start}
use Rattle.dl_kinds.specs.declared.gid.Gid.{Gid}
use Rattle.dl_kinds.specs.declared.plan.Plan.{Plan}
use Rattle.dl_kinds.specs.declared.runs.Run.{Run}
use Rattle.metainfo.specs.Jobs.{run_parts}
use Rattle.span_map.specs.Jobs.{IsJob, run_end, run_start}
use Rattle.span_map.specs.declared.jobs.Job.{Job}
use Rattle.span_map.specs.declared.jobs.JobPart.{JobPart}
use Rattle.machine_core.specs.Choices.{mirror_urls}
use Rattle.machine_core.specs.Claiming.{next_to_open}
pub use Rattle.machine_core.specs.Clashes.{HasNoClash, IsClash}
use Rattle.machine_core.specs.Offers.{IsOffer, IsOffered, active_credits, no_blocks, offered_claim}
use Rattle.machine_core.specs.OwnParts.{PayloadLengths}
use Rattle.machine_core.specs.Replays.{queue_in}
use Rattle.machine_core.specs.RunLegal.{download_in, is_listed, known_lengths}
use Rattle.machine_core.specs.Starts.{Download, Subject, Listed, Unlisted}
use Rattle.machine_core.specs.declared.ends.End.{End}
use Rattle.machine_core.specs.declared.events.Event.{Event}
use Rattle.machine_core.specs.declared.events.Event.TheVariants.{Claimed, Ended}
use Rattle.machine_core.specs.declared.offers.Offer.{Offer}
use Rattle.machine_core.specs.declared.offers.Offer.TheVariants as offer
use Rattle.machine_core.specs.declared.offers.Offered.{Offered}
use Rattle.machine_core.specs.declared.offers.Offered.TheVariants as offered
use Rattle.engine_turns.specs.ClaimRows.{allowance}
use Rattle.engine_turns.specs.Phases.{AndThen, EndingOr, DiskFaultEnds, NoEvent, OpeningPhase, SettlingPhase, TurnStart}
use Rattle.engine_turns.specs.declared.outcome.Outcome.{Outcome}
use Rattle.engine_turns.specs.Standings.{AnswersOnly, AnswersUnlessStarved, RunStanding, levels_in}
use Rattle.engine_turns.specs.declared.limits.TheConstants.{MAX_ALLOWANCE}
use Rattle.engine_turns.specs.declared.operations.FetchGrant.{FetchGrant}
use Rattle.engine_turns.specs.declared.operations.Grant.TheVariants.{Fetch, Hash, Probe}
use Rattle.engine_turns.specs.declared.operations.Said.{Said}
use Rattle.engine_turns.specs.declared.operations.Said.TheVariants.{Done, Grant, Hold, Idle, NoMemory}

-- ---- an opening

-- the store opens it, and it ends where each wanted piece is verified
abbrev pub IsOpeningTurn : TurnStart → RunStanding → Download → List Event → Said → Type 0
IsOpeningTurn at s download events said =
    (outcome : Outcome) × AndThen (OpeningPhase at download.gid) (EndingOr at download NoEvent) s.past events outcome
    × AnswersUnlessStarved Done outcome said

-- it ends by a clash
abbrev pub IsClashed : TurnStart → RunStanding → Download → List Event → Said → Type 0
IsClashed at s download events said =
    (how : End) × IsClash at.start s.past download how × (events ≡ Ended download.gid how ∷ []) × (said ≡ Done)

abbrev pub OpenRow : TurnStart → RunStanding → Download → List Event → Said → Type 0
OpenRow at s download events said =
    IsClashed at s download events said
    ⊎ (HasNoClash at.start s.past download × IsOpeningTurn at s download events said)

-- ---- a full piece

-- the piece as the disk reads it is handed out to be hashed
pub record IsHashGrant (lengths : PayloadLengths) (gid : Gid) (piece : ℕ) (events : List Event) (said : Said) : Type 0
  where
    pub bytes : List ℕ
    pub len : piece_start lengths.piece_len piece + length bytes ≡ piece_end lengths.total lengths.piece_len piece
    pub is : AnswersOnly (Grant (Hash gid piece bytes)) events said

-- the disk failed, and the download ends
abbrev pub IsFaulted : TurnStart → Gid → List Event → Said → Type 0
IsFaulted at gid events said = DiskFaultEnds at gid events × (said ≡ Done)

-- without digests it counts as right at once
abbrev pub CountsAsRight : TurnStart → RunStanding → Download → ℕ → List Event → Said → Type 0
CountsAsRight at s download piece events said =
    (outcome : Outcome)
    × AndThen (SettlingPhase at download piece true) (EndingOr at download NoEvent) s.past events outcome
    × AnswersUnlessStarved Done outcome said

abbrev pub whole_row : TurnStart → RunStanding → Download → ℕ → Bool → List Event → Said → Type 0
whole_row at s download piece true events said =
    IsHashGrant (known_lengths at.start s.past download.gid) download.gid piece events said
    ⊎ IsFaulted at download.gid events said ⊎ AnswersOnly NoMemory events said
whole_row at s download piece false events said = CountsAsRight at s download piece events said

-- ---- blocks and probes

abbrev pub mirror_url : Subject → ℕ → List ℕ
mirror_url subject mirror = slice_index_or (mirror_urls subject) mirror []

-- what is to be asked of a mirror for a run of blocks
abbrev pub asked_parts_of : Subject → Plan → ℕ → Run → List JobPart
asked_parts_of (Listed meta uris) plan mirror run =
    run_parts meta.layout plan run (mirror_url (Listed meta uris) mirror)
asked_parts_of (Unlisted uris) plan mirror run =
    record {
      url = mirror_url (Unlisted uris) mirror;
      at = run_start plan run;
      len = run_end plan run - run_start plan run;
      total = plan.total;
    } ∷ []

pub record IsJobOf (lengths : PayloadLengths) (subject : Subject) (mirror : ℕ) (run : Run) (job : Job) : Type 0 where
  pub total : job.plan.total ≡ lengths.total
  pub piece_len : job.plan.piece_len ≡ lengths.piece_len
  pub run_is : job.run ≡ run
  pub parts : job.parts ≡ asked_parts_of subject job.plan mirror run
  pub sound : IsJob job

-- blocks are claimed of a mirror, and as many bytes let go as may be
pub record IsFetchGrant (at : TurnStart) (s : RunStanding) (worker : ℕ) (download : Download) (mirror : ℕ) (run : Run)
    (victim : Option ℕ) (events : List Event) (said : Said) : Type 0 where
  pub grant : FetchGrant
  pub claimed : events ≡ Claimed download.gid (offered_claim mirror run victim grant.claim worker at.now.0) ∷ []
  pub gid_is : grant.gid ≡ download.gid
  pub job_is : IsJobOf (known_lengths at.start s.past download.gid) download.subject mirror run grant.job
  pub allow_is : grant.allow ≡ allowance at s download.gid MAX_ALLOWANCE
  pub is : said ≡ Grant (Fetch grant)

-- a mirror is asked for the length
pub record IsProbing (at : TurnStart) (worker : ℕ) (download : Download) (mirror : ℕ) (events : List Event)
    (said : Said) : Type 0 where
  pub id : ℕ
  pub claimed : events ≡ Claimed download.gid (offered_claim mirror no_blocks None id worker at.now.0) ∷ []
  pub is : said ≡ Grant (Probe id download.gid (mirror_url download.subject mirror))

abbrev pub OfferRow : TurnStart → RunStanding → ℕ → Download → Offer → List Event → Said → Type 0
OfferRow at s worker download (offer.Whole piece) events said =
    whole_row at s download piece (is_listed download.subject) events said
OfferRow at s worker download (offer.Blocks mirror run victim) events said =
    IsFetchGrant at s worker download mirror run victim events said
OfferRow at s worker download (offer.Probe mirror) events said = IsProbing at worker download mirror events said

-- ---- the whole

-- what the active downloads offer while these pieces are handed out, each with its credit
abbrev pub offers_in : TurnStart → RunStanding → Offered → Type 0
offers_in at s offered =
    IsOffered (IsOffer s.handed at.start s.past at.now.0)
    (active_credits (queue_in at.start s.past) (levels_in s) at.now.0) offered

-- the first offer that its download's credit affords is carried out
pub record IsOfferGiven (at : TurnStart) (s : RunStanding) (worker : ℕ) (events : List Event) (said : Said) : Type 0
  where
    pub download : Download
    pub added : download_in at.start s.past download.gid ≡ Some download
    pub offer : Offer
    pub is : offers_in at s (offered.Next download.gid offer)
    pub row : OfferRow at s worker download offer events said

abbrev pub IsHolding : TurnStart → RunStanding → List Event → Said → Type 0
IsHolding at s events said = (wait : ℕ) × offers_in at s (offered.Held wait) × AnswersOnly (Hold wait) events said

abbrev pub IsIdling : TurnStart → RunStanding → List Event → Said → Type 0
IsIdling at s events said = offers_in at s offered.Idle × AnswersOnly Idle events said

-- the download to be opened next goes before all offers
pub record IsOpeningNext (at : TurnStart) (s : RunStanding) (events : List Event) (said : Said) : Type 0 where
  pub download : Download
  pub added : download_in at.start s.past download.gid ≡ Some download
  pub is : next_to_open at.start s.past ≡ Some download.gid
  pub row : OpenRow at s download events said

abbrev pub NextRow : TurnStart → RunStanding → ℕ → List Event → Said → Type 0
NextRow at s worker events said =
    IsOpeningNext at s events said
    ⊎ ((next_to_open at.start s.past ≡ None)
    × (IsOfferGiven at s worker events said ⊎ IsHolding at s events said ⊎ IsIdling at s events said))
