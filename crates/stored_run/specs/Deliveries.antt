-- Deliveries: runs of blocks that land, the pieces that they fill, and saves that are due.
use Rattle.std.specs.Prelude.{◌≡◌, ◌↔◌, ℕ, ◌+◌, ◌-◌, ◌≤◌, ◌<◌, All, AllPairs, Bool, true, false, Contains, IsTrue, List, slice_index_or, sum_by}
use Rattle.dl_history.specs.HistoryLaws.{IsFullIn}
use Rattle.dl_history.specs.OwnEvents.{OwnEvent}
use Rattle.dl_history.specs.PayloadParts.{is_settled_in, is_verified_in}
use Rattle.dl_kinds.specs.Plan.{block_end, block_start, blocks_of, piece_of, pieces_of}
use Rattle.dl_kinds.specs.declared.claims.Claim.{Claim}
use Rattle.dl_kinds.specs.declared.gid.Gid.{Gid}
use Rattle.dl_kinds.specs.declared.runs.Run.{Run}
use Rattle.engine_turns.specs.ClaimRows.{DueSavePhase, IsDelivery, IsFilled, blocks_in_event, filled_phase}
use Rattle.engine_turns.specs.Phases.{AllRightPhase, AndThen, EndingOr, FindingPhase, NoEvent, Phase, TurnStart}
use Rattle.engine_turns.specs.declared.limits.TheConstants.{MAX_DELIVERY}
use Rattle.engine_turns.specs.declared.outcome.Outcome.{Outcome}
use Rattle.engine_turns.specs.declared.outcome.Outcome.TheVariants.{Went}
use Rattle.machine_core.specs.OwnParts.{PayloadLengths, own_of}
use Rattle.machine_core.specs.Reads.{lengths_of_gid}
use Rattle.machine_core.specs.RunLegal.{is_listed}
use Rattle.machine_core.specs.Starts.{Download}
use Rattle.machine_core.specs.declared.events.Event.{Event}
use Rattle.stored_run.specs.Steps.{DoesPart}
use Rattle.stored_run.specs.Views.{own_in}
use Rattle.stored_run.specs.declared.run.StoredView.{StoredView}

-- ---- parts of a delivered run

-- some blocks of the run
pub record IsPartOf (run part : Run) : Type 0 where
  pub some : 1 ≤ part.count
  pub from : run.first ≤ part.first
  pub to : part.first + part.count ≤ run.first + run.count

-- 1 to 64 blocks of a run
pub record AreBlocksOf (whole run : Run) : Type 0 where
  pub some : 1 ≤ run.count
  pub few : run.count ≤ MAX_DELIVERY
  pub first : whole.first ≤ run.first
  pub last : run.first + run.count ≤ whole.first + whole.count

-- the bytes of the part stand from the one place to the other among those of the run
pub record IsRangeOf (lengths : PayloadLengths) (run part : Run) (from to : ℕ) : Type 0 where
  pub start : block_start lengths.piece_len run.first + from ≡ block_start lengths.piece_len part.first
  pub end : block_start lengths.piece_len run.first + to
      ≡ block_end lengths.total lengths.piece_len (part.first + part.count - 1)
  pub ordered : from ≤ to
  pub within : block_start lengths.piece_len run.first + to
      ≤ block_end lengths.total lengths.piece_len (run.first + run.count - 1)

-- how many blocks landed in a history
abbrev pub landed_total : List Event → ℕ
landed_total past = sum_by blocks_in_event past

-- so many blocks landed between two histories
abbrev pub LandedBetween : ℕ → (old new : List Event) → Type 0
LandedBetween counted old new = landed_total new ≡ counted + landed_total old

-- ---- full pieces

-- the piece of a run's first block, and that of its last
abbrev pub first_piece : PayloadLengths → Run → ℕ
first_piece lengths run = piece_of lengths.piece_len run.first

abbrev pub last_piece : PayloadLengths → Run → ℕ
last_piece lengths run = piece_of lengths.piece_len (run.first + run.count - 1)

-- a block of the run is of the piece, or one before it and one behind it
pub record IsAmong (lengths : PayloadLengths) (run : Run) (piece : ℕ) : Type 0 where
  pub from : first_piece lengths run ≤ piece
  pub to : piece ≤ last_piece lengths run

-- what a row has at the place of a piece, from the piece of the run's first block on
abbrev pub mark_at : PayloadLengths → Run → List Bool → ℕ → Bool
mark_at lengths run row piece = slice_index_or row (piece - first_piece lengths run) false

-- the row tells which pieces of the run are full
abbrev pub TellsFull : PayloadLengths → List OwnEvent → Run → List Bool → Type 0
TellsFull lengths own run row =
    (piece : ℕ) → IsAmong lengths run piece
    → IsTrue (mark_at lengths run row piece) ↔ IsFullIn lengths.total lengths.piece_len own piece

-- the piece of the run is full, and the row doesn't tell so
pub record IsFullBeside (lengths : PayloadLengths) (own : List OwnEvent) (run : Run) (row : List Bool) (piece : ℕ) : Type 0 where
  pub among : IsAmong lengths run piece
  pub full : IsFullIn lengths.total lengths.piece_len own piece
  pub unmarked : mark_at lengths run row piece ≡ false

-- all of these, ascending
pub record AreFullBeside (lengths : PayloadLengths) (own : List OwnEvent) (run : Run) (row : List Bool)
    (pieces : List ℕ) : Type 0 where
  pub exact : (piece : ℕ) → IsFullBeside lengths own run row piece → Contains pieces piece
  pub only : All (IsFullBeside lengths own run row) pieces
  pub ascending : AllPairs (λ earlier later. earlier < later) pieces

-- none of them is verified, or was settled since its last landing
pub record AreUnsettled (lengths : PayloadLengths) (own : List OwnEvent) (run : Run) (row : List Bool) : Type 0 where
  pub unverified : (piece : ℕ) → IsFullBeside lengths own run row piece → is_verified_in own piece ≡ false
  pub anew : (piece : ℕ) → IsFullBeside lengths own run row piece → is_settled_in lengths.piece_len own piece ≡ false

-- where a piece is full and isn't marked, it isn't verified, nor was it settled since its last landing
pub record IsUnsettledWhereFull (lengths : PayloadLengths) (own : List OwnEvent) (piece : ℕ) (marked : Bool) : Type 0
  where
    pub unverified : marked ≡ false → IsFullIn lengths.total lengths.piece_len own piece
        → is_verified_in own piece ≡ false
    pub anew : marked ≡ false → IsFullIn lengths.total lengths.piece_len own piece
        → is_settled_in lengths.piece_len own piece ≡ false

-- The row tells which pieces of the run were full in an earlier history, and only pieces of the run were filled since.
pub record MarksFilled (lengths : PayloadLengths) (before own : List OwnEvent) (run : Run) (row : List Bool) : Type 0 where
  pub told : TellsFull lengths before run row
  pub only : (piece : ℕ) → piece < pieces_of lengths.total lengths.piece_len → IsFilled lengths before own piece
      → IsAmong lengths run piece

-- a run of at most 64 blocks of the payload
pub record IsRunOfPayload (lengths : PayloadLengths) (run : Run) : Type 0 where
  pub some : 1 ≤ run.count
  pub few : run.count ≤ MAX_DELIVERY
  pub within : run.first + run.count ≤ blocks_of lengths.total lengths.piece_len

-- these pieces count as right, where the download has no digests
abbrev pub filling_phase : TurnStart → Download → Bool → List ℕ → Phase
filling_phase at download true pieces = NoEvent
filling_phase at download false pieces = AllRightPhase at download pieces

module _ {D : Type 0} where
  -- the pieces that are full beside the row count as right, where the download has no digests
  pub record FillsPieces (old : StoredView D) (faults : ℕ) (new : StoredView D) (faults_after : ℕ) (gid : Gid)
      (run : Run) (row : List Bool) (download : Download) : Type 0 where
    pub pieces : List ℕ
    pub are : is_listed download.subject ≡ false
        → AreFullBeside (lengths_of_gid old.machine gid) (own_in old gid) run row pieces
    pub did : DoesPart (λ at. filling_phase at download (is_listed download.subject) pieces) old faults new faults_after
        Went

  -- Where the row marks what was full in an earlier history, the pieces that were filled since count as right, and then
  -- the download ends, or is saved where that is due.
  abbrev pub FollowsSince : (old : StoredView D) → ℕ → (new : StoredView D) → ℕ → Gid → Run → List Bool → Download → Outcome
      → Type 0
  FollowsSince old faults new faults_after gid run row download outcome =
      (before : List Event)
      → MarksFilled (lengths_of_gid old.machine gid) (own_of old.machine.start before gid) (own_in old gid) run row
      → DoesPart (λ at. AndThen (filled_phase at before download (is_listed download.subject))
      (EndingOr at download (DueSavePhase at download))) old faults new faults_after outcome

  -- the piece is full, isn't marked, and counts as right
  pub record CountsPiece (old : StoredView D) (faults : ℕ) (new : StoredView D) (faults_after : ℕ) (gid : Gid)
      (piece : ℕ) (marked : Bool) : Type 0 where
    pub unmarked : marked ≡ false
    pub full : IsFullIn (lengths_of_gid old.machine gid).total (lengths_of_gid old.machine gid).piece_len (own_in old gid)
        piece
    pub did : DoesPart (λ at. FindingPhase at gid piece true) old faults new faults_after Went

  -- these pieces count as right
  pub record CountsFilled (old : StoredView D) (faults : ℕ) (new : StoredView D) (faults_after : ℕ) (gid : Gid)
      (run : Run) (row : List Bool) (download : Download) : Type 0 where
    pub pieces : List ℕ
    pub are : AreFullBeside (lengths_of_gid old.machine gid) (own_in old gid) run row pieces
    pub did : DoesPart (λ at. AllRightPhase at download pieces) old faults new faults_after Went

  -- a run of blocks of the claim, and its bytes
  abbrev pub Delivers : StoredView D → Gid → Claim → Run → List ℕ → Type 0
  Delivers r gid claim run bytes = IsDelivery (lengths_of_gid r.machine gid) claim run bytes
