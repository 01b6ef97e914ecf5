-- Which event of a run may come next, and which histories of a run are legal.
use Rattle.std.specs.Prelude.{◌≡◌, ◌≢◌, ◌⊎◌, ◌&&◌, ◌+◌, ◌-◌, ◌^◌, ◌<◌, ◌≤◌, not, ℕ, Bool, true, false, Option, Some, None, List, [], ◌∷◌, All, count_by, length}
use Rattle.std.specs.List.{list_any, filter_map}
use Rattle.std.specs.Option.{is_some, option_map_or, unwrap_or}
use Rattle.dl_kinds.specs.Plan.{IsPlan}
use Rattle.dl_kinds.specs.declared.gid.Gid.{Gid}
use Rattle.dl_kinds.specs.declared.claims.Claim.{Claim}
use Rattle.dl_kinds.specs.declared.marks.Mark.{Mark}
use Rattle.dl_kinds.specs.declared.runs.Moment.{Moment}
use Rattle.dl_queue.specs.Calls.{is_unfinished}
use Rattle.dl_queue.specs.Lists.{QueueLists}
use Rattle.dl_queue.specs.Places.{status_of}
use Rattle.mirror_blame.specs.declared.blame.Blame.{Blame}
use Rattle.mirror_blame.specs.Marks.{IsDead, last_mark_of}
use Rattle.option_set.specs.Values.{number_value, text_of_word}
use Rattle.option_set.specs.declared.kinds.Num.TheVariants as num
use Rattle.option_set.specs.declared.kinds.Word.TheVariants as word
use Rattle.piece_table.specs.Progress.{IsStart}
use Rattle.dl_history.specs.StandingClaims.{standing_claims}
use Rattle.dl_history.specs.OwnEvents.{OwnEvent, Lands, Settles, Clears, Loses, Sizes, Saves, Checks, Halts}
use Rattle.dl_history.specs.OwnLegal.{MayHappen, IsCompleteIn, IsLossOf, LegalOwn}
use Rattle.dl_history.specs.PayloadParts.{is_opened, blames_in, told_total, last_check}
use Rattle.machine_core.specs.Starts.{RunStart, Download, Subject, Listed, Unlisted}
use Rattle.machine_core.specs.Replays.{replay_of, queue_in, download_of, is_active_in}
use Rattle.machine_core.specs.Choices.{IsGranted}
use Rattle.machine_core.specs.FileNames.{ShareName}
use Rattle.machine_core.specs.Wanted.{wanted_pieces}
use Rattle.machine_core.specs.OwnParts.{PayloadLengths, no_lengths, own_of, payload_lengths_of}
use Rattle.machine_core.specs.LawfulCalls.{IsLawful}
use Rattle.machine_core.specs.declared.ends.End.{End}
use Rattle.machine_core.specs.declared.ends.End.TheVariants as end
use Rattle.machine_core.specs.declared.events.Event.{Event}
use Rattle.machine_core.specs.declared.events.Event.TheVariants.{Called, Opened, Sized, Claimed, Landed, Settled, Cleared, Lost, Checked, Saved, Ended, Left}
use Rattle.machine_core.specs.declared.events.Event.TheVariants as event

-- ---- moments, claims, doors

abbrev pub moment_of_event : Event → Option Moment
moment_of_event (Called session asked now) = Some now
moment_of_event (Opened gid verified blocks now) = Some now
moment_of_event (Claimed gid claim) = Some claim.since
moment_of_event (Landed gid id mirror run now) = Some now
moment_of_event (Saved gid now) = Some now
moment_of_event e = None

-- no moment of the history is later
abbrev pub IsLaterThan : List Event → Moment → Type 0
IsLaterThan past now = All (λ earlier. earlier.0 ≤ now.0) (filter_map moment_of_event past)

abbrev pub claim_of_event : Event → Option ℕ
claim_of_event (Claimed gid claim) = Some claim.id
claim_of_event e = None

-- the number is above those of all claims
abbrev pub IsNewNumber : List Event → ℕ → Type 0
IsNewNumber past id = All (λ earlier. earlier < id) (filter_map claim_of_event past)

abbrev pub makes_claim : Event → Bool
makes_claim e = is_some (claim_of_event e)

-- claims are numbered from 0; the number of the next one
abbrev pub next_number : List Event → ℕ
next_number past = count_by makes_claim past

abbrev pub is_left : Event → Bool
is_left Left = true
is_left e = false

abbrev pub is_stop : Event → Bool
is_stop event.Stopped = true
is_stop e = false

-- how many doors stand
abbrev pub doors_left : RunStart → List Event → ℕ
doors_left start past = start.doors - count_by is_left past

-- ---- one download

-- its lengths, and 0 while they aren't known
abbrev pub known_lengths : RunStart → List Event → Gid → PayloadLengths
known_lengths start past gid = unwrap_or (payload_lengths_of start past gid) no_lengths

abbrev pub download_in : RunStart → List Event → Gid → Option Download
download_in start past gid = download_of (replay_of start past).downloads gid

-- the download was added, and its own event may come next
pub record MayOwn (start : RunStart) (past : List Event) (gid : Gid) (e : OwnEvent) : Type 0 where
  pub download : Download
  pub added : download_in start past gid ≡ Some download
  pub may : MayHappen (known_lengths start past gid).total (known_lengths start past gid).piece_len
      (own_of start past gid) e

abbrev pub is_listed : Subject → Bool
is_listed (Listed meta uris) = true
is_listed (Unlisted uris) = false

-- it is opened once, while it is active and its length is known: with verified pieces and landed blocks of its plan
pub record MayBeOpened (start : RunStart) (past : List Event) (gid : Gid) (verified blocks : List Bool) (now : Moment)
    : Type 0 where
  pub download : Download
  pub added : download_in start past gid ≡ Some download
  pub active : is_active_in start past gid ≡ true
  pub lengths : PayloadLengths
  pub known : payload_lengths_of start past gid ≡ Some lengths
  pub plan : IsPlan lengths.total lengths.piece_len
  pub rows : IsStart lengths.total lengths.piece_len verified blocks
  pub first : is_opened (own_of start past gid) ≡ false
  pub later : IsLaterThan past now

-- the payload of a download without a metainfo file counts as right once it is full
pub record MayBeSettled (start : RunStart) (past : List Event) (gid : Gid) (e : OwnEvent) (right : Bool) : Type 0
  where
    pub own : MayOwn start past gid e
    pub right_is : is_listed own.download.subject ≡ false → right ≡ true

-- the whole payload is to have a checksum; it counts for a download without a metainfo file, whose pieces have no digests
abbrev pub has_checksum : Download → Bool
has_checksum download = not (is_listed download.subject) && is_some (text_of_word download.options word.Checksum)

-- a download without a metainfo file that has a checksum
pub record MayBeChecked (start : RunStart) (past : List Event) (gid : Gid) (right : Bool) : Type 0 where
  pub own : MayOwn start past gid (Checks right)
  pub unlisted : is_listed own.download.subject ≡ false
  pub checksum : is_some (text_of_word own.download.options word.Checksum) ≡ true

-- ---- clearings

-- what came last is the loss of this piece
abbrev pub IsDirectLoss : Gid → ℕ → List Event → Type 0
IsDirectLoss gid piece (Lost other id mirror lost mark ∷ before) = (other ≡ gid) × (lost ≡ piece)
IsDirectLoss gid piece past = ⊥

pub record MayBeCleared (start : RunStart) (past : List Event) (gid : Gid) (piece : ℕ) : Type 0 where
  pub own : MayOwn start past gid (Clears piece)
  pub direct : IsLossOf piece (own_of start past gid) → IsDirectLoss gid piece past

-- ---- ends

abbrev pub mirrors_by : Subject → ℕ
mirrors_by (Listed meta uris) = length meta.seeds + length uris
mirrors_by (Unlisted uris) = length uris

-- the tries of each mirror for a piece
abbrev pub tries_in : Download → ℕ
tries_in download = number_value download.options num.MaxTries

-- the marks of the download's mirrors, the newest first
abbrev pub marks_in : RunStart → List Event → Gid → List Blame
marks_in start past gid = blames_in (own_of start past gid)

pub record IsDeadIn (start : RunStart) (past : List Event) (download : Download) (piece : ℕ) (mark : Mark) : Type 0
  where
    pub dead : IsDead (mirrors_by download.subject) (tries_in download) (marks_in start past download.gid) piece
    pub last : last_mark_of (tries_in download) (marks_in start past download.gid) piece ≡ Some mark

abbrev pub disk_fault_of : Event → Option ℕ
disk_fault_of (Ended gid (end.Disk count)) = Some count
disk_fault_of e = None

-- the count is above that of each earlier fault of the disk, or as high as a count goes
abbrev pub IsNewFault : List Event → ℕ → Type 0
IsNewFault past count = All (λ earlier. earlier < count) (filter_map disk_fault_of past) ⊎ (count ≡ 2 ^ 64 - 1)

-- it is to be opened: it is active, its length is known, and it isn't opened
pub record IsOpening (start : RunStart) (past : List Event) (gid : Gid) : Type 0 where
  pub active : is_active_in start past gid ≡ true
  pub known : is_some (payload_lengths_of start past gid) ≡ true
  pub unopened : is_opened (own_of start past gid) ≡ false

-- it is active, or waits
abbrev pub goes_on : QueueLists → Gid → Bool
goes_on queue gid = option_map_or is_unfinished (status_of queue gid) false

abbrev pub goes_on_in : RunStart → List Event → Gid → Bool
goes_on_in start past gid = goes_on (queue_in start past) gid

-- another download that is opened and goes on
pub record IsOpenedBeside (start : RunStart) (past : List Event) (gid other : Gid) : Type 0 where
  pub apart : other.0 ≢ gid.0
  pub opened : is_opened (own_of start past other) ≡ true
  pub going : goes_on_in start past other ≡ true

abbrev pub info_hash_by : Subject → Option (List ℕ)
info_hash_by (Listed meta uris) = Some meta.info_hash
info_hash_by (Unlisted uris) = None

-- it writes a file of another
pub record HasSameFile (start : RunStart) (past : List Event) (download : Download) (other : Gid) : Type 0 where
  pub beside : IsOpenedBeside start past download.gid other
  pub twin : Download
  pub added : download_in start past other ≡ Some twin
  pub shared : ShareName download twin

-- it is of the same payload as another
pub record HasSameHash (start : RunStart) (past : List Event) (download : Download) (other : Gid) : Type 0 where
  pub beside : IsOpenedBeside start past download.gid other
  pub twin : Download
  pub added : download_in start past other ≡ Some twin
  pub listed : is_some (info_hash_by download.subject) ≡ true
  pub same : info_hash_by twin.subject ≡ info_hash_by download.subject

-- a probe told a total of which no plan has pieces of the download's length
pub record IsTooLong (own : List OwnEvent) (download : Download) (total : ℕ) : Type 0 where
  pub told : told_total own ≡ Some total
  pub none : IsPlan total (number_value download.options num.PieceLength) → ⊥

-- the kept values show why
abbrev pub IsEndCause : RunStart → List Event → Download → List Bool → End → Type 0
IsEndCause start past download wanted end.Complete =
    IsCompleteIn wanted (has_checksum download) (own_of start past download.gid)
IsEndCause start past download wanted (end.Dead piece mark) = IsDeadIn start past download piece mark
IsEndCause start past download wanted (end.Disk count) = IsNewFault past count
IsEndCause start past download wanted (end.Exists length) =
    IsOpening start past download.gid × (is_listed download.subject ≡ false)
IsEndCause start past download wanted (end.PieceLength have want) =
    IsOpening start past download.gid × (want ≡ (known_lengths start past download.gid).piece_len) × (have ≢ want)
IsEndCause start past download wanted (end.Length have want) =
    IsOpening start past download.gid × (want ≡ (known_lengths start past download.gid).total) × (have ≢ want)
IsEndCause start past download wanted end.InfoHash = IsOpening start past download.gid
IsEndCause start past download wanted (end.Unreadable at) = IsOpening start past download.gid
IsEndCause start past download wanted (end.TooLarge total) = IsTooLong (own_of start past download.gid) download total
IsEndCause start past download wanted (end.SameFile other) =
    IsOpening start past download.gid × HasSameFile start past download other
IsEndCause start past download wanted (end.SameHash other) =
    IsOpening start past download.gid × HasSameHash start past download other
IsEndCause start past download wanted end.Checksum = last_check (own_of start past download.gid) ≡ Some false

pub record MayBeEnded (start : RunStart) (past : List Event) (gid : Gid) (how : End) : Type 0 where
  pub own : MayOwn start past gid (Halts true)
  pub cause : IsEndCause start past own.download (wanted_pieces own.download (known_lengths start past gid)) how

-- ---- any event

-- the claim is the choice of its active download, under a new number
pub record MayBeClaimed (start : RunStart) (past : List Event) (gid : Gid) (claim : Claim) : Type 0 where
  pub download : Download
  pub added : download_in start past gid ≡ Some download
  pub active : is_active_in start past gid ≡ true
  pub granted : IsGranted start past gid download claim
  pub fresh : IsNewNumber past claim.id
  pub later : IsLaterThan past claim.since

abbrev pub MayFollow : RunStart → List Event → Event → Type 0
MayFollow start past (Called session asked now) = IsLawful asked × IsLaterThan past now
MayFollow start past (Opened gid verified blocks now) = MayBeOpened start past gid verified blocks now
MayFollow start past (Sized gid id total) = MayOwn start past gid (Sizes id total)
MayFollow start past (Claimed gid claim) = MayBeClaimed start past gid claim
MayFollow start past (Landed gid id mirror run now) = MayOwn start past gid (Lands id mirror run)
    × IsLaterThan past now
MayFollow start past (Settled gid piece right giver) = MayBeSettled start past gid (Settles piece right giver) right
MayFollow start past (Cleared gid piece) = MayBeCleared start past gid piece
MayFollow start past (Lost gid id mirror piece mark) = MayOwn start past gid (Loses id mirror piece mark)
MayFollow start past (Checked gid right) = MayBeChecked start past gid right
MayFollow start past (Saved gid now) = MayOwn start past gid (Saves now) × IsLaterThan past now
MayFollow start past (Ended gid how) = MayBeEnded start past gid how
MayFollow start past Left = 1 ≤ doors_left start past
MayFollow start past event.Stopped = list_any is_stop past ≡ false

abbrev pub IsLegal : RunStart → List Event → Type 0
IsLegal start [] = Unit {0}
IsLegal start (e ∷ before) = IsLegal start before × MayFollow start before e

-- each download's part of a legal history is legal
abbrev pub DownloadsAreLegal : Type 0
DownloadsAreLegal =
    (start : RunStart) (past : List Event) (gid : Gid)
    → IsLegal start past
    → LegalOwn (known_lengths start past gid).total (known_lengths start past gid).piece_len (own_of start past gid)

-- a download whose length is known and that isn't opened has no claim that stands
abbrev pub KnownAreIdle : Type 0
KnownAreIdle =
    (start : RunStart) (past : List Event) (gid : Gid) (lengths : PayloadLengths)
    → IsLegal start past → payload_lengths_of start past gid ≡ Some lengths
    → is_opened (own_of start past gid) ≡ false
    → standing_claims (own_of start past gid) ≡ []

-- a download stays what it was added as ..
abbrev pub DownloadsStay : Type 0
DownloadsStay =
    (start : RunStart) (past : List Event) (event : Event) (gid : Gid) (download : Download)
    → download_in start past gid ≡ Some download → download_in start (event ∷ past) gid ≡ Some download

-- .. and its lengths stay once they are known
abbrev pub LengthsStay : Type 0
LengthsStay =
    (start : RunStart) (past : List Event) (event : Event) (gid : Gid) (lengths : PayloadLengths)
    → IsLegal start (event ∷ past) → payload_lengths_of start past gid ≡ Some lengths
    → payload_lengths_of start (event ∷ past) gid ≡ Some lengths
