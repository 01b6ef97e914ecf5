-- Pieces that are found right or wrong, and downloads that end.
use Rattle.std.specs.Prelude.{◌≡◌, ◌≢◌, ◌↔◌, ◌⊎◌, ℕ, Bool, true, false, Contains, IsTrue, List, ◌++◌, slice_get, Some}
use Rattle.std.specs.Option.{option_map_or}
use Rattle.control_file.specs.Wants.{IsListedWant}
use Rattle.control_file.specs.declared.want.Want.{Want}
use Rattle.dl_disk.specs.Files.{Files}
use Rattle.dl_history.specs.OwnEvents.{OwnEvent}
use Rattle.dl_history.specs.OwnLegal.{IsLossOf, IsWrongLast, MaySettle}
use Rattle.dl_history.specs.PayloadParts.{is_verified_in, is_wrong_in}
use Rattle.dl_kinds.specs.Checksum.{SpellsDigest}
use Rattle.dl_kinds.specs.ChecksumView.{ChecksumView}
use Rattle.dl_kinds.specs.declared.checksum.HashType.{HashType}
use Rattle.dl_kinds.specs.declared.gid.Gid.{Gid}
use Rattle.engine_turns.specs.NextRows.{CountsAsRight, IsFaulted}
use Rattle.engine_turns.specs.Phases.{AndThen, EndingOr, IsWantedVerified, NoEvent, SettlingPhase, TurnStart}
use Rattle.engine_turns.specs.SealRows.{IsSettled, has_listed_digest}
use Rattle.engine_turns.specs.Standings.{AnswersOnly, AnswersUnlessStarved, RunStanding}
use Rattle.engine_turns.specs.declared.operations.Said.{Said}
use Rattle.engine_turns.specs.declared.operations.Said.TheVariants.{Done, NoMemory, Void}
use Rattle.engine_turns.specs.declared.outcome.Outcome.{Outcome}
use Rattle.machine_core.specs.Reads.{IsPieceOfGid}
use Rattle.machine_core.specs.RunLegal.{download_in, is_listed, known_lengths}
use Rattle.machine_core.specs.Starts.{Download}
use Rattle.machine_core.specs.declared.events.Event.{Event}
use Rattle.machine_core.specs.declared.events.Event.TheVariants.{Settled}
use Rattle.option_set.specs.Values.{text_of_word}
use Rattle.option_set.specs.declared.kinds.Word.TheVariants.{Checksum}
use Rattle.payload_files.specs.Payload.{payload_in}
use Rattle.piece_table.specs.declared.giver.Giver.{Giver}
use Rattle.resume_core.specs.Resume.{HasDigest}
use Rattle.resume_core.specs.Runs.{ReadsPiece}
use Rattle.resume_core.specs.Wants.{files_in}
use Rattle.sha1.specs.Sha1.{sha1}
use Rattle.stored_run.specs.Steps.{DoesPart}
use Rattle.stored_run.specs.Views.{IsGoing, kept_want_of, own_in}
use Rattle.stored_run.specs.declared.run.StoredView.{StoredView}
use Rattle.verify_piece.specs.Checks.{has_digest}
use Rattle.verify_piece.specs.Hashes.{digest_by, TookMessage}
use Rattle.verify_piece.specs.Seals.{PieceBytes}
use Rattle.verify_piece.specs.declared.whole.WholeHash.{WholeHash}

-- ---- the bytes of a payload

abbrev pub payload_of : Want → Files → List ℕ
payload_of want seen = payload_in want.dir want.layout seen

-- the hash took these bytes behind all others
abbrev pub TookMore : WholeHash → WholeHash → List ℕ → Type 0
TookMore old new bytes =
    (hash : HashType) (message : List ℕ) → TookMessage hash old.hasher message
    → TookMessage hash new.hasher (message ++ bytes)

-- it tells whether the payload in these files has the digest
abbrev pub IsTruly : Bool → ChecksumView → Want → Files → Type 0
IsTruly right check want seen = IsTrue right ↔ (digest_by check.hash (payload_of want seen) ≡ check.digest)

-- The piece was found wrong, and is to be cleared for that: none of its blocks came since, and no loss came last.
pub record IsWrongNow (len piece : ℕ) (own : List OwnEvent) : Type 0 where
  pub unverified : is_verified_in own piece ≡ false
  pub wrong : is_wrong_in own piece ≡ true
  pub last : IsWrongLast len piece own
  pub unlost : IsLossOf piece own → ⊥

-- the check is the one that an option of the download spells
pub record SpellsCheckOf (download : Download) (check : ChecksumView) : Type 0 where
  pub unlisted : is_listed download.subject ≡ false
  pub text : List ℕ
  pub option : text_of_word download.options Checksum ≡ Some text
  pub spelled : SpellsDigest check.hash check.digest text

-- the bytes have the digest that is listed at the place of their piece, where there is one
abbrev pub has_digest_in : List (List ℕ) → PieceBytes → Bool
has_digest_in digests sealed = option_map_or (has_digest sealed.bytes) (slice_get digests sealed.piece) true

-- the event came between two histories
pub record CameBetween (old new : List Event) (e : Event) : Type 0 where
  pub newer : List Event
  pub grown : new ≡ newer ++ old
  pub has : Contains newer e

module _ {D : Type 0} where
  -- it holds of the download that was added with this gid
  abbrev pub OfDownload : StoredView D → Gid → (Download → Type 0) → Type 0
  OfDownload r gid P = (download : Download) → download_in r.machine.start r.machine.past gid ≡ Some download → P download

  -- it holds of what the disk is to keep of the download
  abbrev pub OfWant : StoredView D → Gid → (Want → Type 0) → Type 0
  OfWant r gid P = (want : Want) → kept_want_of r gid ≡ Some want → P want

  -- its whole payload may be compared with this
  pub record MayBeCheckedBy (r : StoredView D) (gid : Gid) (check : ChecksumView) : Type 0 where
    pub download : Download
    pub added : download_in r.machine.start r.machine.past gid ≡ Some download
    pub spelled : SpellsCheckOf download check
    pub done : IsWantedVerified r.machine.start r.machine.past download

  abbrev pub IsDone : StoredView D → Download → Type 0
  IsDone r = IsWantedVerified r.machine.start r.machine.past

  -- a piece of a download that goes on was found wrong
  pub record IsFoundWrong (r : StoredView D) (gid : Gid) (piece : ℕ) : Type 0 where
    pub going : IsGoing r gid
    pub within : IsPieceOfGid r.machine gid piece
    pub own : IsWrongNow (known_lengths r.machine.start r.machine.past gid).piece_len piece (own_in r gid)

  -- a full piece that is to be found right or wrong
  pub record IsToBeSettled (r : StoredView D) (gid : Gid) (piece : ℕ) : Type 0 where
    pub download : Download
    pub added : download_in r.machine.start r.machine.past gid ≡ Some download
    pub giver : Giver
    pub may : MaySettle (known_lengths r.machine.start r.machine.past gid).total
        (known_lengths r.machine.start r.machine.past gid).piece_len (own_in r gid) piece giver

  -- a piece with a digest has it in these files
  abbrev pub HasItsDigest : StoredView D → Gid → ℕ → Files → Type 0
  HasItsDigest r gid piece seen =
      OfWant r gid (λ want. IsListedWant want → HasDigest want (files_in want seen) piece)

  -- these are the bytes of a piece in these files
  abbrev pub ReadsPieceOf : StoredView D → Gid → ℕ → Files → List ℕ → Type 0
  ReadsPieceOf r gid piece seen bytes = OfWant r gid (λ want. ReadsPiece want piece seen bytes)

  -- sealed bytes have the digest that is listed for their piece
  abbrev pub IsListedDigest : StoredView D → Gid → PieceBytes → Type 0
  IsListedDigest r gid sealed =
      OfWant r gid (λ want. IsListedWant want → slice_get want.digests sealed.piece ≡ Some (sha1 sealed.bytes))

  -- the sealed bytes aren't those that were read, and the seal is void; or they are, and the piece is settled by its digest
  abbrev pub SettlesIfSame : Download → PieceBytes → List ℕ → (old : StoredView D) → ℕ → (new : StoredView D) → ℕ → Said
      → Type 0
  SettlesIfSame download sealed bytes old faults new faults_after said =
      ((bytes ≢ sealed.bytes) × (new ≡ old) × (said ≡ Void))
      ⊎ ((bytes ≡ sealed.bytes) × ((outcome : Outcome) × AnswersUnlessStarved Done outcome said
      × DoesPart (λ at. AndThen (SettlingPhase at download sealed.piece (has_listed_digest download.subject sealed))
      (EndingOr at download NoEvent)) old faults new faults_after outcome))

-- the piece was settled between two histories
abbrev pub IsSettledBetween : (old new : List Event) → Gid → ℕ → Type 0
IsSettledBetween old new gid piece =
    (right : Bool) × (giver : Giver) × CameBetween old new (Settled gid piece right giver)

-- a fault of the disk ended the download, or memory ran out
abbrev pub UnreadRow : Gid → TurnStart → RunStanding → List Event → Said → Type 0
UnreadRow gid at s events said = IsFaulted at gid events said ⊎ AnswersOnly NoMemory events said

-- the piece counts as right
abbrev pub CountedRow : Gid → ℕ → TurnStart → RunStanding → List Event → Said → Type 0
CountedRow gid piece at s events said =
    (download : Download) × (download_in at.start s.past gid ≡ Some download)
    × CountsAsRight at s download piece events said

-- nothing came and the seal is void, or the piece is settled
abbrev pub SealedRow : Gid → PieceBytes → TurnStart → RunStanding → List Event → Said → Type 0
SealedRow gid sealed at s events said = AnswersOnly Void events said ⊎ IsSettled at s gid sealed events said
