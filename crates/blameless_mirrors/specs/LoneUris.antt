-- How the only download of a run ends, where it has neither a metainfo file nor a checksum. The newest turn is the first.
use Rattle.std.specs.Prelude.{◌≡◌, ◌<◌, ◌≤◌, ℕ, None, Some, Contains, List, ◌∷◌, length}
use Rattle.control_file.specs.declared.want.Want.{Want}
use Rattle.dl_disk.specs.Files.{Files}
use Rattle.dl_disk.specs.State.{DiskState}
use Rattle.dl_history.specs.PayloadParts.{source_in}
use Rattle.dl_kinds.specs.Plan.{IsPlan}
use Rattle.dl_kinds.specs.declared.claims.Claim.{Claim}
use Rattle.dl_kinds.specs.declared.gid.Gid.{Gid}
use Rattle.engine_turns.specs.Told.{RunTurn, history_of}
use Rattle.machine_core.specs.DownloadWants.{HasWant}
use Rattle.machine_core.specs.OwnParts.{PayloadLengths, own_of, payload_lengths_of}
use Rattle.machine_core.specs.RunLegal.{download_in, tries_in}
use Rattle.machine_core.specs.Starts.{Download, RunStart, Unlisted}
use Rattle.machine_core.specs.declared.ends.End.{End}
use Rattle.machine_core.specs.declared.ends.End.TheVariants.{Complete}
use Rattle.machine_core.specs.declared.events.Event.{Event}
use Rattle.machine_core.specs.declared.events.Event.TheVariants.{Claimed, Ended}
use Rattle.mirror_payloads.specs.Faithful.{IsFaithful}
use Rattle.option_set.specs.Values.{text_of_word}
use Rattle.option_set.specs.declared.kinds.Word.TheVariants.{Checksum}
use Rattle.piece_table.specs.Changes.{From}
use Rattle.resume_core.specs.Refusals.{open_refusal}
use Rattle.resume_core.specs.Wants.{payload_name}
use Rattle.blameless_mirrors.specs.Blameless.{HasBlockOf, HasFailedLink, IsToldRun}
use Rattle.blameless_mirrors.specs.Lone.{HasNoDiskFault, HaveMemory, IsOnly, LacksControlFirst, first_time}

-- The only download is of these URIs, and has no checksum. A plan has pieces of its length for each length that was told of it.
pub record IsLoneUnlisted (start : RunStart) (past : List Event) (gid : Gid) (uris : List (List ℕ)) : Type 0 where
  pub download : Download
  pub added : download_in start past gid ≡ Some download
  pub subject : download.subject ≡ Unlisted uris
  pub unchecked : text_of_word download.options Checksum ≡ None
  pub planned : (lengths : PayloadLengths) → payload_lengths_of start past gid ≡ Some lengths
      → IsPlan lengths.total lengths.piece_len
  pub only : IsOnly start past gid

-- as the run began no want of the download would have been refused
abbrev pub IsFreeFirst : RunStart → List RunTurn → DiskState → Gid → Type 0
IsFreeFirst start told disk gid =
    (want : Want) → HasWant start (history_of told) gid want → open_refusal want (disk.seen_at (first_time told)) ≡ None

-- A mirror brings just a payload's bytes to it; no link to the mirror failed, nor did the disk; memory sufficed, and nothing stood in its
-- way as the run began.
pub record IsUnlistedBrought (start : RunStart) (told : List RunTurn) (disk : DiskState) (gid : Gid) (mirror : ℕ)
    (uris : List (List ℕ)) (payload : List ℕ) : Type 0 where
  pub run : IsToldRun start told disk
  pub lone : IsLoneUnlisted start (history_of told) gid uris
  pub faithful : IsFaithful start gid mirror payload told
  pub known : mirror < length uris
  pub some : 1 ≤ tries_in lone.download
  pub links : ¬ HasFailedLink (history_of told) gid mirror
  pub memory : HaveMemory told
  pub free : IsFreeFirst start told disk gid
  pub faultless : HasNoDiskFault (history_of told)

-- Each of its mirrors brings just the payload's bytes to it, and each of its claims is at one of them. Each length that was told
-- of it is the payload's; memory sufficed, and as the run began no control file of it stood.
pub record IsUnlistedServed (start : RunStart) (told : List RunTurn) (disk : DiskState) (gid : Gid) (uris : List (List ℕ))
    (payload : List ℕ) : Type 0 where
  pub run : IsToldRun start told disk
  pub lone : IsLoneUnlisted start (history_of told) gid uris
  pub faithful : (mirror : ℕ) → mirror < length uris → IsFaithful start gid mirror payload told
  pub claims : (claim : Claim) → Contains (history_of told) (Claimed gid claim) → claim.mirror < length uris
  pub lengths : (lengths : PayloadLengths) → payload_lengths_of start (history_of told) gid ≡ Some lengths
      → lengths.total ≡ length payload
  pub memory : HaveMemory told
  pub fresh : (want : Want) → HasWant start (history_of told) gid want → LacksControlFirst told disk want

-- the file of the download has just these bytes
pub record HasFile (start : RunStart) (past : List Event) (gid : Gid) (files : Files) (payload : List ℕ) : Type 0 where
  pub want : Want
  pub has : HasWant start past gid want
  pub file : files (payload_name want) ≡ Some payload

module _ {D : Type 0} (state : D → DiskState) where
  -- then it ends by being complete alone
  abbrev pub UnlistedOnlyComplete : Type 0
  UnlistedOnlyComplete =
      (start : RunStart) (told : List RunTurn) (disk : D) (gid : Gid) (mirror : ℕ) (uris : List (List ℕ)) (payload : List ℕ)
      → IsUnlistedBrought start told (state disk) gid mirror uris payload
      → (other : Gid) (how : End) → Contains (history_of told) (Ended other how) → (other ≡ gid) × (how ≡ Complete)

  -- each block that is there now and came from a mirror that brings just a payload's bytes reads as the payload's, behind the last
  -- turn
  abbrev pub UnlistedDeliveredAreRead : Type 0
  UnlistedDeliveredAreRead =
      (start : RunStart) (t : RunTurn) (before : List RunTurn) (disk : D) (gid : Gid) (mirror : ℕ) (uris : List (List ℕ))
      (want : Want) (payload : List ℕ) → IsToldRun start (t ∷ before) (state disk)
      → IsLoneUnlisted start (history_of (t ∷ before)) gid uris → HasWant start (history_of (t ∷ before)) gid want
      → IsFaithful start gid mirror payload (t ∷ before) → (block : ℕ)
      → source_in want.plan.piece_len (own_of start (history_of (t ∷ before)) gid) block ≡ From mirror
      → HasBlockOf want payload block ((state disk).seen_at t.after.time)

  -- where all its mirrors do, and it ended as complete, its file has just the payload's bytes, behind the last turn
  abbrev pub UnlistedCompleteAreWhole : Type 0
  UnlistedCompleteAreWhole =
      (start : RunStart) (t : RunTurn) (before : List RunTurn) (disk : D) (gid : Gid) (uris : List (List ℕ)) (payload : List ℕ)
      → IsUnlistedServed start (t ∷ before) (state disk) gid uris payload
      → Contains (history_of (t ∷ before)) (Ended gid Complete)
      → HasFile start (history_of (t ∷ before)) gid ((state disk).seen_at t.after.time) payload
