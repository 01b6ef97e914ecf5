-- What a store is to keep of a download.
use Rattle.std.specs.Prelude.{◌≡◌, ℕ, Some, List, [], ◌∷◌}
use Rattle.control_file.specs.declared.want.Want.{Want}
use Rattle.dl_kinds.specs.declared.gid.Gid.{Gid}
use Rattle.span_map.specs.declared.files.FileLen.{FileLen}
use Rattle.machine_core.specs.FileNames.{IsPayloadName, folder_in}
use Rattle.machine_core.specs.LawfulCalls.{IsLawful}
use Rattle.machine_core.specs.Openings.{lengths_of_plan}
use Rattle.machine_core.specs.OwnParts.{PayloadLengths, payload_lengths_of}
use Rattle.machine_core.specs.RunLegal.{IsLegal, download_in, info_hash_by}
use Rattle.machine_core.specs.Starts.{RunStart, Download, Subject, Listed, Unlisted}
use Rattle.machine_core.specs.declared.events.Event.{Event}
use Rattle.machine_core.specs.declared.events.Event.TheVariants.{Called}

-- the files of a metainfo file, or without one a file of this name and the payload's length
abbrev pub files_of_subject : Subject → List ℕ → ℕ → List FileLen
files_of_subject (Listed meta uris) base total = meta.layout
files_of_subject (Unlisted uris) base total = record { path = base ∷ []; len = total } ∷ []

abbrev pub digests_of_subject : Subject → List (List ℕ)
digests_of_subject (Listed meta uris) = meta.digests
digests_of_subject (Unlisted uris) = []

-- what a store is to keep of a download with these lengths
pub record IsWantOf (download : Download) (lengths : PayloadLengths) (want : Want) : Type 0 where
  pub base : IsPayloadName download download.subject want.base
  pub dir : want.dir ≡ folder_in download
  pub layout : want.layout ≡ files_of_subject download.subject want.base lengths.total
  pub plan : lengths_of_plan want.plan ≡ lengths
  pub digests : want.digests ≡ digests_of_subject download.subject
  pub info_hash : want.info_hash ≡ info_hash_by download.subject

-- the length of the download is known, and this is its want
pub record HasWant (start : RunStart) (past : List Event) (gid : Gid) (want : Want) : Type 0 where
  pub download : Download
  pub added : download_in start past gid ≡ Some download
  pub lengths : PayloadLengths
  pub known : payload_lengths_of start past gid ≡ Some lengths
  pub is : IsWantOf download lengths want

-- a want stays
abbrev pub WantsStay : Type 0
WantsStay =
    (start : RunStart) (past : List Event) (event : Event) (gid : Gid) (want : Want)
    → IsLegal start (event ∷ past) → HasWant start past gid want → HasWant start (event ∷ past) gid want

-- a call that is lawful, or no call
abbrev pub IsLawfulEvent : Event → Type 0
IsLawfulEvent (Called session asked now) = IsLawful asked
IsLawfulEvent e = Unit {0}
