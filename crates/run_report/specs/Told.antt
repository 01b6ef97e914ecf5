-- A download as it is read to be told of.
use Rattle.std.specs.Prelude.{◌≡◌, ◌<◌, ℕ, Bool, IfSome, Option, Some, None, List, length}
use Rattle.dl_history.specs.OwnEvents.{OwnEvent}
use Rattle.dl_kinds.specs.declared.gid.Gid.{Gid}
use Rattle.metainfo.specs.declared.meta.Meta.{Meta}
use Rattle.machine_core.specs.Choices.{mirror_urls}
use Rattle.machine_core.specs.FileNames.{IsPayloadName}
use Rattle.machine_core.specs.MachineViews.{MachineView, standing_in}
use Rattle.machine_core.specs.Openings.{meta_of_subject}
use Rattle.machine_core.specs.OwnParts.{PayloadLengths, own_of}
use Rattle.machine_core.specs.RunLegal.{download_in, known_lengths}
use Rattle.machine_core.specs.Starts.{Download, Subject, Listed, Unlisted}
use Rattle.run_report.specs.Files.{FileFacts, facts_of}
use Rattle.run_report.specs.Uris.{used_row}

abbrev pub subject_by : Option Meta → List (List ℕ) → Subject
subject_by None uris = Unlisted uris
subject_by (Some meta) uris = Listed meta uris

-- a run, a download of it, and the name of its payload
pub record ToldView : Type 0 where
  pub machine : MachineView
  pub download : Download
  pub name : List ℕ

-- the row says which of the download's mirrors have a claim that stands
pub record KeepsTold (told : ToldView) (row : List Bool) : Type 0 where
  pub used : row
      ≡ used_row (standing_in told.machine told.download.gid) (length (mirror_urls told.download.subject))
  pub named : IsPayloadName told.download told.download.subject told.name

abbrev pub lengths_told : ToldView → PayloadLengths
lengths_told told = known_lengths told.machine.start told.machine.past told.download.gid

abbrev pub own_told : ToldView → List OwnEvent
own_told told = own_of told.machine.start told.machine.past told.download.gid

abbrev pub facts_told : ToldView → FileFacts
facts_told told = facts_of told.download (lengths_told told) (own_told told)

-- the payload has a file at this place, from 0
abbrev pub HasFile : ToldView → ℕ → Type 0
HasFile told file = IfSome (meta_of_subject told.download.subject) (λ meta. file < length meta.layout)

-- a download of this gid of a run
pub record IsReadOf (machine : MachineView) (gid : Gid) (told : ToldView) : Type 0 where
  pub machine_is : told.machine ≡ machine
  pub gid_is : told.download.gid ≡ gid
  pub added : download_in machine.start machine.past gid ≡ Some told.download
  pub named : IsPayloadName told.download told.download.subject told.name
