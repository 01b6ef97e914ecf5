-- The names on a disk that a download writes (aria2 manual, "Resuming Download").
use Rattle.std.specs.Prelude.{◌≡◌, ◌⊎◌, ℕ, Option, Some, None, List, [], ◌∷◌, Any}
use Rattle.control_file.specs.Names.{control_of, temporary_of}
use Rattle.std.specs.Option.{unwrap_or}
use Rattle.option_set.specs.Values.{text_of_word}
use Rattle.option_set.specs.declared.kinds.Word.TheVariants.{Dir, Out}
use Rattle.payload_files.specs.Names.{name_of}
use Rattle.url_names.specs.UrlNames.{IsNameOfUrl}
use Rattle.machine_core.specs.Starts.{Download, Subject, Listed, Unlisted}

-- the folder of the option, which has a default
abbrev pub folder_in : Download → List ℕ
folder_in download = unwrap_or (text_of_word download.options Dir) []

-- the name of a download without a metainfo file: that of its option, or by the first URI
abbrev pub IsUnlistedName : Option (List ℕ) → List (List ℕ) → List ℕ → Type 0
IsUnlistedName (Some out) uris name = name ≡ out
IsUnlistedName None [] name = ⊥
IsUnlistedName None (uri ∷ uris) name = IsNameOfUrl uri name

-- the name of the payload's file, or of the folder of its files
abbrev pub IsPayloadName : Download → Subject → List ℕ → Type 0
IsPayloadName download (Listed meta uris) name = name ≡ meta.name
IsPayloadName download (Unlisted uris) name = IsUnlistedName (text_of_word download.options Out) uris name

abbrev pub IsFileName : Download → Subject → List ℕ → List ℕ → Type 0
IsFileName download (Listed meta uris) base name = Any (λ file. name ≡ name_of (folder_in download) file.path)
    meta.layout
IsFileName download (Unlisted uris) base name = name ≡ name_of (folder_in download) (base ∷ [])

-- a file of the payload, the control file, or the file that is written before it takes the place of the control file
pub record WritesName (download : Download) (name : List ℕ) : Type 0 where
  pub base : List ℕ
  pub named : IsPayloadName download download.subject base
  pub is : IsFileName download download.subject base name
      ⊎ (name ≡ control_of (name_of (folder_in download) (base ∷ [])))
      ⊎ (name ≡ temporary_of (name_of (folder_in download) (base ∷ [])))

pub record ShareName (one other : Download) : Type 0 where
  pub name : List ℕ
  pub first : WritesName one name
  pub second : WritesName other name
