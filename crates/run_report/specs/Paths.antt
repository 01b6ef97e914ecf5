-- The path in the line of a download.
use Rattle.std.specs.Prelude.{◌≡◌, ℕ, Bool, true, false, Some, List, [], ◌∷◌, slice_get}
use Rattle.payload_files.specs.Names.{name_of}
use Rattle.machine_core.specs.FileNames.{IsPayloadName, folder_in}
use Rattle.machine_core.specs.Starts.{Download, Subject, Listed, Unlisted}

-- the name of the payload's file or folder, in the folder of the options
pub record IsRootName (download : Download) (path : List ℕ) : Type 0 where
  pub base : List ℕ
  pub named : IsPayloadName download download.subject base
  pub path_is : path ≡ name_of (folder_in download) (base ∷ [])

-- that name, or the first URI while the length of the payload isn't known
abbrev pub IsPathBy : Download → Subject → Bool → List ℕ → Type 0
IsPathBy download (Unlisted uris) false path = slice_get uris 0 ≡ Some path
IsPathBy download (Unlisted uris) true path = IsRootName download path
IsPathBy download (Listed meta uris) known path = IsRootName download path

abbrev pub IsPathOf : Download → Bool → List ℕ → Type 0
IsPathOf download known path = IsPathBy download download.subject known path
