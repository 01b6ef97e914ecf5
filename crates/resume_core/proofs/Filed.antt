-- What has of each file of a want the same.
use Rattle.std.proofs.Common.{◌≡◌, ℕ, List, [], ◌∷◌, map, get_or, refl}
use Rattle.std.specs.List.{AllByRecursion}
use Rattle.std.proofs.lemmas.List.Elements.{recursion_from_All}
use Rattle.dl_disk.specs.Files.{Files, IsSame}
use Rattle.span_map.specs.declared.files.FileLen.{FileLen}
use Rattle.payload_files.specs.Names.{name_of, IsOther}
use Rattle.payload_files.specs.Payload.{AreSame}
use Rattle.control_file.specs.declared.want.Want.{Want}
use Rattle.resume_core.specs.Steps.{SameBut}
use Rattle.resume_core.specs.Wants.{files_in}

each_same : (dir : List ℕ) (a b : Files) (files : List FileLen)
    → AllByRecursion (λ file. a (name_of dir file.path) ≡ b (name_of dir file.path)) files
    → map (λ file. a (name_of dir file.path)) files ≡ map (λ file. b (name_of dir file.path)) files
each_same dir a b [] all = refl
each_same dir a b (file ∷ files) (here, more) = rw (here, each_same dir a b files more) refl

pub files_same : (want : Want) (a b : Files) → AreSame want.dir want.layout a b → files_in want a ≡ files_in want b
files_same want a b same = each_same want.dir a b want.layout
    (recursion_from_All (λ file. a (name_of want.dir file.path) ≡ b (name_of want.dir file.path)) want.layout same)

pub files_kept : (want : Want) (old new : Files) → IsSame old new → files_in want new ≡ files_in want old
files_kept want old new same = files_same want new old (λ k d within. same (name_of want.dir (get_or want.layout k d).path))

pub files_beside : (want : Want) (name : List ℕ) (old new : Files) → IsOther want.dir want.layout name
    → SameBut name old new → files_in want new ≡ files_in want old
files_beside want name old new other same = files_same want new old
    (λ k d within. same (name_of want.dir (get_or want.layout k d).path) (other k d within))
