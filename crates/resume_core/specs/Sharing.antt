-- Names that wants share on a disk.
use Rattle.std.specs.Prelude.{ℕ, Bool, List, ◌∷◌, map}
use Rattle.std.specs.List.{list_any}
use Rattle.std.specs.Str.{bytes_eq}
use Rattle.payload_files.specs.Names.{name_of}
use Rattle.control_file.specs.declared.want.Want.{Want}
use Rattle.resume_core.specs.Wants.{control_name, temporary_name}

-- the control file, the temporary one, and the files of the payload
abbrev pub names_of_want : Want → List (List ℕ)
names_of_want want = control_name want ∷ temporary_name want ∷ map (λ file. name_of want.dir file.path) want.layout

-- a name of one is a name of the other
abbrev pub share_names : Want → Want → Bool
share_names one other = list_any (λ name. list_any (bytes_eq name) (names_of_want other)) (names_of_want one)
