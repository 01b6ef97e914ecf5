-- Where a store keeps a download.
use Rattle.std.specs.Prelude.{ℕ, List, [], ◌∷◌, map, Option}
use Rattle.dl_disk.specs.Files.{Files}
use Rattle.payload_files.specs.Names.{name_of}
use Rattle.control_file.specs.Names.{control_of, temporary_of}
use Rattle.control_file.specs.declared.want.Want.{Want}

-- Where a want is kept (aria2 manual, "Resuming Download"): the control file of a payload stands beside it. The file of
-- the payload, or the folder of its files:
abbrev pub payload_name : Want → List ℕ
payload_name want = name_of want.dir (want.base ∷ [])

abbrev pub control_name : Want → List ℕ
control_name want = control_of (payload_name want)

-- where a control file is written before it takes the place of the other
abbrev pub temporary_name : Want → List ℕ
temporary_name want = temporary_of (payload_name want)

-- what stands of each file
abbrev pub files_in : Want → Files → List (Option (List ℕ))
files_in want image = map (λ file. image (name_of want.dir file.path)) want.layout
