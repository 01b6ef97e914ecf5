use Rattle.std.proofs.Common.{◌≡◌, ◌∷◌, map, take}
use Rattle.payload_files.specs.Names.{name_of}
use Rattle.resume_core.specs.Wants.{control_name, temporary_name}
use Rattle.resume_core.proofs.sharing.names_of.Given as goal

abbrev pub invariant-loop-file : goal.invariant-loop-file
invariant-loop-file l =
    l.names ≡ control_name l.want ∷ temporary_name l.want
    ∷ map (λ file. name_of l.want.dir file.path) (take l.file-index l.files)
