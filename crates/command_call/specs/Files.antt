-- What a metainfo file on a disk says, and why one is refused (BEP 3).
use Rattle.std.specs.Prelude.{◌≡◌, ◌<◌, ◌≤◌, ℕ, List, length, Option, Some, None, Ok, Err}
use Rattle.dl_kinds.specs.declared.outside.IoErr.{IoErr}
use Rattle.dl_kinds.specs.declared.outside.IoErr.TheVariants as failure
use Rattle.metainfo.specs.Info.{Info}
use Rattle.metainfo.specs.Rules.{metainfo_of}
use Rattle.command_call.specs.declared.file.TheConstants.{MAX_METAINFO_FILE}
use Rattle.command_call.specs.declared.refusals.SourceErr.{SourceErr}
use Rattle.command_call.specs.declared.refusals.SourceErr.TheVariants.{Fault, Meta, Mirrors, Missing, NoMemory, TooLarge}

-- these bytes stand there, and aren't too many
pub record HasBytes (file : Option (List ℕ)) (bytes : List ℕ) : Type 0 where
  pub holds : file ≡ Some bytes
  pub few : length bytes ≤ MAX_METAINFO_FILE

-- a file with too many bytes stands there
pub record IsTooLarge (file : Option (List ℕ)) : Type 0 where
  pub bytes : List ℕ
  pub holds : file ≡ Some bytes
  pub many : MAX_METAINFO_FILE < length bytes

-- the file is read, and says this
pub record Says (file : Option (List ℕ)) (info : Info) : Type 0 where
  pub bytes : List ℕ
  pub has : HasBytes file bytes
  pub says : metainfo_of bytes ≡ Ok info

-- why a file isn't read; of faults and want of memory it tells nothing
abbrev pub RefusesFile : Option (List ℕ) → SourceErr → Type 0
RefusesFile file Missing = file ≡ None
RefusesFile file TooLarge = IsTooLarge file
RefusesFile file (Meta error) = (bytes : List ℕ) × HasBytes file bytes × (metainfo_of bytes ≡ Err error)
RefusesFile file (Mirrors count) = ⊥
RefusesFile file Fault = Unit {0}
RefusesFile file NoMemory = Unit {0}

abbrev pub refusal_of_disk : IoErr → SourceErr
refusal_of_disk failure.Fault = Fault
refusal_of_disk failure.NoMemory = NoMemory
