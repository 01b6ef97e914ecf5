-- What stands at a target of a mirror in memory, as contracts see it: of a load its bytes.
use Rattle.std.specs.Prelude.{ℕ, List}
use Rattle.link_source.specs.Load.{load_bytes}
use Rattle.link_source.specs.declared.mirrors.MemFile as code
use Rattle.link_source.specs.declared.mirrors.MemFile.TheVariants as variants

pub data MemFile : Type 0 where
  Bytes : List ℕ → MemFile
  -- the resource is at this location
  Moved : List ℕ → MemFile

abbrev pub file_of : code.MemFile → MemFile
file_of (variants.Bytes bytes) = Bytes bytes
file_of (variants.Load seed len) = Bytes (load_bytes seed len)
file_of (variants.Moved location) = Moved location

-- a file with its target
abbrev pub placed_file_of : List ℕ × code.MemFile → List ℕ × MemFile
placed_file_of file = (file.0, file_of file.1)
