-- The bytes of a resource, which are stored or made.
use Rattle.std.specs.Prelude.{ℕ, List}
use Rattle.link_source.specs.Load.{load_bytes}
use Rattle.link_source.specs.declared.resources.Resource.{Resource}
use Rattle.link_source.specs.declared.resources.Resource.TheVariants.{Stored, Load}

abbrev pub bytes_of : Resource → List ℕ
bytes_of (Stored bytes) = bytes.now
bytes_of (Load n len) = load_bytes n len
