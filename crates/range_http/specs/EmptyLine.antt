-- The empty line that ends a head (RFC 9112 section 2.1).
use Rattle.std.specs.Prelude.{ℕ, ◌<◌, ◌≤◌, Bool, ◌||◌, List, length, take, codes, nat_eq, IsTrue}
use Rattle.std.specs.List.{ends_with}

-- a line feed and an empty line stand at the end of the bytes
abbrev pub ends_in_empty_line : List ℕ → Bool
ends_in_empty_line bytes = ends_with nat_eq bytes (codes "\n\n") || ends_with nat_eq bytes (codes "\n\r\n")

-- an empty line ends behind the first bytes, of which there are so many
abbrev pub HasEmptyLine : List ℕ → ℕ → Type 0
HasEmptyLine bytes from = (n : ℕ) × (from < n) × (n ≤ length bytes) × IsTrue (ends_in_empty_line (take n bytes))
