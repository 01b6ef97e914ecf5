-- Members as they are listed, whose keys ascend.
use Rattle.std.specs.Prelude.{ℕ, IsTrue, List, [], ◌∷◌, map, Option, Some}
use Rattle.std.proofs.Common.{Bor}
use Rattle.bencode_core.specs.Placed.{Placed}
use Rattle.bencode_core.specs.Value.{is_behind}

-- each key is behind the one before it, as raw bytes
abbrev pub KeysAscend : Option (List ℕ) → List (List ℕ × Placed) → Type 0
KeysAscend before [] = Unit {0}
KeysAscend before (m ∷ ms) = IsTrue (is_behind before m.0) × KeysAscend (Some m.0) ms

-- members as they lie in memory
abbrev pub pairs_of : List (Bor (List ℕ) × Placed) → List (List ℕ × Placed)
pairs_of members = map (λ m. (m.0.now, m.1)) members
