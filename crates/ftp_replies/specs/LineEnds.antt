-- Where lines end, by places of bytes. CR is the byte 13, and LF is 10.
use Rattle.std.specs.Prelude.{◌≡◌, ℕ, ◌+◌, ◌-◌, ◌<◌, List, length, if◌then◌else◌, ◌==◌}
use Rattle.std.proofs.Common.{get_or}

-- a CR LF begins at this place
pub record LineEndsAt (bytes : List ℕ) (at : ℕ) : Type 0 where
  pub within : at + 1 < length bytes
  pub cr : get_or bytes at 0 ≡ 13
  pub lf : get_or bytes (at + 1) 0 ≡ 10

-- the first CR LF takes these bytes, and those before it
pub record IsFirstEnd (bytes : List ℕ) (len : ℕ) : Type 0 where
  pub at : ℕ
  pub behind : len ≡ at + 2
  pub ends : LineEndsAt bytes at
  pub first : (place : ℕ) → place < at → LineEndsAt bytes place → ⊥

-- how many bytes a line lacks at least whose CR LF hasn't come
abbrev pub missing : List ℕ → ℕ
missing bytes = if get_or bytes (length bytes - 1) 0 == 13 then 1 else 2
