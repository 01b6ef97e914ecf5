-- What is kept of the claims.
use Rattle.std.specs.Prelude.{◌≡◌, ◌⊎◌, ℕ, ◌-◌, ◌<◌, ◌≤◌, ◌^◌, nat_lt, ◌++◌, if◌then◌else◌, List, [], All, AllPairs, length, replicate}
use Rattle.dl_kinds.specs.Plan.{IsPlan, blocks_of, pieces_of}
use Rattle.dl_kinds.specs.declared.claims.Claim.{Claim}
use Rattle.segment_claim.specs.Sound.{IsNewer, IsWithinBlocks}
use Rattle.segment_claim.specs.declared.limits.TheConstants.{MAX_SPLIT}

-- the numbers of the pieces, where there may be none yet: then no piece was cleared
abbrev pub closed_of : ℕ → List ℕ → List ℕ
closed_of pieces closed = closed ++ replicate (pieces - length closed) 0

-- there is no claim before there is a number for each piece
pub record KeepsClaims (total piece_len : ℕ) (standing : List Claim) (closed : List ℕ) (next : ℕ) : Type 0 where
  pub plan : IsPlan total piece_len
  pub within : All (IsWithinBlocks (blocks_of total piece_len)) standing
  pub newer : AllPairs IsNewer standing
  pub below : All (λ claim. claim.id < next) standing
  pub few : length standing ≤ MAX_SPLIT
  pub past : All (λ number. number ≤ next) closed
  pub bounded : next ≤ 2 ^ 64
  pub pieces : (length closed ≡ pieces_of total piece_len) ⊎ ((closed ≡ []) × (next ≡ 0))

-- room for how many more claims: none until each piece has a number
abbrev pub room_of : ℕ → ℕ → ℕ → ℕ
room_of pieces closed spare = if nat_lt closed pieces then 0 else spare
