-- What holds of claims, and of situations.
use Rattle.std.specs.Prelude.{◌≡◌, ℕ, ◌+◌, ◌<◌, ◌≤◌, ◌^◌, All, AllPairs, length}
use Rattle.dl_kinds.specs.Plan.{IsPlan, blocks_of, pieces_of}
use Rattle.dl_kinds.specs.declared.claims.Claim.{Claim}
use Rattle.segment_claim.specs.Book.{ClaimBook}
use Rattle.segment_claim.specs.Situation.{Situation, mirror_count}
use Rattle.dl_kinds.specs.declared.claims.TheConstants.{MAX_MIRRORS}
use Rattle.segment_claim.specs.declared.limits.TheConstants.{MAX_SPLIT}

-- the claim is of some blocks, all of the payload
pub record IsWithinBlocks (blocks : ℕ) (claim : Claim) : Type 0 where
  pub some : 1 ≤ claim.run.count
  pub within : claim.run.first + claim.run.count ≤ blocks

-- a claim was granted after another, and has a number above the other's
abbrev pub IsNewer : Claim → Claim → Type 0
IsNewer claim other = other.id < claim.id

-- what holds of every download's claims
pub record AreClaims (book : ClaimBook) : Type 0 where
  pub plan : IsPlan book.total book.piece_len
  pub within : All (IsWithinBlocks (blocks_of book.total book.piece_len)) book.standing
  pub newer : AllPairs IsNewer book.standing
  pub below : All (λ claim. claim.id < book.next) book.standing
  pub few : length book.standing ≤ MAX_SPLIT
  pub pieces : length book.closed ≡ pieces_of book.total book.piece_len
  pub past : All (λ number. number ≤ book.next) book.closed
  pub next : book.next ≤ 2 ^ 64

-- what holds of a situation that claims, a table, marks and limits make
pub record IsSituation (s : Situation) : Type 0 where
  pub plan : IsPlan s.total s.piece_len
  pub within : All (IsWithinBlocks (blocks_of s.total s.piece_len)) s.standing
  pub newer : AllPairs IsNewer s.standing
  pub few : length s.standing ≤ MAX_SPLIT
  pub landed : length s.landed ≡ blocks_of s.total s.piece_len
  pub sole : length s.sole ≡ pieces_of s.total s.piece_len
  pub wanted : length s.wanted ≡ pieces_of s.total s.piece_len
  pub closed : length s.closed ≡ pieces_of s.total s.piece_len
  pub mirrors : mirror_count s ≤ MAX_MIRRORS
  pub split : 1 ≤ s.split
