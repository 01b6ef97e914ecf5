-- What contracts see of the claims of a download, and what the calls make of them.
use Rattle.std.specs.Prelude.{ℕ, ◌+◌, ◌-◌, Bool, false, List, [], ◌∷◌, Option, filter, find, replicate, slice_get, slice_set}
use Rattle.std.specs.Option.{option_and_then, option_map_or}
use Rattle.dl_kinds.specs.Plan.{pieces_of}
use Rattle.dl_kinds.specs.declared.claims.Claim.{Claim}
use Rattle.segment_claim.specs.Open.{first_open_in, has_number, is_open_in, is_underway}

pub record ClaimBook : Type 0 where
  pub total : ℕ  -- the bytes of the payload
  pub piece_len : ℕ  -- and of a full piece
  pub standing : List Claim  -- the claims that stand, the newest first
  pub closed : List ℕ  -- for each piece the number below which all claims had been granted when it was last cleared
  pub next : ℕ  -- a number above that of each claim that was granted
  pub spare : ℕ  -- room for how many more claims

-- no claim was granted
abbrev pub no_claims : ℕ → ℕ → ℕ → ClaimBook
no_claims total piece_len spare =
    record {
      total = total;
      piece_len = piece_len;
      standing = [];
      closed = replicate (pieces_of total piece_len) 0;
      next = 0;
      spare = spare;
    }

-- a claim is granted
abbrev pub granted : ClaimBook → Claim → ClaimBook
granted book claim =
    record book { standing = claim ∷ book.standing; next = claim.id + 1; spare = book.spare - 1 }

-- the claims that pass stand on, with this room
abbrev pub kept_where : (Claim → Bool) → ℕ → ClaimBook → ClaimBook
kept_where stays spare book = record book { standing = filter stays book.standing; spare = spare }

-- the piece is cleared: its blocks are open in none of the claims up to now
abbrev pub with_cleared : ClaimBook → ℕ → ClaimBook
with_cleared book piece = record book { closed = slice_set book.closed piece book.next }

-- the claim that stands under a number
abbrev pub claim_under : ClaimBook → ℕ → Option Claim
claim_under book id = find (has_number id) book.standing

-- the block is open in the claim that stands under the number
abbrev pub is_open_under : ClaimBook → List Bool → ℕ → ℕ → Bool
is_open_under book landed id block =
    option_map_or (λ claim. is_open_in book.piece_len landed book.closed claim block) (claim_under book id) false

-- the first block that is open in it
abbrev pub first_open_under : ClaimBook → List Bool → ℕ → Option ℕ
first_open_under book landed id =
    option_and_then (first_open_in book.piece_len landed book.closed) (claim_under book id)

-- the first block that is open in the claim at a place among those that stand
abbrev pub first_open_at : ClaimBook → List Bool → ℕ → Option ℕ
first_open_at book landed place =
    option_and_then (first_open_in book.piece_len landed book.closed) (slice_get book.standing place)

-- the claims in which a block is open stand on
abbrev pub swept : ClaimBook → List Bool → ℕ → ClaimBook
swept book landed spare = kept_where (is_underway book.piece_len landed book.closed) spare book
