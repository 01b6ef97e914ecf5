-- Which blocks are open in a claim.
use Rattle.std.specs.Prelude.{ℕ, ◌==◌, ◌&&◌, not, nat_le, Bool, false, List, Option, find, slice_index_or}
use Rattle.std.specs.List.{range_with_len}
use Rattle.std.specs.Option.{is_some}
use Rattle.dl_kinds.specs.Plan.{piece_of}
use Rattle.dl_kinds.specs.declared.claims.Claim.{Claim}
use Rattle.piece_table.specs.Changes.{is_in}

-- A block is open in a claim: it is in the claim's run, it isn't landed, and its piece wasn't cleared since the grant.
-- `closed` has for each piece the number below which all claims had been granted when it was last cleared
abbrev pub is_open_in : ℕ → List Bool → List ℕ → Claim → ℕ → Bool
is_open_in piece_len landed closed claim block =
    is_in block claim.run
    && not (slice_index_or landed block false)
    && nat_le (slice_index_or closed (piece_of piece_len block) 0) claim.id

-- the blocks of the claim's run, in order
abbrev pub claimed_blocks : Claim → List ℕ
claimed_blocks claim = range_with_len claim.run.first claim.run.count

-- the first block that is open in the claim
abbrev pub first_open_in : ℕ → List Bool → List ℕ → Claim → Option ℕ
first_open_in piece_len landed closed claim = find (is_open_in piece_len landed closed claim) (claimed_blocks claim)

-- a block is open in it
abbrev pub is_underway : ℕ → List Bool → List ℕ → Claim → Bool
is_underway piece_len landed closed claim = is_some (first_open_in piece_len landed closed claim)

-- the claim has this number
abbrev pub has_number : ℕ → Claim → Bool
has_number id claim = claim.id == id
