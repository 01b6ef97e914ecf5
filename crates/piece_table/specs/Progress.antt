-- What a download has of its payload (BEP 3: a piece is right where its SHA-1 digest is the listed one).
use Rattle.std.specs.Prelude.{◌≡◌, ◌↔◌, ◌⊎◌, ℕ, ◌*◌, ◌<◌, Bool, true, false, List, All, count_by, length, slice_get, Some}
use Rattle.dl_kinds.specs.Plan.{full_blocks, blocks_of, blocks_of_piece, pieces_of, piece_of}
use Rattle.dl_kinds.specs.Lists.{part_at}
use Rattle.piece_table.specs.declared.giver.Giver.{Giver}
use Rattle.piece_table.specs.declared.giver.Giver.TheVariants.{Nobody}

-- Sets of blocks and of pieces as lists of truth values: each has one place for each block, or for each piece.
pub record Progress : Type 0 where
  pub total : ℕ  -- the bytes of the payload
  pub piece_len : ℕ  -- and of a full piece
  pub landed : List Bool  -- the blocks that have come
  pub verified : List Bool  -- the pieces found right
  pub sole : List Bool  -- the pieces that one mirror has to give whole
  pub wrong : List Bool  -- the pieces last found wrong
  pub givers : List Giver  -- who gave the landed blocks of each piece

-- the part of a list with a place for each block that has the piece's blocks
abbrev pub piece_part : {A : Type 0} → ℕ → ℕ → List A → ℕ → List A
piece_part total piece_len xs piece = part_at xs (piece * full_blocks piece_len) (blocks_of_piece total piece_len piece)

-- how many blocks of the piece are landed
abbrev pub landed_count : ℕ → ℕ → List Bool → ℕ → ℕ
landed_count total piece_len landed piece = count_by (λ is. is) (piece_part total piece_len landed piece)

-- all blocks of the piece are landed
abbrev pub IsFull : ℕ → ℕ → List Bool → ℕ → Type 0
IsFull total piece_len landed piece = All (λ is. is ≡ true) (piece_part total piece_len landed piece)

-- no block of it is
abbrev pub IsBare : ℕ → ℕ → List Bool → ℕ → Type 0
IsBare total piece_len landed piece = All (λ is. is ≡ false) (piece_part total piece_len landed piece)

-- what a download may begin with: verified pieces and landed blocks of its plan, all of a verified piece landed
pub record IsStart (total piece_len : ℕ) (verified landed : List Bool) : Type 0 where
  pub pieces : length verified ≡ pieces_of total piece_len
  pub blocks : length landed ≡ blocks_of total piece_len
  pub full : (piece : ℕ) → slice_get verified piece ≡ Some true → IsFull total piece_len landed piece

-- what holds of every download's progress
pub record IsValid (p : Progress) : Type 0 where
  pub start : IsStart p.total p.piece_len p.verified p.landed
  pub sole : length p.sole ≡ pieces_of p.total p.piece_len
  pub wrong : length p.wrong ≡ pieces_of p.total p.piece_len
  pub givers : length p.givers ≡ pieces_of p.total p.piece_len
  pub bare : (piece : ℕ) → piece < pieces_of p.total p.piece_len
      → ((slice_get p.givers piece ≡ Some Nobody) ↔ IsBare p.total p.piece_len p.landed piece)

-- a block that a stop may keep: it's landed, and its piece is verified, or is neither sole nor last found wrong
pub record IsListed (p : Progress) (block : ℕ) : Type 0 where
  pub landed : slice_get p.landed block ≡ Some true
  pub kept : (slice_get p.verified (piece_of p.piece_len block) ≡ Some true)
      ⊎ ((slice_get p.sole (piece_of p.piece_len block) ≡ Some false) × (slice_get p.wrong (piece_of p.piece_len block) ≡ Some false))
