-- What a save of a download lists, by its events.
use Rattle.std.specs.Prelude.{◌≡◌, ℕ, ◌<◌, ◌&&◌, ◌||◌, Bool, false, not, Option, Some, None, List, [], ◌∷◌, map, slice_index_or}
use Rattle.std.specs.List.{range_with_len}
use Rattle.dl_kinds.specs.Plan.{piece_of, blocks_of, pieces_of}
use Rattle.dl_kinds.specs.declared.runs.Moment.{Moment}
use Rattle.dl_history.specs.OwnEvents.{OwnEvent, Opens, Saves}
use Rattle.dl_history.specs.PayloadParts.{is_landed_in, is_sole_in, is_verified_in, is_wrong_in}

-- pieces and blocks, with one place for each of the plan
pub record Listing : Type 0 where
  pub pieces : List Bool
  pub blocks : List Bool

abbrev pub no_listing : Listing
no_listing = record { pieces = []; blocks = [] }

-- a save lists the blocks of verified pieces, and the landed ones of pieces that are neither sole nor last found wrong
abbrev pub is_block_listed : ℕ → List OwnEvent → ℕ → Bool
is_block_listed len own b =
    let p = piece_of len b in
    is_landed_in len own b && (is_verified_in own p || not (is_sole_in own p) && not (is_wrong_in own p))

-- what a save lists now
abbrev pub listing_in : ℕ → ℕ → List OwnEvent → Listing
listing_in total len own =
    record {
      pieces = map (is_verified_in own) (range_with_len 0 (pieces_of total len));
      blocks = map (is_block_listed len own) (range_with_len 0 (blocks_of total len));
    }

-- what the last save lists, or the opening where there is none
abbrev pub last_listing : ℕ → ℕ → List OwnEvent → Listing
last_listing total len [] = no_listing
last_listing total len (Opens verified blocks now ∷ before) = record { pieces = verified; blocks = blocks }
last_listing total len (Saves now ∷ before) = listing_in total len before
last_listing total len (e ∷ before) = last_listing total len before

-- when that was
abbrev pub last_saved : List OwnEvent → Option Moment
last_saved [] = None
last_saved (Opens verified blocks now ∷ before) = Some now
last_saved (Saves now ∷ before) = Some now
last_saved (e ∷ before) = last_saved before

-- the listing has no block of the piece
abbrev pub ListsNone : ℕ → ℕ → Listing → ℕ → Type 0
ListsNone total len listing p =
    (b : ℕ) → b < blocks_of total len → piece_of len b ≡ p → slice_index_or listing.blocks b false ≡ false
