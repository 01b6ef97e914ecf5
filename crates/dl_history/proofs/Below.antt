-- What the crates below prove, as their calls tell it.
use Rattle.std.proofs.Common.{map, zero-add, ◌≡◌, ℕ, ◌+◌, ◌-◌, ◌*◌, ◌<◌, ◌≤◌, Bool, List, length, get_or, drop, ◌∙◌, arith}
use Rattle.std.specs.Prelude.{All}
use Rattle.std.specs.List.{range_with_len}
use Rattle.std.proofs.lemmas.List.FromFn.{get_or-map-range_with_len}
use Rattle.std.proofs.lemmas.List.{length-take-le, length-drop, get_or-take, get_or-drop}
use Rattle.dl_kinds.specs.Plan.{pieces_of, blocks_of, full_blocks, blocks_of_piece, piece_of, IsPlan}
use Rattle.dl_kinds.specs.PlanLaws.{BlocksAreOfPieces, PlacesAreNumbered}
use Rattle.dl_kinds.specs.Lists.{part_at}
use Rattle.piece_table.specs.Afresh.{IsAfresh, IsWithin, after_changes}
use Rattle.piece_table.specs.Changes.{Change}
use Rattle.piece_table.specs.Progress.{IsStart}
use Rattle.piece_table.specs.Steps.{started}

abbrev pub KeptAreAfresh : Type 0
KeptAreAfresh =
    (total piece_len : ℕ) (verified landed : List Bool) (changes : List Change)
    → IsPlan total piece_len → IsStart total piece_len verified landed → All (IsWithin total piece_len) changes
    → IsAfresh total piece_len verified landed changes
    (after_changes (started total piece_len verified landed) changes)

pub record Below : Type 0 where
  pub of_pieces : BlocksAreOfPieces
  pub numbered : PlacesAreNumbered
  pub afresh : KeptAreAfresh

pub piece_below : (laws : Below) (total len b : ℕ) → IsPlan total len → b < blocks_of total len
    → piece_of len b < pieces_of total len
piece_below laws total len b plan below = (laws.of_pieces total len b plan below).piece

-- the numbers of a piece's blocks are numbers of blocks
pub part_fits : (laws : Below) (total len p : ℕ) → IsPlan total len → p < pieces_of total len
    → 1 ≤ blocks_of_piece total len p
    → p * full_blocks len + blocks_of_piece total len p ≤ blocks_of total len
part_fits laws total len p plan below some =
    let last : blocks_of_piece total len p - 1 < blocks_of_piece total len p = omega arith in
    let n = (laws.numbered total len p (blocks_of_piece total len p - 1) plan below last).within in
    omega (arith, n, some)

pub length-part : {A : Type 0} (xs : List A) (at len : ℕ) → at + len ≤ length xs → length (part_at xs at len) ≡ len
length-part xs at len within = length-take-le len (drop at xs) (omega (arith, length-drop at xs))

pub get_or-part : {A : Type 0} (xs : List A) (at len k : ℕ) (d : A) → k < len
    → get_or (part_at xs at len) k d ≡ get_or xs (at + k) d
get_or-part xs at len k d below = get_or-take len (drop at xs) k d below ∙ get_or-drop at xs k d

-- a row that a function gives, at a place
pub get_or-row_by : {A : Type 0} (f : ℕ → A) (n k : ℕ) (d : A) → k < n → get_or (map f (range_with_len 0 n)) k d ≡ f k
get_or-row_by f n k d below = get_or-map-range_with_len f 0 n k k d below (zero-add k)
