-- The numbers of a piece's blocks.
use Rattle.std.proofs.Common.{◌≡◌, ℕ, ◌+◌, ◌-◌, ◌*◌, ◌/◌, ◌%◌, ◌<◌, ◌≤◌, length, get_or, drop, min, sym, ap, zero-add, ◌∙◌, ⊎_elim, arith}
use Rattle.std.proofs.Math.Nat.{mul-le-mul_right}
use Rattle.std.proofs.lemmas.Bool.{cases_lt}
use Rattle.std.proofs.lemmas.Grind.{div_ceil_times}
use Rattle.std.proofs.lemmas.List.{length-take, length-drop}
use Rattle.std.proofs.lemmas.List.FromFn.{length-range_with_len, get_or-range_with_len}
use Rattle.std.proofs.lemmas.Nat.{div-add-mod', div-mul-add, mod_below}
use Rattle.std.specs.List.{range_with_len}
use Rattle.dl_kinds.specs.Plan.{pieces_of, piece_start, piece_end, full_blocks, blocks_of, blocks_of_piece, piece_of, place_of}
use Rattle.piece_table.specs.Progress.{piece_part}
use Rattle.piece_table.proofs.Parts.{blocks_fit, get_or-part}

-- a piece that isn't the last has as many blocks as a full one
full_piece : (total len piece : ℕ) → 1 ≤ len → piece + 1 < pieces_of total len → blocks_of_piece total len piece ≡ full_blocks len
full_piece total len piece some more =
    let top : pieces_of total len * len < total + len = (div_ceil_times total len some).1 in
    let step : (piece + 2) * len ≤ pieces_of total len * len = mul-le-mul_right len (omega (arith, more)) in
    let whole : piece_end total len piece - piece_start len piece ≡ len = omega (arith, top, step) in
    ap (λ n. n / 16384 + min 1 (n % 16384)) whole

-- the blocks are those of the pieces before the last, and of the last
last_piece : (total len piece : ℕ) → 1 ≤ len → piece + 1 ≡ pieces_of total len → blocks_of total len ≡ piece * full_blocks len + blocks_of_piece total len piece
last_piece total len piece some is =
    let before : pieces_of total len - 1 ≡ piece = omega (arith, is) in
    let covers : total ≤ pieces_of total len * len = (div_ceil_times total len some).0 in
    let same : pieces_of total len * len ≡ (piece + 1) * len = ap (λ n. n * len) (sym is) in
    let end : piece_end total len piece ≡ total = omega (arith, covers, same) in
    ap (λ n. n * full_blocks len + ((total - n * len) / 16384 + min 1 ((total - n * len) % 16384))) before
    ∙ ap (λ e. piece * full_blocks len + ((e - piece * len) / 16384 + min 1 ((e - piece * len) % 16384))) (sym end)

-- a block of a piece stands at one of its places
pub place_within : (total len block piece : ℕ) → 1 ≤ len → block < blocks_of total len → piece_of len block ≡ piece → piece < pieces_of total len
    → block < piece * full_blocks len + blocks_of_piece total len piece
place_within total len block piece some within is below =
    let parts : piece * full_blocks len + place_of len block ≡ block = ap (λ n. n * full_blocks len + place_of len block) (sym is) ∙ div-add-mod' block (full_blocks len) in
    let place : place_of len block < full_blocks len = mod_below block (full_blocks len) (omega arith) in
    ⊎_elim
    (λ (more : piece + 1 < pieces_of total len). omega (arith, full_piece total len piece some more))
    (λ (end : pieces_of total len ≤ piece + 1). omega (arith, last_piece total len piece some (omega (arith, end, below))))
    (cases_lt (piece + 1) (pieces_of total len))

-- and begins no earlier than the piece
pub place_from : (len block piece : ℕ) → piece_of len block ≡ piece → piece * full_blocks len ≤ block
place_from len block piece is =
    let parts : piece * full_blocks len + place_of len block ≡ block = ap (λ n. n * full_blocks len + place_of len block) (sym is) ∙ div-add-mod' block (full_blocks len) in
    omega arith

-- the piece of a number at one of its places
pub piece_at : (total len piece place : ℕ) → place < blocks_of_piece total len piece → piece_of len (piece * full_blocks len + place) ≡ piece
piece_at total len piece place within = div-mul-add piece (full_blocks len) place (omega (arith, blocks_fit total len piece))

-- the numbers of the piece's blocks
pub numbers_of : (total len piece k d : ℕ) → k < length (piece_part total len (range_with_len 0 (blocks_of total len)) piece)
    → (k < blocks_of_piece total len piece) × (get_or (piece_part total len (range_with_len 0 (blocks_of total len)) piece) k d ≡ piece * full_blocks len + k)
numbers_of total len piece k d below =
    let all = range_with_len 0 (blocks_of total len) in
    let at = piece * full_blocks len in
    let n = blocks_of_piece total len piece in
    let short : length (piece_part total len all piece) ≡ min n (blocks_of total len - at) =
    length-take n (drop at all) ∙ ap (min n) (length-drop at all ∙ ap (λ m. m - at) (length-range_with_len 0 (blocks_of total len))) in
    let within : k < n = omega (arith, short) in (
      within,
      get_or-part all at n k d within ∙ get_or-range_with_len 0 (blocks_of total len) (at + k) d (omega (arith, short)) ∙ zero-add (at + k),
    )

-- the numbers of its blocks are numbers of blocks
pub part_within : (total len piece : ℕ) → 1 ≤ len → piece < pieces_of total len → piece * full_blocks len + blocks_of_piece total len piece ≤ blocks_of total len
part_within total len piece some below =
    ⊎_elim
    (λ (more : piece + 1 < pieces_of total len).
    let step : (piece + 1) * full_blocks len ≤ (pieces_of total len - 1) * full_blocks len = mul-le-mul_right (full_blocks len) (omega (arith, more)) in
    omega (arith, full_piece total len piece some more, step))
    (λ (end : pieces_of total len ≤ piece + 1). omega (arith, last_piece total len piece some (omega (arith, end, below))))
    (cases_lt (piece + 1) (pieces_of total len))
