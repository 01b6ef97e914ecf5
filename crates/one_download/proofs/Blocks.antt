-- The blocks of pieces.
use Rattle.std.proofs.Common.{◌≡◌, ◌↔◌, ℕ, ◌+◌, ◌-◌, ◌*◌, ◌<◌, ◌≤◌, Bool, true, false, List, length, get_or, take, drop, Some, slice_get, sym, ◌∙◌, subst, arith}
use Rattle.std.specs.Prelude.{IsTrue, slice_index_or}
use Rattle.std.proofs.lemmas.List.{length-take, length-drop, get_or-take, get_or-drop}
use Rattle.std.proofs.lemmas.List.Elements.{All-get_or, All-from_get_or}
use Rattle.std.proofs.lemmas.Option.{slice_get-get_or, get_or_from_slice_get}
use Rattle.dl_kinds.specs.Plan.{IsPlan, blocks_of, blocks_of_piece, full_blocks, piece_of, pieces_of, place_of}
use Rattle.dl_kinds.specs.PlanLaws.{BlocksAreOfPieces, PlacesAreNumbered}
use Rattle.piece_table.specs.Progress.{IsFull, IsValid, Progress, piece_part}
use Rattle.dl_history.specs.Accounts.{Account}
use Rattle.one_download.specs.DownloadViews.{IsPieceLanded, IsToSettle, IsUnverified}

get_or_part : (xs : List Bool) (at len k : ℕ) (d : Bool) → k < len → get_or (take len (drop at xs)) k d ≡ get_or xs (at + k) d
get_or_part xs at len k d below = get_or-take len (drop at xs) k d below ∙ get_or-drop at xs k d

-- what is found at each number of a piece is found in its part ..
pub full_of_blocks : (p : Progress) (piece : ℕ) → PlacesAreNumbered → IsPlan p.total p.piece_len
    → piece < pieces_of p.total p.piece_len
    → IsPieceLanded p piece → IsFull p.total p.piece_len p.landed piece
full_of_blocks p piece numbered plan known has =
    let at = piece * full_blocks p.piece_len in
    let n = blocks_of_piece p.total p.piece_len piece in
    All-from_get_or (λ (is : Bool). is ≡ true) (piece_part p.total p.piece_len p.landed piece) false
    (λ k below.
    let place : k < n = omega (arith, length-take n (drop at p.landed)) in
    let number = numbered p.total p.piece_len piece k plan known place in
    get_or_part p.landed at n k false place ∙ has (at + k) number.within number.number.of)

-- .. and the other way round
pub blocks_of_full : (p : Progress) (piece : ℕ) → BlocksAreOfPieces → IsPlan p.total p.piece_len
    → length p.landed ≡ blocks_of p.total p.piece_len
    → IsFull p.total p.piece_len p.landed piece → IsPieceLanded p piece
blocks_of_full p piece of_pieces plan long full b below is =
    let at = piece * full_blocks p.piece_len in
    let n = blocks_of_piece p.total p.piece_len piece in
    let one = of_pieces p.total p.piece_len b plan below in
    let k = place_of p.piece_len b in
    let place : k < n = subst (λ q. k < blocks_of_piece p.total p.piece_len q) is one.place in
    let number : at + k ≡ b = subst (λ q. q * full_blocks p.piece_len + k ≡ b) is one.number in
    let behind : k < length (take n (drop at p.landed)) =
    omega (arith, length-take n (drop at p.landed), length-drop at p.landed) in
    let here : get_or (take n (drop at p.landed)) k false ≡ true = All-get_or (λ (v : Bool). v ≡ true)
    (take n (drop at p.landed)) k false behind full in
    subst (λ i. get_or p.landed i false ≡ true) number (sym (get_or_part p.landed at n k false place) ∙ here)

truth_cases : (P : Bool → Type 0) (a : Bool) → P true → P false → P a
truth_cases P true t f = t
truth_cases P false t f = f

-- the piece of a block that isn't landed isn't verified
pub unlanded_unverified : (p : Progress) (b piece : ℕ) → BlocksAreOfPieces → IsPlan p.total p.piece_len → IsValid p
    → b < blocks_of p.total p.piece_len → piece_of p.piece_len b ≡ piece
    → slice_index_or p.landed b false ≡ false → IsUnverified p piece
unlanded_unverified p b piece of_pieces plan v below is unlanded =
    let one = of_pieces p.total p.piece_len b plan below in
    let known : piece < pieces_of p.total p.piece_len = subst (λ q. q < pieces_of p.total p.piece_len) is one.piece in
    let here : slice_get p.verified piece ≡ Some (get_or p.verified piece false) =
    slice_get-get_or p.verified piece false (let l = v.start.pieces in omega arith) in
    record {
      known = known;
      unverified =
          truth_cases (λ (a : Bool). slice_get p.verified piece ≡ Some a → slice_get p.verified piece ≡ Some false)
          (get_or p.verified piece false)
          (λ e.
          let landed : slice_index_or p.landed b false ≡ true =
          blocks_of_full p piece of_pieces plan v.start.blocks (v.start.full piece e) b below is in
          absurd cc)
          (λ e. e)
          here;
    }

-- a block from the first of a piece to its last is of the piece
pub number_of : (total len piece b : ℕ) → PlacesAreNumbered → IsPlan total len → piece < pieces_of total len
    → piece * full_blocks len ≤ b → b < piece * full_blocks len + blocks_of_piece total len piece
    → piece_of len b ≡ piece
number_of total len piece b numbered plan known low high =
    let place : ℕ = b - piece * full_blocks len in
    let is : piece * full_blocks len + place ≡ b = omega arith in
    subst (λ n. piece_of len n ≡ piece) is (numbered total len piece place plan known (omega arith)).number.of

-- ---- pieces that are to be settled

pub settled_once : (k : Account) (piece : ℕ) → slice_get k.settled piece ≡ Some true → ¬ IsToSettle k piece
settled_once k piece is to =
    let here : slice_index_or k.settled piece false ≡ true = get_or_from_slice_get k.settled piece true false is in
    let anew = to.anew in
    absurd cc

pub verified_once : (k : Account) (piece : ℕ) → slice_get k.progress.verified piece ≡ Some true → ¬ IsToSettle k piece
verified_once k piece is to = let un = to.full.unverified.unverified in absurd cc

pub settled_by_full : (k : Account) (piece : ℕ) (full : Bool) → BlocksAreOfPieces → PlacesAreNumbered
    → IsPlan k.progress.total k.progress.piece_len → IsValid k.progress
    → piece < pieces_of k.progress.total k.progress.piece_len
    → slice_get k.settled piece ≡ Some false → slice_get k.progress.verified piece ≡ Some false
    → IsTrue full ↔ IsFull k.progress.total k.progress.piece_len k.progress.landed piece
    → IsTrue full ↔ IsToSettle k piece
settled_by_full k piece full of_pieces numbered plan v known settled unverified says = (
  λ is. record {
    full = record {
      unverified = record { known = known; unverified = unverified };
      full = blocks_of_full k.progress piece of_pieces plan v.start.blocks (says.0 is);
    };
    anew = get_or_from_slice_get k.settled piece false false settled;
  },
  λ to. says.1 (full_of_blocks k.progress piece numbered plan known to.full.full),
)
