-- Full pieces, and what a verdict makes of a table.
use Rattle.std.proofs.Common.{◌≡◌, ◌≢◌, ℕ, ◌+◌, ◌*◌, ◌^◌, ◌<◌, ◌≤◌, Bool, true, false, cond, eqb, List, length, get_or, set, Some, slice_get, sym, ap, ◌∙◌, subst, ⊎_elim, arith}
use Rattle.std.specs.Prelude.{IsTrue}
use Rattle.std.proofs.Math.Nat.{mul-le-mul_right}
use Rattle.std.proofs.lemmas.Bool.{cases_eq, eqb-true, eq-eqb}
use Rattle.std.proofs.lemmas.List.{length-set, get_or_default}
use Rattle.std.proofs.lemmas.Option.{slice_get_within, get_or_from_slice_get}
use Rattle.dl_kinds.specs.Plan.{full_blocks, blocks_of, blocks_of_piece, pieces_of, piece_start, piece_end, IsPlan}
use Rattle.piece_table.specs.Kept.{KeepsTable}
use Rattle.piece_table.specs.Progress.{Progress, IsFull, piece_part, landed_count}
use Rattle.piece_table.specs.Sums.{piece_bytes, sum_where}
use Rattle.piece_table.proofs.Counts.{all_true, count_all}
use Rattle.piece_table.proofs.Landing.{slice_get-set_other}
use Rattle.piece_table.proofs.Parts.{length-part}
use Rattle.piece_table.proofs.Weights.{sum_where-set, sum_where-le, piece_bytes-le}

-- the number of landed blocks, as it was read, is that of all blocks
pub full_test : (p : Progress) (held : List ℕ) (completed verified_bytes piece count blocks : ℕ) → KeepsTable p held completed verified_bytes
    → piece < pieces_of p.total p.piece_len → count ≡ get_or held piece count → blocks ≡ blocks_of_piece p.total p.piece_len piece
    → piece * full_blocks p.piece_len + blocks ≤ blocks_of p.total p.piece_len
    → (IsTrue (eqb count blocks) → IsFull p.total p.piece_len p.landed piece) × (IsFull p.total p.piece_len p.landed piece → IsTrue (eqb count blocks))
full_test p held completed verified_bytes piece count blocks kept below count_is blocks_are within =
    let part = piece_part p.total p.piece_len p.landed piece in
    let long : length part ≡ blocks = length-part p.landed (piece * full_blocks p.piece_len) (blocks_of_piece p.total p.piece_len piece) (omega (arith, kept.valid.start.blocks)) ∙ sym blocks_are in
    let counted : count ≡ landed_count p.total p.piece_len p.landed piece =
    count_is ∙ get_or_default held piece count 0 (omega (arith, kept.counts.pieces)) ∙ kept.counts.each piece below in (
      λ same. all_true part (sym counted ∙ eqb-true count blocks same ∙ sym long),
      λ full. eq-eqb count blocks (counted ∙ count_all part full ∙ long),
    )

-- a piece is found right
pub settles_right : (p : Progress) (held : List ℕ) (completed verified_bytes piece start size : ℕ) (verified wrong : List Bool) → KeepsTable p held completed verified_bytes
    → IsPlan p.total p.piece_len → slice_get p.verified piece ≡ Some false → IsFull p.total p.piece_len p.landed piece
    → verified ≡ set p.verified piece true → wrong ≡ set p.wrong piece false
    → start ≡ piece_start p.piece_len piece → start + size ≡ piece_end p.total p.piece_len piece
    → (verified_bytes + size < 2 ^ 64) × KeepsTable (record p { verified = verified; wrong = wrong }) held completed (verified_bytes + size)
settles_right p held completed verified_bytes piece start size verified wrong kept plan is full verified_is wrong_is start_is end_is =
    let v = kept.valid in
    let inside : piece < length p.verified = slice_get_within p.verified piece false is in
    let size_of = piece_bytes p.total p.piece_len in
    let sum : sum_where size_of verified ≡ sum_where size_of p.verified + size_of piece =
    (let zero_at : cond (get_or p.verified piece false) (size_of piece) 0 ≡ 0 = ap (λ b. cond b (size_of piece) 0) (get_or_from_slice_get p.verified piece false false is) in
    omega (arith, sum_where-set size_of p.verified piece true inside, zero_at, ap (sum_where size_of) verified_is)) in
    let long : length verified ≡ pieces_of p.total p.piece_len = ap length verified_is ∙ length-set p.verified piece true ∙ v.start.pieces in
    let bound : sum_where size_of verified ≤ length verified * p.piece_len = sum_where-le size_of p.piece_len verified (λ i. piece_bytes-le p.total p.piece_len i) in
    let most : length verified * p.piece_len ≤ 1048576 * p.piece_len = mul-le-mul_right p.piece_len (omega (arith, long, plan.pieces)) in
    let now : size ≡ size_of piece = omega arith in (
      omega (arith, kept.verified_sum, sum, plan.piece),
      record {
        valid = record {
          start = record {
            pieces = long;
            blocks = v.start.blocks;
            full = λ q right.
                ⊎_elim
                (λ (same : q ≡ piece). subst (IsFull p.total p.piece_len p.landed) (sym same) full)
                (λ (apart : q ≢ piece). v.start.full q (sym (slice_get-set_other p.verified piece q true apart) ∙ ap (λ row. slice_get row q) (sym verified_is) ∙ right))
                (cases_eq q piece);
          };
          sole = v.sole;
          wrong = ap length wrong_is ∙ length-set p.wrong piece false ∙ v.wrong;
          givers = v.givers;
          bare = v.bare;
        };
        counts = kept.counts;
        landed_sum = kept.landed_sum;
        verified_sum = omega (arith, kept.verified_sum, sum, now);
      },
    )
