-- What taking the blocks of a piece makes of a table.
use Rattle.std.proofs.Common.{◌≡◌, ◌≢◌, ℕ, ◌+◌, ◌-◌, ◌*◌, ◌<◌, ◌≤◌, Bool, true, false, List, length, get_or, set, replicate, Some, slice_get, refl, sym, ap, ◌∙◌, subst, ⊎_elim, arith}
use Rattle.std.specs.Prelude.{All}
use Rattle.std.proofs.lemmas.Bool.{cases_eq, false≢true}
use Rattle.std.proofs.lemmas.List.{length-set, get_or-set_same, get_or-set_other}
use Rattle.std.proofs.lemmas.List.Elements.{All-replicate}
use Rattle.std.proofs.lemmas.Option.{slice_get_within, same_Some}
use Rattle.dl_kinds.specs.Plan.{full_blocks, blocks_of, blocks_of_piece}
use Rattle.piece_table.specs.declared.giver.Giver.TheVariants.{Nobody}
use Rattle.piece_table.specs.Kept.{KeepsTable}
use Rattle.piece_table.specs.Progress.{Progress, piece_part}
use Rattle.piece_table.specs.Steps.{filled, cleared}
use Rattle.piece_table.specs.Sums.{block_bytes, sum_where}
use Rattle.piece_table.proofs.Counts.{count_of, count-none}
use Rattle.piece_table.proofs.Fills.{length-filled}
use Rattle.piece_table.proofs.Landing.{slice_get-set_same, slice_get-set_other}
use Rattle.piece_table.proofs.Parts.{part_filled, part_filled_elsewhere}

clears_row : (p : Progress) (held : List ℕ) (completed verified_bytes piece bytes : ℕ) → KeepsTable p held completed verified_bytes
    → slice_get p.verified piece ≡ Some false → piece * full_blocks p.piece_len + blocks_of_piece p.total p.piece_len piece ≤ blocks_of p.total p.piece_len
    → bytes + sum_where (block_bytes p.total p.piece_len) (cleared p piece).landed ≡ sum_where (block_bytes p.total p.piece_len) p.landed
    → KeepsTable (cleared p piece) (set held piece 0) (completed - bytes) verified_bytes
clears_row p held completed verified_bytes piece bytes kept is within sum =
    let v = kept.valid in
    let after = (cleared p piece).landed in
    let part : List Bool → ℕ → List Bool = piece_part p.total p.piece_len in
    let inside : piece < length p.verified = slice_get_within p.verified piece false is in
    let fits : piece * full_blocks p.piece_len + blocks_of_piece p.total p.piece_len piece ≤ length p.landed = omega (arith, v.start.blocks) in
    let gone : part after piece ≡ replicate (blocks_of_piece p.total p.piece_len piece) false = part_filled p.total p.piece_len false p.landed piece fits in
    let same : (q : ℕ) → q ≢ piece → part after q ≡ part p.landed q = λ q apart. part_filled_elsewhere p.total p.piece_len false p.landed piece q fits apart in
    record {
      valid = record {
        start = record {
          pieces = v.start.pieces;
          blocks = length-filled false (piece * full_blocks p.piece_len) (blocks_of_piece p.total p.piece_len piece) p.landed fits ∙ v.start.blocks;
          full = λ q right.
              subst (All (λ b. b ≡ true))
              (sym (same q (λ here. false≢true (same_Some false true (sym is ∙ ap (slice_get p.verified) (sym here) ∙ right)))))
              (v.start.full q right);
        };
        sole = v.sole;
        wrong = v.wrong;
        givers = length-set p.givers piece Nobody ∙ v.givers;
        bare = λ q less.
            ⊎_elim
            (λ (here : q ≡ piece). (
              λ nobody.
                  subst (λ k. All (λ b. b ≡ false) (part after k)) (sym here)
                  (subst (All (λ b. b ≡ false)) (sym gone) (All-replicate (λ b. b ≡ false) (blocks_of_piece p.total p.piece_len piece) false refl)),
              λ bare. ap (slice_get (set p.givers piece Nobody)) here ∙ slice_get-set_same p.givers piece Nobody (omega (arith, v.givers, v.start.pieces)),
            ))
            (λ (apart : q ≢ piece). (
              λ nobody. subst (All (λ b. b ≡ false)) (sym (same q apart)) ((v.bare q less).0 (sym (slice_get-set_other p.givers piece q Nobody apart) ∙ nobody)),
              λ bare. slice_get-set_other p.givers piece q Nobody apart ∙ (v.bare q less).1 (subst (All (λ b. b ≡ false)) (same q apart) bare),
            ))
            (cases_eq q piece);
      };
      counts = record {
        pieces = length-set held piece 0 ∙ kept.counts.pieces;
        each = λ q less.
            ⊎_elim
            (λ (here : q ≡ piece).
            ap (λ k. get_or (set held piece 0) k 0) here ∙ get_or-set_same held piece 0 0 (omega (arith, kept.counts.pieces, v.start.pieces))
            ∙ sym (count-none (blocks_of_piece p.total p.piece_len piece)) ∙ ap count_of (sym gone) ∙ ap (λ k. count_of (part after k)) (sym here))
            (λ (apart : q ≢ piece). get_or-set_other held piece q 0 0 apart ∙ kept.counts.each q less ∙ ap count_of (sym (same q apart)))
            (cases_eq q piece);
      };
      landed_sum = omega (arith, kept.landed_sum, sum);
      verified_sum = kept.verified_sum;
    }

-- the same, as the code reads and writes
pub clears : (p : Progress) (held : List ℕ) (completed verified_bytes piece first count bytes : ℕ) (landed : List Bool) → KeepsTable p held completed verified_bytes
    → slice_get p.verified piece ≡ Some false
    → first ≡ piece * full_blocks p.piece_len → count ≡ blocks_of_piece p.total p.piece_len piece → first + count ≤ blocks_of p.total p.piece_len
    → landed ≡ filled false first count p.landed
    → bytes + sum_where (block_bytes p.total p.piece_len) landed ≡ sum_where (block_bytes p.total p.piece_len) p.landed
    → KeepsTable (record p { landed = landed; givers = set p.givers piece Nobody }) (set held piece 0) (completed - bytes) verified_bytes
clears p held completed verified_bytes piece first count bytes landed kept is first_is count_is within landed_is sum =
    let row : landed ≡ (cleared p piece).landed =
    landed_is ∙ ap (λ n. filled false n count p.landed) first_is ∙ ap (λ n. filled false (piece * full_blocks p.piece_len) n p.landed) count_is in
    subst (λ (x : List Bool). KeepsTable (record p { landed = x; givers = set p.givers piece Nobody }) (set held piece 0) (completed - bytes) verified_bytes) (sym row)
    (clears_row p held completed verified_bytes piece bytes kept is (omega arith)
    (ap (λ x. bytes + sum_where (block_bytes p.total p.piece_len) x) (sym row) ∙ sum))
