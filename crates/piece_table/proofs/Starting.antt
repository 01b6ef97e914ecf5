-- What a table is at its start.
use Rattle.std.proofs.Common.{◌≡◌, ℕ, ◌<◌, Bool, true, false, eqb, cond, List, length, map, replicate, Some, slice_get, refl, sym, ap, zero-add, ◌∙◌, subst, arith}
use Rattle.std.specs.List.{range_with_len}
use Rattle.std.proofs.lemmas.Bool.{eqb-true}
use Rattle.std.proofs.lemmas.List.{length-map, length-replicate, get_or-map, same_lists}
use Rattle.std.proofs.lemmas.List.FromFn.{length-map-range_with_len, get_or-map-range_with_len}
use Rattle.std.proofs.lemmas.Option.{slice_get-get_or, same_Some}
use Rattle.dl_kinds.specs.Plan.{pieces_of}
use Rattle.piece_table.specs.declared.giver.Giver.{Giver}
use Rattle.piece_table.specs.declared.giver.Giver.TheVariants.{Nobody, Mixed}
use Rattle.piece_table.specs.Kept.{AreCounts, KeepsTable}
use Rattle.piece_table.specs.Progress.{Progress, IsStart, piece_part, landed_count}
use Rattle.piece_table.specs.Steps.{giver_at_start, started}
use Rattle.piece_table.specs.Sums.{block_bytes, piece_bytes, sum_where}
use Rattle.piece_table.proofs.Counts.{all_false, count_bare}

nobody_from : (n : ℕ) → giver_at_start n ≡ Nobody → n ≡ 0
nobody_from n is =
    (elim (eqb n 0) as (λ v. eqb n 0 ≡ v → cond v Nobody Mixed ≡ Nobody → n ≡ 0) [
      | true ↦ λ e nobody. eqb-true n 0 e
      | false ↦ λ e mixed. cc
    ]) refl is

pub giver_there : (total len : ℕ) (verified landed : List Bool) (piece : ℕ) → piece < length verified
    → slice_get (started total len verified landed).givers piece ≡ Some (giver_at_start (landed_count total len landed piece))
giver_there total len verified landed piece within =
    let f : ℕ → Giver = λ k. giver_at_start (landed_count total len landed k) in
    slice_get-get_or (map f (range_with_len 0 (length verified))) piece Nobody (omega (arith, length-map-range_with_len f 0 (length verified)))
    ∙ ap Some (get_or-map-range_with_len f 0 (length verified) piece piece Nobody within (zero-add piece))

pub starts : (total len : ℕ) (verified landed : List Bool) (held : List ℕ) → IsStart total len verified landed → AreCounts total len landed held
    → KeepsTable (started total len verified landed) held (sum_where (block_bytes total len) landed) (sum_where (piece_bytes total len) verified)
starts total len verified landed held start counts =
    let f : ℕ → Giver = λ k. giver_at_start (landed_count total len landed k) in
    record {
      valid = record {
        start = start;
        sole = length-replicate (length verified) false ∙ start.pieces;
        wrong = length-replicate (length verified) false ∙ start.pieces;
        givers = length-map-range_with_len f 0 (length verified) ∙ start.pieces;
        bare = λ q less.
            let at = giver_there total len verified landed q (omega (arith, start.pieces)) in (
              λ nobody. all_false (piece_part total len landed q) (nobody_from (landed_count total len landed q) (same_Some (f q) Nobody (sym at ∙ nobody))),
              λ bare. at ∙ ap (λ n. Some (giver_at_start n)) (count_bare (piece_part total len landed q) bare),
            );
      };
      counts = counts;
      landed_sum = refl;
      verified_sum = refl;
    }

-- the givers, made from the numbers of landed blocks
pub givers_are : (total len : ℕ) (verified landed : List Bool) (held : List ℕ) → IsStart total len verified landed → AreCounts total len landed held
    → map giver_at_start held ≡ (started total len verified landed).givers
givers_are total len verified landed held start counts =
    let f : ℕ → Giver = λ k. giver_at_start (landed_count total len landed k) in
    let many : length (map giver_at_start held) ≡ length held = length-map held giver_at_start in
    same_lists (map giver_at_start held) (map f (range_with_len 0 (length verified)))
    (omega (arith, many, length-map-range_with_len f 0 (length verified), start.pieces, counts.pieces))
    (λ k d below.
    get_or-map giver_at_start held k 0 d (omega arith)
    ∙ ap giver_at_start (counts.each k (omega (arith, counts.pieces)))
    ∙ sym (get_or-map-range_with_len f 0 (length verified) k k d (omega (arith, start.pieces, counts.pieces)) (zero-add k)))

-- as the code makes it
pub starts_so : (total len pieces : ℕ) (verified landed sole wrong : List Bool) (held : List ℕ) (givers : List Giver) (completed verified_bytes : ℕ)
    → IsStart total len verified landed → pieces ≡ pieces_of total len → AreCounts total len landed held
    → sole ≡ replicate pieces false → wrong ≡ replicate pieces false → givers ≡ map giver_at_start held
    → completed ≡ sum_where (block_bytes total len) landed → verified_bytes ≡ sum_where (piece_bytes total len) verified
    → (p : Progress)
    → p ≡ record { total = total; piece_len = len; landed = landed; verified = verified; sole = sole; wrong = wrong; givers = givers }
    → (p ≡ started total len verified landed) × KeepsTable p held completed verified_bytes
starts_so total len pieces verified landed sole wrong held givers completed verified_bytes start pieces_are counts sole_is wrong_is givers_is completed_is verified_is p p_is =
    let many : pieces ≡ length verified = pieces_are ∙ sym start.pieces in
    let f : List Bool → List Bool → List Giver → Progress =
    λ s w g. record { total = total; piece_len = len; landed = landed; verified = verified; sole = s; wrong = w; givers = g } in
    let is : p ≡ started total len verified landed =
    p_is ∙ ap (λ s. f s wrong givers) (sole_is ∙ ap (λ n. replicate n false) many)
    ∙ ap (λ w. f (replicate (length verified) false) w givers) (wrong_is ∙ ap (λ n. replicate n false) many)
    ∙ ap (f (replicate (length verified) false) (replicate (length verified) false)) (givers_is ∙ givers_are total len verified landed held start counts) in (
      is,
      subst (λ (q : Progress). KeepsTable q held completed verified_bytes) (sym is)
          (subst (λ (x : ℕ). KeepsTable (started total len verified landed) held x verified_bytes) (sym completed_is)
          (subst (λ (x : ℕ). KeepsTable (started total len verified landed) held (sum_where (block_bytes total len) landed) x) (sym verified_is)
          (starts total len verified landed held start counts))),
    )
