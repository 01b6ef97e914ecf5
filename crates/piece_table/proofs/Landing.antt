-- What a landing of one block makes of a table.
use Rattle.std.proofs.Common.{◌≡◌, ◌≢◌, ℕ, ◌+◌, ◌-◌, ◌*◌, ◌^◌, ◌<◌, ◌≤◌, suc, zero, Bool, true, false, cond, List, [], ◌∷◌, length, get_or, set, drop, min, Some, slice_get, refl, sym, ap, ◌∙◌, subst, ⊎_elim, arith}
use Rattle.std.specs.Prelude.{All}
use Rattle.std.proofs.lemmas.Bool.{cases_eq}
use Rattle.std.proofs.lemmas.List.{same_lists, length-set, length-take, length-drop, set-get_or, get_or-set_same, get_or-set_other, get_or_default}
use Rattle.std.proofs.lemmas.List.Elements.{All-set}
use Rattle.std.proofs.lemmas.Nat.{div-add-mod'}
use Rattle.std.proofs.lemmas.Option.{slice_get_within, get_or_from_slice_get, same_Some}
use Rattle.dl_kinds.specs.Plan.{full_blocks, blocks_of_piece, pieces_of, piece_of, place_of, block_start, block_end, IsPlan}
use Rattle.piece_table.specs.declared.giver.Giver.{Giver}
use Rattle.piece_table.specs.declared.giver.Giver.TheVariants.{Nobody}
use Rattle.piece_table.specs.Kept.{KeepsTable}
use Rattle.piece_table.specs.Progress.{Progress, IsValid, piece_part, landed_count}
use Rattle.piece_table.specs.Steps.{filled, with_giver, givers_after, landed_by}
use Rattle.piece_table.specs.Sums.{block_bytes, sum_where}
use Rattle.piece_table.proofs.Counts.{count_of, count-le, count-set_true, count_bare}
use Rattle.piece_table.proofs.Fills.{filled-none, filled-one, filled-more, filled-by_steps, length-filled}
use Rattle.piece_table.proofs.Givers.{grown, get_or-givers_after, length-givers_after, givers-same, givers-one, grown-grown, never_nobody}
use Rattle.piece_table.proofs.Parts.{get_or-part, count-part_le, part_here, part_elsewhere}
use Rattle.piece_table.proofs.Weights.{sum_where-set, sum_where-le, block_bytes-le}

pub slice_get-set_same : {A : Type 0} (xs : List A) (i : ℕ) (v : A) → i < length xs → slice_get (set xs i v) i ≡ Some v
slice_get-set_same [] i v within = absurd (omega arith)
slice_get-set_same (x ∷ xs) zero v within = refl
slice_get-set_same (x ∷ xs) (suc i) v within = slice_get-set_same xs i v (omega arith)

pub slice_get-set_other : {A : Type 0} (xs : List A) (i k : ℕ) (v : A) → k ≢ i → slice_get (set xs i v) k ≡ slice_get xs k
slice_get-set_other [] i k v apart = refl
slice_get-set_other (x ∷ xs) zero zero v apart = absurd (apart refl)
slice_get-set_other (x ∷ xs) zero (suc k) v apart = refl
slice_get-set_other (x ∷ xs) (suc i) zero v apart = refl
slice_get-set_other (x ∷ xs) (suc i) (suc k) v apart = slice_get-set_other xs i k v (λ is. apart (ap suc is))

-- ---- where a block is

-- its number, by its piece and its place
number : (len block : ℕ) → piece_of len block * full_blocks len + place_of len block ≡ block
number len block = div-add-mod' block (full_blocks len)

-- the part of its piece, and of another one, once its value is v
here : {A : Type 0} (total len : ℕ) (xs : List A) (block : ℕ) (v : A) → place_of len block < blocks_of_piece total len (piece_of len block)
    → piece_part total len (set xs block v) (piece_of len block) ≡ set (piece_part total len xs (piece_of len block)) (place_of len block) v
here total len xs block v within =
    ap (λ n. piece_part total len (set xs n v) (piece_of len block)) (sym (number len block)) ∙ part_here total len xs (piece_of len block) (place_of len block) v within

elsewhere : {A : Type 0} (total len : ℕ) (xs : List A) (block other : ℕ) (v : A) → place_of len block < blocks_of_piece total len (piece_of len block)
    → other ≢ piece_of len block → piece_part total len (set xs block v) other ≡ piece_part total len xs other
elsewhere total len xs block other v within apart =
    ap (λ n. piece_part total len (set xs n v) other) (sym (number len block)) ∙ part_elsewhere total len xs (piece_of len block) (place_of len block) other v within apart

-- ---- a block that wasn't landed

-- what the code makes of the progress
abbrev pub touched : Progress → ℕ → ℕ → Progress
touched p block mirror =
    let piece = piece_of p.piece_len block in
    record p {
      landed = set p.landed block true;
      givers = set p.givers piece (with_giver (get_or p.givers piece Nobody) mirror);
    }

-- the place of the block in its piece is one that wasn't landed
was_missing : (total len : ℕ) (landed : List Bool) (block : ℕ) → place_of len block < blocks_of_piece total len (piece_of len block)
    → slice_get landed block ≡ Some false → get_or (piece_part total len landed (piece_of len block)) (place_of len block) false ≡ false
was_missing total len landed block within is =
    get_or-part landed (piece_of len block * full_blocks len) (blocks_of_piece total len (piece_of len block)) (place_of len block) false within
    ∙ ap (λ n. get_or landed n false) (number len block) ∙ get_or_from_slice_get landed block false false is

count_here : (total len : ℕ) (landed : List Bool) (block : ℕ) → place_of len block < blocks_of_piece total len (piece_of len block) → slice_get landed block ≡ Some false
    → (landed_count total len (set landed block true) (piece_of len block) ≡ landed_count total len landed (piece_of len block) + 1)
    × (landed_count total len landed (piece_of len block) < blocks_of_piece total len (piece_of len block))
count_here total len landed block within is =
    let piece = piece_of len block in
    let at = piece * full_blocks len in
    let part = piece_part total len landed piece in
    let inside : block < length landed = slice_get_within landed block false is in
    let long : length part ≡ min (blocks_of_piece total len piece) (length landed - at) =
    length-take (blocks_of_piece total len piece) (drop at landed) ∙ ap (min (blocks_of_piece total len piece)) (length-drop at landed) in
    let place : place_of len block < length part = omega (arith, number len block) in
    let more : count_of (set part (place_of len block) true) ≡ count_of part + 1 =
    count-set_true part (place_of len block) place (was_missing total len landed block within is) in
    let most = count-le (set part (place_of len block) true) in
    (ap count_of (here total len landed block true within) ∙ more, omega (arith, length-set part (place_of len block) true))

pub record LandsOne (p : Progress) (held : List ℕ) (completed verified_bytes block mirror : ℕ) : Type 0 where
  pub few : get_or held (piece_of p.piece_len block) 0 < 4096
  pub sum : completed + block_bytes p.total p.piece_len block < 2 ^ 64
  pub after : touched p block mirror ≡ landed_by p (record { first = block; count = 1 }) mirror
  pub kept : KeepsTable (touched p block mirror) (set held (piece_of p.piece_len block) (get_or held (piece_of p.piece_len block) 0 + 1))
      (completed + block_bytes p.total p.piece_len block) verified_bytes

valid : (p : Progress) (block mirror : ℕ) → IsValid p → piece_of p.piece_len block < pieces_of p.total p.piece_len
    → place_of p.piece_len block < blocks_of_piece p.total p.piece_len (piece_of p.piece_len block) → slice_get p.landed block ≡ Some false
    → IsValid (touched p block mirror)
valid p block mirror v below within is =
    let piece = piece_of p.piece_len block in
    let after = set p.landed block true in
    let giver = with_giver (get_or p.givers piece Nobody) mirror in
    let part = piece_part p.total p.piece_len in
    let at_piece : part after piece ≡ set (part p.landed piece) (place_of p.piece_len block) true = here p.total p.piece_len p.landed block true within in
    let count = count_here p.total p.piece_len p.landed block within is in
    record {
      start = record {
        pieces = v.start.pieces;
        blocks = length-set p.landed block true ∙ v.start.blocks;
        full = λ q verified.
            ⊎_elim
            (λ (same : q ≡ piece).
            subst (λ k. All (λ b. b ≡ true) (part after k)) (sym same)
            (subst (All (λ b. b ≡ true)) (sym at_piece)
            (All-set (λ b. b ≡ true) (part p.landed piece) (place_of p.piece_len block) true refl (v.start.full piece (subst (λ k. slice_get p.verified k ≡ Some true) same verified)))))
            (λ (apart : q ≢ piece). subst (All (λ b. b ≡ true)) (sym (elsewhere p.total p.piece_len p.landed block q true within apart)) (v.start.full q verified))
            (cases_eq q piece);
      };
      sole = v.sole;
      wrong = v.wrong;
      givers = length-set p.givers piece giver ∙ v.givers;
      bare = λ q less.
          ⊎_elim
          (λ (same : q ≡ piece). (
            λ nobody.
                absurd (never_nobody (get_or p.givers piece Nobody) mirror
                (same_Some giver Nobody (sym (slice_get-set_same p.givers piece giver (omega (arith, v.givers))) ∙ ap (slice_get (set p.givers piece giver)) (sym same) ∙ nobody))),
            λ bare. absurd (let none : landed_count p.total p.piece_len after piece ≡ 0 = ap (landed_count p.total p.piece_len after) (sym same) ∙ count_bare (part after q) bare in omega arith),
          ))
          (λ (apart : q ≢ piece). (
            λ nobody.
                subst (All (λ b. b ≡ false)) (sym (elsewhere p.total p.piece_len p.landed block q true within apart))
                ((v.bare q less).0 (sym (slice_get-set_other p.givers piece q giver apart) ∙ nobody)),
            λ bare.
                slice_get-set_other p.givers piece q giver apart
                ∙ (v.bare q less).1 (subst (All (λ b. b ≡ false)) (elsewhere p.total p.piece_len p.landed block q true within apart) bare),
          ))
          (cases_eq q piece);
    }

-- the progress with other landed blocks and givers
same_progress : (p : Progress) (landed landed' : List Bool) (givers givers' : List Giver) → landed ≡ landed' → givers ≡ givers'
    → ◌≡◌ {A = Progress} (record p { landed = landed; givers = givers }) (record p { landed = landed'; givers = givers' })
same_progress p landed landed' givers givers' l g =
    let f : List Bool → Progress = λ x. record p { landed = x; givers = givers } in
    let h : List Giver → Progress = λ x. record p { landed = landed'; givers = x } in
    ap f l ∙ ap h g

pub lands_one : (p : Progress) (held : List ℕ) (completed verified_bytes block mirror : ℕ) → KeepsTable p held completed verified_bytes
    → IsPlan p.total p.piece_len → piece_of p.piece_len block < pieces_of p.total p.piece_len
    → place_of p.piece_len block < blocks_of_piece p.total p.piece_len (piece_of p.piece_len block) → slice_get p.landed block ≡ Some false
    → LandsOne p held completed verified_bytes block mirror
lands_one p held completed verified_bytes block mirror kept plan below within is =
    let piece = piece_of p.piece_len block in
    let after = set p.landed block true in
    let inside : block < length p.landed = slice_get_within p.landed block false is in
    let count = count_here p.total p.piece_len p.landed block within is in
    let others : (other : ℕ) → other ≢ piece → landed_count p.total p.piece_len after other ≡ landed_count p.total p.piece_len p.landed other =
    λ other apart. ap count_of (elsewhere p.total p.piece_len p.landed block other true within apart) in
    let held_here : get_or held piece 0 ≡ landed_count p.total p.piece_len p.landed piece = kept.counts.each piece below in
    let size = block_bytes p.total p.piece_len in
    let sum : sum_where size after ≡ sum_where size p.landed + size block =
    (let zero_at : cond (get_or p.landed block false) (size block) 0 ≡ 0 = ap (λ b. cond b (size block) 0) (get_or_from_slice_get p.landed block false false is) in
    omega (arith, sum_where-set size p.landed block true inside, zero_at)) in
    let bound : sum_where size after ≤ length after * 16384 = sum_where-le size 16384 after (λ i. block_bytes-le p.total p.piece_len i) in
    let row : filled true block 1 p.landed ≡ after = filled-one true block p.landed inside in
    let givers : givers_after p after mirror ≡ set p.givers piece (with_giver (get_or p.givers piece Nobody) mirror) =
    givers-one p after mirror piece (omega (arith, kept.valid.givers)) (omega arith) others in
    record {
      few = omega (arith, plan.piece);
      sum = omega (arith, kept.landed_sum, length-set p.landed block true, kept.valid.start.blocks, plan.blocks);
      after = same_progress p after (filled true block 1 p.landed) _ (givers_after p (filled true block 1 p.landed) mirror) (sym row) (sym givers ∙ ap (λ a. givers_after p a mirror) (sym row));
      kept = record {
        valid = valid p block mirror kept.valid below within is;
        counts = record {
          pieces = length-set held piece (get_or held piece 0 + 1) ∙ kept.counts.pieces;
          each = λ other less.
              ⊎_elim
              (λ (same : other ≡ piece).
              ap (λ k. get_or (set held piece (get_or held piece 0 + 1)) k 0) same
              ∙ get_or-set_same held piece (get_or held piece 0 + 1) 0 (omega (arith, kept.counts.pieces))
              ∙ ap (λ n. n + 1) held_here ∙ sym count.0 ∙ ap (landed_count p.total p.piece_len after) (sym same))
              (λ (apart : other ≢ piece). get_or-set_other held piece other (get_or held piece 0 + 1) 0 apart ∙ kept.counts.each other less ∙ sym (others other apart))
              (cases_eq other piece);
        };
        landed_sum = omega (arith, kept.landed_sum, sum);
        verified_sum = kept.verified_sum;
      };
    }

-- a block that was landed
pub lands_none : (p : Progress) (block mirror : ℕ) → slice_get p.landed block ≡ Some true → p ≡ landed_by p (record { first = block; count = 1 }) mirror
lands_none p block mirror is =
    let inside : block < length p.landed = slice_get_within p.landed block true is in
    let row : filled true block 1 p.landed ≡ p.landed =
    filled-one true block p.landed inside ∙ ap (λ v. set p.landed block v) (sym (get_or_from_slice_get p.landed block true true is)) ∙ set-get_or p.landed block true in
    same_progress p p.landed (filled true block 1 p.landed) p.givers (givers_after p (filled true block 1 p.landed) mirror) (sym row)
    (sym (ap (λ a. givers_after p a mirror) row ∙ givers-same p p.landed mirror (λ piece. refl)))

-- ---- the same, as the code reads and writes

pub record LandsAt (p : Progress) (held : List ℕ) (completed verified_bytes block mirror : ℕ) (landed : List Bool) (piece : ℕ) (giver : Giver) (count size : ℕ) : Type 0 where
  pub few : count + 1 < 2 ^ 16
  pub sum : completed + size < 2 ^ 64
  pub after : ◌≡◌ {A = Progress} (record p { landed = landed; givers = set p.givers piece giver }) (landed_by p (record { first = block; count = 1 }) mirror)
  pub kept : KeepsTable (record p { landed = landed; givers = set p.givers piece giver }) (set held piece (count + 1)) (completed + size) verified_bytes

pub lands_at : (p : Progress) (held : List ℕ) (completed verified_bytes block mirror : ℕ) (landed : List Bool) (pieces piece : ℕ) (was giver : Giver) (count start size : ℕ)
    → KeepsTable p held completed verified_bytes → IsPlan p.total p.piece_len
    → pieces ≡ pieces_of p.total p.piece_len → piece ≡ piece_of p.piece_len block → piece < pieces → place_of p.piece_len block < blocks_of_piece p.total p.piece_len piece
    → slice_get p.landed block ≡ Some false → landed ≡ set p.landed block true
    → was ≡ get_or p.givers piece was → giver ≡ with_giver was mirror → count ≡ get_or held piece count
    → start ≡ block_start p.piece_len block → start + size ≡ block_end p.total p.piece_len block
    → LandsAt p held completed verified_bytes block mirror landed piece giver count size
lands_at p held completed verified_bytes block mirror landed pieces piece was giver count start size kept plan pieces_are piece_is below within is landed_is was_is giver_is count_is start_is end_is =
    let size_is : size ≡ block_bytes p.total p.piece_len block = omega arith in
    let one = lands_one p held completed verified_bytes block mirror kept plan
    (omega arith)
    (subst (λ n. place_of p.piece_len block < blocks_of_piece p.total p.piece_len n) piece_is within) is in
    let at : get_or p.givers piece Nobody ≡ was = get_or_default p.givers piece Nobody was (omega (arith, kept.valid.givers)) ∙ sym was_is in
    let giver_here : with_giver (get_or p.givers (piece_of p.piece_len block) Nobody) mirror ≡ giver =
    ap (λ n. with_giver (get_or p.givers n Nobody) mirror) (sym piece_is) ∙ ap (λ g. with_giver g mirror) at ∙ sym giver_is in
    let count_here : get_or held (piece_of p.piece_len block) 0 ≡ count =
    ap (λ n. get_or held n 0) (sym piece_is) ∙ get_or_default held piece 0 count (omega (arith, kept.counts.pieces)) ∙ sym count_is in
    let base : LandsAt p held completed verified_bytes block mirror (set p.landed block true) (piece_of p.piece_len block)
    (with_giver (get_or p.givers (piece_of p.piece_len block) Nobody) mirror) (get_or held (piece_of p.piece_len block) 0) (block_bytes p.total p.piece_len block) =
    record { few = omega (arith, one.few); sum = one.sum; after = one.after; kept = one.kept } in
    subst (λ (x : List Bool). LandsAt p held completed verified_bytes block mirror x piece giver count size) (sym landed_is)
    (subst (λ (x : ℕ). LandsAt p held completed verified_bytes block mirror (set p.landed block true) x giver count size) (sym piece_is)
    (subst (λ (x : Giver). LandsAt p held completed verified_bytes block mirror (set p.landed block true) (piece_of p.piece_len block) x count size) giver_here
    (subst (λ (x : ℕ). LandsAt p held completed verified_bytes block mirror (set p.landed block true) (piece_of p.piece_len block)
    (with_giver (get_or p.givers (piece_of p.piece_len block) Nobody) mirror) x size) count_here
    (subst (λ (x : ℕ). LandsAt p held completed verified_bytes block mirror (set p.landed block true) (piece_of p.piece_len block)
    (with_giver (get_or p.givers (piece_of p.piece_len block) Nobody) mirror) (get_or held (piece_of p.piece_len block) 0) x) (sym size_is) base))))

-- ---- the blocks of a run, one by one

pub lands_first : (p : Progress) (first mirror : ℕ) → p ≡ landed_by p (record { first = first; count = 0 }) mirror
lands_first p first mirror =
    let row : filled true first 0 p.landed ≡ p.landed = filled-none true first p.landed in
    same_progress p p.landed (filled true first 0 p.landed) p.givers (givers_after p (filled true first 0 p.landed) mirror) (sym row)
    (sym (ap (λ a. givers_after p a mirror) row ∙ givers-same p p.landed mirror (λ piece. refl)))

-- no piece has less
filled_le : (total len : ℕ) (landed : List Bool) (first count piece : ℕ) → first + count ≤ length landed
    → landed_count total len landed piece ≤ landed_count total len (filled true first count landed) piece
filled_le total len landed first count piece within =
    filled-by_steps (λ (ys : List Bool). landed_count total len landed piece ≤ landed_count total len ys piece) true first count landed within (omega arith)
    (λ k ys below same le. omega (arith, count-part_le ys (piece * full_blocks len) (blocks_of_piece total len piece) (first + k) (omega arith)))

pub lands_next : (p : Progress) (first count mirror : ℕ) → first + count < length p.landed
    → landed_by (landed_by p (record { first = first; count = count }) mirror) (record { first = first + count; count = 1 }) mirror
    ≡ landed_by p (record { first = first; count = count + 1 }) mirror
lands_next p first count mirror within =
    let q = landed_by p (record { first = first; count = count }) mirror in
    let so_far = filled true first count p.landed in
    let long : length so_far ≡ length p.landed = length-filled true first count p.landed (omega arith) in
    let row : filled true (first + count) 1 so_far ≡ filled true first (count + 1) p.landed =
    filled-one true (first + count) so_far (omega arith) ∙ sym (filled-more true first count p.landed within) in
    let after = filled true first (count + 1) p.landed in
    let counts = landed_count p.total p.piece_len in
    let givers : givers_after q after mirror ≡ givers_after p after mirror =
    same_lists (givers_after q after mirror) (givers_after p after mirror)
    (length-givers_after q after mirror ∙ length-givers_after p so_far mirror ∙ sym (length-givers_after p after mirror))
    (λ k d below.
    let inside : k < length p.givers = omega (arith, length-givers_after q after mirror, length-givers_after p so_far mirror) in
    let more : counts so_far k ≤ counts after k =
    subst (λ (ys : List Bool). counts so_far k ≤ counts ys k) (sym (filled-more true first count p.landed within))
    (count-part_le so_far (k * full_blocks p.piece_len) (blocks_of_piece p.total p.piece_len k) (first + count) (omega arith)) in
    get_or-givers_after q after mirror k d (omega (arith, length-givers_after p so_far mirror))
    ∙ ap (λ g. grown g (counts so_far k) (counts after k) mirror) (get_or-givers_after p so_far mirror k Nobody inside)
    ∙ grown-grown (get_or p.givers k Nobody) (counts p.landed k) (counts so_far k) (counts after k) mirror (filled_le p.total p.piece_len p.landed first count k (omega arith)) more
    ∙ sym (get_or-givers_after p after mirror k d inside)) in
    same_progress p (filled true (first + count) 1 so_far) after (givers_after q (filled true (first + count) 1 so_far) mirror) (givers_after p after mirror)
    row (ap (λ a. givers_after q a mirror) row ∙ givers)
