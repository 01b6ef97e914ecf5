-- Which blocks of a span are loose.
use Rattle.std.proofs.Common.{◌≡◌, ℕ, suc, ◌+◌, ◌-◌, ◌*◌, ◌<◌, ◌≤◌, Bool, true, false, cond, List, [], ◌∷◌, Some, length, get_or, refl, sym, ap, ◌∙◌, subst, inl, inr, arith}
use Rattle.std.specs.Prelude.{◌&&◌, ◌||◌, min, not, nat_le, Option, All, AllPairs, find, slice_get, slice_index_or}
use Rattle.std.specs.List.{list_any}
use Rattle.std.specs.Option.{option_map, option_map_or}
use Rattle.std.proofs.lemmas.Bool.{cases_eq, cases_lt}
use Rattle.std.proofs.lemmas.Bool.Decides.{nat_tests}
use Rattle.std.proofs.lemmas.List.Folds.{list_any_none}
use Rattle.std.proofs.lemmas.Option.{slice_get-get_or}
use Rattle.dl_kinds.specs.Plan.{IsPlan, blocks_of, blocks_of_piece, full_blocks, piece_of, place_of}
use Rattle.dl_kinds.specs.PlanLaws.{BlocksAreOfPieces, PlacesAreNumbered}
use Rattle.dl_kinds.specs.declared.claims.Claim.{Claim}
use Rattle.piece_table.specs.Changes.{is_in}
use Rattle.segment_claim.specs.Free.{is_claimed, is_loose, piece_at}
use Rattle.segment_claim.specs.Situation.{Situation}
use Rattle.segment_claim.specs.Sound.{IsNewer, IsSituation}
use Rattle.segment_claim.specs.Spans.{IsCoverAt, IsSpanOfPiece, is_brought_by, may_be_loose, newest_over}
use Rattle.segment_claim.specs.declared.scene.Cover.{Cover}

-- a claim is to bring the block, unless that is landed
abbrev brings : ℕ → ℕ → Claim → Bool
brings number block claim = is_in block claim.run && nat_le number claim.id

older : (number block : ℕ) (claim : Claim) → claim.id < number → brings number block claim ≡ false
older number block claim less = grind (arith, nat_tests)

pub pairs_rest : (claim : Claim) (rest : List Claim) → AllPairs IsNewer (claim ∷ rest) → AllPairs IsNewer rest
pairs_rest claim rest newer = λ i j d less within. newer (suc i) (suc j) d (omega arith) (omega arith)

pub pairs_first : (claim : Claim) (rest : List Claim) → AllPairs IsNewer (claim ∷ rest) → All (IsNewer claim) rest
pairs_first claim rest newer = λ k d within. newer 0 (suc k) d (omega arith) (omega arith)

-- of the claims over a block the newest alone decides
newest_decides : (number block : ℕ) (standing : List Claim) → AllPairs IsNewer standing
    → list_any (brings number block) standing
    ≡ option_map_or (λ id. nat_le number id)
    (option_map (λ (claim : Claim). claim.id) (find (λ (claim : Claim). is_in block claim.run) standing)) false
newest_decides number block [] newer = refl
newest_decides number block (claim ∷ rest) newer =
    elim (is_in block claim.run) as
    (λ (b : Bool). ((b && nat_le number claim.id) || list_any (brings number block) rest)
    ≡ option_map_or (λ id. nat_le number id)
    (option_map (λ (c : Claim). c.id) (cond b (Some claim) (find (λ (c : Claim). is_in block c.run) rest))) false) [
      | true ↦ elim (nat_le number claim.id) as
          (λ (b : Bool). nat_le number claim.id ≡ b → (b || list_any (brings number block) rest) ≡ b) [
            | true ↦ λ _. refl
            | false ↦ λ below. list_any_none (brings number block) rest (λ k d within.
                older number block (get_or rest k d) (let newest = pairs_first claim rest newer k d within in let h =
                below in grind (arith, nat_tests)))
          ] refl
      | false ↦ newest_decides number block rest (pairs_rest claim rest newer)
    ]

unlanded : (number block : ℕ) (standing : List Claim)
    → list_any (λ (claim : Claim). is_in block claim.run && not false && nat_le number claim.id) standing ≡ list_any
    (brings number block) standing
unlanded number block [] = refl
unlanded number block (claim ∷ rest) =
    elim (is_in block claim.run) as
    (λ (b : Bool). ((b && not false && nat_le number claim.id) || list_any
    (λ (c : Claim). is_in block c.run && not false && nat_le number c.id) rest)
    ≡ ((b && nat_le number claim.id) || list_any (brings number block) rest)) [
      | true ↦ ap (λ (t : Bool). nat_le number claim.id || t) (unlanded number block rest)
      | false ↦ unlanded number block rest
    ]

-- whether a block that isn't landed is to be brought
claimed_is : (s : Situation) (block : ℕ) → AllPairs IsNewer s.standing → slice_index_or s.landed block false ≡ false
    → is_claimed s block ≡ is_brought_by s (piece_at s block) (newest_over s block)
claimed_is s block newer is =
    ap (λ (landed : Bool). list_any
    (λ (claim : Claim). is_in block claim.run && not landed && nat_le
    (slice_index_or s.closed (piece_at s block) 0) claim.id) s.standing) is
    ∙ unlanded (slice_index_or s.closed (piece_at s block) 0) block s.standing
    ∙ newest_decides (slice_index_or s.closed (piece_at s block) 0) block s.standing newer

-- whether a block is loose, by what is known of its piece and of the newest claim over it
pub loose_is : (s : Situation) (block : ℕ) → AllPairs IsNewer s.standing
    → is_loose s block ≡ (may_be_loose s (piece_at s block) (newest_over s block) && not
    (slice_index_or s.landed block false))
loose_is s block newer = decide (slice_index_or s.landed block false) (is_claimed s block)
    (slice_index_or s.wanted (piece_at s block) false) (slice_index_or s.sole (piece_at s block) false)
    (is_brought_by s (piece_at s block) (newest_over s block)) (claimed_is s block newer)
  where
    decide : (l c w o k : Bool) → (l ≡ false → c ≡ k)
        → ((w && not l && not c) && not o) ≡ ((w && not o && not k) && not l)
    decide true c true true k same = refl
    decide true c true false k same =
        elim k as (λ (t : Bool). false ≡ ((true && true && not t) && false)) [ true ↦ refl | false ↦ refl ]
    decide true c false o k same = refl
    decide false c true true k same = elim c as (λ (t : Bool). (not t && false) ≡ false) [ true ↦ refl | false ↦ refl ]
    decide false c true false k same =
        rw (same refl) (elim k as (λ (t : Bool). (not t && true) ≡ (not t && true)) [ true ↦ refl | false ↦ refl ])
    decide false c false o k same = refl

-- blocks of one piece
pub same_piece : (total piece_len at block : ℕ) → BlocksAreOfPieces → PlacesAreNumbered → IsPlan total piece_len
    → at < blocks_of total piece_len
    → at ≤ block → block < piece_of piece_len at * full_blocks piece_len + blocks_of_piece total piece_len
    (piece_of piece_len at)
    → piece_of piece_len block ≡ piece_of piece_len at
same_piece total piece_len at block of numbered plan known from to =
    let piece : ℕ = piece_of piece_len at in
    let first : ℕ = piece * full_blocks piece_len in
    let here = of total piece_len at plan known in
    let number : first + place_of piece_len at ≡ at = here.number in
    let place : ℕ = block - first in
    let is : first + place ≡ block = omega arith in
    subst (λ (b : ℕ). piece_of piece_len b ≡ piece) is
    (numbered total piece_len piece place plan here.piece (omega arith)).number.of

-- what is known of the blocks of a piece under one cover
pub record IsUnderCover (s : Situation) (at : ℕ) (newest : Option ℕ) (block : ℕ) : Type 0 where
  piece : piece_at s block ≡ piece_at s at
  loose : is_loose s block ≡ (may_be_loose s (piece_at s at) newest && not (slice_index_or s.landed block false))

pub under_cover : (s : Situation) (at : ℕ) (cover : Cover) → BlocksAreOfPieces → PlacesAreNumbered
    → IsPlan s.total s.piece_len
    → AllPairs IsNewer s.standing → at < blocks_of s.total s.piece_len → IsCoverAt s at cover
    → (block : ℕ) → at ≤ block → block < piece_at s at * full_blocks s.piece_len + blocks_of_piece s.total s.piece_len
    (piece_at s at)
    → block < cover.until → IsUnderCover s at cover.newest block
under_cover s at cover of numbered plan newer known covers block from in_piece to =
    let same : piece_at s block ≡ piece_at s at =
    same_piece s.total s.piece_len at block of numbered plan known from in_piece in
    let low = covers.from in
    let newest : newest_over s block ≡ cover.newest = covers.is block (omega arith) to in
    record {
      piece = same;
      loose = loose_is s block newer ∙ rw (same, newest) refl;
    }

-- a place that hasn't the other value has this one
pub read_as : (row : List Bool) (block : ℕ) (value : Bool) → block < length row
    → (slice_get row block ≡ Some (not value) → ⊥)
    → slice_index_or row block false ≡ value
read_as row block value within other =
    let is : slice_get row block ≡ Some (slice_index_or row block false) = slice_get-get_or row block false within in
    decide (slice_index_or row block false) value (λ same. other (is ∙ ap Some same))
  where
    decide : (a b : Bool) → (a ≡ not b → ⊥) → a ≡ b
    decide true true differ = refl
    decide true false differ = absurd (differ refl)
    decide false true differ = absurd (differ refl)
    decide false false differ = refl

-- a span none of whose blocks may be loose
pub span_none : (s : Situation) (at end piece : ℕ) (cover : Cover) → BlocksAreOfPieces → PlacesAreNumbered
    → IsSituation s
    → at < blocks_of s.total s.piece_len → IsCoverAt s at cover → piece ≡ piece_at s at
    → end ≡ min (piece * full_blocks s.piece_len + blocks_of_piece s.total s.piece_len piece) cover.until
    → piece * full_blocks s.piece_len + blocks_of_piece s.total s.piece_len piece ≤ blocks_of s.total s.piece_len
    → may_be_loose s piece cover.newest ≡ false → IsSpanOfPiece s at (record { end = end; loose = false })
span_none s at end piece cover of numbered sound known covers is_piece is_end within none =
    let here = of s.total s.piece_len at sound.plan known in
    let place : place_of s.piece_len at < blocks_of_piece s.total s.piece_len piece =
    subst (λ (p : ℕ). place_of s.piece_len at < blocks_of_piece s.total s.piece_len p) (sym is_piece) here.place in
    let number : piece * full_blocks s.piece_len + place_of s.piece_len at ≡ at =
    subst (λ (p : ℕ). p * full_blocks s.piece_len + place_of s.piece_len at ≡ at) (sym is_piece) here.number in
    let until = covers.until in
    let under : (block : ℕ) → at ≤ block → block < end → IsUnderCover s at cover.newest block = λ block from to.
    under_cover s at cover of numbered sound.plan sound.newer known covers block from
    (subst (λ (p : ℕ). block < p * full_blocks s.piece_len + blocks_of_piece s.total s.piece_len p) is_piece
    (omega arith)) (omega arith) in
    let never : may_be_loose s (piece_at s at) cover.newest ≡ false =
    subst (λ (p : ℕ). may_be_loose s p cover.newest ≡ false) is_piece none in
    record {
      some = omega arith;
      within = omega arith;
      piece = λ block from to. (under block from to).piece;
      loose = λ block from to. (under block from to).loose
          ∙ ap (λ (b : Bool). b && not (slice_index_or s.landed block false)) never;
    }

-- a span whose blocks are loose unless they are landed: up to the next block that differs from the first in that
pub span_some : (s : Situation) (at end next piece : ℕ) (cover : Cover) (landed : Bool) → BlocksAreOfPieces
    → PlacesAreNumbered → IsSituation s
    → at < blocks_of s.total s.piece_len → IsCoverAt s at cover → piece ≡ piece_at s at
    → end ≡ min (piece * full_blocks s.piece_len + blocks_of_piece s.total s.piece_len piece) cover.until
    → piece * full_blocks s.piece_len + blocks_of_piece s.total s.piece_len piece ≤ blocks_of s.total s.piece_len
    → may_be_loose s piece cover.newest ≡ true → slice_get s.landed at ≡ Some landed → next ≤ end
    → (next < end → slice_get s.landed next ≡ Some (not landed)) → (next < end → at ≤ next)
    → ((block : ℕ) → at ≤ block → block < next → slice_get s.landed block ≡ Some (not landed) → ⊥)
    → IsSpanOfPiece s at (record { end = next; loose = not landed })
span_some s at end next piece cover landed of numbered sound known covers is_piece is_end within may is bound found
    later passed =
    let here = of s.total s.piece_len at sound.plan known in
    let place : place_of s.piece_len at < blocks_of_piece s.total s.piece_len piece =
    subst (λ (p : ℕ). place_of s.piece_len at < blocks_of_piece s.total s.piece_len p) (sym is_piece) here.place in
    let number : piece * full_blocks s.piece_len + place_of s.piece_len at ≡ at =
    subst (λ (p : ℕ). p * full_blocks s.piece_len + place_of s.piece_len at ≡ at) (sym is_piece) here.number in
    let until = covers.until in
    let many = sound.landed in
    let after : at < next = elim (cases_lt next end) [
      | inl before ↦ elim (cases_eq next at) [
        | inl same ↦ absurd (differs landed (sym is ∙ ap (slice_get s.landed) (sym same) ∙ found before))
        | inr other ↦ let l = later before in omega arith
      ]
      | inr past ↦ omega arith
    ] in
    let under : (block : ℕ) → at ≤ block → block < next → IsUnderCover s at cover.newest block = λ block from to.
    under_cover s at cover of numbered sound.plan sound.newer known covers block from
    (subst (λ (p : ℕ). block < p * full_blocks s.piece_len + blocks_of_piece s.total s.piece_len p) is_piece
    (omega arith)) (omega arith) in
    let can : may_be_loose s (piece_at s at) cover.newest ≡ true =
    subst (λ (p : ℕ). may_be_loose s p cover.newest ≡ true) is_piece may in
    record {
      some = after;
      within = omega arith;
      piece = λ block from to. (under block from to).piece;
      loose = λ block from to. (under block from to).loose
          ∙ ap (λ (b : Bool). b && not (slice_index_or s.landed block false)) can
          ∙ ap not (read_as s.landed block landed (omega arith) (passed block from to));
    }
  where
    differs : (b : Bool) → Some b ≡ Some (not b) → ⊥
    differs true same = cc
    differs false same = cc
