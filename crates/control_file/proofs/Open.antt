-- Pieces that are open one after the other, each taken by those before it: they are open at first, and differ.
use Rattle.std.proofs.Common.{◌≡◌, ◌≢◌, ℕ, suc, ◌<◌, Bool, true, false, List, [], ◌∷◌, length, get_or, set, map, All, AllPairs, Some, slice_get, slice_set, sym, ap, ◌∙◌, inl, inr, arith}
use Rattle.std.specs.List.{AllByRecursion}
use Rattle.std.proofs.lemmas.Bool.{cases_lt, false≢true}
use Rattle.std.proofs.lemmas.List.{get_or-set_same, get_or-set_other, get_or_past}
use Rattle.std.proofs.lemmas.List.Elements.{All-from_recursion, recursion_from_All}
use Rattle.std.proofs.lemmas.List.Kept.{AllPairs-cons}
use Rattle.std.proofs.lemmas.Option.{slice_get-get_or, get_or_from_slice_get}
use Rattle.dl_kinds.specs.Plan.{blocks_of_piece}
use Rattle.control_file.specs.declared.control.InFlight.{InFlight}
use Rattle.control_file.specs.Spelling.{bytes_of_piece}

-- not taken, with its length and its blocks
pub record IsOpen (total piece_len : ℕ) (taken : List Bool) (piece : InFlight) : Type 0 where
  pub free : get_or taken piece.index true ≡ false
  pub size : piece.length ≡ bytes_of_piece total piece_len piece.index
  pub bits : length piece.blocks ≡ blocks_of_piece total piece_len piece.index

pub free_within : (taken : List Bool) (i : ℕ) → get_or taken i true ≡ false → i < length taken
free_within taken i free = elim (cases_lt i (length taken)) [
  | inl within ↦ within
  | inr past ↦ absurd (false≢true (sym free ∙ get_or_past taken i true past))
]

pub free_is_false : (taken : List Bool) (i : ℕ) → get_or taken i true ≡ false → slice_get taken i ≡ Some false
free_is_false taken i free = slice_get-get_or taken i true (free_within taken i free) ∙ ap Some free

pub false_is_free : (taken : List Bool) (i : ℕ) → slice_get taken i ≡ Some false → get_or taken i true ≡ false
false_is_free taken i is = get_or_from_slice_get taken i false true is

-- each in turn
abbrev pub AreOpen : ℕ → ℕ → List Bool → List InFlight → Type 0
AreOpen total piece_len taken [] = Unit {0}
AreOpen total piece_len taken (piece ∷ pieces) = IsOpen total piece_len taken piece
    × AreOpen total piece_len (slice_set taken piece.index true) pieces

-- what is free behind a taken piece was free before it, and is another
freed : (taken : List Bool) (i j : ℕ) → i < length taken → get_or (set taken i true) j true ≡ false
    → (get_or taken j true ≡ false) × (i ≢ j)
freed taken i j within free =
    let other : j ≢ i = λ same. false≢true (sym free ∙ ap (λ k. get_or (set taken i true) k true) same
    ∙ get_or-set_same taken i true true within) in
    (sym (get_or-set_other taken i j true true other) ∙ free, λ same. other (sym same))

module _ (total piece_len : ℕ) where
  -- open and other than this one
  record IsOther (taken : List Bool) (i : ℕ) (piece : InFlight) : Type 0 where
    pub is_free : IsOpen total piece_len taken piece
    pub differs : i ≢ piece.index

  others : (taken : List Bool) (i : ℕ) (pieces : List InFlight) → i < length taken
      → AllByRecursion (IsOpen total piece_len (set taken i true)) pieces → AllByRecursion (IsOther taken i) pieces
  others taken i [] within all = tt
  others taken i (piece ∷ pieces) within all =
      let f = freed taken i piece.index within all.0.free in (
        record { is_free = record { free = f.0; size = all.0.size; bits = all.0.bits }; differs = f.1 },
        others taken i
            pieces within all.1,
      )

  all_free : (taken : List Bool) (i : ℕ) (pieces : List InFlight) → AllByRecursion (IsOther taken i) pieces
      → AllByRecursion (IsOpen total piece_len taken) pieces
  all_free taken i [] all = tt
  all_free taken i (piece ∷ pieces) all = (all.0.is_free, all_free taken i pieces all.1)

  all_differ : (taken : List Bool) (i : ℕ) (pieces : List InFlight) → AllByRecursion (IsOther taken i) pieces
      → AllByRecursion (λ n. i ≢ n) (map (λ piece. piece.index) pieces)
  all_differ taken i [] all = tt
  all_differ taken i (piece ∷ pieces) all = (all.0.differs, all_differ taken i pieces all.1)

  pub each_open : (taken : List Bool) (pieces : List InFlight) → AreOpen total piece_len taken pieces
      → AllByRecursion (IsOpen total piece_len taken) pieces
  each_open taken [] all = tt
  each_open taken (piece ∷ pieces) (one, more) =
      let within = free_within taken piece.index one.free in (
        one,
        all_free taken piece.index pieces (others taken piece.index pieces within
            (each_open (set taken piece.index true) pieces more)),
      )

  pub they_differ : (taken : List Bool) (pieces : List InFlight) → AreOpen total piece_len taken pieces
      → AllPairs (λ a b. a ≢ b) (map (λ piece. piece.index) pieces)
  they_differ taken [] all = λ i j d before within. absurd (omega arith)
  they_differ taken (piece ∷ pieces) (one, more) =
      let within = free_within taken piece.index one.free in
      let rest = others taken piece.index pieces within (each_open (set taken piece.index true) pieces more) in
      AllPairs-cons (λ a b. a ≢ b) piece.index (map (λ p. p.index) pieces)
      (All-from_recursion (λ n. piece.index ≢ n) _ (all_differ taken piece.index pieces rest))
      (they_differ (set taken piece.index true) pieces more)

  -- and the other way round
  still_open : (taken : List Bool) (i : ℕ) (pieces : List InFlight)
      → AllByRecursion (IsOpen total piece_len taken) pieces
      → AllByRecursion (λ n. i ≢ n) (map (λ piece. piece.index) pieces)
      → AllByRecursion (IsOpen total piece_len (set taken i true)) pieces
  still_open taken i [] all differ = tt
  still_open taken i (piece ∷ pieces) all differ =
      let free : get_or (set taken i true) piece.index true ≡ false =
      get_or-set_other taken i piece.index true true (λ same. differ.0 (sym same)) ∙ all.0.free in
      (record { free = free; size = all.0.size; bits = all.0.bits }, still_open taken i pieces all.1 differ.1)

  tail_differs : (x : ℕ) (xs : List ℕ) → AllPairs (λ a b. a ≢ b) (x ∷ xs) → AllPairs (λ a b. a ≢ b) xs
  tail_differs x xs all i j d before within = all (suc i) (suc j) d (omega arith) (omega arith)

  head_differs : (x : ℕ) (xs : List ℕ) → AllPairs (λ a b. a ≢ b) (x ∷ xs) → All (λ n. x ≢ n) xs
  head_differs x xs all k d within = all 0 (suc k) d (omega arith) (omega arith)

  pub open_in_turn : (taken : List Bool) (pieces : List InFlight) → AllByRecursion (IsOpen total piece_len taken) pieces
      → AllPairs (λ a b. a ≢ b) (map (λ piece. piece.index) pieces) → AreOpen total piece_len taken pieces
  open_in_turn taken [] all differ = tt
  open_in_turn taken (piece ∷ pieces) all differ =
      let numbers = map (λ p. p.index) pieces in
      let first = recursion_from_All (λ n. piece.index ≢ n) numbers (head_differs piece.index numbers differ) in (
        all.0,
        open_in_turn (set taken piece.index true) pieces (still_open taken piece.index pieces all.1 first)
            (tail_differs piece.index numbers differ),
      )
