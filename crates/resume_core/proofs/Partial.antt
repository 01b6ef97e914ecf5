-- Pieces in flight, collected in order.
use Rattle.std.proofs.Common.{◌≡◌, ℕ, ◌+◌, ◌<◌, Bool, true, false, slice_get, Some, List, [], ◌∷◌, ◌++◌, length, get_or, map, Contains, sym, subst, ap, ◌∙◌, ⊎_elim, arith}
use Rattle.std.specs.List.Sorted.{IsStrictlyIncreasing}
use Rattle.std.proofs.lemmas.Bool.{cases_eq, false≢true}
use Rattle.std.proofs.lemmas.Option.{get_or_from_slice_get}
use Rattle.std.proofs.lemmas.List.{get_or-map, get_or_append_left, get_or_push, length-map, length_push, map-append}
use Rattle.std.proofs.lemmas.List.Elements.{Contains-push, Contains-push_cases, Contains-append_left, Contains-get_or}
use Rattle.control_file.specs.declared.control.InFlight.{InFlight}
use Rattle.control_file.specs.Spelling.{bytes_of_piece}
use Rattle.piece_table.specs.Progress.{piece_part}
use Rattle.resume_core.specs.Tables.{IsPartial, ArePartial}

rises_push : (flight : List InFlight) (x : InFlight) → IsStrictlyIncreasing (map (λ piece. piece.index) flight)
    → ((piece : InFlight) → Contains flight piece → piece.index < x.index)
    → IsStrictlyIncreasing (map (λ piece. piece.index) (flight ++ x ∷ []))
rises_push flight x rises below k within =
    let ns : List ℕ = map (λ piece. piece.index) flight in
    let all : map (λ piece. piece.index) (flight ++ x ∷ []) ≡ ns ++ x.index ∷ [] =
    map-append (λ (piece : InFlight). piece.index) flight (x ∷ []) in
    let long : length ns ≡ length flight = length-map flight (λ (piece : InFlight). piece.index) in
    let size : length (map (λ piece. piece.index) (flight ++ x ∷ [])) ≡ length ns + 1 = ap length all
    ∙ length_push ns x.index in
    let front : get_or (ns ++ x.index ∷ []) k 0 ≡ get_or ns k 0 =
    get_or_append_left ns (x.index ∷ []) 0 k (omega (arith, within, size)) in
    let at_all = λ (i : ℕ). ap (λ (l : List ℕ). get_or l i 0) all in
    ⊎_elim
    (λ (last : k + 1 ≡ length ns).
    let inside : k < length flight = omega (arith, last, long) in
    let end : get_or (ns ++ x.index ∷ []) (k + 1) 0 ≡ x.index = get_or_push ns x.index 0 (k + 1) (sym last) in
    let here : get_or ns k 0 ≡ (get_or flight k x).index = get_or-map (λ (piece : InFlight). piece.index) flight k x 0 inside in
    omega (
      arith,
      at_all k,
      at_all (k + 1),
      front,
      end,
      here,
      below (get_or flight k x) (Contains-get_or flight k x inside),
    ))
    (λ other.
    let next : get_or (ns ++ x.index ∷ []) (k + 1) 0 ≡ get_or ns (k + 1) 0 =
    get_or_append_left ns (x.index ∷ []) 0 (k + 1) (omega (arith, within, size)) in
    let was : get_or ns k 0 < get_or ns (k + 1) 0 = rises k (omega (arith, within, size)) in
    omega (arith, at_all k, at_all (k + 1), front, next, was))
    (cases_eq (k + 1) (length ns))

abbrev in_flight : ℕ → ℕ → List Bool → InFlight
in_flight index long blocks = record { index = index; length = long; blocks = blocks }

same_in_flight : (a b : InFlight) → a.index ≡ b.index → a.length ≡ b.length → a.blocks ≡ b.blocks → a ≡ b
same_in_flight a b p q r =
    ap (λ (n : ℕ). in_flight n a.length a.blocks) p ∙ ap (λ (n : ℕ). in_flight b.index n a.blocks) q
    ∙ ap (λ (row : List Bool). in_flight b.index b.length row) r

module _ (total piece_len : ℕ) (verified listed : List Bool) (n : ℕ) where
  widened : (piece : InFlight) → IsPartial total piece_len verified listed n piece
      → IsPartial total piece_len verified listed (n + 1) piece
  widened piece is = record {
    before = omega (arith, is.before);
    unverified = is.unverified;
    size = is.size;
    blocks = is.blocks;
    some = is.some;
  }

  narrowed : (piece : InFlight) → piece.index < n → IsPartial total piece_len verified listed (n + 1) piece
      → IsPartial total piece_len verified listed n piece
  narrowed piece below is = record {
    before = below;
    unverified = is.unverified;
    size = is.size;
    blocks = is.blocks;
    some = is.some;
  }

  module _ (flight : List InFlight) (are : ArePartial total piece_len verified listed n flight) where
    -- the piece of this number isn't one of them
    pub partial_skip
        : ((piece : InFlight) → piece.index ≡ n → IsPartial total piece_len verified listed (n + 1) piece → ⊥)
        → ArePartial total piece_len verified listed (n + 1) flight
    partial_skip none = record {
      ascending = are.ascending;
      exact = λ piece. (
        λ has. widened piece ((are.exact piece).0 has),
        λ is. ⊎_elim
            (λ (same : piece.index ≡ n). absurd (none piece same is))
            (λ other. (are.exact piece).1 (narrowed piece (omega (arith, is.before)) is))
            (cases_eq piece.index n),
      );
      few = omega (arith, are.few);
    }

    -- and here it is
    pub partial_push : (x : InFlight) → x.index ≡ n → IsPartial total piece_len verified listed (n + 1) x
        → ArePartial total piece_len verified listed (n + 1) (flight ++ x ∷ [])
    partial_push x number new = record {
      ascending = rises_push flight x are.ascending
          (λ piece has. omega (arith, number, ((are.exact piece).0 has).before));
      exact = λ piece. (
        λ has. ⊎_elim
            (λ old. widened piece ((are.exact piece).0 old))
            (λ (same : x ≡ piece). subst (λ (p : InFlight). IsPartial total piece_len verified listed (n + 1) p) same new)
            (Contains-push_cases flight x piece has),
        λ is. ⊎_elim
            (λ (same : piece.index ≡ n).
            let number_is : x.index ≡ piece.index = number ∙ sym same in
            let size = new.size ∙ ap (λ (i : ℕ). bytes_of_piece total piece_len i) number_is ∙ sym is.size in
            let blocks = new.blocks ∙ ap (λ (i : ℕ). piece_part total piece_len listed i) number_is ∙ sym is.blocks in
            subst (λ (p : InFlight). Contains (flight ++ x ∷ []) p) (same_in_flight x piece number_is size blocks)
            (Contains-push flight x))
            (λ other. Contains-append_left flight (x ∷ []) piece
            ((are.exact piece).1 (narrowed piece (omega (arith, is.before)) is)))
            (cases_eq piece.index n),
      );
      few = omega (arith, are.few, length_push flight x);
    }

  pub not_verified : slice_get verified n ≡ Some true → (piece : InFlight) → piece.index ≡ n
      → IsPartial total piece_len verified listed (n + 1) piece → ⊥
  not_verified is piece same partial = false≢true
      (sym (get_or_from_slice_get verified n false false
      (ap (λ (i : ℕ). slice_get verified i) (sym same) ∙ partial.unverified))
      ∙ get_or_from_slice_get verified n true false is)

  pub not_some : (row : List Bool) → row ≡ piece_part total piece_len listed n → (Contains row true → ⊥)
      → (piece : InFlight) → piece.index ≡ n → IsPartial total piece_len verified listed (n + 1) piece → ⊥
  not_some row is none piece same partial = none (subst (λ (r : List Bool). Contains r true)
      (partial.blocks ∙ ap (λ (i : ℕ). piece_part total piece_len listed i) same ∙ sym is) partial.some)
