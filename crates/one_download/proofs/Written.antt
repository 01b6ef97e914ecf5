-- Rows that are written anew, from their first place on.
use Rattle.std.proofs.Common.{◌≡◌, ◌≢◌, ◌⊎◌, ◌↔◌, ℕ, ◌+◌, ◌<◌, ◌≤◌, Bool, true, false, List, length, map, get_or, set, Some, slice_get, refl, sym, ap, zero-add, ◌∙◌, inl, inr, ⊎_elim, arith}
use Rattle.std.specs.Prelude.{◌&&◌, ◌||◌, not, IsTrue}
use Rattle.std.specs.Bool.{beq}
use Rattle.std.specs.List.{range_with_len}
use Rattle.std.proofs.lemmas.Bool.{cases_eq}
use Rattle.std.proofs.lemmas.List.{length-set, get_or-set_same, get_or-set_other, ext_get_or}
use Rattle.std.proofs.lemmas.List.FromFn.{get_or-map-range_with_len, length-map-range_with_len}
use Rattle.std.proofs.lemmas.Option.{slice_get-get_or, get_or_from_slice_get}
use Rattle.dl_kinds.specs.Plan.{piece_of, blocks_of, pieces_of}
use Rattle.piece_table.specs.Progress.{Progress, IsListed, IsValid}

-- the places before this one are what the function says
pub record IsWritten (f : ℕ → Bool) (many place : ℕ) (row : List Bool) : Type 0 where
  pub long : length row ≡ many
  pub each : (i : ℕ) → i < place → get_or row i false ≡ f i

pub written_none : (f : ℕ → Bool) (many : ℕ) (row : List Bool) → length row ≡ many → IsWritten f many 0 row
written_none f many row long = record { long = long; each = λ i below. absurd (omega arith) }

pub written_more : (f : ℕ → Bool) (many place : ℕ) (row new : List Bool) (value : Bool) → IsWritten f many place row
    → place < many → value ≡ f place → new ≡ set row place value → IsWritten f many (place + 1) new
written_more f many place row new value w within is put =
    record {
      long = ap length put ∙ length-set row place value ∙ w.long;
      each = λ i below.
          ap (λ (r : List Bool). get_or r i false) put
          ∙ ⊎_elim
          (λ (here : i ≡ place). let long = w.long in rw here (get_or-set_same row place value false (omega arith) ∙ is))
          (λ (other : i ≢ place). get_or-set_other row place i value false other ∙ w.each i (omega arith))
          (cases_eq i place);
    }

pub written_all : (f : ℕ → Bool) (many place : ℕ) (row : List Bool) → IsWritten f many place row → many ≤ place
    → row ≡ map f (range_with_len 0 many)
written_all f many place row w all =
    let long : length row ≡ length (map f (range_with_len 0 many)) = w.long ∙ sym (length-map-range_with_len f 0 many) in
    ext_get_or false row (map f (range_with_len 0 many)) long
    (λ i below. let many_is = w.long in
    w.each i (omega arith) ∙ sym (get_or-map-range_with_len f 0 many i i false (omega arith) (zero-add i)))

pub copied : (from row : List Bool) (place : ℕ) → IsWritten (λ i. get_or from i false) (length from) place row
    → length from ≤ place → row ≡ from
copied from row place w all =
    ext_get_or false row from w.long (λ i below. let long = w.long in w.each i (omega arith))

-- ---- what a save lists of a table

abbrev pub lists_block : Progress → ℕ → Bool
lists_block p b =
    let piece = piece_of p.piece_len b in
    get_or p.landed b false
    && (get_or p.verified piece false || not (get_or p.sole piece false) && not (get_or p.wrong piece false))

same_truth : (a b : Bool) → (a ≡ true → b ≡ true) → (b ≡ true → a ≡ true) → a ≡ b
same_truth true b to from = sym (to refl)
same_truth false true to from = from refl
same_truth false false to from = refl

and_left : (a b : Bool) → (a && b) ≡ true → a ≡ true
and_left true b h = refl
and_left false b h = h

and_right : (a b : Bool) → (a && b) ≡ true → b ≡ true
and_right true b h = h
and_right false b h = absurd cc

or_right : (a b : Bool) → b ≡ true → (a || b) ≡ true
or_right true b h = refl
or_right false b h = h

or_either : (a b : Bool) → (a || b) ≡ true → (a ≡ true) ⊎ (b ≡ true)
or_either true b h = inl refl
or_either false b h = inr h

not_true : (a : Bool) → not a ≡ true → a ≡ false
not_true true h = absurd cc
not_true false h = refl

value_at : (row : List Bool) (i : ℕ) (value : Bool) → i < length row → get_or row i false ≡ value
    → slice_get row i ≡ Some value
value_at row i value within is = slice_get-get_or row i false within ∙ ap (λ (b : Bool). Some b) is

listed_is : (p : Progress) (b : ℕ) → IsListed p b → lists_block p b ≡ true
listed_is p b l =
    let piece = piece_of p.piece_len b in
    let landed : get_or p.landed b false ≡ true = get_or_from_slice_get p.landed b true false l.landed in
    rw landed
    (⊎_elim
    (λ (v : slice_get p.verified piece ≡ Some true).
    let is : get_or p.verified piece false ≡ true = get_or_from_slice_get p.verified piece true false v in rw is refl)
    (λ (k : (slice_get p.sole piece ≡ Some false) × (slice_get p.wrong piece ≡ Some false)).
    let sole : get_or p.sole piece false ≡ false = get_or_from_slice_get p.sole piece false false k.0 in
    let wrong : get_or p.wrong piece false ≡ false = get_or_from_slice_get p.wrong piece false false k.1 in
    rw (sole, wrong) (or_right (get_or p.verified piece false) true refl))
    l.kept)

is_listed_by : (p : Progress) (b : ℕ) → IsValid p → b < blocks_of p.total p.piece_len
    → piece_of p.piece_len b < pieces_of p.total p.piece_len → lists_block p b ≡ true → IsListed p b
is_listed_by p b v within known is =
    let piece = piece_of p.piece_len b in
    let verified = get_or p.verified piece false in
    let loose = not (get_or p.sole piece false) && not (get_or p.wrong piece false) in
    let here = and_left (get_or p.landed b false) (verified || loose) is in
    let rest = and_right (get_or p.landed b false) (verified || loose) is in
    record {
      landed = value_at p.landed b true (let l = v.start.blocks in omega arith) here;
      kept =
          ⊎_elim
          (λ (t : verified ≡ true). inl (value_at p.verified piece true (let l = v.start.pieces in omega arith) t))
          (λ (t : loose ≡ true).
          inr (
            value_at p.sole piece false (let l = v.sole in omega arith)
                (not_true (get_or p.sole piece false)
                (and_left (not (get_or p.sole piece false)) (not (get_or p.wrong piece false)) t)),
            value_at p.wrong piece false (let l = v.wrong in omega arith)
                (not_true (get_or p.wrong piece false)
                (and_right (not (get_or p.sole piece false)) (not (get_or p.wrong piece false)) t)),
          ))
          (or_either verified loose rest);
    }

pub listed_value : (p : Progress) (b : ℕ) (value : Bool) → IsTrue value ↔ IsListed p b → IsValid p
    → b < blocks_of p.total p.piece_len → piece_of p.piece_len b < pieces_of p.total p.piece_len
    → value ≡ lists_block p b
listed_value p b value says v within known =
    same_truth value (lists_block p b) (λ t. listed_is p b (says.0 t))
    (λ t. says.1 (is_listed_by p b v within known t))

-- ---- rows that are compared

pub written_on : (f : ℕ → Bool) (many place : ℕ) (row : List Bool) → IsWritten f many place row
    → get_or row place false ≡ f place → IsWritten f many (place + 1) row
written_on f many place row w is =
    record {
      long = w.long;
      each = λ i below.
          ⊎_elim (λ (here : i ≡ place). rw here is)
          (λ (other : i ≢ place). w.each i (omega arith))
          (cases_eq i place);
    }

pub differs : (f : ℕ → Bool) (many place : ℕ) (row : List Bool) → place < many → get_or row place false ≢ f place
    → row ≢ map f (range_with_len 0 many)
differs f many place row within other same =
    other (ap (λ (r : List Bool). get_or r place false) same
    ∙ get_or-map-range_with_len f 0 many place place false within (zero-add place))

pub not_apart : (a b : Bool) → not (beq a b) ≡ false → a ≡ b
not_apart true true h = refl
not_apart true false h = absurd cc
not_apart false true h = absurd cc
not_apart false false h = refl

pub apart : (a b : Bool) → not (beq a b) ≡ true → a ≢ b
apart true true h = absurd cc
apart true false h = λ e. absurd cc
apart false true h = λ e. absurd cc
apart false false h = absurd cc
