-- Which pieces hold bytes of a file.
use Rattle.std.proofs.Common.{◌≡◌, ◌⊎◌, ◌∙◌, ◌+◌, ◌*◌, ◌/◌, ◌<◌, ◌≤◌, ◌&&◌, ◌||◌, ℕ, Bool, true, false, List, [], ◌∷◌, ◌++◌, ⊎_elim, inl, inr, ap, sym, refl, min, max, length, take, get_or, replicate, slice_get, Some, arith, add_assoc, zero-add, add-zero}
use Rattle.std.proofs.Math.Nat.{mul-le-mul_right}
use Rattle.std.specs.Int.{div_ceil}
use Rattle.std.proofs.lemmas.Bool.{lt-ltb, le-ltb, cases_lt}
use Rattle.std.proofs.lemmas.Grind.{div_ceil_times}
use Rattle.std.proofs.lemmas.List.{get_or-replicate, length-replicate, length-take-le, same_lists, take_more}
use Rattle.std.proofs.lemmas.List.Sums.{sum_by-cons}
use Rattle.std.proofs.lemmas.Option.{get_or_from_slice_get}
use Rattle.std.proofs.lemmas.Nat.{div-add-mod', mod_below}
use Rattle.span_map.specs.Layout.{total_of}
use Rattle.span_map.specs.declared.files.FileLen.{FileLen}
use Rattle.file_choice.specs.Selected.{holds_byte_of, holds_selected}
use Rattle.file_choice.specs.Sweeps.{AreMarked, IsSetBetween}

-- ---- the pieces of a file

-- a piece among those that cover the bytes begins within them
begins : (until len piece : ℕ) → 1 ≤ len → piece < div_ceil until len → piece * len < until
begins until len piece some below =
    let step : (piece + 1) * len ≤ div_ceil until len * len = mul-le-mul_right len (let le : piece + 1 ≤ div_ceil until len = omega arith in le) in
    let top : div_ceil until len * len < until + len = (div_ceil_times until len some).1 in
    omega (arith, step, top)

-- .. and a later one doesn't
beyond : (until len piece : ℕ) → 1 ≤ len → div_ceil until len ≤ piece → until ≤ piece * len
beyond until len piece some le =
    let step : div_ceil until len * len ≤ piece * len = mul-le-mul_right len le in
    let top : until ≤ div_ceil until len * len = (div_ceil_times until len some).0 in
    omega (arith, step, top)

-- a piece from the one that holds a byte on ends behind the byte
ends : (start len piece : ℕ) → 1 ≤ len → start / len ≤ piece → start < (piece + 1) * len
ends start len piece some le =
    let step : start / len * len ≤ piece * len = mul-le-mul_right len le in
    let parts = div-add-mod' start len in
    let rest = mod_below start len some in
    omega (arith, step, parts, rest)

-- .. and an earlier one doesn't
ended : (start len piece : ℕ) → 1 ≤ len → piece < start / len → (piece + 1) * len ≤ start
ended start len piece some below =
    let step : (piece + 1) * len ≤ start / len * len = mul-le-mul_right len (let le : piece + 1 ≤ start / len = omega arith in le) in
    let parts = div-add-mod' start len in
    omega (arith, step, parts)

pub file_holds : (total len piece start size until : ℕ) → 1 ≤ len → until ≡ min (start + size) total → start < until
    → start / len ≤ piece → piece < div_ceil until len → holds_byte_of total len piece start size ≡ true
file_holds total len piece start size until some is left low high =
    let b = begins until len piece some high in
    let e = ends start len piece some low in
    lt-ltb (max start (piece * len)) (min (start + size) (min ((piece + 1) * len) total)) (omega (arith, b, e))

pub file_misses : (total len piece start size until : ℕ) → 1 ≤ len → until ≡ min (start + size) total
    → (piece < start / len) ⊎ (div_ceil until len ≤ piece) → holds_byte_of total len piece start size ≡ false
file_misses total len piece start size until some is out =
    le-ltb (max start (piece * len)) (min (start + size) (min ((piece + 1) * len) total))
    (⊎_elim (λ (low : piece < start / len). let e = ended start len piece some low in omega (arith, e))
    (λ (high : div_ceil until len ≤ piece). let b = beyond until len piece some high in omega (arith, b)) out)

pub nothing_left : (total len piece start size until : ℕ) → until ≡ min (start + size) total → until ≤ start
    → holds_byte_of total len piece start size ≡ false
nothing_left total len piece start size until is none =
    le-ltb (max start (piece * len)) (min (start + size) (min ((piece + 1) * len) total)) (omega arith)

-- ---- one more file

or_assoc : (a b c : Bool) → (a || (b || c)) ≡ ((a || b) || c)
or_assoc true b c = refl
or_assoc false b c = refl

or_false : (b : Bool) → (b || false) ≡ b
or_false true = refl
or_false false = refl

pub selected_more : (total len : ℕ) (selected : ℕ → Bool) (piece number first : ℕ) (files : List FileLen) (file : FileLen)
    → holds_selected total len selected piece number first (files ++ file ∷ [])
    ≡ (holds_selected total len selected piece number first files
    || (selected (number + length files) && holds_byte_of total len piece (first + total_of files) file.len))
selected_more total len selected piece number first [] file =
    or_false (selected number && holds_byte_of total len piece first file.len)
    ∙ (ap (λ n. selected n && holds_byte_of total len piece first file.len) (sym (add-zero number))
    ∙ ap (λ n. selected (number + 0) && holds_byte_of total len piece n file.len) (sym (add-zero first)))
selected_more total len selected piece number first (f ∷ files) file =
    ap (λ b. selected number && holds_byte_of total len piece first f.len || b)
    (selected_more total len selected piece (number + 1) (first + f.len) files file)
    ∙ (or_assoc (selected number && holds_byte_of total len piece first f.len)
    (holds_selected total len selected piece (number + 1) (first + f.len) files)
    (selected (number + 1 + length files) && holds_byte_of total len piece (first + f.len + total_of files) file.len)
    ∙ (ap (λ n. holds_selected total len selected piece number first (f ∷ files) || (selected n && holds_byte_of total len piece (first + f.len + total_of files) file.len)) (let e : number + 1 + length files ≡ number + length (f ∷ files) = omega arith in e)
    ∙ ap (λ n. holds_selected total len selected piece number first (f ∷ files) || (selected (number + length (f ∷ files)) && holds_byte_of total len piece n file.len)) (add_assoc first f.len (total_of files) ∙ ap (λ n. first + n) (sym (sum_by-cons (λ (file : FileLen). file.len) f files)))))

-- .. of a list of files
pub selected_next : (total len : ℕ) (selected : ℕ → Bool) (piece start i : ℕ) (files : List FileLen) (d : FileLen)
    → i < length files → start ≡ total_of (take i files)
    → holds_selected total len selected piece 1 0 (take (i + 1) files)
    ≡ (holds_selected total len selected piece 1 0 (take i files)
    || (selected (1 + i) && holds_byte_of total len piece start (get_or files i d).len))
selected_next total len selected piece start i files d within is =
    ap (holds_selected total len selected piece 1 0) (take_more files i d within)
    ∙ (selected_more total len selected piece 1 0 (take i files) (get_or files i d)
    ∙ (ap (λ n. holds_selected total len selected piece 1 0 (take i files) || (selected (1 + n) && holds_byte_of total len piece (0 + total_of (take i files)) (get_or files i d).len))
    (length-take-le i files (let le : i ≤ length files = omega arith in le))
    ∙ ap (λ n. holds_selected total len selected piece 1 0 (take i files) || (selected (1 + i) && holds_byte_of total len piece n (get_or files i d).len))
    (zero-add (total_of (take i files)) ∙ sym is)))

-- ---- marks

or_true : (b : Bool) → (b || true) ≡ true
or_true true = refl
or_true false = refl

-- the pieces between are marked ..
pub marked_between : (total len start size until : ℕ) (old new : List Bool) → 1 ≤ len
    → until ≡ min (start + size) total → start < until
    → IsSetBetween (start / len) (div_ceil until len) old new → AreMarked total len start size old new
marked_between total len start size until old new some is left h =
    record {
      long = h.long;
      each = λ piece was at.
          let miss = λ (out : (piece < start / len) ⊎ (div_ceil until len ≤ piece)).
          h.others piece out ∙ (at ∙ ap Some (sym (or_false was)
          ∙ ap (λ b. was || b) (sym (file_misses total len piece start size until some is out)))) in
          ⊎_elim
          (λ (low : piece < start / len). miss (inl low))
          (λ (from : start / len ≤ piece).
          ⊎_elim
          (λ (below : piece < div_ceil until len).
          h.inside piece from below
          ∙ ap Some (sym (or_true was) ∙ ap (λ b. was || b) (sym (file_holds total len piece start size until some is left from below))))
          (λ (high : div_ceil until len ≤ piece). miss (inr high))
          (cases_lt piece (div_ceil until len)))
          (cases_lt piece (start / len));
    }

-- .. and none where no byte is left
pub none_marked : (total len start size until : ℕ) (row : List Bool) → until ≡ min (start + size) total → until ≤ start
    → AreMarked total len start size row row
none_marked total len start size until row is none =
    record {
      long = refl;
      each = λ piece was at. at ∙ ap Some (sym (or_false was) ∙ ap (λ b. was || b) (sym (nothing_left total len piece start size until is none)));
    }

-- the range of a file's pieces lies within the payload's
pub range_within : (total len start size until : ℕ) → 1 ≤ len → until ≡ min (start + size) total → start < until
    → (start / len ≤ div_ceil until len) × (div_ceil until len ≤ div_ceil total len)
range_within total len start size until some is left = (
  ⊎_elim (λ (no : div_ceil until len < start / len).
      let b = beyond until len (div_ceil until len) some (let le : div_ceil until len ≤ div_ceil until len = omega arith in le) in
      let e = ended start len (div_ceil until len) some no in
      absurd (let m : div_ceil until len * len ≤ (div_ceil until len + 1) * len = mul-le-mul_right len (let le : div_ceil until len ≤ div_ceil until len + 1 = omega arith in le) in omega (arith, b, e, m)))
      (λ le. le) (cases_lt (div_ceil until len) (start / len)),
  ⊎_elim (λ (no : div_ceil total len < div_ceil until len).
      let b = begins until len (div_ceil total len) some no in
      let c = beyond total len (div_ceil total len) some (let le : div_ceil total len ≤ div_ceil total len = omega arith in le) in
      absurd (omega (arith, b, c)))
      (λ le. le) (cases_lt (div_ceil total len) (div_ceil until len)),
)

-- ---- the loop over the files

pub file_next : (total len : ℕ) (selected : ℕ → Bool) (start i : ℕ) (files : List FileLen) (file : FileLen)
    (old new : List Bool) → i < length files → file ≡ get_or files i file → start ≡ total_of (take i files)
    → (flag : Bool) → flag ≡ selected (1 + i)
    → (piece : ℕ) → slice_get old piece ≡ Some (holds_selected total len selected piece 1 0 (take i files))
    → ((was : Bool) → slice_get old piece ≡ Some was
    → slice_get new piece ≡ Some (was || (flag && holds_byte_of total len piece start file.len)))
    → slice_get new piece ≡ Some (holds_selected total len selected piece 1 0 (take (i + 1) files))
file_next total len selected start i files file old new within file_is is flag flag_is piece was step =
    step (holds_selected total len selected piece 1 0 (take i files)) was
    ∙ ap Some (ap (λ b. holds_selected total len selected piece 1 0 (take i files) || (b && holds_byte_of total len piece start file.len)) flag_is
    ∙ (ap (λ (f : FileLen). holds_selected total len selected piece 1 0 (take i files) || (selected (1 + i) && holds_byte_of total len piece start f.len)) file_is
    ∙ sym (selected_next total len selected piece start i files file within is)))

-- a file that isn't selected leaves the row as it is
pub kept : (row : List Bool) (piece : ℕ) (held : Bool) (was : Bool) → slice_get row piece ≡ Some was
    → slice_get row piece ≡ Some (was || (false && held))
kept row piece held was at = at ∙ ap Some (sym (or_false was))

-- ---- all pieces

pub all_set : (n : ℕ) (old new : List Bool) → length old ≡ n → IsSetBetween 0 n old new → new ≡ replicate n true
all_set n old new long h =
    same_lists new (replicate n true) (h.long ∙ (long ∙ sym (length-replicate n true)))
    (λ k d below.
    let within : k < n = (let l = h.long in omega arith) in
    get_or_from_slice_get new k true d (h.inside k (omega arith) within) ∙ sym (get_or-replicate n k true d within))
