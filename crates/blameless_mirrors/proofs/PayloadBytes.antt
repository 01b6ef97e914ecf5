-- The bytes of a payload in its files, place by place.
use Rattle.std.proofs.Common.{◌≡◌, ℕ, zero, suc, ◌+◌, ◌-◌, ◌*◌, ◌/◌, ◌<◌, ◌≤◌, Bool, cond, Option, Some, None, List, [], ◌∷◌, ◌++◌, length, map, drop, take, slice_get, refl, sym, ap, ◌∙◌, subst, inl, inr, arith}
use Rattle.std.specs.Prelude.{IsSomeAnd, unwrap_or}
use Rattle.std.specs.List.{range_with_len}
use Rattle.std.proofs.lemmas.Bool.{cases_lt, lt-ltb, le-ltb}
use Rattle.std.proofs.lemmas.List.{same_lists, get_or-take, get_or-drop, length-drop, length-take-le}
use Rattle.std.proofs.lemmas.List.Elements.{All-head, All-tail}
use Rattle.std.proofs.lemmas.List.FromFn.{get_or-map-range_with_len, length-map-range_with_len}
use Rattle.std.proofs.lemmas.Option.{slice_get-get_or}
use Rattle.control_file.specs.declared.want.Want.{Want}
use Rattle.dl_disk.specs.Files.{Files, file_bytes}
use Rattle.dl_kinds.specs.Plan.{IsPlan, block_end, block_start, blocks_of, blocks_of_piece, full_blocks, piece_end, piece_of, piece_start, pieces_of, place_of}
use Rattle.dl_kinds.specs.PlanLaws.{PlacesAreNumbered}
use Rattle.dl_kinds.specs.Lists.{part_at}
use Rattle.payload_files.specs.Names.{name_of}
use Rattle.payload_files.specs.Payload.{HasFiles, payload_in}
use Rattle.resume_core.specs.Resume.{byte_at, payload_bytes}
use Rattle.resume_core.specs.Wants.{files_in}
use Rattle.span_map.specs.declared.files.FileLen.{FileLen}

-- ---- bytes of lists

front_byte : (xs ys : List ℕ) (i : ℕ) → i < length xs → slice_get (xs ++ ys) i ≡ slice_get xs i
front_byte [] ys i less = absurd (omega (arith, less))
front_byte (x ∷ xs) ys zero less = refl
front_byte (x ∷ xs) ys (suc i) less = front_byte xs ys i (omega (arith, less))

byte_behind : (xs ys : List ℕ) (i : ℕ) → length xs ≤ i → slice_get (xs ++ ys) i ≡ slice_get ys (i - length xs)
byte_behind [] ys i past = ap (λ (k : ℕ). slice_get ys k) (let e : i ≡ i - 0 = omega arith in e)
byte_behind (x ∷ xs) ys zero past = absurd (omega (arith, past))
byte_behind (x ∷ xs) ys (suc i) past =
    byte_behind xs ys i (omega (arith, past))
    ∙ ap (λ (k : ℕ). slice_get ys k) (let e : i - length xs ≡ suc i - suc (length xs) = omega arith in e)

taken_byte : (n : ℕ) (xs : List ℕ) (k : ℕ) → k < n → slice_get (take n xs) k ≡ slice_get xs k
taken_byte zero xs k less = absurd (omega (arith, less))
taken_byte (suc n) [] k less = refl
taken_byte (suc n) (x ∷ xs) zero less = refl
taken_byte (suc n) (x ∷ xs) (suc k) less = taken_byte n xs k (omega (arith, less))

dropped_byte : (n : ℕ) (xs : List ℕ) (k : ℕ) → slice_get (drop n xs) k ≡ slice_get xs (n + k)
dropped_byte zero xs k = ap (λ (i : ℕ). slice_get xs i) (let e : k ≡ 0 + k = omega arith in e)
dropped_byte (suc n) [] k = refl
dropped_byte (suc n) (x ∷ xs) k =
    dropped_byte n xs k ∙ ap (λ (i : ℕ). slice_get (x ∷ xs) i) (let e : suc (n + k) ≡ suc n + k = omega arith in e)

-- a byte of a part is one of the list
pub part_byte : (xs : List ℕ) (at n k : ℕ) → k < n → slice_get (part_at xs at n) k ≡ slice_get xs (at + k)
part_byte xs at n k less = taken_byte n (drop at xs) k less ∙ dropped_byte at xs k

-- ---- bytes of files

whole_file : (o : Option (List ℕ)) (len : ℕ) → IsSomeAnd o (λ bytes. length bytes ≡ len) → length (file_bytes o) ≡ len
whole_file None len has = absurd has
whole_file (Some bytes) len has = has

module _ (dir : List ℕ) (seen : Files) where
  -- where the files have their lengths, each byte of the payload is one of a file
  file_byte : (files : List FileLen) → HasFiles dir files seen → (i : ℕ)
      → byte_at files (map (λ file. seen (name_of dir file.path)) files) i ≡ slice_get (payload_in dir files seen) i
  file_byte [] has i = refl
  file_byte (x ∷ files) has i =
      let Is = λ (file : FileLen). IsSomeAnd (seen (name_of dir file.path)) (λ bytes. length bytes ≡ file.len) in
      let here = file_bytes (seen (name_of dir x.path)) in
      let rest = byte_at files (map (λ file. seen (name_of dir file.path)) files) (i - x.len) in
      let more = payload_in dir files seen in
      let long : length here ≡ x.len = whole_file (seen (name_of dir x.path)) x.len (All-head Is x files has) in
      elim (cases_lt i x.len) [
        | inl inside ↦
            subst (λ (b : Bool). cond b (slice_get here i) rest ≡ slice_get (here ++ more) i) (sym (lt-ltb i x.len inside))
            (sym (front_byte here more i (omega (arith, inside, long))))
        | inr past ↦
            subst (λ (b : Bool). cond b (slice_get here i) rest ≡ slice_get (here ++ more) i) (sym (le-ltb i x.len past))
            (file_byte files (All-tail Is x files has) (i - x.len)
            ∙ ap (λ (n : ℕ). slice_get more (i - n)) (sym long)
            ∙ sym (byte_behind here more i (omega (arith, past, long))))
      ]

-- where the files have each byte of a stretch of a payload they read as the payload there
pub stretch_read : (want : Want) (seen : Files) (payload : List ℕ) (start end : ℕ)
    → HasFiles want.dir want.layout seen → end ≤ length payload
    → ((at : ℕ) → start ≤ at → at < end → slice_get (payload_in want.dir want.layout seen) at ≡ slice_get payload at)
    → payload_bytes want (files_in want seen) start end ≡ part_at payload start (end - start)
stretch_read want seen payload start end has within same =
    let n : ℕ = end - start in
    let there = λ (i : ℕ). unwrap_or (byte_at want.layout (files_in want seen) (start + i)) 0 in
    let long = length-map-range_with_len there 0 n in
    let rest : n ≤ length (drop start payload) = omega (arith, within, length-drop start payload) in
    let cut = length-take-le n (drop start payload) rest in
    same_lists (map there (range_with_len 0 n)) (part_at payload start n) (long ∙ sym cut)
    (λ k d inside.
    let below : k < n = omega (arith, inside, long) in
    let at : ℕ = start + k in
    get_or-map-range_with_len there 0 n k k d below (omega arith)
    ∙ ap (λ (o : Option ℕ). unwrap_or o 0)
    (file_byte want.dir seen want.layout has at
    ∙ same at (omega arith) (omega (arith, below))
    ∙ slice_get-get_or payload at d (omega (arith, below, within)))
    ∙ sym (get_or-take n (drop start payload) k d below ∙ get_or-drop start payload k d))

-- ---- blocks of pieces

-- a byte of a piece is one of a block of it
pub record IsBlockAt (total len piece at block : ℕ) : Type 0 where
  pub within : block < blocks_of total len
  pub of : piece_of len block ≡ piece
  pub from : block_start len block ≤ at
  pub before : at < block_end total len block

pub block_at : (total len piece at : ℕ) → PlacesAreNumbered → IsPlan total len → piece < pieces_of total len
    → piece_start len piece ≤ at → at < piece_end total len piece
    → (block : ℕ) × IsBlockAt total len piece at block
block_at total len piece at numbered plan known from before =
    let r : ℕ = at - piece_start len piece in
    let k : ℕ = r / 16384 in
    let span : ℕ = piece_end total len piece - piece_start len piece in
    let less : k < blocks_of_piece total len piece = omega (arith, from, before) in
    let is = numbered total len piece k plan known less in
    let b : ℕ = piece * full_blocks len + k in
    let start : block_start len b ≡ piece_start len piece + k * 16384 =
    ap (λ (p : ℕ). piece_start len p + place_of len b * 16384) is.number.of
    ∙ ap (λ (j : ℕ). piece_start len piece + j * 16384) is.number.at in
    let last : piece_end total len (piece_of len b) ≡ piece_end total len piece = ap (piece_end total len) is.number.of in (
      b,
      record {
        within = is.within;
        of = is.number.of;
        from = omega (arith, start, from);
        before = omega (arith, start, last, from, before);
      },
    )
