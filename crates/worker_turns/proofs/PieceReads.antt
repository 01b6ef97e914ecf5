-- Where each byte of a payload is the same its pieces read the same.
use Rattle.std.proofs.Common.{◌≡◌, ℕ, zero, suc, ◌+◌, ◌-◌, ◌<◌, ◌≤◌, Bool, cond, Option, Some, None, List, [], ◌∷◌, ◌++◌, length, map, slice_get, refl, sym, ap, ◌∙◌, subst, inl, inr, arith}
use Rattle.std.specs.Prelude.{IsSome, IsSomeAnd, unwrap_or}
use Rattle.std.specs.List.{range_with_len}
use Rattle.std.proofs.lemmas.Bool.{cases_lt, lt-ltb, le-ltb}
use Rattle.std.proofs.lemmas.List.Elements.{All-head, All-tail}
use Rattle.control_file.specs.declared.want.Want.{Want}
use Rattle.dl_disk.specs.Files.{Files, file_bytes}
use Rattle.dl_kinds.specs.Plan.{piece_end, piece_start}
use Rattle.payload_files.specs.Names.{name_of}
use Rattle.payload_files.specs.Payload.{HasFiles, payload_in}
use Rattle.resume_core.specs.Resume.{byte_at}
use Rattle.resume_core.specs.Runs.{ReadsPiece}
use Rattle.resume_core.specs.Wants.{files_in}
use Rattle.span_map.specs.declared.files.FileLen.{FileLen}
use Rattle.stored_run.specs.Settlings.{payload_of}

-- ---- bytes of lists

front_byte : (xs ys : List ℕ) (i : ℕ) → i < length xs → slice_get (xs ++ ys) i ≡ slice_get xs i
front_byte [] ys i less = absurd (omega (arith, less))
front_byte (x ∷ xs) ys zero less = refl
front_byte (x ∷ xs) ys (suc i) less = front_byte xs ys i (omega (arith, less))

byte_behind : (xs ys : List ℕ) (i : ℕ) → length xs ≤ i → slice_get (xs ++ ys) i ≡ slice_get ys (i - length xs)
byte_behind [] ys i past = ap (λ (k : ℕ). slice_get ys k) (let e : i ≡ i - 0 = omega arith in e)
byte_behind (x ∷ xs) ys zero past = absurd (omega (arith, past))
byte_behind (x ∷ xs) ys (suc i) past =
    byte_behind xs ys i (omega (arith, past))
    ∙ ap (λ (k : ℕ). slice_get ys k) (let e : i - length xs ≡ suc i - suc (length xs) = omega arith in e)

-- ---- bytes of files

whole_file : (o : Option (List ℕ)) (len : ℕ) → IsSomeAnd o (λ bytes. length bytes ≡ len) → length (file_bytes o) ≡ len
whole_file None len has = absurd has
whole_file (Some bytes) len has = has

module _ (dir : List ℕ) (seen : Files) where
  -- where the files have their lengths, each byte of the payload is one of a file
  file_byte : (files : List FileLen) → HasFiles dir files seen → (i : ℕ)
      → byte_at files (map (λ file. seen (name_of dir file.path)) files) i ≡ slice_get (payload_in dir files seen) i
  file_byte [] has i = refl
  file_byte (x ∷ files) has i =
      let Is = λ (file : FileLen). IsSomeAnd (seen (name_of dir file.path)) (λ bytes. length bytes ≡ file.len) in
      let here = file_bytes (seen (name_of dir x.path)) in
      let rest = byte_at files (map (λ file. seen (name_of dir file.path)) files) (i - x.len) in
      let more = payload_in dir files seen in
      let long : length here ≡ x.len = whole_file (seen (name_of dir x.path)) x.len (All-head Is x files has) in
      elim (cases_lt i x.len) [
        | inl inside ↦
            subst (λ (b : Bool). cond b (slice_get here i) rest ≡ slice_get (here ++ more) i) (sym (lt-ltb i x.len
            inside))
            (sym (front_byte here more i (omega (arith, inside, long))))
        | inr past ↦
            subst (λ (b : Bool). cond b (slice_get here i) rest ≡ slice_get (here ++ more) i) (sym (le-ltb i x.len
            past))
            (file_byte files (All-tail Is x files has) (i - x.len)
            ∙ ap (λ (n : ℕ). slice_get more (i - n)) (sym long)
            ∙ sym (byte_behind here more i (omega (arith, past, long))))
      ]

map_same : (f g : ℕ → ℕ) (xs : List ℕ) → ((i : ℕ) → f i ≡ g i) → map f xs ≡ map g xs
map_same f g [] same = refl
map_same f g (x ∷ xs) same = (let first = same x in let rest = map_same f g xs same in cc)

module _ (want : Want) (old new : Files) (whole : HasFiles want.dir want.layout old)
    (still : HasFiles want.dir want.layout new)
    (same : (at : ℕ) → slice_get (payload_of want new) at ≡ slice_get (payload_of want old) at) where
  same_byte : (i : ℕ) → byte_at want.layout (files_in want new) i ≡ byte_at want.layout (files_in want old) i
  same_byte i = file_byte want.dir new want.layout still i ∙ (same i ∙ sym (file_byte want.dir old want.layout whole i))

  -- the same bytes are read
  pub reads_still : (piece : ℕ) (bytes : List ℕ) → ReadsPiece want piece old bytes → ReadsPiece want piece new bytes
  reads_still piece bytes reads =
      let start : ℕ = piece_start want.plan.piece_len piece in
      let end : ℕ = piece_end want.plan.total want.plan.piece_len piece in
      let was = λ (i : ℕ). unwrap_or (byte_at want.layout (files_in want old) (start + i)) 0 in
      let now = λ (i : ℕ). unwrap_or (byte_at want.layout (files_in want new) (start + i)) 0 in
      record {
        reaches = λ i below. subst (λ (o : Option ℕ). IsSome o) (sym (same_byte (start + i))) (reads.reaches i below);
        bytes = reads.bytes ∙ map_same was now (range_with_len 0 (end - start))
            (λ i. ap (λ (o : Option ℕ). unwrap_or o 0) (sym (same_byte (start + i))));
      }
