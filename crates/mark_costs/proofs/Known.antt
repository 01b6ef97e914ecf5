-- The bytes that are known of a run of blocks, of a mirror that holds one piece.
use Rattle.std.proofs.Common.{◌≡◌, inl, inr, ℕ, zero, suc, ◌+◌, ◌-◌, ◌<◌, ◌≤◌, Bool, true, false, List, [], ◌∷◌, ◌++◌, length, length-drop, length-take, take, drop, get_or, map, replicate, Option, Some, None, refl, sym, ap, subst, ◌∙◌, arith}
use Rattle.std.specs.Prelude.{nat_lt, ◌&&◌}
use Rattle.std.proofs.lemmas.Bool.{lt-ltb}
use Rattle.std.proofs.lemmas.Bool.Decides.{nat_tests}
use Rattle.std.proofs.lemmas.List.{drop-drop, drop-map, drop-replicate, length-map, length-replicate, map-append, take-map, take-replicate}
use Rattle.std.proofs.lemmas.List.Elements.{All-head, All-tail}
use Rattle.std.proofs.lemmas.List.Sums.{sum_by-cons}
use Rattle.std.specs.List.{All, concat, slice_get}
use Rattle.std.specs.Option.{IsSomeAnd, option_map, option_map_or}
use Rattle.dl_history.proofs.Bools.{and_both, and_left, and_right}
use Rattle.dl_kinds.specs.Lists.{part_at}
use Rattle.link_source.specs.Mirrors.{Content}
use Rattle.memory_serving_laws.specs.Charges.{AreKnownOf, IsKnownOf}
use Rattle.memory_serving_laws.specs.Leads.{Leads}
use Rattle.memory_serving_laws.specs.Serving.{UrlLeadsAmong}
use Rattle.metainfo.specs.Jobs.{len_of_file, mirror_part}
use Rattle.metainfo.specs.Urls.{seed_url_of}
use Rattle.request_chain.specs.declared.course.TheConstants.{REDIRECT_LIMIT}
use Rattle.served_runs.specs.Serving.{file_bytes}
use Rattle.span_map.specs.Layout.{total_of}
use Rattle.span_map.specs.Slices.{Fills, IsPart, PartsHoldSlices, part_bytes, slice_of}
use Rattle.span_map.specs.declared.files.FileLen.{FileLen}
use Rattle.span_map.specs.declared.files.Part.{Part}
use Rattle.span_map.proofs.Windows.{slice_parts}

-- ---- coded bytes

-- 0 stands for a byte that isn't known, and the number behind it for each byte
abbrev pub decoded : ℕ → Option ℕ
decoded zero = None
decoded (suc byte) = Some byte

more_files : (f : FileLen) (fs : List FileLen) → total_of (f ∷ fs) ≡ f.len + total_of fs
more_files f fs = sum_by-cons (λ (file : FileLen). file.len) f fs

decoded_all : (bytes : List ℕ) → map decoded (map suc bytes) ≡ map Some bytes
decoded_all [] = refl
decoded_all (byte ∷ bytes) = ap (λ (l : List (Option ℕ)). Some byte ∷ l) (decoded_all bytes)

decoded_part : (bytes : List ℕ) (at len : ℕ) → map decoded (part_at (map suc bytes) at len) ≡ map Some (part_at bytes at len)
decoded_part bytes at len =
    ap (λ (l : List ℕ). map decoded (take len l)) (drop-map suc at bytes)
    ∙ ap (map decoded) (take-map suc len (drop at bytes)) ∙ decoded_all (part_at bytes at len)

decoded_none : (n : ℕ) → map decoded (replicate n 0) ≡ replicate n None
decoded_none zero = refl
decoded_none (suc n) = ap (λ (l : List (Option ℕ)). None ∷ l) (decoded_none n)

none_part : (n at len : ℕ) → at + len ≤ n → map decoded (part_at (replicate n 0) at len) ≡ replicate len None
none_part n at len within =
    ap (λ (l : List ℕ). map decoded (take len l)) (drop-replicate at n 0)
    ∙ ap (map decoded) (take-replicate len (n - at) 0 (omega (arith, within))) ∙ decoded_none len

-- ---- the contents of files, by the places of a piece

module _ (low high : ℕ) where
  abbrev pub touched : ℕ → ℕ → Bool
  touched start len = nat_lt start high && nat_lt low (start + len)

  abbrev pub coded_file : Bool → ℕ → List ℕ → List ℕ
  coded_file true len bytes = map suc bytes
  coded_file false len bytes = replicate len 0

  abbrev coded_first : FileLen → ℕ → List ℕ → List ℕ
  coded_first f start held = coded_file (touched start f.len) f.len (take f.len held)

  -- the files begin at this place, and hold these bytes
  abbrev pub coded : List FileLen → ℕ → List ℕ → List (List ℕ)
  coded [] start held = []
  coded (f ∷ fs) start held =
      coded_file (touched start f.len) f.len (take f.len held) ∷ coded fs (start + f.len) (drop f.len held)

  coded_long : (t : Bool) (len : ℕ) (bytes : List ℕ) → length bytes ≡ len → length (coded_file t len bytes) ≡ len
  coded_long true len bytes is = length-map bytes suc ∙ is
  coded_long false len bytes is = length-replicate len 0

  pub coded_fills : (files : List FileLen) (start : ℕ) (held : List ℕ) → total_of files ≤ length held
      → Fills files (coded files start held)
  coded_fills [] start held long = tt
  coded_fills (f ∷ fs) start held long =
      let more = more_files f fs in
      let front = length-take f.len held in
      let behind = length-drop f.len held in (
        coded_long (touched start f.len) f.len (take f.len held) (omega (arith, long, more, front)),
        coded_fills fs (start + f.len) (drop f.len held) (omega (arith, long, more, behind)),
      )

  no_file : (n : ℕ) → len_of_file [] n ≡ 0
  no_file n = refl

  coded_none : (t : Bool) (bytes : List ℕ) → bytes ≡ [] → coded_file t 0 bytes ≡ []
  coded_none true bytes is = ap (map suc) is
  coded_none false bytes is = refl

  -- of the file of this number
  coded_at : (files : List FileLen) (start : ℕ) (held : List ℕ) (n : ℕ)
      → get_or (coded files start held) n []
      ≡ coded_file (touched (start + total_of (take n files)) (len_of_file files n)) (len_of_file files n) (file_bytes files held n)
  coded_at [] start held n = sym (coded_none (touched (start + total_of (take n [])) 0) (file_bytes [] held n) refl)
  coded_at (f ∷ fs) start held zero =
      ap (λ (k : ℕ). coded_file (touched k f.len) f.len (take f.len held)) (let e : start ≡ start + 0 = omega arith in e)
  coded_at (f ∷ fs) start held (suc n) =
      let more = more_files f (take n fs) in
      coded_at fs (start + f.len) (drop f.len held) n
      ∙ (λ i. coded_file (touched (let e : start + f.len + total_of (take n fs) ≡ start + total_of (f ∷ take n fs) = omega (arith, more)
      in e i) (len_of_file fs n)) (len_of_file fs n)
      (take (len_of_file fs n) ((drop-drop (total_of (take n fs)) f.len held
      ∙ ap (λ (k : ℕ). drop k held) (let e : f.len + total_of (take n fs) ≡ total_of (f ∷ take n fs) = omega (arith, more) in e)) i)))

  -- ---- the places of the piece

  front_byte : (xs ys : List ℕ) (i : ℕ) → i < length xs → slice_get (xs ++ ys) i ≡ slice_get xs i
  front_byte [] ys i less = absurd (omega (arith, less))
  front_byte (x ∷ xs) ys zero less = refl
  front_byte (x ∷ xs) ys (suc i) less = front_byte xs ys i (omega (arith, less))

  byte_behind : (xs ys : List ℕ) (i : ℕ) → length xs ≤ i → slice_get (xs ++ ys) i ≡ slice_get ys (i - length xs)
  byte_behind [] ys i past = ap (λ (k : ℕ). slice_get ys k) (let e : i ≡ i - 0 = omega arith in e)
  byte_behind (x ∷ xs) ys zero past = absurd (omega (arith, past))
  byte_behind (x ∷ xs) ys (suc i) past =
      byte_behind xs ys i (omega (arith, past))
      ∙ ap (λ (k : ℕ). slice_get ys k) (let e : i - length xs ≡ suc i - suc (length xs) = omega arith in e)

  taken_byte : (n : ℕ) (xs : List ℕ) (k : ℕ) → k < n → slice_get (take n xs) k ≡ slice_get xs k
  taken_byte zero xs k less = absurd (omega (arith, less))
  taken_byte (suc n) [] k less = refl
  taken_byte (suc n) (x ∷ xs) zero less = refl
  taken_byte (suc n) (x ∷ xs) (suc k) less = taken_byte n xs k (omega (arith, less))

  dropped_byte : (n : ℕ) (xs : List ℕ) (k : ℕ) → slice_get (drop n xs) k ≡ slice_get xs (n + k)
  dropped_byte zero xs k = ap (λ (i : ℕ). slice_get xs i) (let e : k ≡ 0 + k = omega arith in e)
  dropped_byte (suc n) [] k = refl
  dropped_byte (suc n) (x ∷ xs) k =
      dropped_byte n xs k ∙ ap (λ (i : ℕ). slice_get (x ∷ xs) i) (let e : suc (n + k) ≡ suc n + k = omega arith in e)

  mapped_byte : (xs : List ℕ) (k : ℕ) → slice_get (map suc xs) k ≡ option_map suc (slice_get xs k)
  mapped_byte [] k = refl
  mapped_byte (x ∷ xs) zero = refl
  mapped_byte (x ∷ xs) (suc k) = mapped_byte xs k

  touched_file : (t : Bool) (len : ℕ) (bytes : List ℕ) (k : ℕ) → t ≡ true
      → slice_get (coded_file t len bytes) k ≡ option_map suc (slice_get bytes k)
  touched_file true len bytes k is = mapped_byte bytes k
  touched_file false len bytes k is = absurd cc

  -- a place of the piece is known
  pub coded_byte : (files : List FileLen) (start : ℕ) (held : List ℕ) (k : ℕ) → total_of files ≤ length held
      → k < total_of files → low ≤ start + k → start + k < high
      → slice_get (concat (coded files start held)) k ≡ option_map suc (slice_get held k)
  coded_byte [] start held k long less from before = absurd (omega (arith, less))
  coded_byte (f ∷ fs) start held k long less from before =
      by (nat_lt k f.len) refl
      (λ past.
      let longer = more_files f fs in
      let behind = length-drop f.len held in
      coded_byte fs (start + f.len) (drop f.len held) (k - f.len) (omega (arith, long, longer, behind))
      (omega (arith, less, longer, past)) (omega (arith, from, past)) (omega (arith, before, past)))
    where
      more : total_of (f ∷ fs) ≡ f.len + total_of fs
      more = more_files f fs

      file_long : length (coded_first f start held) ≡ f.len
      file_long =
          let front = length-take f.len held in
          coded_long (touched start f.len) f.len (take f.len held) (omega (arith, long, more, front))

      by : (t : Bool) → nat_lt k f.len ≡ t
          → (f.len ≤ k → slice_get (concat (coded fs (start + f.len) (drop f.len held))) (k - f.len)
          ≡ option_map suc (slice_get (drop f.len held) (k - f.len)))
          → slice_get (concat (coded (f ∷ fs) start held)) k ≡ option_map suc (slice_get held k)
      by true is rest =
          let inside : k < f.len = grind (arith, nat_tests) in
          let p : nat_lt start high ≡ true = lt-ltb start high (omega (arith, before)) in
          let q : nat_lt low (start + f.len) ≡ true = lt-ltb low (start + f.len) (omega (arith, from, inside)) in
          front_byte (coded_first f start held) (concat (coded fs (start + f.len) (drop f.len held))) k (omega (arith, inside, file_long))
          ∙ touched_file (touched start f.len) f.len (take f.len held) k
          (and_both (nat_lt start high) (nat_lt low (start + f.len)) p q)
          ∙ ap (option_map suc) (taken_byte f.len held k inside)
      by false is rest =
          let past : f.len ≤ k = grind (arith, nat_tests) in
          let behind = length-drop f.len held in
          let j : ℕ = k - f.len in
          byte_behind (coded_first f start held) (concat (coded fs (start + f.len) (drop f.len held))) k (omega (arith, past, file_long))
          ∙ ap (λ (i : ℕ). slice_get (concat (coded fs (start + f.len) (drop f.len held))) i)
          (let e : k - length (coded_first f start held) ≡ k - f.len = omega (arith, file_long) in e)
          ∙ rest past
          ∙ ap (option_map suc) (dropped_byte f.len held (k - f.len)
          ∙ ap (λ (i : ℕ). slice_get held i) (let e : f.len + (k - f.len) ≡ k = omega (arith, past) in e))

-- ---- parts

-- a part of a file that has bytes ends within it
within_by : (found : Option FileLen) (end : ℕ) → IsSomeAnd found (λ (file : FileLen). end ≤ file.len)
    → end ≤ option_map_or (λ (file : FileLen). file.len) found 0
within_by None end is = absurd is
within_by (Some file) end is = is

part_within : (files : List FileLen) (part : Part) → IsPart files part → part.at + part.len ≤ len_of_file files part.file
part_within files part is = within_by (slice_get files part.file) (part.at + part.len) is.within

-- a file ends within the whole
pub file_within : (files : List FileLen) (n : ℕ) → total_of (take n files) + len_of_file files n ≤ total_of files
file_within [] zero = omega arith
file_within [] (suc n) = omega arith
file_within (f ∷ fs) zero = let more = more_files f fs in omega (arith, more)
file_within (f ∷ fs) (suc n) =
    let more = more_files f fs in
    let front = more_files f (take n fs) in
    let rest = file_within fs n in
    omega (arith, more, front, rest)

module _ (content : Content) (among : ℕ → Bool) (files : List FileLen) (base held : List ℕ) (low high : ℕ)
    (total : total_of files ≡ length held)
    (leads : (file : ℕ) → 0 < len_of_file files file → total_of (take file files) < high → low < total_of (take file files) + len_of_file files file
    → Leads content REDIRECT_LIMIT (seed_url_of files base file) (file_bytes files held file))
    (through : (file : ℕ) → 0 < len_of_file files file → total_of (take file files) < high → low < total_of (take file files) + len_of_file files file
    → UrlLeadsAmong content among (seed_url_of files base file)) where
  file_long : (n : ℕ) → length (file_bytes files held n) ≡ len_of_file files n
  file_long n =
      let within = file_within files n in
      let front = length-take (len_of_file files n) (drop (total_of (take n files)) held) in
      let behind = length-drop (total_of (take n files)) held in
      omega (arith, within, front, behind, total)

  known_part : (part : Part) (t : Bool) → IsPart files part
      → touched low high (total_of (take part.file files)) (len_of_file files part.file) ≡ t
      → IsKnownOf content among (mirror_part files base part)
      (map decoded (part_at (coded_file low high t (len_of_file files part.file) (file_bytes files held part.file)) part.at part.len))
  known_part part true is both =
      let start : ℕ = total_of (take part.file files) in
      let end : ℕ = start + len_of_file files part.file in
      let p = and_left (nat_lt start high) (nat_lt low end) both in
      let q = and_right (nat_lt start high) (nat_lt low end) both in
      let within = part_within files part is in
      let bytes = is.some in
      let some : 0 < len_of_file files part.file = omega (arith, within, bytes) in
      let from : start < high = grind (arith, nat_tests) in
      let to : low < end = grind (arith, nat_tests) in
      inl (
        part_at (file_bytes files held part.file) part.at part.len,
        record {
          resource = file_bytes files held part.file;
          leads = leads part.file some from to;
          size = file_long part.file;
          bytes_are = refl;
        },
        through part.file some from to,
        decoded_part (file_bytes files held part.file) part.at part.len,
      )
  known_part part false is both = inr (none_part (len_of_file files part.file) part.at part.len (part_within files part is))

  known_parts : (parts : List Part) → All (IsPart files) parts
      → AreKnownOf content among (map (mirror_part files base) parts)
      (map decoded (part_bytes (coded low high files 0 held) parts))
  known_parts [] all = refl
  known_parts (part ∷ parts) all =
      let is = All-head (IsPart files) part parts all in
      let start : ℕ = total_of (take part.file files) in
      let len : ℕ = len_of_file files part.file in
      let t : Bool = touched low high start len in
      let here = coded_at low high files 0 held part.file
      ∙ ap (λ (k : ℕ). coded_file low high (touched low high k len) len (file_bytes files held part.file))
      (let e : 0 + start ≡ start = omega arith in e) in (
        map decoded (part_at (coded_file low high t len (file_bytes files held part.file)) part.at part.len),
        map decoded (part_bytes (coded low high files 0 held) parts),
        known_part part t is refl,
        map-append decoded (part_at (get_or (coded low high files 0 held) part.file []) part.at part.len)
            (part_bytes (coded low high files 0 held) parts)
            ∙ ap (λ (l : List ℕ). map decoded (part_at l part.at part.len) ++ map decoded (part_bytes (coded low high files 0 held) parts))
            here,
        known_parts parts (All-tail (IsPart files) part parts all),
      )

  -- of a stretch of the whole
  pub known_slice : PartsHoldSlices → (at len : ℕ)
      → AreKnownOf content among (map (mirror_part files base) (slice_of files at len))
      (map decoded (part_at (concat (coded low high files 0 held)) at len))
  known_slice hold at len =
      subst (λ (l : List ℕ). AreKnownOf content among (map (mirror_part files base) (slice_of files at len)) (map decoded l))
      (hold files (coded low high files 0 held) at len (coded_fills low high files 0 held (omega (arith, total))))
      (known_parts (slice_of files at len) (slice_parts files at len))

  -- a place of it that is of the piece is known
  pub known_byte : (at len k r : ℕ) → k < len → at + k < total_of files → low ≤ at + k → at + k < high
      → slice_get held (at + k) ≡ Some r
      → slice_get (map decoded (part_at (concat (coded low high files 0 held)) at len)) k ≡ Some (Some r)
  known_byte at len k r less within from before is =
      decoded_byte (part_at (concat (coded low high files 0 held)) at len) k r
      (taken_byte low high len (drop at (concat (coded low high files 0 held))) k less
      ∙ dropped_byte low high at (concat (coded low high files 0 held)) k
      ∙ coded_byte low high files 0 held (at + k) (omega (arith, total)) within (omega (arith, from)) (omega (arith, before))
      ∙ ap (option_map suc) is)
    where
      decoded_byte : (xs : List ℕ) (k r : ℕ) → slice_get xs k ≡ Some (suc r) → slice_get (map decoded xs) k ≡ Some (Some r)
      decoded_byte [] k r is = absurd cc
      decoded_byte (x ∷ xs) zero r is = let same : x ≡ suc r = cc in ap (λ (n : ℕ). Some (decoded n)) same
      decoded_byte (x ∷ xs) (suc k) r is = decoded_byte xs k r is
