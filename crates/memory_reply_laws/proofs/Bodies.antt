-- The bodies of replies, as they are read.
use Rattle.std.proofs.Common.{◌≡◌, ℕ, zero, suc, ◌+◌, ◌*◌, ◌/◌, ◌%◌, ◌<◌, ◌≤◌, Bool, min, List, [], ◌∷◌, ◌++◌, append_assoc, length, take, drop, append-nil, length-take-le, length-drop, length-take, arith, ap, sym, ◌∙◌, refl}
use Rattle.std.proofs.lemmas.Bool.{cond-true, le-leb, leb-true}
use Rattle.std.proofs.lemmas.Fmt.{digits_is_IsNumeral}
use Rattle.std.proofs.lemmas.Grind.{div_ceil_times}
use Rattle.std.proofs.lemmas.List.{take_all, drop_all, take-append-drop, drop-drop}
use Rattle.std.specs.Fmt.{digits, digits_onto, digit_glyph}
use Rattle.std.specs.List.{flat_map, range_with_len}
use Rattle.std.specs.Prelude.{codes, true, false, ◌==◌, if◌then◌else◌, nat_le}
use Rattle.body_frames.specs.Bodies.{StreamBody, body_of, with_front, Length, Chunked, ToEnd}
use Rattle.body_frames.specs.Lines.{Standing, Whole, Short}
use Rattle.body_frames.specs.Written.{WritesSize, ChunkIsRead, LastChunkIsRead}
use Rattle.dl_kinds.specs.Lists.{part_at}
use Rattle.link_source.specs.Chunks.{chunk_at, chunk_count, in_chunks, last_chunk}
use Rattle.link_source.specs.Requests.{ended_line}
use Rattle.memory_reply_laws.specs.Replies.{ToldContentIsPlain}

abbrev made : List ℕ → List ℕ → Standing → StreamBody
made content rest standing = record { content = content; rest = rest; standing = standing }

abbrev whole : List ℕ → StreamBody
whole content = record { content = content; rest = []; standing = Whole }

-- ---- by its length, or to the end

pub length_body : (content : List ℕ) (n : ℕ) → length content ≡ n → body_of (Length n) content ≡ whole content
unfolding body_of
length_body content n size =
    let standing : Standing = if nat_le n (length content) then Whole else Short in
    ap (λ c. made c (drop n content) standing) (take_all n content (omega arith))
    ∙ ap (λ r. made content r standing) (drop_all n content (omega arith))
    ∙ ap (made content []) (cond-true (nat_le n (length content)) Whole Short (le-leb n (length content) (omega arith)))

plain_body : (stream content : List ℕ) (n : ℕ) → body_of (Length n) stream ≡ whole content → (stream ≡ content) × (length content ≡ n)
unfolding body_of
plain_body stream content n is =
    let front : take n stream ≡ content = ap (λ (body : StreamBody). body.content) is in
    let none : drop n stream ≡ [] = ap (λ (body : StreamBody). body.rest) is in
    let standing : (if nat_le n (length stream) then Whole else Short) ≡ Whole = ap (λ (body : StreamBody). body.standing) is in
    let long : n ≤ length stream = leb-true n (length stream) (is_whole (nat_le n (length stream)) standing) in (
      sym (take-append-drop n stream) ∙ ap (λ bytes. bytes ++ drop n stream) front ∙ ap (λ bytes. content ++ bytes) none ∙ append-nil content,
      ap length (sym front) ∙ length-take-le n stream long,
    )
  where
    is_whole : (b : Bool) → (if b then Whole else Short) ≡ Whole → b ≡ true
    is_whole true same = refl
    is_whole false same = absurd (cc same)

-- behind a head that tells the length
pub told_content_is_plain : ToldContentIsPlain
told_content_is_plain reply content asked status len verdict read = plain_body (drop read.used reply) content len read.body

pub stream_body : (content : List ℕ) → body_of ToEnd content ≡ whole content
unfolding body_of
stream_body content = refl

-- ---- in chunks

few_digits : (most base : ℕ) (upper : Bool) (n : ℕ) (acc : List ℕ) → length (digits_onto most base upper n acc) ≤ most + length acc
few_digits zero base upper n acc = omega arith
few_digits (suc most) base upper n acc =
    let more = digit_glyph upper (n % base) ∷ acc in
    elim (n / base == 0) as (λ b. length (if b then more else digits_onto most base upper (n / base) more) ≤ suc most + length acc)
    [ true ↦ omega arith | false ↦ let rest = few_digits most base upper (n / base) more in omega arith ]

size_fits : (n : ℕ) → length (digits 16 false n) ≤ 256
unfolding digits
size_fits n = let few = few_digits 64 16 false n [] in omega (arith, few)

writes_size : (bytes : List ℕ) → length bytes ≤ 4096 → WritesSize (digits 16 false (length bytes)) bytes
writes_size bytes small =
    let is = digits_is_IsNumeral 16 false (omega arith) (omega arith) (length bytes) (omega arith) in
    record { numeral = is.0; value = is.1; fits = size_fits (length bytes) }

one_chunk : (size bytes rest last : List ℕ)
    → ((ended_line size ++ ended_line bytes) ++ rest) ++ last ≡ size ++ codes "\r\n" ++ bytes ++ codes "\r\n" ++ (rest ++ last)
one_chunk size bytes rest last = regroup size (codes "\r\n") bytes rest last
  where
    regroup : (size end bytes rest last : List ℕ) → (((size ++ end) ++ (bytes ++ end)) ++ rest) ++ last ≡ size ++ end ++ bytes ++ end ++ (rest ++ last)
    regroup size end bytes rest last = simp append_assoc

-- the chunks from this number on
chunks_from : ChunkIsRead → LastChunkIsRead → (content : List ℕ) (number more : ℕ) → number + more ≡ chunk_count content
    → body_of Chunked (flat_map (chunk_at content) (range_with_len number more) ++ last_chunk) ≡ whole (drop (number * 4096) content)
chunks_from chunk_is_read last_is_read content number zero all =
    let count = div_ceil_times (length content) 4096 (omega arith) in
    last_is_read [] ∙ ap whole (sym (drop_all (number * 4096) content (omega arith)))
chunks_from chunk_is_read last_is_read content number (suc more) all =
    let count = div_ceil_times (length content) 4096 (omega arith) in
    let left = drop (number * 4096) content in
    let bytes = part_at content (number * 4096) 4096 in
    let rest = flat_map (chunk_at content) (range_with_len (number + 1) more) in
    let some : 0 < length left = omega (arith, length-drop (number * 4096) content) in
    let size : length bytes ≡ min 4096 (length left) = length-take 4096 left in
    ap (body_of Chunked) (one_chunk (digits 16 false (length bytes)) bytes rest last_chunk)
    ∙ chunk_is_read (digits 16 false (length bytes)) bytes (rest ++ last_chunk) (writes_size bytes (omega arith)) (omega arith) (omega arith)
    ∙ ap (with_front bytes) (chunks_from chunk_is_read last_is_read content (number + 1) more (omega arith))
    ∙ ap (λ later. whole (bytes ++ later)) (ap (λ n. drop n content) (omega arith) ∙ sym (drop-drop 4096 (number * 4096) content))
    ∙ ap whole (take-append-drop 4096 left)

pub chunks_body : ChunkIsRead → LastChunkIsRead → (content : List ℕ) → body_of Chunked (in_chunks content) ≡ whole content
unfolding in_chunks
chunks_body chunk_is_read last_is_read content = chunks_from chunk_is_read last_is_read content 0 (chunk_count content) (omega arith)
