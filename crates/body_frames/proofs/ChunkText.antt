-- Chunks that are written out.
use Rattle.std.proofs.Common.{◌≡◌, ℕ, ◌+◌, ◌^◌, ◌<◌, ◌≤◌, ◌==◌, ◌&&◌, true, false, cond, List, [], ◌∷◌, ◌++◌, length, take, drop, Ok, refl, ap, ◌∙◌, arith, append_assoc, length-append}
use Rattle.std.proofs.Math.Seq.{take-append_seam, drop-append_seam, drop-append-add}
use Rattle.std.proofs.lemmas.Bool.{and_from, cond-false, lt-ltb, ne_eqb}
use Rattle.std.proofs.lemmas.List.{take_all}
use Rattle.std.specs.List.{list_all}
use Rattle.std.specs.Prelude.{codes}
use Rattle.std.specs.Str.Parse.{AllDigits, IsNumeral, digits_value}
use Rattle.body_frames.specs.Lines.{Whole, is_line_end, line_text, size_line, is_size, is_size_text, chunk_size}
use Rattle.body_frames.specs.Bodies.{Chunked, behind, with_front, trailers, body_of}
use Rattle.body_frames.specs.Open.{may_be_size}
use Rattle.body_frames.specs.Reading.{chunk_end, chunk_data}
use Rattle.body_frames.specs.Written.{ChunkIsRead, LastChunkIsRead}
use Rattle.body_frames.specs.declared.BodyErr.TheVariants.{BadChunk, LineTooLong}
use Rattle.body_frames.proofs.Chunks.{chunk_of, chunked_step}
use Rattle.body_frames.proofs.LineAt.{line_at-ended, size_line-line}
use Rattle.body_frames.proofs.SizeText.{is_hex, Plain, digits_plain, not_digit}

no-end : (byte : ℕ) (rest : List ℕ) → (byte ≡ 13 → ⊥) → is_line_end (byte ∷ rest) ≡ false
no-end byte [] other = ne_eqb byte 13 other
no-end byte (next ∷ rest) other = ap (λ t. t && next == 10) (ne_eqb byte 13 other)

-- a line of digits
digits-line : (digits rest : List ℕ) → AllDigits 16 digits → line_text (digits ++ 13 ∷ 10 ∷ rest) ≡ digits
unfolding line_text
digits-line [] rest are = refl
digits-line (d ∷ digits) rest are =
    cond-false _ _ _ (no-end d (digits ++ 13 ∷ 10 ∷ rest) (not_digit d 13 (omega arith) are.0)) ∙ ap (λ t. d ∷ t) (digits-line digits rest are.1)

digits-plain : (digits : List ℕ) → AllDigits 16 digits → Plain digits
digits-plain [] are = refl
digits-plain (d ∷ digits) are = rw (ne_eqb d 59 (not_digit d 59 (omega arith) are.0)) (digits-plain digits are.1)

digits-hex : (digits : List ℕ) → AllDigits 16 digits → list_all is_hex digits ≡ true
digits-hex [] are = refl
digits-hex (d ∷ digits) are = and_from _ _ (lt-ltb _ _ are.0) (digits-hex digits are.1)

size-is : (digits : List ℕ) → IsNumeral 16 digits → digits_value 16 digits < 2 ^ 32 → is_size digits ≡ true
unfolding is_size
size-is digits is small = and_from _ _ (and_from _ _ (lt-ltb _ _ is.0) (digits-hex digits is.1)) (lt-ltb _ _ small)

-- a size line, and the stream behind it
size-read : (digits rest : List ℕ) → IsNumeral 16 digits → digits_value 16 digits < 2 ^ 32 → length digits ≤ 256
    → size_line (digits ++ 13 ∷ 10 ∷ rest) ≡ Ok (digits, rest)
size-read digits rest is small fits =
    let stream = digits ++ 13 ∷ 10 ∷ rest in
    let text : line_text stream ≡ digits = digits-line digits rest is.1 in
    let len : length stream ≡ length digits + length (13 ∷ 10 ∷ rest) = length-append digits (13 ∷ 10 ∷ rest) in
    let size : may_be_size stream ≡ true = ap (λ t. is_size_text (take 257 t)) text ∙ ap is_size_text (take_all 257 digits (omega (arith, fits))) ∙ ap is_size (digits_plain digits (digits-plain digits is.1)) ∙ size-is digits is small in
    size_line-line stream (omega (arith, len)) size
    ∙ line_at-ended 256 LineTooLong stream (omega (arith, ap length text, fits)) (omega (arith, ap length text, len))
    ∙ ap (λ t. Ok (t, drop (length t + 2) stream)) text
    ∙ ap (λ behind. Ok (digits, behind)) (drop-append-add digits (13 ∷ 10 ∷ rest) 2)

-- CR LF, and the stream behind it
end-read : (stream : List ℕ) → chunk_end (13 ∷ 10 ∷ stream) ≡ body_of Chunked stream
unfolding line_text
end-read stream = ap (λ line. behind line (λ end. body_of Chunked end.1)) (line_at-ended 0 BadChunk (13 ∷ 10 ∷ stream) (omega arith) (omega arith))

pub chunk_is_read : ChunkIsRead
chunk_is_read digits bytes stream size some small =
    let rest = bytes ++ 13 ∷ 10 ∷ stream in
    let count : chunk_size digits ≡ length bytes = ap (digits_value 16) (digits_plain digits (digits-plain digits size.numeral.1)) ∙ size.value in
    ap (body_of Chunked) (regroup digits (codes "\r\n") bytes stream)
    ∙ chunked_step (digits ++ 13 ∷ 10 ∷ rest)
    ∙ ap (λ line. behind line chunk_of) (size-read digits rest size.numeral (omega (arith, size.value, small)) size.fits)
    ∙ ap (λ n. cond (n == 0) (trailers 64 rest) (chunk_data n rest)) count
    ∙ cond-false _ _ _ (ne_eqb (length bytes) 0 (λ e. omega (arith, e, some)))
    ∙ ap (λ front. with_front front (chunk_end (drop (length bytes) rest))) (take-append_seam bytes (13 ∷ 10 ∷ stream))
    ∙ ap (λ end. with_front bytes (chunk_end end)) (drop-append_seam bytes (13 ∷ 10 ∷ stream))
    ∙ ap (with_front bytes) (end-read stream)
  where
    regroup : (digits end bytes stream : List ℕ) → digits ++ end ++ bytes ++ end ++ stream ≡ digits ++ (end ++ (bytes ++ (end ++ stream)))
    regroup digits end bytes stream = simp append_assoc

no-trailer : (stream : List ℕ) → trailers 64 (13 ∷ 10 ∷ stream) ≡ record { content = []; rest = stream; standing = Whole }
unfolding trailers line_text
no-trailer stream =
    ap (λ line. behind line (λ l. cond (length l.0 == 0) (record { content = []; rest = l.1; standing = Whole }) (trailers 63 l.1)))
    (line_at-ended 256 LineTooLong (13 ∷ 10 ∷ stream) (omega arith) (omega arith))

pub last_chunk_is_read : LastChunkIsRead
last_chunk_is_read stream =
    chunked_step (48 ∷ 13 ∷ 10 ∷ 13 ∷ 10 ∷ stream)
    ∙ ap (λ line. behind line chunk_of) (size-read (48 ∷ []) (13 ∷ 10 ∷ stream) (omega arith, (omega arith, tt)) (omega arith) (omega arith))
    ∙ no-trailer stream
