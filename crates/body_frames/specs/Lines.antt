-- Lines of a chunked body (RFC 9112, section 7.1). CR is the byte 13, LF is 10 and `;` is 59.
use Rattle.std.specs.Prelude.{◌≡◌, ◌⊎◌, ℕ, ◌+◌, ◌^◌, Bool, false, ◌&&◌, ◌==◌, nat_lt, if◌then◌else◌, List, [], ◌∷◌, length, take, drop, Result, Ok, Err}
use Rattle.std.specs.List.{before_first, list_all}
use Rattle.std.specs.Char.{is_digit}
use Rattle.std.specs.Str.Parse.{digits_value}
use Rattle.body_frames.specs.declared.BodyErr.{BodyErr}
use Rattle.body_frames.specs.declared.BodyErr.TheVariants.{BadChunk, LineTooLong}

-- How a body stands in a stream: it is whole, the stream ends too early for it, or the stream is wrong, in the way that
-- the error tells.
pub data Standing : Type 0 where
  Whole : Standing
  Short : Standing
  Wrong : BodyErr → Standing

-- what can be wrong with a stream
abbrev pub IsFault : BodyErr → Type 0
IsFault error = (error ≡ BadChunk) ⊎ (error ≡ LineTooLong)

-- a line ends here: by CR LF, or by a CR at the stream's end, behind which the LF may still come
abbrev pub is_line_end : List ℕ → Bool
is_line_end [] = false
is_line_end (byte ∷ []) = byte == 13
is_line_end (byte ∷ next ∷ rest) = byte == 13 && next == 10

-- the bytes of the first line, as far as they came, without what ends it
unfoldable pub line_text : List ℕ → List ℕ
line_text [] = []
line_text (byte ∷ rest) = if is_line_end (byte ∷ rest) then [] else byte ∷ line_text rest

-- The first line, of at most so many bytes, and the stream behind its CR LF. A longer one is this error.
unfoldable pub line_at : ℕ → BodyErr → List ℕ → Result (List ℕ × List ℕ) Standing
line_at most error stream =
    let text = line_text stream in
    if nat_lt most (length text) then Err (Wrong error)
    else if nat_lt (length stream) (length text + 2) then Err Short
    else Ok (text, drop (length text + 2) stream)

-- the most bytes that a size line or a trailer line has before its CR LF
abbrev pub line_limit : ℕ
line_limit = 256

-- chunk-size: one hexadecimal digit or more, which write a number below 2 ^ 32
unfoldable pub is_size : List ℕ → Bool
is_size digits =
    (nat_lt 0 (length digits) && list_all (λ byte. is_digit byte 16) digits) && nat_lt (digits_value 16 digits) (2 ^ 32)

-- The text of a size line is `chunk-size [ chunk-ext ]`, and an extension is `;` and any bytes behind it.
abbrev pub size_digits : List ℕ → List ℕ
size_digits text = before_first (λ byte. byte == 59) text

abbrev pub is_size_text : List ℕ → Bool
is_size_text text = is_size (size_digits text)

-- how many bytes the chunk has
abbrev pub chunk_size : List ℕ → ℕ
chunk_size text = digits_value 16 (size_digits text)

-- The size line that the stream begins with. Its first fault counts: a byte that no size line has there is BadChunk, the
-- first byte above the limit is LineTooLong, and a byte that is both is BadChunk. So the text is judged up to that byte.
unfoldable pub size_line : List ℕ → Result (List ℕ × List ℕ) Standing
size_line [] = Err Short
size_line (byte ∷ rest) =
    if is_size_text (take (line_limit + 1) (line_text (byte ∷ rest))) then line_at line_limit LineTooLong (byte ∷ rest)
    else Err (Wrong BadChunk)
