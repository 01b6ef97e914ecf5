-- A body that is written in chunks, from its front (RFC 9112, section 7.1).
use Rattle.std.specs.Prelude.{◌≡◌, ℕ, ◌^◌, ◌<◌, ◌≤◌, List, [], ◌++◌, length, codes}
use Rattle.std.specs.Str.Parse.{IsNumeral, digits_value}
use Rattle.body_frames.specs.Lines.{Whole, line_limit}
use Rattle.body_frames.specs.Bodies.{Chunked, body_of, with_front}

-- hexadecimal digits that fit on a line write how many bytes there are
pub record WritesSize (digits bytes : List ℕ) : Type 0 where
  pub numeral : IsNumeral 16 digits
  pub value : digits_value 16 digits ≡ length bytes
  pub fits : length digits ≤ line_limit

-- a chunk that is written out is read as its bytes
abbrev pub ChunkIsRead : Type 0
ChunkIsRead = (digits bytes stream : List ℕ) → WritesSize digits bytes → 0 < length bytes → length bytes < 2 ^ 32
    → body_of Chunked (digits ++ codes "\r\n" ++ bytes ++ codes "\r\n" ++ stream) ≡ with_front bytes (body_of Chunked stream)

-- the last chunk without a trailer ends the body
abbrev pub LastChunkIsRead : Type 0
LastChunkIsRead = (stream : List ℕ) → body_of Chunked (codes "0\r\n\r\n" ++ stream) ≡ record { content = []; rest = stream; standing = Whole }
