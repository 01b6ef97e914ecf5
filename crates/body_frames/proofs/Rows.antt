-- The definition, computed on some streams.
use Rattle.std.proofs.Common.{◌≡◌, ℕ, refl, List, [], ◌++◌, replicate, codes}
use Rattle.std.specs.List.{flat_map}
use Rattle.body_frames.specs.Lines.{Whole, Short, Wrong, line_text, line_at, size_line, is_size}
use Rattle.body_frames.specs.Bodies.{Length, Chunked, ToEnd, chunks, trailers, body_of}
use Rattle.body_frames.specs.declared.BodyErr.TheVariants.{BadChunk, LineTooLong}

abbrev many : ℕ → List ℕ → List ℕ
many n bytes = flat_map {X = ℕ} (λ _. bytes) (replicate n 0)

hello : body_of Chunked (codes "5\r\nhello\r\n0\r\n\r\nHTTP")
    ≡ record { content = codes "hello"; rest = codes "HTTP"; standing = Whole }
unfolding body_of chunks trailers size_line is_size line_at line_text
hello = refl

cut_in_chunk : body_of Chunked (codes "5\r\nhell")
    ≡ record { content = codes "hell"; rest = []; standing = Short }
unfolding body_of chunks trailers size_line is_size line_at line_text
cut_in_chunk = refl

cut_in_end : body_of Chunked (codes "5\r\nhello\r\n0\r\n\r")
    ≡ record { content = codes "hello"; rest = []; standing = Short }
unfolding body_of chunks trailers size_line is_size line_at line_text
cut_in_end = refl

with_extension_and_trailer : body_of Chunked (codes "02;a=\rb\r\nab\r\n000;q\r\nT: x\r\n\r\n")
    ≡ record { content = codes "ab"; rest = []; standing = Whole }
unfolding body_of chunks trailers size_line is_size line_at line_text
with_extension_and_trailer = refl

largest_size : body_of Chunked (codes "ffffFFFF\r\nab")
    ≡ record { content = codes "ab"; rest = []; standing = Short }
unfolding body_of chunks trailers size_line is_size line_at line_text
largest_size = refl

size_too_large : body_of Chunked (codes "100000000")
    ≡ record { content = []; rest = []; standing = (Wrong BadChunk) }
unfolding body_of chunks trailers size_line is_size line_at line_text
size_too_large = refl

no_size : body_of Chunked (codes "\r")
    ≡ record { content = []; rest = []; standing = (Wrong BadChunk) }
unfolding body_of chunks trailers size_line is_size line_at line_text
no_size = refl

space_behind_size : body_of Chunked (codes "5 \r\n")
    ≡ record { content = []; rest = []; standing = (Wrong BadChunk) }
unfolding body_of chunks trailers size_line is_size line_at line_text
space_behind_size = refl

no_end_behind_chunk : body_of Chunked (codes "1\r\nab")
    ≡ record { content = codes "a"; rest = []; standing = (Wrong BadChunk) }
unfolding body_of chunks trailers size_line is_size line_at line_text
no_end_behind_chunk = refl

longest_size_line : body_of Chunked (many 256 (codes "0") ++ codes "\r\n\r\n")
    ≡ record { content = []; rest = []; standing = Whole }
unfolding body_of chunks trailers size_line is_size line_at line_text
longest_size_line = refl

size_line_too_long : body_of Chunked (many 257 (codes "0"))
    ≡ record { content = []; rest = []; standing = (Wrong LineTooLong) }
unfolding body_of chunks trailers size_line is_size line_at line_text
size_line_too_long = refl

wrong_byte_before_length : body_of Chunked (many 256 (codes "0") ++ codes "g")
    ≡ record { content = []; rest = []; standing = (Wrong BadChunk) }
unfolding body_of chunks trailers size_line is_size line_at line_text
wrong_byte_before_length = refl

most_trailers : body_of Chunked (codes "0\r\n" ++ many 64 (codes "a\r\n") ++ codes "\r\n")
    ≡ record { content = []; rest = []; standing = Whole }
unfolding body_of chunks trailers size_line is_size line_at line_text
most_trailers = refl

one_trailer_more : body_of Chunked (codes "0\r\n" ++ many 64 (codes "a\r\n") ++ codes "a")
    ≡ record { content = []; rest = []; standing = (Wrong LineTooLong) }
unfolding body_of chunks trailers size_line is_size line_at line_text
one_trailer_more = refl

trailer_too_long : body_of Chunked (codes "0\r\n" ++ many 257 (codes "a"))
    ≡ record { content = []; rest = []; standing = (Wrong LineTooLong) }
unfolding body_of chunks trailers size_line is_size line_at line_text
trailer_too_long = refl

length_short : body_of (Length 5) (codes "hell")
    ≡ record { content = codes "hell"; rest = []; standing = Short }
unfolding body_of chunks trailers size_line is_size line_at line_text
length_short = refl

length_whole : body_of (Length 5) (codes "hellox")
    ≡ record { content = codes "hello"; rest = codes "x"; standing = Whole }
unfolding body_of chunks trailers size_line is_size line_at line_text
length_whole = refl

to_end : body_of ToEnd (codes "hello")
    ≡ record { content = codes "hello"; rest = []; standing = Whole }
unfolding body_of chunks trailers size_line is_size line_at line_text
to_end = refl
