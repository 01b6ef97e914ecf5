-- Content that is written in chunks (RFC 9112 section 7.1).
use Rattle.std.specs.Prelude.{ℕ, ◌*◌, false, List, [], ◌++◌, length, flat_map, codes}
use Rattle.std.specs.Fmt.{digits}
use Rattle.std.specs.Int.{div_ceil}
use Rattle.std.specs.List.{range_with_len}
use Rattle.dl_kinds.specs.Lists.{part_at}
use Rattle.link_source.specs.Requests.{ended_line}

-- the size in hexadecimal digits, and the bytes
abbrev pub chunk : List ℕ → List ℕ
chunk bytes = ended_line (digits 16 false (length bytes)) ++ ended_line bytes

-- a chunk of no byte, and no trailer
abbrev pub last_chunk : List ℕ
last_chunk = ended_line (codes "0") ++ ended_line []

-- the chunk of this number: 4,096 bytes, or those that are left
abbrev pub chunk_at : List ℕ → ℕ → List ℕ
chunk_at content number = chunk (part_at content (number * 4096) 4096)

abbrev pub chunk_count : List ℕ → ℕ
chunk_count content = div_ceil (length content) 4096

unfoldable pub in_chunks : List ℕ → List ℕ
in_chunks content = flat_map (chunk_at content) (range_with_len 0 (chunk_count content)) ++ last_chunk
