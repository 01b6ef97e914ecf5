-- How many bytes of a reply are read.
use Rattle.std.specs.Prelude.{ℕ, ◌+◌, ◌*◌, ◌≤◌, List, [], length}
use Rattle.body_frames.specs.declared.line.TheConstants.{LINE_LIMIT}
use Rattle.body_frames.specs.declared.phase.TheConstants.{TRAILER_LIMIT}
use Rattle.http_heads.specs.declared.head.Head.{Head}
use Rattle.http_heads.specs.declared.limits.TheConstants.{MAX_HEAD_BYTES}
use Rattle.reply_reader.specs.Heads.{HasFinalHead, IsAtHead}
use Rattle.reply_reader.specs.Slices.{Slice, IsSliceDue}
use Rattle.reply_reader.specs.declared.heads.HeadReader.{HeadReader}
use Rattle.reply_reader.specs.declared.heads.TheConstants.{INTERIM_LIMIT}

-- the interim heads and the final one, each as long as a head may be
abbrev pub heads_most : ℕ
heads_most = (INTERIM_LIMIT + 1) * MAX_HEAD_BYTES

-- the lines of the last chunk, of the trailers, and an empty one, each with its CR LF
abbrev pub lines_most : ℕ
lines_most = (TRAILER_LIMIT + 2) * (LINE_LIMIT + 2)

-- the final head ends within so many bytes
abbrev pub FinalHeadsAreShort : Type 0
FinalHeadsAreShort = (received : List ℕ) (head : Head) (used : ℕ) → HasFinalHead received head used → used ≤ heads_most

-- while a head is read no final head stands there
abbrev pub HeadsReadAreNotFinal : Type 0
HeadsReadAreNotFinal = (received : List ℕ) (reader : HeadReader) (head : Head) (used : ℕ)
    → IsAtHead received reader → HasFinalHead received head used → ⊥

-- nor does one before the first byte
abbrev pub NothingIsNoHead : Type 0
NothingIsNoHead = (head : Head) (used : ℕ) → HasFinalHead [] head used → ⊥

-- where a head is read, no more interim heads came than may before what the reader holds
abbrev pub HeadsReadAreShort : Type 0
HeadsReadAreShort = (received : List ℕ) (reader : HeadReader) → IsAtHead received reader
    → length received + MAX_HEAD_BYTES ≤ heads_most + length reader.bytes.items

-- Where more of a slice is due, its stream has so many bytes at most. Each byte of the content may stand in a chunk of its
-- own, with a line of 258 bytes before it and 2 bytes behind it.
abbrev pub DueSlicesAreShort : Type 0
DueSlicesAreShort = (slice : Slice) (stream : List ℕ) → IsSliceDue slice stream
    → length stream ≤ 261 * (slice.skip + slice.len) + lines_most
