-- How the downloader reads a part (RFC 9110 sections 14.2 and 14.4).
use Rattle.std.specs.Prelude.{◌≡◌, ◌≤◌, ◌<◌, ℕ, ◌+◌, ◌-◌, ◌^◌, List, ◌++◌, length, codes, decimal, Some}
use Rattle.memory_reply_laws.specs.Reading.{BeginsWithHead, IsKnownAs}
use Rattle.range_http.specs.declared.asked.Asked.{Asked}
use Rattle.range_http.specs.declared.framing.Framing.TheVariants.{Length}
use Rattle.range_http.specs.declared.verdict.Verdict.TheVariants.{Part as PartVerdict}
use Rattle.origin_replies.specs.Replies.{head_of_reply}
use Rattle.origin_replies.specs.Spans.{span_of}
use Rattle.origin_replies.specs.declared.reply.Reply.TheVariants.{Part}
use Rattle.origin_replies.specs.declared.span.Span.TheVariants.{Part as PartBytes}

-- the value of the field Range in the downloader's request
abbrev pub range_value : Asked → List ℕ
range_value asked = codes "bytes=" ++ decimal asked.first ++ codes "-" ++ decimal asked.last

-- a range within a file of this length, of which no other length is known
pub record AsksInFile (total : ℕ) (asked : Asked) : Type 0 where
  pub bounded : total < 2 ^ 63
  pub ordered : asked.first ≤ asked.last
  pub within : asked.last < total
  pub known : IsKnownAs total asked.total

-- just the part that is asked for is sent
abbrev pub PartsAreSent : Type 0
PartsAreSent = (total : ℕ) (asked : Asked) → AsksInFile total asked
    → span_of (Some (range_value asked)) total ≡ PartBytes asked.first asked.last

-- .. and whatever stands behind the head of its reply, it is read as that part, up to the last byte that was asked for
abbrev pub PartsAreClassified : Type 0
PartsAreClassified = (total : ℕ) (asked : Asked) (content : List ℕ) → AsksInFile total asked
    → let head = head_of_reply (Part asked.first asked.last total) in
    BeginsWithHead (head ++ content) asked 206 (length head)
    (PartVerdict asked.last (Some total) (Length (asked.last + 1 - asked.first)))
