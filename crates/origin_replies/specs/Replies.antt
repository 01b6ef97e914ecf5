-- Replies of an HTTP origin, byte for byte (RFC 9110 sections 8, 14 and 15, RFC 9112 sections 4 to 6).
use Rattle.std.specs.Prelude.{ℕ, ◌+◌, ◌-◌, ◌≤◌, ◌<◌, List, [], ◌∷◌, ◌++◌, codes, decimal}
use Rattle.std.specs.List.{flat_map}
use Rattle.dl_kinds.specs.Lists.{part_at}
use Rattle.request_stream.specs.Responses.{head_line, status_line, field_line}
use Rattle.origin_replies.specs.declared.reply.Reply.{Reply}
use Rattle.origin_replies.specs.declared.reply.Reply.TheVariants.{Whole, Part, Outside, NotFound, MethodNotAllowed, BadRequest, Failed}
use Rattle.origin_replies.specs.declared.span.Span.{Span}
use Rattle.origin_replies.specs.declared.span.Span.TheVariants.{All as AllBytes, Part as PartBytes, Outside as NoBytes}

abbrev pub reply_by_span : Span → ℕ → Reply
reply_by_span AllBytes total = Whole total
reply_by_span (PartBytes first last) total = Part first last total
reply_by_span NoBytes total = Outside total

-- ---- heads

-- RFC 9110 sections 15.3.1, 15.3.7, 15.5.17, 15.5.5, 15.5.6, 15.5.1 and 15.6.1
abbrev pub status_text : Reply → List ℕ
status_text (Whole total) = codes "200 OK"
status_text (Part first last total) = codes "206 Partial Content"
status_text (Outside total) = codes "416 Range Not Satisfiable"
status_text NotFound = codes "404 Not Found"
status_text MethodNotAllowed = codes "405 Method Not Allowed"
status_text BadRequest = codes "400 Bad Request"
status_text Failed = codes "500 Internal Server Error"

-- a name and a value
abbrev pub HeadField : Type 0
HeadField = List ℕ × List ℕ

-- RFC 9110 sections 8.3, 14.3, 14.4 and 8.6
abbrev pub type_told : HeadField
type_told = (codes "Content-Type", codes "application/octet-stream")

abbrev pub ranges_told : HeadField
ranges_told = (codes "Accept-Ranges", codes "bytes")

abbrev pub part_told : ℕ → ℕ → ℕ → HeadField
part_told first last total =
    (codes "Content-Range", codes "bytes " ++ decimal first ++ codes "-" ++ decimal last ++ codes "/" ++ decimal total)

abbrev pub len_told : ℕ → HeadField
len_told len = (codes "Content-Length", decimal len)

abbrev pub no_len_told : HeadField
no_len_told = (codes "Content-Length", codes "0")

abbrev pub fields_told : Reply → List HeadField
fields_told (Whole total) = type_told ∷ ranges_told ∷ len_told total ∷ []
fields_told (Part first last total) =
    type_told ∷ ranges_told ∷ part_told first last total ∷ len_told (last + 1 - first) ∷ []
fields_told (Outside total) = (codes "Content-Range", codes "bytes */" ++ decimal total) ∷ no_len_told ∷ []
fields_told MethodNotAllowed = (codes "Allow", codes "GET, HEAD") ∷ no_len_told ∷ []
fields_told reply = no_len_told ∷ []

abbrev pub field_of_head : HeadField → List ℕ
field_of_head field = field_line field.0 field.1

abbrev pub head_of_reply : Reply → List ℕ
head_of_reply reply = status_line (status_text reply) ++ flat_map field_of_head (fields_told reply) ++ head_line []

-- ---- contents

abbrev pub first_sent : Reply → ℕ
first_sent (Part first last total) = first
first_sent reply = 0

abbrev pub len_sent : Reply → ℕ
len_sent (Whole total) = total
len_sent (Part first last total) = last + 1 - first
len_sent reply = 0

-- the slice of the file
abbrev pub content_sent : Reply → List ℕ → List ℕ
content_sent reply bytes = part_at bytes (first_sent reply) (len_sent reply)

-- a part has a byte, and lies within the file
abbrev pub IsWithinFile : Reply → Type 0
IsWithinFile (Part first last total) = (first ≤ last) × (last < total)
IsWithinFile reply = Unit {0}

-- a reply that tells no number
abbrev pub HasNoNumber : Reply → Type 0
HasNoNumber (Whole total) = ⊥
HasNoNumber (Part first last total) = ⊥
HasNoNumber (Outside total) = ⊥
HasNoNumber reply = Unit {0}
