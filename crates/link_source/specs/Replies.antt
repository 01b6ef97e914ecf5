-- The replies of mirrors in memory (RFC 9110 sections 14.4, 15.3.1, 15.3.7, 15.4.3, 15.5.5 and 15.5.17), and the bad
-- ones in their place.
use Rattle.std.specs.Prelude.{ℕ, ◌-◌, ◌+◌, Bool, true, false, List, [], ◌++◌, length, take, min, nat_lt, nat_le, slice_index, slice_set, bit_xor, codes, Option, Some, None, if◌then◌else◌}
use Rattle.std.specs.Fmt.{decimal}
use Rattle.dl_kinds.specs.Lists.{part_at}
use Rattle.link_source.specs.Chunks.{in_chunks}
use Rattle.link_source.specs.Requests.{ended_line}
use Rattle.link_source.specs.declared.bad_answers.Bad.{Bad}
use Rattle.link_source.specs.declared.bad_answers.BadKind.{BadKind}
use Rattle.link_source.specs.declared.bad_answers.BadKind.TheVariants.{Status, Cut, Flip}

pub record Reply : Type 0 where
  -- the bytes up to the empty line, and that line
  pub head : List ℕ
  -- the bytes of the resource from this place on
  pub place : ℕ
  pub content : List ℕ
  -- whether they stand in chunks
  pub chunked : Bool

-- a reply without content
abbrev pub bare_reply : List ℕ → Reply
bare_reply head = record { head = head; place = 0; content = []; chunked = false }

-- the content as it is sent
abbrev pub body_text : Reply → List ℕ
body_text reply = if reply.chunked then in_chunks reply.content else reply.content

abbrev pub text_of : Reply → List ℕ
text_of reply = reply.head ++ body_text reply

-- ---- the true ones

abbrev pub no_content_line : List ℕ
no_content_line = ended_line (codes "Content-Length: 0")

-- how the length of the content is told
abbrev pub length_line : Bool → ℕ → List ℕ
length_line true length = ended_line (codes "Transfer-Encoding: chunked")
length_line false length = ended_line (codes "Content-Length: " ++ decimal length)

unfoldable pub not_found : List ℕ
not_found = ended_line (codes "HTTP/1.1 404 Not Found") ++ no_content_line ++ ended_line []

-- the resource stands elsewhere
unfoldable pub moved : List ℕ → List ℕ
moved location = ended_line (codes "HTTP/1.1 302 Found") ++ ended_line (codes "Location: " ++ location) ++ no_content_line ++ ended_line []

-- no part of a resource of this length was asked for
unfoldable pub not_satisfiable : ℕ → List ℕ
not_satisfiable total =
    ended_line (codes "HTTP/1.1 416 Range Not Satisfiable")
    ++ ended_line (codes "Content-Range: bytes */" ++ decimal total)
    ++ no_content_line
    ++ ended_line []

-- the head before the bytes from first to last of a resource of this length
unfoldable pub part_head : Bool → ℕ → ℕ → ℕ → List ℕ
part_head chunked first last total =
    ended_line (codes "HTTP/1.1 206 Partial Content")
    ++ ended_line (codes "Content-Range: bytes " ++ decimal first ++ codes "-" ++ decimal last ++ codes "/" ++ decimal total)
    ++ length_line chunked (last + 1 - first)
    ++ ended_line []

abbrev pub part_reply : Bool → List ℕ → ℕ → ℕ → Reply
part_reply chunked bytes first last = record {
  head = part_head chunked first last (length bytes);
  place = first;
  content = part_at bytes first (last + 1 - first);
  chunked = chunked;
}

-- of the bytes that were asked for those that are there
abbrev pub ranges_reply : Bool → List ℕ → ℕ → ℕ → Reply
ranges_reply chunked bytes first last =
    if nat_lt first (length bytes)
    then part_reply chunked bytes first (min last (length bytes - 1))
    else bare_reply (not_satisfiable (length bytes))

-- the head before all bytes: their length is told, or they end with the stream
unfoldable pub whole_head : Bool → ℕ → List ℕ
whole_head told total = ended_line (codes "HTTP/1.1 200 OK") ++ (if told then length_line false total else []) ++ ended_line []

abbrev pub whole_reply : Bool → List ℕ → Reply
whole_reply told bytes = record { head = whole_head told (length bytes); place = 0; content = bytes; chunked = false }

-- ---- the bad ones

-- a status alone
unfoldable pub status_head : ℕ → List ℕ
status_head status = ended_line (codes "HTTP/1.1 " ++ decimal status ++ codes " ") ++ no_content_line ++ ended_line []

-- the reply with all bits of the resource's byte at this place turned, where it holds that byte
abbrev pub flipped : ℕ → Reply → Reply
flipped place reply =
    let index = place - reply.place in
    if nat_le reply.place place
    then record reply { content = slice_set reply.content index (bit_xor (slice_index reply.content index) 255) }
    else reply

-- what stands in the place of a reply
abbrev pub spoiled_text : BadKind → Reply → List ℕ
spoiled_text (Status status) reply = status_head status
spoiled_text (Cut count) reply = reply.head ++ take count (body_text reply)
spoiled_text (Flip place) reply = text_of (flipped place reply)

-- the bytes that are sent, where there is a bad answer or none
abbrev pub text_under : Option Bad → Reply → List ℕ
text_under None reply = text_of reply
text_under (Some bad) reply = spoiled_text bad.kind reply
