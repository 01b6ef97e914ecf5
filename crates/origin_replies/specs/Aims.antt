-- What a request asks for, and its reply (RFC 9110 sections 9.3.1, 9.3.2 and 14.2).
use Rattle.std.specs.Prelude.{ℕ, Bool, true, false, ◌&&◌, ◌||◌, not, ◌==◌, bytes_eq, codes, List, [], ◌∷◌, ◌++◌, length, if◌then◌else◌, Option, Some, None, option_map}
use Rattle.dl_disk.specs.Files.{Files, file_bytes}
use Rattle.http_header.specs.FieldValue.{FieldValue}
use Rattle.http_header.specs.HeaderMap.{Entries}
use Rattle.http_heads.specs.Content.{content_length}
use Rattle.http_heads.specs.Fields.{field_values, sole}
use Rattle.http_heads.specs.declared.ask_head.AskHead.{AskHead}
use Rattle.http_heads.specs.declared.content.ContentLength.{ContentLength}
use Rattle.http_heads.specs.declared.content.ContentLength.TheVariants.{Bytes, Beyond, Unclear}
use Rattle.origin_replies.specs.declared.aim.Aim.{Aim}
use Rattle.origin_replies.specs.declared.aim.Aim.TheVariants.{Refused, File}
use Rattle.origin_replies.specs.declared.reply.Reply.{Reply}
use Rattle.origin_replies.specs.declared.reply.Reply.TheVariants.{NotFound, MethodNotAllowed, BadRequest, Failed}
use Rattle.origin_replies.specs.declared.span.Span.{Span}
use Rattle.origin_replies.specs.declared.span.Span.TheVariants.{All}
use Rattle.origin_replies.specs.Names.{name_of}
use Rattle.origin_replies.specs.Replies.{HasNoNumber, content_sent, head_of_reply, reply_by_span}
use Rattle.origin_replies.specs.Spans.{span_of}

abbrev pub is_get : AskHead → Bool
is_get head = bytes_eq head.method (codes "GET")

abbrev pub is_head : AskHead → Bool
is_head head = bytes_eq head.method (codes "HEAD")

-- ---- content of a request

abbrev pub has_any : {A : Type 0} → List A → Bool
has_any [] = false
has_any (x ∷ xs) = true

abbrev pub has_field : Entries FieldValue → List ℕ → Bool
has_field fields name = has_any (field_values fields name)

abbrev pub is_no_content : ContentLength → Bool
is_no_content (Bytes len) = len == 0
is_no_content Beyond = false
is_no_content Unclear = false

-- by Transfer-Encoding, or by Content-Length, but for a single one of 0 (RFC 9112 section 6)
abbrev pub tells_content : AskHead → Bool
tells_content head =
    has_field head.fields (codes "transfer-encoding")
    || (has_field head.fields (codes "content-length") && not (is_no_content (content_length head)))

-- ---- by the head alone

abbrev pub aim_by_name : Option (List ℕ) → Aim
aim_by_name None = Refused NotFound
aim_by_name (Some name) = File name

abbrev pub aim_of : AskHead → Aim
aim_of head =
    if tells_content head then Refused BadRequest else (
    if is_get head || is_head head then aim_by_name (name_of head.target) else
    Refused MethodNotAllowed)

-- a refusal tells no number
abbrev pub IsPlainAim : Aim → Type 0
IsPlainAim (Refused reply) = HasNoNumber reply
IsPlainAim (File name) = Unit {0}

-- ---- by the file

-- the bytes that are asked for of a file of this length; a HEAD is answered as a GET without a range
abbrev pub span_asked : AskHead → ℕ → Span
span_asked head total = if is_get head then span_of (sole (field_values head.fields (codes "range"))) total else All

-- the reply for a file of this length, or for none
abbrev pub reply_by_length : AskHead → Option ℕ → Reply
reply_by_length head None = NotFound
reply_by_length head (Some total) = reply_by_span (span_asked head total) total

-- .. where the look for its length met a fault, or didn't
abbrev pub reply_by_file : AskHead → Bool → Option (List ℕ) → Reply
reply_by_file head fault file = if fault then Failed else reply_by_length head (option_map length file)

-- what is sent behind the head: of a GET the slice of the file
abbrev pub content_by_file : AskHead → Bool → Option (List ℕ) → List ℕ
content_by_file head fault file =
    if is_get head then content_sent (reply_by_file head fault file) (file_bytes file) else []

-- the text of the reply, where the files below the folder are these
abbrev pub text_by_aim : Files → AskHead → Bool → Aim → List ℕ
text_by_aim files head fault (Refused reply) = head_of_reply reply
text_by_aim files head fault (File name) =
    head_of_reply (reply_by_file head fault (files name)) ++ content_by_file head fault (files name)

abbrev pub text_to : Files → AskHead → Bool → List ℕ
text_to files head fault = text_by_aim files head fault (aim_of head)
