-- Responses, byte for byte (RFC 9112 sections 4 to 6).
use Rattle.std.specs.Prelude.{ℕ, List, [], ◌++◌, length, codes, decimal, Option, Some, None}
use Rattle.request_stream.specs.declared.refusal.Refusal.{Refusal}
use Rattle.request_stream.specs.declared.refusal.Refusal.TheVariants.{BadRequest, NotFound, MethodNotAllowed, LengthRequired, ContentTooLarge}

-- a line of a head, with its end
abbrev pub head_line : List ℕ → List ℕ
head_line text = text ++ codes "\r\n"

abbrev pub status_line : List ℕ → List ℕ
status_line status = head_line (codes "HTTP/1.1 " ++ status)

abbrev pub field_line : List ℕ → List ℕ → List ℕ
field_line name value = head_line (name ++ codes ": " ++ value)

-- ---- a request that is served

-- RFC 9110 section 15.3.1
abbrev pub content_head : ℕ → List ℕ
content_head len =
    status_line (codes "200 OK")
    ++ field_line (codes "Content-Type") (codes "application/json-rpc")
    ++ field_line (codes "Content-Length") (decimal len)
    ++ head_line []

-- by the length of the content, where there is any; else RFC 9110 section 15.3.5
abbrev pub response_head : Option ℕ → List ℕ
response_head None = status_line (codes "204 No Content") ++ head_line []
response_head (Some len) = content_head len

abbrev pub served_response : Option (List ℕ) → List ℕ
served_response None = response_head None
served_response (Some content) = response_head (Some (length content)) ++ content

-- ---- a request that is turned away

abbrev pub status_of_refusal : Refusal → List ℕ
status_of_refusal BadRequest = codes "400 Bad Request"
status_of_refusal NotFound = codes "404 Not Found"
status_of_refusal MethodNotAllowed = codes "405 Method Not Allowed"
status_of_refusal LengthRequired = codes "411 Length Required"
status_of_refusal ContentTooLarge = codes "413 Content Too Large"

-- RFC 9110 section 10.2.1
abbrev pub allow_line : Refusal → List ℕ
allow_line MethodNotAllowed = field_line (codes "Allow") (codes "POST")
allow_line refusal = []

-- with no content
abbrev pub refusal_response : Refusal → List ℕ
refusal_response refusal =
    status_line (status_of_refusal refusal)
    ++ allow_line refusal
    ++ field_line (codes "Content-Length") (codes "0")
    ++ head_line []
