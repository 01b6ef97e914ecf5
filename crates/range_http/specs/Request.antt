-- The request for a range of a resource (RFC 9112 section 3, RFC 9110 section 14.2).
use Rattle.std.specs.Prelude.{ℕ, List, [], ◌++◌, codes, decimal}
use Rattle.range_http.specs.declared.asked.Asked.{Asked}

-- a line with its end
abbrev pub line : List ℕ → List ℕ
line text = text ++ codes "\r\n"

-- the bytes of the request, whose range is from the first to the last asked byte
abbrev pub request_text : List ℕ → List ℕ → Asked → List ℕ
request_text target host asked =
    line (codes "GET " ++ target ++ codes " HTTP/1.1")
    ++ line (codes "Host: " ++ host)
    ++ line (codes "User-Agent: aria_cli")
    ++ line (codes "Accept: */*")
    ++ line (codes "Accept-Encoding: identity")
    ++ line (codes "Range: bytes=" ++ decimal asked.first ++ codes "-" ++ decimal asked.last)
    ++ line []
