-- The request as one text.
use Rattle.std.proofs.Common.{◌≡◌, ℕ, List, [], ◌++◌, append_assoc}
use Rattle.std.specs.Prelude.{codes, decimal}
use Rattle.range_http.specs.declared.asked.Asked.{Asked}
use Rattle.range_http.specs.Request.{request_text}

regroup : (get target version end host_is host agent accept encoding range first dash last : List ℕ)
    → ((get ++ target ++ version) ++ end) ++ ((host_is ++ host) ++ end) ++ (agent ++ end) ++ (accept ++ end) ++ (encoding ++ end)
    ++ ((range ++ first ++ dash ++ last) ++ end) ++ ([] ++ end)
    ≡ get ++ (target ++ ((version ++ (end ++ host_is)) ++ (host ++ ((end ++ (agent ++ (end ++ (accept ++ (end ++ (encoding ++ (end ++ range)))))))
    ++ (first ++ (dash ++ (last ++ (end ++ end))))))))
regroup get target version end host_is host agent accept encoding range first dash last = simp append_assoc

-- the texts that change, and those between them
pub request_text-pieces : (target host : List ℕ) (asked : Asked)
    → request_text target host asked
    ≡ codes "GET " ++ (target ++ (codes " HTTP/1.1\r\nHost: " ++ (host
    ++ (codes "\r\nUser-Agent: aria_cli\r\nAccept: */*\r\nAccept-Encoding: identity\r\nRange: bytes="
    ++ (decimal asked.first ++ (codes "-" ++ (decimal asked.last ++ codes "\r\n\r\n")))))))
request_text-pieces target host asked =
    regroup (codes "GET ") target (codes " HTTP/1.1") (codes "\r\n") (codes "Host: ") host (codes "User-Agent: aria_cli") (codes "Accept: */*")
    (codes "Accept-Encoding: identity") (codes "Range: bytes=") (decimal asked.first) (codes "-") (decimal asked.last)
