-- The head of a response as one text.
use Rattle.std.proofs.Common.{◌≡◌, ℕ, List, [], ◌++◌, append_assoc}
use Rattle.std.specs.Prelude.{codes, decimal}
use Rattle.request_stream.specs.Responses.{content_head}

regroup : (version status kind colon json length len end : List ℕ)
    → ((version ++ status) ++ end) ++ ((kind ++ colon ++ json) ++ end) ++ ((length ++ colon ++ len) ++ end) ++ ([] ++ end)
    ≡ (version ++ (status ++ (end ++ (kind ++ (colon ++ (json ++ (end ++ (length ++ colon)))))))) ++ (len ++ (end ++ end))
regroup version status kind colon json length len end = simp append_assoc

-- the length, and the texts around it
pub content_head-pieces : (len : ℕ)
    → content_head len
    ≡ codes "HTTP/1.1 200 OK\r\nContent-Type: application/json-rpc\r\nContent-Length: " ++ (decimal len ++ codes "\r\n\r\n")
content_head-pieces len =
    regroup (codes "HTTP/1.1 ") (codes "200 OK") (codes "Content-Type") (codes ": ") (codes "application/json-rpc")
    (codes "Content-Length") (decimal len) (codes "\r\n")
