-- Heads of replies as single texts.
use Rattle.std.proofs.Common.{◌≡◌, ℕ, ◌+◌, ◌-◌, ◌≤◌, List, [], ◌++◌, append_assoc, append-nil, ap, ◌∙◌, arith}
use Rattle.std.specs.Prelude.{codes, decimal}
use Rattle.origin_replies.specs.Replies.{head_of_reply}
use Rattle.origin_replies.specs.declared.reply.Reply.TheVariants.{Whole, Part, Outside}

whole-lines : (v s e n1 k v1 n2 v2 n3 d : List ℕ)
    → ((v ++ s) ++ e) ++ (((n1 ++ k ++ v1) ++ e) ++ (((n2 ++ k ++ v2) ++ e) ++ (((n3 ++ k ++ d) ++ e) ++ []))) ++ ([] ++ e)
    ≡ (v ++ s ++ e ++ n1 ++ k ++ v1 ++ e ++ n2 ++ k ++ v2 ++ e ++ n3 ++ k) ++ (d ++ (e ++ e))
whole-lines v s e n1 k v1 n2 v2 n3 d = simp (append_assoc, append-nil)

pub whole-pieces : (total : ℕ)
    → head_of_reply (Whole total)
    ≡ codes "HTTP/1.1 200 OK\r\nContent-Type: application/octet-stream\r\nAccept-Ranges: bytes\r\nContent-Length: "
    ++ (decimal total ++ codes "\r\n\r\n")
whole-pieces total =
    whole-lines (codes "HTTP/1.1 ") (codes "200 OK") (codes "\r\n") (codes "Content-Type") (codes ": ")
    (codes "application/octet-stream") (codes "Accept-Ranges") (codes "bytes") (codes "Content-Length") (decimal total)

part-lines : (v s e n1 k v1 n2 v2 n3 u d1 dash d2 slash d3 n4 d4 : List ℕ)
    → ((v ++ s) ++ e)
    ++ (((n1 ++ k ++ v1) ++ e) ++ (((n2 ++ k ++ v2) ++ e) ++ (((n3 ++ k ++ (u ++ d1 ++ dash ++ d2 ++ slash ++ d3)) ++ e) ++ (((n4 ++ k ++ d4) ++ e) ++ []))))
    ++ ([] ++ e)
    ≡ (v ++ s ++ e ++ n1 ++ k ++ v1 ++ e ++ n2 ++ k ++ v2 ++ e ++ n3 ++ k ++ u)
    ++ (d1 ++ (dash ++ (d2 ++ (slash ++ (d3 ++ ((e ++ n4 ++ k) ++ (d4 ++ (e ++ e))))))))
part-lines v s e n1 k v1 n2 v2 n3 u d1 dash d2 slash d3 n4 d4 = simp (append_assoc, append-nil)

abbrev part-text : ℕ → ℕ → ℕ → ℕ → List ℕ
part-text first last total len =
    codes "HTTP/1.1 206 Partial Content\r\nContent-Type: application/octet-stream\r\nAccept-Ranges: bytes\r\nContent-Range: bytes "
    ++ (decimal first ++ (codes "-" ++ (decimal last ++ (codes "/" ++ (decimal total ++ (codes "\r\nContent-Length: "
    ++ (decimal len ++ codes "\r\n\r\n")))))))

pub part-pieces : (first last total : ℕ) → first ≤ last
    → head_of_reply (Part first last total) ≡ part-text first last total (last - first + 1)
part-pieces first last total ordered =
    let same : last + 1 - first ≡ last - first + 1 = omega (arith, ordered) in
    part-lines (codes "HTTP/1.1 ") (codes "206 Partial Content") (codes "\r\n") (codes "Content-Type") (codes ": ")
    (codes "application/octet-stream") (codes "Accept-Ranges") (codes "bytes") (codes "Content-Range") (codes "bytes ")
    (decimal first) (codes "-") (decimal last) (codes "/") (decimal total) (codes "Content-Length") (decimal (last + 1 - first))
    ∙ ap (part-text first last total) same

outside-lines : (v s e n1 k u d n2 z : List ℕ)
    → ((v ++ s) ++ e) ++ (((n1 ++ k ++ (u ++ d)) ++ e) ++ (((n2 ++ k ++ z) ++ e) ++ [])) ++ ([] ++ e)
    ≡ (v ++ s ++ e ++ n1 ++ k ++ u) ++ (d ++ (e ++ n2 ++ k ++ z ++ e ++ e))
outside-lines v s e n1 k u d n2 z = simp (append_assoc, append-nil)

pub outside-pieces : (total : ℕ)
    → head_of_reply (Outside total)
    ≡ codes "HTTP/1.1 416 Range Not Satisfiable\r\nContent-Range: bytes */"
    ++ (decimal total ++ codes "\r\nContent-Length: 0\r\n\r\n")
outside-pieces total =
    outside-lines (codes "HTTP/1.1 ") (codes "416 Range Not Satisfiable") (codes "\r\n") (codes "Content-Range") (codes ": ")
    (codes "bytes */") (decimal total) (codes "Content-Length") (codes "0")
