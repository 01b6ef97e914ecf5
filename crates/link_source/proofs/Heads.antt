-- The heads of replies, as one text.
use Rattle.std.proofs.Common.{◌≡◌, ℕ, ◌+◌, ◌-◌, Bool, true, false, List, [], ◌++◌, append_assoc, refl}
use Rattle.std.specs.Fmt.{decimal}
use Rattle.std.specs.Prelude.{codes}
use Rattle.link_source.specs.Replies.{length_line, no_content_line, moved, not_satisfiable, part_head, whole_head, status_head}
use Rattle.link_source.specs.Requests.{ended_line}

-- a line with a value between two texts, and then a text
valued : (status name value line_end length_line empty : List ℕ)
    → (status ++ name) ++ (value ++ (line_end ++ (length_line ++ empty))) ≡ status ++ ((name ++ value) ++ line_end) ++ length_line ++ empty
valued status name value line_end length_line empty = simp append_assoc

pub not_satisfiable-text : (total : ℕ)
    → codes "HTTP/1.1 416 Range Not Satisfiable\r\nContent-Range: bytes */" ++ (decimal total ++ codes "\r\nContent-Length: 0\r\n\r\n") ≡ not_satisfiable total
unfolding not_satisfiable
not_satisfiable-text total =
    valued (ended_line (codes "HTTP/1.1 416 Range Not Satisfiable")) (codes "Content-Range: bytes */") (decimal total) (codes "\r\n") no_content_line (ended_line [])

pub moved-text : (location : List ℕ)
    → codes "HTTP/1.1 302 Found\r\nLocation: " ++ (location ++ codes "\r\nContent-Length: 0\r\n\r\n") ≡ moved location
unfolding moved
moved-text location = valued (ended_line (codes "HTTP/1.1 302 Found")) (codes "Location: ") location (codes "\r\n") no_content_line (ended_line [])

pub status-text : (status : ℕ) → codes "HTTP/1.1 " ++ (decimal status ++ codes " \r\nContent-Length: 0\r\n\r\n") ≡ status_head status
unfolding status_head
status-text status = joined (codes "HTTP/1.1 ") (decimal status) (codes " ") (codes "\r\n") no_content_line (ended_line [])
  where
    joined : (version status space line_end length_line empty : List ℕ)
        → version ++ (status ++ (space ++ (line_end ++ (length_line ++ empty)))) ≡ ((version ++ status ++ space) ++ line_end) ++ length_line ++ empty
    joined version status space line_end length_line empty = simp append_assoc

pub part_head-text : (chunked : Bool) (first last total : ℕ)
    → codes "HTTP/1.1 206 Partial Content\r\nContent-Range: bytes " ++ (decimal first ++ (codes "-" ++ (decimal last ++ (codes "/" ++ (decimal total
    ++ (codes "\r\n" ++ (length_line chunked (last + 1 - first) ++ codes "\r\n"))))))) ≡ part_head chunked first last total
unfolding part_head
part_head-text chunked first last total =
    joined (ended_line (codes "HTTP/1.1 206 Partial Content")) (codes "Content-Range: bytes ") (decimal first) (codes "-") (decimal last) (codes "/") (decimal total)
    (codes "\r\n") (length_line chunked (last + 1 - first)) (ended_line [])
  where
    joined : (status range first dash last slash total line_end length_line empty : List ℕ)
        → (status ++ range) ++ (first ++ (dash ++ (last ++ (slash ++ (total ++ (line_end ++ (length_line ++ empty)))))))
        ≡ status ++ ((range ++ first ++ dash ++ last ++ slash ++ total) ++ line_end) ++ length_line ++ empty
    joined status range first dash last slash total line_end length_line empty = simp append_assoc

pub whole_head-told : (total : ℕ) → codes "HTTP/1.1 200 OK\r\nContent-Length: " ++ (decimal total ++ codes "\r\n\r\n") ≡ whole_head true total
unfolding whole_head
whole_head-told total = joined (ended_line (codes "HTTP/1.1 200 OK")) (codes "Content-Length: ") (decimal total) (codes "\r\n") (ended_line [])
  where
    joined : (status name value line_end empty : List ℕ) → (status ++ name) ++ (value ++ (line_end ++ empty)) ≡ status ++ ((name ++ value) ++ line_end) ++ empty
    joined status name value line_end empty = simp append_assoc

pub whole_head-untold : (total : ℕ) → codes "HTTP/1.1 200 OK\r\n\r\n" ≡ whole_head false total
unfolding whole_head
whole_head-untold total = refl
