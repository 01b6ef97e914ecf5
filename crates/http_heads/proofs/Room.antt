-- A head has a field for every three bytes at most.
use Rattle.std.proofs.Common.{◌≡◌, ℕ, suc, ◌<◌, ◌≤◌, ◌+◌, ◌*◌, ◌/◌, List, [], ◌∷◌, ◌++◌, length, arith, ap}
use Rattle.std.specs.List.{flat_map}
use Rattle.std.specs.Prelude.{All}
use Rattle.std.proofs.lemmas.List.{length-append}
use Rattle.std.proofs.lemmas.List.Elements.{All-head, All-tail}
use Rattle.httparse.specs.Ascii.{colon}
use Rattle.httparse.specs.Grammar.{Field, IsField, LineEnd, lf, crlf, print_field, print_end, print_section, RequestHead, print_request, ResponseHead, print_response, print_blank, print_version, print_reason}
use Rattle.httparse.specs.Spans.{RequestExceeds, ResponseExceeds}

pub end_len : (e : LineEnd) → 1 ≤ length (print_end e)
end_len crlf = omega arith
end_len lf = omega arith

-- a name, the colon and the line's end
field_len : (f : Field) → IsField f → 3 ≤ length (print_field f)
field_len f is =
    let whole = length-append (f.name ++ colon ∷ f.raw) (print_end f.end) in
    let front = length-append f.name (colon ∷ f.raw) in
    let end = end_len f.end in
    let goal : 3 ≤ length (f.name ++ colon ∷ f.raw ++ print_end f.end) = omega (arith, whole, front, is.name.0, end) in
    goal

fields_len : (fs : List Field) → All IsField fs → 3 * length fs ≤ length (flat_map print_field fs)
fields_len [] are = omega arith
fields_len (f ∷ fs) are =
    let whole : length (flat_map print_field (f ∷ fs)) ≡ length (print_field f) + length (flat_map print_field fs) = length-append (print_field f) (flat_map print_field fs) in
    let others = fields_len fs (All-tail IsField f fs are) in
    let one = field_len f (All-head IsField f fs are) in
    let goal : 3 * suc (length fs) ≤ length (flat_map print_field (f ∷ fs)) = omega (arith, whole, others, one) in
    goal

-- beside the fields there are the ends of the first line and of the last
section_len : (line : List ℕ) (line_end : LineEnd) (fields : List Field) (last : LineEnd) → All IsField fields
    → 3 * length fields + 2 ≤ length (line ++ print_end line_end ++ print_section fields last)
section_len line line_end fields last are =
    let whole = length-append (line ++ print_end line_end) (print_section fields last) in
    let first = length-append line (print_end line_end) in
    let section = length-append (flat_map print_field fields) (print_end last) in
    omega (arith, whole, first, section, fields_len fields are, end_len line_end, end_len last)

request_len : (h : RequestHead) → All IsField h.fields → 3 * length h.fields + 2 ≤ length (print_request h)
unfolding print_request
request_len h are =
    section_len (print_blank h.blank ++ h.method ++ 32 ∷ h.target ++ 32 ∷ print_version h.minor) h.line_end h.fields h.last are

response_len : (h : ResponseHead) → All IsField h.fields → 3 * length h.fields + 2 ≤ length (print_response h)
unfolding print_response
response_len h are =
    section_len (print_blank h.blank ++ print_version h.minor ++ 32 ∷ h.digits ++ print_reason h.reason) h.line_end h.fields h.last are

-- with a third as many places as bytes there is always room
large_enough : (buf front rest text : List ℕ) (room count : ℕ) → length buf / 3 ≤ room → buf ≡ front ++ rest
    → front ++ print_end lf ≡ text ++ [] → 3 * count + 2 ≤ length text → room < count → ⊥
large_enough buf front rest text room count large is reads len over =
    let whole : length (front ++ print_end lf) ≡ length (text ++ []) = ap length reads in
    absurd (omega (arith, large, over, whole, len, length-append front (print_end lf), length-append text [], ap length is, length-append front rest))

pub request_fits : (buf : List ℕ) (room : ℕ) → length buf / 3 ≤ room → RequestExceeds room buf → ⊥
request_fits buf room large (front, rest, is, h, reads, over) =
    large_enough buf front rest (print_request h) room (length h.fields) large is reads.1 (request_len h reads.0.fields) over

pub response_fits : (buf : List ℕ) (room : ℕ) → length buf / 3 ≤ room → ResponseExceeds room buf → ⊥
response_fits buf room large (front, rest, is, h, reads, over) =
    large_enough buf front rest (print_response h) room (length h.fields) large is reads.1 (response_len h reads.0.fields) over
