-- A head ends in an empty line.
use Rattle.std.proofs.Common.{◌≡◌, ℕ, ◌≤◌, List, [], ◌∷◌, ◌++◌, append_assoc, append-nil, length, length-append, take, arith, ap, sym, ◌∙◌, refl, inl, inr, true}
use Rattle.std.proofs.lemmas.Bool.{or_left, or_right, cases_lt}
use Rattle.std.proofs.lemmas.Bool.Decides.{Decides-eqb}
use Rattle.std.proofs.lemmas.Slice.Eq.{ends_is}
use Rattle.std.proofs.Math.Seq.{take-append_seam}
use Rattle.std.specs.List.{flat_map, ends_with}
use Rattle.std.specs.Prelude.{codes, nat_eq}
use Rattle.httparse.specs.Ascii.{colon}
use Rattle.httparse.specs.Grammar.{Field, LineEnd, lf, crlf, print_field, print_end, ResponseHead, print_response, print_blank, print_version, print_reason}
use Rattle.http_heads.specs.declared.head.Head.{Head}
use Rattle.range_http.specs.EmptyLine.{ends_in_empty_line, HasEmptyLine}
use Rattle.http_heads.specs.Heads.{IsHead}

-- a line feed stands last
record IsLine (bytes : List ℕ) : Type 0 where
  front : List ℕ
  is : bytes ≡ front ++ 10 ∷ []

line-end : (front : List ℕ) (end : LineEnd) → IsLine (front ++ print_end end)
line-end front crlf = record { front = front ++ 13 ∷ []; is = sym (append_assoc front (13 ∷ []) (10 ∷ [])) }
line-end front lf = record { front = front; is = refl }

along : (a b : List ℕ) → a ≡ b → IsLine b → IsLine a
along a b same is = record { front = is.front; is = same ∙ is.is }

lines : (front : List ℕ) (fields : List Field) → IsLine front → IsLine (front ++ flat_map print_field fields)
lines front [] is = record { front = is.front; is = append-nil front ∙ is.is }
lines front (f ∷ fields) is =
    let text = f.name ++ colon ∷ f.raw in
    let field = along (front ++ print_field f) (front ++ text ++ print_end f.end) (sym (append_assoc front text (print_end f.end))) (line-end (front ++ text) f.end) in
    along (front ++ flat_map print_field (f ∷ fields)) (front ++ print_field f ++ flat_map print_field fields)
    (sym (append_assoc front (print_field f) (flat_map print_field fields))) (lines (front ++ print_field f) fields field)

-- what has this end ends in it
ends : (bytes front needle : List ℕ) → bytes ≡ front ++ needle → ends_with nat_eq bytes needle ≡ true
ends bytes front needle is = (ends_is Decides-eqb bytes needle (ends_with nat_eq bytes needle) refl).1 front is

-- a line, and then an empty one
empty-line : (front : List ℕ) (end : LineEnd) → IsLine front → ends_in_empty_line (front ++ print_end end) ≡ true
empty-line front crlf is =
    or_right _ _ (ends _ is.front (codes "\n\r\n") (ap (λ line. line ++ 13 ∷ 10 ∷ []) is.is ∙ append_assoc is.front (10 ∷ []) (13 ∷ 10 ∷ [])))
empty-line front lf is =
    or_left _ _ (ends _ is.front (codes "\n\n") (ap (λ line. line ++ 10 ∷ []) is.is ∙ append_assoc is.front (10 ∷ []) (10 ∷ [])))

head-ends : (h : ResponseHead) → ends_in_empty_line (print_response h) ≡ true
unfolding print_response
head-ends h =
    let line = print_blank h.blank ++ print_version h.minor ++ 32 ∷ h.digits ++ print_reason h.reason in
    let first = line ++ print_end h.line_end in
    ap ends_in_empty_line (sym (append_assoc first (flat_map print_field h.fields) (print_end h.last)))
    ∙ empty-line (first ++ flat_map print_field h.fields) h.last (lines first h.fields (line-end line h.line_end))

-- a head that stands where no empty line ends behind a place stands up to there
pub head_ends : (bytes : List ℕ) (from : ℕ) (head : Head) (used : ℕ) → (HasEmptyLine bytes from → ⊥) → IsHead bytes head used → used ≤ from
head_ends bytes from head used none is =
    let fits : used ≤ length bytes = omega (arith, is.takes, ap length is.reads.1, length-append (print_response is.text) is.rest) in
    let cut : take used bytes ≡ print_response is.text =
    ap (λ n. take n bytes) is.takes ∙ ap (take (length (print_response is.text))) is.reads.1 ∙ take-append_seam (print_response is.text) is.rest in
    elim (cases_lt from used) [
      | inl behind ↦ absurd (none (used, behind, fits, ap ends_in_empty_line cut ∙ head-ends is.text))
      | inr before ↦ before
    ]
