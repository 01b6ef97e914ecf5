-- A head of a status line and fields, as mirrors write it, is read as what it says.
use Rattle.std.proofs.Common.{◌≡◌, ℕ, ◌+◌, ◌≤◌, List, [], ◌∷◌, ◌++◌, append_assoc, length, drop, map, reverse, arith, ap, sym, subst, ◌∙◌, refl}
use Rattle.std.proofs.Math.Seq.{drop-append_seam}
use Rattle.std.proofs.lemmas.List.{length-append, length-map}
use Rattle.std.proofs.lemmas.List.Elements.{All-nil, All-cons, All-head, All-tail}
use Rattle.std.specs.Char.{is_ascii_digit}
use Rattle.std.specs.List.{flat_map}
use Rattle.std.specs.Prelude.{All, IsTrue, Some, codes}
use Rattle.std.specs.Str.Parse.{digits_value}
use Rattle.http_header.specs.FieldValue.{FieldValue, plain_value}
use Rattle.http_header.specs.HeaderMap.{append_all}
use Rattle.http_header.specs.Token.{lowercase}
use Rattle.httparse.proofs.TrimLemmas.{trim_ows_space}
use Rattle.httparse.specs.Grammar.{AllPass, Field, IsField, IsToken, crlf, is_value_byte, skip_ows, print_field, ResponseHead, print_response}
use Rattle.link_source.specs.Requests.{ended_line}
use Rattle.body_frames.specs.Bodies.{body_of}
use Rattle.body_frames.specs.Lines.{Whole}
use Rattle.range_http.specs.declared.asked.Asked.{Asked}
use Rattle.range_http.specs.declared.framing.Framing.{Framing}
use Rattle.http_heads.specs.declared.head.Head.{Head}
use Rattle.range_http.specs.declared.verdict.Verdict.{Verdict}
use Rattle.http_heads.specs.Fields.{entry_of}
use Rattle.http_heads.specs.Heads.{IsHead}
use Rattle.range_http.specs.Verdict.{verdict_of}
use Rattle.memory_reply_laws.specs.Reading.{BeginsWithHead, ReadsAs, framing_seen}

-- a name and a value with a space between them
abbrev pub field_text : List ℕ × List ℕ → List ℕ
field_text field = ended_line (field.0 ++ codes ": " ++ field.1)

abbrev pub head_text : List ℕ → List ℕ → List (List ℕ × List ℕ) → List ℕ
head_text digits reason fields = ended_line (codes "HTTP/1.1 " ++ digits ++ codes " " ++ reason) ++ flat_map field_text fields ++ ended_line []

-- the bytes of a value, with no white space at its ends
pub record IsValue (value : List ℕ) : Type 0 where
  pub bytes : AllPass is_value_byte value
  pub front : skip_ows value ≡ value
  pub back : skip_ows (reverse value) ≡ reverse value

pub record IsWritten (field : List ℕ × List ℕ) : Type 0 where
  pub name : IsToken field.0
  pub value : IsValue field.1

-- what the text says
abbrev entry : List ℕ × List ℕ → List ℕ × FieldValue
entry field = (lowercase field.0, plain_value field.1)

abbrev pub said : List ℕ → List (List ℕ × List ℕ) → Head
said digits fields = record { status = digits_value 10 digits; minor = 1; fields = append_all [] (map entry fields) }

-- ---- the text by the grammar

abbrev field_of : List ℕ × List ℕ → Field
field_of field = record { name = field.0; raw = 32 ∷ field.1; end = crlf }

abbrev text_of : List ℕ → List ℕ → List (List ℕ × List ℕ) → ResponseHead
text_of digits reason fields =
    record { blank = []; minor = 1; digits = digits; reason = Some reason; line_end = crlf; fields = map field_of fields; last = crlf }

fields-print : (fields : List (List ℕ × List ℕ)) → flat_map print_field (map field_of fields) ≡ flat_map field_text fields
fields-print [] = refl
fields-print (f ∷ fields) =
    ap (λ a. a ++ codes "\r\n" ++ flat_map print_field (map field_of fields)) (sym (append_assoc f.0 (codes ": ") f.1))
    ∙ ap (λ others. field_text f ++ others) (fields-print fields)

regroup : (version space digits reason end fields : List ℕ)
    → version ++ (space ++ digits) ++ (space ++ reason) ++ end ++ (fields ++ end) ≡ (version ++ space ++ digits ++ space ++ reason ++ end) ++ fields ++ end
regroup version space digits reason end fields = simp append_assoc

prints : (digits reason : List ℕ) (fields : List (List ℕ × List ℕ)) → print_response (text_of digits reason fields) ≡ head_text digits reason fields
unfolding print_response
prints digits reason fields =
    ap (λ lines. codes "HTTP/1.1" ++ (codes " " ++ digits) ++ (codes " " ++ reason) ++ codes "\r\n" ++ (lines ++ codes "\r\n")) (fields-print fields)
    ∙ regroup (codes "HTTP/1.1") (codes " ") digits reason (codes "\r\n") (flat_map field_text fields)

are-fields : (fields : List (List ℕ × List ℕ)) → All IsWritten fields → All IsField (map field_of fields)
are-fields [] are = All-nil IsField
are-fields (f ∷ fields) are =
    let is : IsWritten f = All-head IsWritten f fields are in
    All-cons IsField (field_of f) (map field_of fields)
    (record { name = is.name; raw = All-cons (λ b. IsTrue (is_value_byte b)) 32 f.1 refl is.value.bytes })
    (are-fields fields (All-tail IsWritten f fields are))

entries : (fields : List (List ℕ × List ℕ)) → All IsWritten fields → map entry_of (map field_of fields) ≡ map entry fields
entries [] are = refl
entries (f ∷ fields) are =
    let is : IsWritten f = All-head IsWritten f fields are in
    ap (λ value. (lowercase f.0, plain_value value) ∷ map entry_of (map field_of fields)) (trim_ows_space f.1 is.value.front is.value.back)
    ∙ ap (λ others. entry f ∷ others) (entries fields (All-tail IsWritten f fields are))

pub record AreWritten (digits reason : List ℕ) (fields : List (List ℕ × List ℕ)) : Type 0 where
  pub three : length digits ≡ 3
  pub digits_are : AllPass is_ascii_digit digits
  pub reason_is : AllPass is_value_byte reason
  pub fields_are : All IsWritten fields
  pub few : length fields ≤ 64
  pub short : length (head_text digits reason fields) ≤ 65536

pub is_head : (digits reason : List ℕ) (fields : List (List ℕ × List ℕ)) (rest : List ℕ) → AreWritten digits reason fields
    → IsHead (head_text digits reason fields ++ rest) (said digits fields) (length (head_text digits reason fields))
is_head digits reason fields rest are = record {
  text = text_of digits reason fields;
  rest = rest;
  reads = (
    record { minor = omega arith; digits = (are.three, are.digits_are); reason = are.reason_is; fields = are-fields fields are.fields_are },
    ap (λ front. front ++ rest) (sym (prints digits reason fields)),
  );
  says = ap (λ items. record { status = digits_value 10 digits; minor = 1; fields = append_all [] items }) (sym (entries fields are.fields_are));
  takes = ap length (sym (prints digits reason fields));
  bytes_fit = are.short;
  fields_fit = omega (arith, are.few, length-map fields field_of);
}

-- ---- lengths

pub length_field : (name value : List ℕ) → length (field_text (name, value)) ≡ length name + length value + 4
length_field name value =
    omega (arith, length-append (name ++ codes ": " ++ value) (codes "\r\n"), length-append (name ++ codes ": ") value, length-append name (codes ": "))

pub length_head : (digits reason : List ℕ) (fields : List (List ℕ × List ℕ))
    → length (head_text digits reason fields) ≡ length digits + length reason + length (flat_map field_text fields) + 14
length_head digits reason fields =
    let front = codes "HTTP/1.1 " ++ digits ++ codes " " ++ reason in
    omega (
      arith,
      length-append (ended_line front ++ flat_map field_text fields) (ended_line []),
      length-append (ended_line front) (flat_map field_text fields),
      length-append front (codes "\r\n"),
      length-append (codes "HTTP/1.1 " ++ digits ++ codes " ") reason,
      length-append (codes "HTTP/1.1 " ++ digits) (codes " "),
      length-append (codes "HTTP/1.1 ") digits,
    )

-- ---- whole replies

pub has_head : (digits reason : List ℕ) (fields : List (List ℕ × List ℕ)) (reply rest : List ℕ) (asked : Asked) (verdict : Verdict)
    → reply ≡ head_text digits reason fields ++ rest → AreWritten digits reason fields → verdict_of (said digits fields) asked ≡ verdict
    → BeginsWithHead reply asked (digits_value 10 digits) (length (head_text digits reason fields)) verdict
has_head digits reason fields reply rest asked verdict is are means = record {
  head = said digits fields;
  begins = subst (λ bytes. IsHead bytes (said digits fields) (length (head_text digits reason fields))) (sym is) (is_head digits reason fields rest are);
  status_is = refl;
  means = means;
}

pub is_read : (digits reason : List ℕ) (fields : List (List ℕ × List ℕ)) (reply rest : List ℕ) (asked : Asked) (verdict : Verdict) (framing : Framing) (content : List ℕ)
    → reply ≡ head_text digits reason fields ++ rest → AreWritten digits reason fields → verdict_of (said digits fields) asked ≡ verdict
    → body_of (framing_seen framing) rest ≡ record { content = content; rest = []; standing = Whole }
    → ReadsAs reply asked (digits_value 10 digits) verdict framing content
is_read digits reason fields reply rest asked verdict framing content is are means body = record {
  used = length (head_text digits reason fields);
  head = has_head digits reason fields reply rest asked verdict is are means;
  body =
      ap (λ bytes. body_of (framing_seen framing) (drop (length (head_text digits reason fields)) bytes)) is
      ∙ ap (body_of (framing_seen framing)) (drop-append_seam (head_text digits reason fields) rest)
      ∙ body;
}
