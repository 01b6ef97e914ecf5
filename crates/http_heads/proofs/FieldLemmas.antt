-- The fields of a head of the grammar are fields that a map takes.
use Rattle.std.proofs.Common.{◌≡◌, ℕ, ◌+◌, ◌<◌, ◌≤◌, List, [], ◌∷◌, ◌++◌, length, map, take, arith, ap, sym, ◌∙◌, refl, true, false, cond}
use Rattle.std.proofs.lemmas.List.{length-append, length-map, length-take-le}
use Rattle.std.proofs.lemmas.Bool.Decides.{nat_tests}
use Rattle.std.proofs.lemmas.List.Elements.{All-nil, All-cons, All-head, All-tail, All-same, All-map, All-weaker}
use Rattle.std.proofs.lemmas.List.Sums.{sum_by-cons}
use Rattle.std.proofs.lemmas.Str.{IsUtf8-from_ascii}
use Rattle.std.proofs.lemmas.Str.Ascii.{IsAscii-from_all}
use Rattle.std.specs.List.{flat_map}
use Rattle.std.specs.Prelude.{All, IsUtf8, bytes_eq}
use Rattle.http_header.specs.FieldName.{IsFieldName}
use Rattle.http_header.specs.FieldValue.{FieldValue, IsFieldValue, plain_value}
use Rattle.http_header.specs.HeaderMap.{Entries, append, append_all, value_count}
use Rattle.http_header.specs.Token as token
use Rattle.http_header.specs.Token.{lowercase}
use Rattle.httparse.proofs.TrimLemmas.{AllPass-trim_ows}
use Rattle.httparse.specs.Ascii.{colon}
use Rattle.httparse.specs.Grammar.{Field, IsField, IsToken, LineEnd, field_value, is_token_byte, is_value_byte, print_end, print_field, print_section, print_blank, print_version, print_reason, RequestHead, ResponseHead, print_request, print_response}
use Rattle.httparse.specs.Spans.{header_bytes, name_and_value, AreFieldsAt}
use Rattle.httparse.specs.declared.spans.HeaderSpan.{HeaderSpan}
use Rattle.http_heads.specs.Fields.{entry_of}
use Rattle.http_heads.specs.Spans.{entry_at, IsFieldAt}
use Rattle.http_heads.proofs.Room.{end_len}

-- ---- names and values

token_is_ascii : (b : ℕ) → is_token_byte b ≡ true → b < 128
unfolding is_token_byte
token_is_ascii b token = grind (arith, nat_tests)

-- a token is a text
pub token_text : (bytes : List ℕ) → IsToken bytes → IsUtf8 bytes
token_text bytes is =
    IsUtf8-from_ascii bytes (IsAscii-from_all bytes (All-weaker (λ b. is_token_byte b ≡ true) (λ b. b < 128) token_is_ascii bytes is.1))

-- the two libraries have one class of bytes for names
same-token : (b : ℕ) → is_token_byte b ≡ token.is_token_byte b
unfolding is_token_byte token.is_token_byte
same-token b = refl

-- and one for values
field-value : (f : Field) → IsField f → IsFieldValue (field_value f)
field-value f is = AllPass-trim_ows is_value_byte f.raw is.raw

field-name : (f : Field) → IsField f → length f.name ≤ 65535 → IsFieldName f.name
field-name f is short = ((is.name.0, λ k d within. rw (← same-token _) (is.name.1 k d within)), short)

-- a name is shorter than its line
names_within : (fields : List Field) (n : ℕ) → length (flat_map print_field fields) ≤ n → All (λ f. length f.name ≤ n) fields
names_within [] n fits = All-nil _
names_within (f ∷ fields) n fits =
    let whole : length (flat_map print_field (f ∷ fields)) ≡ length (print_field f) + length (flat_map print_field fields) = length-append (print_field f) (flat_map print_field fields) in
    let line = length-append (f.name ++ colon ∷ f.raw) (print_end f.end) in
    let name = length-append f.name (colon ∷ f.raw) in
    All-cons (λ f. length f.name ≤ n) f fields (omega (arith, whole, line, name, fits)) (names_within fields n (omega (arith, whole, fits)))

-- the lines of a head's fields are shorter than the head
lines_short : (front : List ℕ) (fields : List Field) (last : LineEnd)
    → length (front ++ print_section fields last) ≤ 65536 → length (flat_map print_field fields) ≤ 65535
lines_short front fields last fits =
    omega (arith, fits, length-append front (print_section fields last), length-append (flat_map print_field fields) (print_end last), end_len last)

pub request_short : (h : RequestHead) → length (print_request h) ≤ 65536 → length (flat_map print_field h.fields) ≤ 65535
unfolding print_request
request_short h fits =
    lines_short (print_blank h.blank ++ h.method ++ 32 ∷ h.target ++ 32 ∷ print_version h.minor ++ print_end h.line_end) h.fields h.last fits

pub response_short : (h : ResponseHead) → length (print_response h) ≤ 65536 → length (flat_map print_field h.fields) ≤ 65535
unfolding print_response
response_short h fits =
    lines_short (print_blank h.blank ++ print_version h.minor ++ 32 ∷ h.digits ++ print_reason h.reason ++ print_end h.line_end) h.fields h.last fits

are-fields : (fields : List Field) → All IsField fields → All (λ f. length f.name ≤ 65535) fields
    → All (λ f. IsFieldName f.name × IsFieldValue (field_value f)) fields
are-fields fields are short = λ k d within. (field-name _ (are k d within) (short k d within), field-value _ (are k d within))

-- what holds of each element's image holds of each image
all-of-map : {X Y : Type 0} (P : Y → Type 0) (f : X → Y) (xs : List X) → All P (map f xs) → All (λ x. P (f x)) xs
all-of-map P f [] all = All-nil (λ x. P (f x))
all-of-map P f (x ∷ xs) all = All-cons (λ x. P (f x)) x xs (All-head P (f x) (map f xs) all) (all-of-map P f xs (All-tail P (f x) (map f xs) all))

-- the spans of a head cover names and values
pub spans_cover : (bytes : List ℕ) (spans : List HeaderSpan) (count : ℕ) (fields : List Field)
    → All IsField fields → length (flat_map print_field fields) ≤ 65535 → AreFieldsAt bytes spans count fields → All (IsFieldAt bytes) (take count spans)
spans_cover bytes spans count fields are short at =
    let P : List ℕ × List ℕ → Type 0 = λ parts. IsFieldName parts.0 × IsFieldValue parts.1 in
    let named : All P (map name_and_value fields) =
    All-map P name_and_value fields (are-fields fields are (names_within fields 65535 short)) in
    let covered = all-of-map P (header_bytes bytes) (take count spans) (All-same P (map (header_bytes bytes) (take count spans)) (map name_and_value fields) at named) in
    λ k d within. let both = covered k d within in record { name = both.0; value = both.1 }

-- ---- what the spans give

-- two maps, one after the other
map-map : {A B C : Type 0} (f : B → C) (g : A → B) (xs : List A) → map f (map g xs) ≡ map (λ x. f (g x)) xs
map-map f g [] = refl
map-map f g (x ∷ xs) = ap (λ rest. f (g x) ∷ rest) (map-map f g xs)

-- an entry of a name and a value
abbrev entry : List ℕ × List ℕ → List ℕ × FieldValue
entry parts = (lowercase parts.0, plain_value parts.1)

-- the spans give the entries of the fields
pub entries_are : (bytes : List ℕ) (spans : List HeaderSpan) (count : ℕ) (fields : List Field)
    → AreFieldsAt bytes spans count fields → map (entry_at bytes) (take count spans) ≡ map entry_of fields
entries_are bytes spans count fields are =
    sym (map-map entry (header_bytes bytes) (take count spans)) ∙ ap (map entry) are ∙ map-map entry name_and_value fields

-- there are as many spans as fields
pub count_is : (bytes : List ℕ) (spans : List HeaderSpan) (count : ℕ) (fields : List Field)
    → count ≤ length spans → AreFieldsAt bytes spans count fields → count ≡ length fields
count_is bytes spans count fields fits are =
    let same : length (map (header_bytes bytes) (take count spans)) ≡ length (map name_and_value fields) = ap length are in
    omega (arith, same, length-map (take count spans) (header_bytes bytes), length-map fields name_and_value, length-take-le count spans fits)

-- ---- room in the map

value_count-append : {X : Type 0} (m : Entries X) (name : List ℕ) (value : X) → value_count (append m name value) ≡ value_count m + 1
value_count-append [] name value = refl
value_count-append (e ∷ m) name value =
    elim (bytes_eq e.0 name) as (λ same. value_count (cond same ((e.0, e.1 ++ value ∷ []) ∷ m) (e ∷ append m name value)) ≡ value_count (e ∷ m) + 1) [
      | true ↦ here e m value
      | false ↦ there e m (append m name value) (value_count-append m name value)
    ]
  where
    here : {X : Type 0} (e : List ℕ × List X) (m : Entries X) (value : X) → value_count ((e.0, e.1 ++ value ∷ []) ∷ m) ≡ value_count (e ∷ m) + 1
    here {X} e m value =
        let f : List ℕ × List X → ℕ = λ e. length e.1 in
        omega (arith, sum_by-cons f (e.0, e.1 ++ value ∷ []) m, sum_by-cons f e m, length-append e.1 (value ∷ []))

    there : {X : Type 0} (e : List ℕ × List X) (m n : Entries X) → value_count n ≡ value_count m + 1 → value_count (e ∷ n) ≡ value_count (e ∷ m) + 1
    there {X} e m n more =
        let f : List ℕ × List X → ℕ = λ e. length e.1 in
        omega (arith, sum_by-cons f e n, sum_by-cons f e m, more)

length-append_entry : {X : Type 0} (m : Entries X) (name : List ℕ) (value : X) → length (append m name value) ≤ length m + 1
length-append_entry [] name value = omega arith
length-append_entry (e ∷ m) name value =
    elim (bytes_eq e.0 name) as (λ same. length (cond same ((e.0, e.1 ++ value ∷ []) ∷ m) (e ∷ append m name value)) ≤ length (e ∷ m) + 1) [
      | true ↦ omega arith
      | false ↦ omega (arith, length-append_entry m name value)
    ]

-- a map has as many values as were appended, and no more names
pub counts : {X : Type 0} (m : Entries X) (items : List (List ℕ × X))
    → (value_count (append_all m items) ≡ value_count m + length items) × (length (append_all m items) ≤ length m + length items)
counts m [] = (omega arith, omega arith)
counts m (item ∷ items) =
    let others = counts (append m item.0 item.1) items in
    (omega (arith, others.0, value_count-append m item.0 item.1), omega (arith, others.1, length-append_entry m item.0 item.1))

-- before the last of 64 fields at most there is room
pub room_left : (bytes : List ℕ) (spans : List HeaderSpan) (i : ℕ) (fields : Entries FieldValue)
    → fields ≡ append_all [] (map (entry_at bytes) (take i spans)) → i < length spans → length spans ≤ 64
    → (length fields < 64) × (value_count fields < 64)
room_left bytes spans i fields is within few =
    let items = map (entry_at bytes) (take i spans) in
    let both = counts [] items in
    let many : length items ≡ i = length-map (take i spans) (entry_at bytes) ∙ length-take-le i spans (omega arith) in
    (omega (arith, ap length is, both.1, many), omega (arith, ap value_count is, both.0, many))
