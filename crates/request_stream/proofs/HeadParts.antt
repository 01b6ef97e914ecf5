-- The front of a head, byte by byte.
use Rattle.std.proofs.Common.{◌≡◌, inl, inr, ℕ, ◌+◌, ◌-◌, ◌<◌, ◌≤◌, true, List, [], ◌∷◌, ◌++◌, append_assoc, append-nil, length, take, drop, get_or, refl, sym, ap, ◌∙◌, subst, arith, length-append}
use Rattle.std.proofs.lemmas.List.{drop_all, drop_more, drop-append-le, drop-take, get_or_append_left, take_more}
use Rattle.std.proofs.lemmas.List.Elements.{All-cons, All-nil, All-push}
use Rattle.std.proofs.lemmas.Str.{IsUtf8-from_ascii}
use Rattle.std.proofs.lemmas.Str.Ascii.{IsAscii-cons, IsAscii-nil}
use Rattle.std.specs.Prelude.{IsTrue, IsUtf8, codes}
use Rattle.httparse.proofs.GrammarLemmas.{cons-append, print_request-append, request_pieces, request_prefix_free}
use Rattle.httparse.proofs.PieceLemmas.{Blank_deterministic, Method_deterministic, Stops_token}
use Rattle.httparse.proofs.RunLemmas.{length-slice_range, run_unstopped}
use Rattle.httparse.specs.Grammar.{AllPass, Field, HasNoRequest, IsField, LineEnd, MayBecomeRequest, ReadsRequest, RequestHead, crlf, lf, is_token_byte, is_uri_byte, is_value_byte, print_blank, print_end, print_section, print_version}
use Rattle.httparse.specs.Pieces.{Method as IsMethodAt}
use Rattle.http_heads.specs.AskHeads.{IsAskUnfinished}
use Rattle.request_stream.specs.HeadParts.{EndsIn, IsInTarget, LeadsToFields, LeadsToLineEnd, LeadsToName, LeadsToValue, LeadsToVersion}
use Rattle.request_stream.specs.declared.parts.HeadPart.{HeadPart}
use Rattle.request_stream.specs.declared.parts.HeadPart.TheVariants.{EmptyLines, CutEmptyLine, Method, Target, Version, RequestLine, CutLine, Lines, FieldName, FieldValue, CutHead}

-- ---- empty lines

one_more : (blank : List LineEnd) (end : LineEnd) → print_blank blank ++ print_end end ≡ print_blank (blank ++ end ∷ [])
one_more [] end = sym (append-nil (print_end end))
one_more (e ∷ blank) end =
    append_assoc (print_end e) (print_blank blank) (print_end end) ∙ ap (λ rest. print_end e ++ rest) (one_more blank end)

pub cut_line_ended : (front : List ℕ) → EndsIn CutEmptyLine front → EndsIn EmptyLines (front ++ 10 ∷ [])
cut_line_ended front (blank, is) = (
  blank ++ crlf ∷ [],
  ap (λ text. text ++ 10 ∷ []) is ∙ append_assoc (print_blank blank) (13 ∷ []) (10 ∷ []) ∙ one_more blank crlf,
)

pub line_ended : (front : List ℕ) → EndsIn EmptyLines front → EndsIn EmptyLines (front ++ 10 ∷ [])
line_ended front (blank, is) = (blank ++ lf ∷ [], ap (λ text. text ++ 10 ∷ []) is ∙ one_more blank lf)

pub line_cut : (front : List ℕ) → EndsIn EmptyLines front → EndsIn CutEmptyLine (front ++ 13 ∷ [])
line_cut front (blank, is) = (blank, ap (λ text. text ++ 13 ∷ []) is)

-- ---- the method and the target

pub method_begun : (front : List ℕ) (byte : ℕ) → is_token_byte byte ≡ true → EndsIn EmptyLines front
    → EndsIn Method (front ++ byte ∷ [])
method_begun front byte pass (blank, is) = record {
  blank = blank;
  method = byte ∷ [];
  token = (omega arith, All-cons (λ b. IsTrue (is_token_byte b)) byte [] pass (All-nil _));
  is = ap (λ text. text ++ byte ∷ []) is;
}

pub method_goes_on : (front : List ℕ) (byte : ℕ) → is_token_byte byte ≡ true → EndsIn Method front
    → EndsIn Method (front ++ byte ∷ [])
method_goes_on front byte pass h = record {
  blank = h.blank;
  method = h.method ++ byte ∷ [];
  token = (omega (arith, length-append h.method (byte ∷ [])), All-push (λ b. IsTrue (is_token_byte b)) h.method byte h.token.1 pass);
  is = ap (λ text. text ++ byte ∷ []) h.is ∙ append_assoc (print_blank h.blank) h.method (byte ∷ []);
}

pub method_ended : (front : List ℕ) (end : ℕ) → length front + 1 ≡ end → EndsIn Method front
    → EndsIn (Target end) (front ++ 32 ∷ [])
method_ended front end len h = record {
  blank = h.blank;
  method = h.method;
  target = [];
  token = h.token;
  uri = All-nil _;
  is = ap (λ text. text ++ 32 ∷ []) h.is;
  within = omega (arith, len, length-append front (32 ∷ []));
  begins = drop_all end (front ++ 32 ∷ []) (omega (arith, len, length-append front (32 ∷ [])));
}

pub target_goes_on : (front : List ℕ) (from byte : ℕ) → is_uri_byte byte ≡ true → EndsIn (Target from) front
    → EndsIn (Target from) (front ++ byte ∷ [])
target_goes_on front from byte pass h = record {
  blank = h.blank;
  method = h.method;
  target = h.target ++ byte ∷ [];
  token = h.token;
  uri = All-push (λ b. IsTrue (is_uri_byte b)) h.target byte h.uri pass;
  is = ap (λ text. text ++ byte ∷ []) h.is ∙ append_assoc (print_blank h.blank ++ h.method) (32 ∷ h.target) (byte ∷ []);
  within = omega (arith, h.within, length-append front (byte ∷ []));
  begins = drop-append-le from front (byte ∷ []) h.within ∙ ap (λ text. text ++ byte ∷ []) h.begins;
}

all_parts : (a b c d e f : List ℕ)
    → ((((((a ++ b) ++ 32 ∷ c) ++ 32 ∷ []) ++ d) ++ e) ++ f) ≡ a ++ (b ++ 32 ∷ (c ++ 32 ∷ (d ++ (e ++ (f ++ [])))))
all_parts a b c d e f = simp (append_assoc, cons-append, append-nil)

pub target_ended : (front : List ℕ) (from : ℕ) → (h : IsInTarget from front) → 0 < length h.target → IsUtf8 h.target
    → EndsIn (Version 0) (front ++ 32 ∷ [])
target_ended front from h some text = (
  omega arith,
  λ minor small end fields last are.
      let head : RequestHead = record {
        blank = h.blank;
        method = h.method;
        target = h.target;
        minor = minor;
        line_end = end;
        fields = fields;
        last = last;
      } in (
        head,
        (
          record { method = h.token; target = (some, h.uri); target_text = text; minor = small; fields = are },
          ap (λ before. (((before ++ 32 ∷ []) ++ print_version minor) ++ print_end end) ++ print_section fields last) h.is
              ∙ all_parts (print_blank h.blank) h.method h.target (print_version minor) (print_end end) (print_section fields last)
              ∙ sym (print_request-append head []),
        ),
      ),
)

-- the space behind the target that ends in bytes
pub target_ended_at : (bytes : List ℕ) (from at : ℕ) → (h : IsInTarget from (take at bytes)) → at < length bytes
    → get_or bytes at 0 ≡ 32 → from < at → IsUtf8 (take (at - from) (drop from bytes))
    → EndsIn (Version 0) (take (at + 1) bytes)
target_ended_at bytes from at h inside space some text =
    let sum : from + (at - from) ≡ at = omega arith in
    let word : take (at - from) (drop from bytes) ≡ h.target =
    sym (drop-take from (at - from) bytes) ∙ ap (λ n. drop from (take n bytes)) sum ∙ h.begins in
    let len : length h.target ≡ at - from =
    ap (λ part. length part) (sym word) ∙ length-slice_range bytes from at (omega arith) (omega arith) in
    let one : take (at + 1) bytes ≡ take at bytes ++ 32 ∷ [] =
    take_more bytes at 0 inside ∙ ap (λ b. take at bytes ++ b ∷ []) space in
    subst (EndsIn (Version 0)) (sym one)
    (target_ended (take at bytes) from h (omega (arith, len)) (subst IsUtf8 word text))

-- ---- the version

pub version_goes_on : (front : List ℕ) (count byte : ℕ) → count < 7 → byte ≡ get_or (codes "HTTP/1.") count 0
    → LeadsToVersion count front → LeadsToVersion (count + 1) (front ++ byte ∷ [])
version_goes_on front count byte few is h = λ minor small.
    let rest : List ℕ = drop (count + 1) (print_version minor) in
    let next : get_or (print_version minor) count 0 ≡ byte =
    get_or_append_left (codes "HTTP/1.") ((48 + minor) ∷ []) 0 count few ∙ sym is in
    let whole : front ++ drop count (print_version minor) ≡ (front ++ byte ∷ []) ++ rest =
    ap (λ text. front ++ text) (drop_more (print_version minor) count 0 (omega arith) ∙ ap (λ b. b ∷ rest) next)
    ∙ sym (append_assoc front (byte ∷ []) rest) in
    subst LeadsToLineEnd whole (h minor small)

pub version_ended : (front : List ℕ) (count byte minor : ℕ) → count ≡ 7 → byte ≡ 48 + minor → minor ≤ 1
    → LeadsToVersion count front → LeadsToLineEnd (front ++ byte ∷ [])
version_ended front count byte minor seven is small h =
    let all : LeadsToVersion 7 front = subst (λ n. LeadsToVersion n front) seven h in
    subst (λ b. LeadsToLineEnd (front ++ b ∷ [])) (sym is) (all minor small)

-- ---- lines

pub start_line_cut : (front : List ℕ) → LeadsToLineEnd front → LeadsToFields ((front ++ 13 ∷ []) ++ 10 ∷ [])
start_line_cut front h = subst LeadsToFields (sym (append_assoc front (13 ∷ []) (10 ∷ []))) (h crlf)

pub start_line_ended : (front : List ℕ) → LeadsToLineEnd front → LeadsToFields (front ++ 10 ∷ [])
start_line_ended front h = h lf

one_field : (front name raw end fields last : List ℕ) (byte : ℕ)
    → front ++ (((((byte ∷ name) ++ 58 ∷ raw) ++ end) ++ fields) ++ last)
    ≡ (((((front ++ byte ∷ []) ++ name) ++ 58 ∷ []) ++ raw) ++ end) ++ (fields ++ last)
one_field front name raw end fields last byte = simp (append_assoc, cons-append)

pub name_begun : (front : List ℕ) (byte : ℕ) → is_token_byte byte ≡ true → LeadsToFields front
    → LeadsToName (front ++ byte ∷ [])
name_begun front byte pass h = λ name all raw values end fields last are.
    let field : Field = record { name = byte ∷ name; raw = raw; end = end } in
    let is : IsField field = record { name = (omega arith, All-cons (λ b. IsTrue (is_token_byte b)) byte name pass all); raw = values } in
    let found = h (field ∷ fields) last (All-cons IsField field fields is are) in (
      found.0,
      subst (λ text. ReadsRequest text found.0 [])
          (one_field front name raw (print_end end) _ (print_end last) byte) found.1,
    )

pub name_goes_on : (front : List ℕ) (byte : ℕ) → is_token_byte byte ≡ true → LeadsToName front
    → LeadsToName (front ++ byte ∷ [])
name_goes_on front byte pass h = λ name all.
    subst (λ text. LeadsToValue (text ++ 58 ∷ [])) (sym (append_assoc front (byte ∷ []) name))
    (h (byte ∷ name) (All-cons (λ b. IsTrue (is_token_byte b)) byte name pass all))

pub name_ended : (front : List ℕ) → LeadsToName front → LeadsToValue (front ++ 58 ∷ [])
name_ended front h = subst (λ text. LeadsToValue (text ++ 58 ∷ [])) (append-nil front) (h [] (All-nil _))

pub value_goes_on : (front : List ℕ) (byte : ℕ) → is_value_byte byte ≡ true → LeadsToValue front
    → LeadsToValue (front ++ byte ∷ [])
value_goes_on front byte pass h = λ raw all.
    subst LeadsToLineEnd (sym (append_assoc front (byte ∷ []) raw)) (h (byte ∷ raw) (All-cons (λ b. IsTrue (is_value_byte b)) byte raw pass all))

pub value_may_end : (front : List ℕ) → LeadsToValue front → LeadsToLineEnd front
value_may_end front h = subst LeadsToLineEnd (append-nil front) (h [] (All-nil _))

pub head_cut : (front : List ℕ) → LeadsToFields front → EndsIn CutHead (front ++ 13 ∷ [])
head_cut front h =
    let found = h [] crlf (All-nil _) in
    (found.0, subst (λ text. ReadsRequest text found.0 []) (sym (append_assoc front (13 ∷ []) (10 ∷ []))) found.1)

-- ---- the front of a head is unfinished

-- more bytes make it a head
record MayEnd (front : List ℕ) : Type 0 where
  pub more : List ℕ
  pub some : 0 < length more
  pub head : RequestHead
  pub reads : ReadsRequest (front ++ more) head []

may_end_before : (front more : List ℕ) → MayEnd (front ++ more) → MayEnd front
may_end_before front more end = record {
  more = more ++ end.more;
  some = omega (arith, end.some, length-append more end.more);
  head = end.head;
  reads = subst (λ text. ReadsRequest text end.head []) (append_assoc front more end.more) end.reads;
}

fields_end : (front : List ℕ) → LeadsToFields front → MayEnd front
fields_end front h =
    let found = h [] lf (All-nil _) in record { more = 10 ∷ []; some = omega arith; head = found.0; reads = found.1 }

line_ends : (front : List ℕ) → LeadsToLineEnd front → MayEnd front
line_ends front h = may_end_before front (10 ∷ []) (fields_end (front ++ 10 ∷ []) (h lf))

version_ends : (count : ℕ) (front : List ℕ) → LeadsToVersion count front → MayEnd front
version_ends count front h =
    let rest : List ℕ = drop count (print_version 1) in
    may_end_before front rest (line_ends (front ++ rest) (h 1 (omega arith)))

value_ends : (front : List ℕ) → LeadsToValue front → MayEnd front
value_ends front h = line_ends front (value_may_end front h)

name_ends : (front : List ℕ) → LeadsToName front → MayEnd front
name_ends front h = may_end_before front (58 ∷ []) (value_ends (front ++ 58 ∷ []) (name_ended front h))

-- a target of one byte
short_target_ends : (front : List ℕ) (from : ℕ) (h : IsInTarget from front) → h.target ≡ [] → MayEnd front
unfolding target_goes_on
short_target_ends front from h none =
    let longer : IsInTarget from (front ++ 47 ∷ []) = target_goes_on front from 47 refl h in
    let one : longer.target ≡ 47 ∷ [] = ap (λ text. text ++ 47 ∷ []) none in
    let ended : EndsIn (Version 0) ((front ++ 47 ∷ []) ++ 32 ∷ []) =
    target_ended (front ++ 47 ∷ []) from longer (omega (arith, ap (λ text. length text) one))
    (subst IsUtf8 (sym one) (IsUtf8-from_ascii _ (IsAscii-cons 47 [] (omega arith) IsAscii-nil))) in
    may_end_before front (47 ∷ []) (may_end_before (front ++ 47 ∷ []) (32 ∷ []) (version_ends 0 _ ended.1))

method_ends : (front : List ℕ) → EndsIn Method front → MayEnd front
unfolding method_ended
method_ends front h =
    may_end_before front (32 ∷ [])
    (short_target_ends (front ++ 32 ∷ []) (length front + 1) (method_ended front (length front + 1) refl h) refl)

letter : is_token_byte 65 ≡ true
unfolding is_token_byte
letter = refl

empty_lines_end : (front : List ℕ) → EndsIn EmptyLines front → MayEnd front
empty_lines_end front h =
    may_end_before front (65 ∷ []) (method_ends (front ++ 65 ∷ []) (method_begun front 65 letter h))

cut_line_ends : (front : List ℕ) → EndsIn CutEmptyLine front → MayEnd front
cut_line_ends front h = may_end_before front (10 ∷ []) (empty_lines_end (front ++ 10 ∷ []) (cut_line_ended front h))

no_request_yet : (front : List ℕ) → MayEnd front → HasNoRequest front
no_request_yet front end = λ head rest reads.
    let same = request_prefix_free front end.more head end.head rest [] reads end.reads in
    omega (arith, ap (λ text. length text) same.1, length-append rest end.more, end.some)

may_become : (front : List ℕ) → MayEnd front → MayBecomeRequest front
may_become front end = inl (end.more, end.head, end.reads)

-- within a target no head has ended
no_request_in_target : (from : ℕ) (front : List ℕ) → IsInTarget from front → HasNoRequest front
no_request_in_target from front h = λ head rest reads.
    let pieces = request_pieces front head rest reads in
    let line = pieces.1 in
    let blank_is = Blank_deterministic.unique head.blank h.blank front line.0 (h.method ++ 32 ∷ h.target) line.1
    (h.is ∙ append_assoc (print_blank h.blank) h.method (32 ∷ h.target), Stops_token h.method (32 ∷ h.target) h.token.0 h.token.1) in
    let method_is = Method_deterministic.unique head.method h.method line.0 line.2.0 h.target line.2.1
    (subst (λ text. IsMethodAt h.method text h.target) (sym blank_is.1) (h.token.0, h.token.1, refl)) in
    let word = line.2.2.1.0 in
    run_unstopped is_uri_byte head.target (32 ∷ line.2.2.0)
    (subst (AllPass is_uri_byte) (sym method_is.1 ∙ word.2) h.uri) refl

ends_yet : (part : HeadPart) (front : List ℕ) → EndsIn part front → HasNoRequest front × MayBecomeRequest front
ends_yet (Target from) front h =
    (no_request_in_target from front h, inr (h.blank, h.method, h.target, h.token, h.uri, h.is))
ends_yet EmptyLines front h = let end = empty_lines_end front h in (no_request_yet front end, may_become front end)
ends_yet CutEmptyLine front h = let end = cut_line_ends front h in (no_request_yet front end, may_become front end)
ends_yet Method front h = let end = method_ends front h in (no_request_yet front end, may_become front end)
ends_yet (Version count) front h =
    let end = version_ends count front h.1 in (no_request_yet front end, may_become front end)
ends_yet RequestLine front h = let end = line_ends front h in (no_request_yet front end, may_become front end)
ends_yet CutLine front h =
    let end = may_end_before front (10 ∷ []) (fields_end (front ++ 10 ∷ []) h) in
    (no_request_yet front end, may_become front end)
ends_yet Lines front h = let end = fields_end front h in (no_request_yet front end, may_become front end)
ends_yet FieldName front h = let end = name_ends front h in (no_request_yet front end, may_become front end)
ends_yet FieldValue front h = let end = value_ends front h in (no_request_yet front end, may_become front end)
ends_yet CutHead front h =
    let end : MayEnd front = record { more = 10 ∷ []; some = omega arith; head = h.0; reads = h.1 } in
    (no_request_yet front end, may_become front end)

pub unfinished_head : (part : HeadPart) (front : List ℕ) → EndsIn part front → length front < 65536 → IsAskUnfinished front
unfinished_head part front h short = let yet = ends_yet part front h in record { short = short; none = yet.0; some = yet.1 }
