-- What the parser's answers say of the head at the front of the bytes.
use Rattle.std.proofs.Common.{ℕ, ◌<◌, ◌≤◌, ◌⊎◌, List, [], append-nil, length, map, take, drop, arith, ap}
use Rattle.httparse.proofs.GrammarLemmas.{response_unique}
use Rattle.httparse.specs.Grammar.{ResponseHead, print_response, HasNoResponse, NeverHasResponse}
use Rattle.httparse.specs.Spans.{IsResponseAt, IsResponseWithin}
use Rattle.httparse.specs.declared.spans.HeaderSpan.{HeaderSpan}
use Rattle.httparse.specs.declared.spans.ResponseSpans.{ResponseSpans}
use Rattle.http_header.specs.HeaderMap.{append_all}
use Rattle.http_heads.specs.Heads.{IsHead, IsNoHead}
use Rattle.http_heads.specs.Spans.{entry_at}
use Rattle.http_heads.proofs.FieldLemmas.{entries_are, count_is}

-- a head of the parser's within the limits
pub head_found : (bytes : List ℕ) (spans : List HeaderSpan) (r : ResponseSpans) (text : ResponseHead)
    → IsResponseWithin bytes spans r → IsResponseAt bytes spans r text → r.len ≤ 65536 → r.headers ≤ 64
    → IsHead bytes (record { status = r.code; minor = r.version; fields = append_all [] (map (entry_at bytes) (take r.headers spans)) }) r.len
head_found bytes spans r text within at bytes_fit fields_fit =
    let status = at.code in
    let minor = at.version in
    let fields = ap (append_all []) (entries_are bytes spans r.headers text.fields at.fields) in
    let count = count_is bytes spans r.headers text.fields within.section.count_fits at.fields in
    record {
      text = text;
      rest = drop r.len bytes;
      reads = at.reads;
      says = λ i. record { status = status i; minor = minor i; fields = fields i };
      takes = at.len;
      bytes_fit = bytes_fit;
      fields_fit = omega (arith, count);
    }

-- a head of the parser's beyond a limit
pub head_too_large : (bytes : List ℕ) (spans : List HeaderSpan) (r : ResponseSpans) (text : ResponseHead)
    → IsResponseWithin bytes spans r → IsResponseAt bytes spans r text → (65536 < r.len) ⊎ (64 < r.headers) → IsNoHead bytes
head_too_large bytes spans r text within at over = record {
  no_head = λ head used is.
      let same = (response_unique bytes is.text text is.rest (drop r.len bytes) is.reads at.reads).0 in
      let count = count_is bytes spans r.headers text.fields within.section.count_fits at.fields in
      absurd (omega (arith, over, at.len, is.takes, is.bytes_fit, is.fields_fit, count, ap (λ h. length (print_response h)) same, ap (λ h. length h.fields) same));
  no_front = λ front. front.none text (drop r.len bytes) at.reads;
}

-- what can't become a head
pub never_head : (bytes : List ℕ) → NeverHasResponse bytes → IsNoHead bytes
never_head bytes never = record {
  no_head = λ head used is. never [] is.text is.rest (rw append-nil is.reads);
  no_front = λ front. never front.some.0 front.some.1 [] front.some.2;
}

-- as many bytes as a head may have, and no head
pub long_head : (bytes : List ℕ) → HasNoResponse bytes → 65536 ≤ length bytes → IsNoHead bytes
long_head bytes none long = record {
  no_head = λ head used is. none is.text is.rest is.reads;
  no_front = λ front. omega (arith, front.short);
}
