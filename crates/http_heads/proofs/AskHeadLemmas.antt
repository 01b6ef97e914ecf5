-- What the parser's answers say of the head at the front of the bytes.
use Rattle.std.proofs.Common.{ℕ, ◌<◌, ◌≤◌, ◌⊎◌, List, [], append-nil, length, map, take, drop, arith, ap, inl, inr}
use Rattle.httparse.proofs.GrammarLemmas.{request_unique}
use Rattle.httparse.specs.Grammar.{RequestHead, print_request, HasNoRequest, NeverHasRequest, EndsInTarget}
use Rattle.httparse.specs.Spans.{span_bytes, IsRequestAt, IsRequestWithin}
use Rattle.httparse.specs.declared.spans.HeaderSpan.{HeaderSpan}
use Rattle.httparse.specs.declared.spans.RequestSpans.{RequestSpans}
use Rattle.http_header.specs.HeaderMap.{append_all}
use Rattle.http_heads.specs.AskHeads.{IsAskHead, IsNoAskHead}
use Rattle.http_heads.specs.Spans.{entry_at}
use Rattle.http_heads.proofs.FieldLemmas.{entries_are, count_is}

-- a head of the parser's within the limits
pub head_found : (bytes : List ℕ) (spans : List HeaderSpan) (r : RequestSpans) (text : RequestHead)
    → IsRequestWithin bytes spans r → IsRequestAt bytes spans r text → r.len ≤ 65536 → r.headers ≤ 64
    → IsAskHead bytes (record { method = span_bytes bytes r.method; target = span_bytes bytes r.path; minor = r.version; fields = append_all [] (map (entry_at bytes) (take r.headers spans)) }) r.len
head_found bytes spans r text within at bytes_fit fields_fit =
    let method = at.method in
    let target = at.path in
    let minor = at.version in
    let fields = ap (append_all []) (entries_are bytes spans r.headers text.fields at.fields) in
    let count = count_is bytes spans r.headers text.fields within.section.count_fits at.fields in
    record {
      text = text;
      rest = drop r.len bytes;
      reads = at.reads;
      says = λ i. record { method = method i; target = target i; minor = minor i; fields = fields i };
      takes = at.len;
      bytes_fit = bytes_fit;
      fields_fit = omega (arith, count);
    }

-- a head of the parser's beyond a limit
pub head_too_large : (bytes : List ℕ) (spans : List HeaderSpan) (r : RequestSpans) (text : RequestHead)
    → IsRequestWithin bytes spans r → IsRequestAt bytes spans r text → (65536 < r.len) ⊎ (64 < r.headers) → IsNoAskHead bytes
head_too_large bytes spans r text within at over = record {
  no_head = λ head used is.
      let same = (request_unique bytes is.text text is.rest (drop r.len bytes) is.reads at.reads).0 in
      let count = count_is bytes spans r.headers text.fields within.section.count_fits at.fields in
      absurd (omega (arith, over, at.len, is.takes, is.bytes_fit, is.fields_fit, count, ap (λ h. length (print_request h)) same, ap (λ h. length h.fields) same));
  no_front = λ front. front.none text (drop r.len bytes) at.reads;
}

-- what can't become a head, and doesn't end in a target
pub never_head : (bytes : List ℕ) → NeverHasRequest bytes → (EndsInTarget bytes → ⊥) → IsNoAskHead bytes
never_head bytes never no_target = record {
  no_head = λ head used is. never [] is.text is.rest (rw append-nil is.reads);
  no_front = λ front. elim front.some [ inl reads ↦ never reads.0 reads.1 [] reads.2 | inr target ↦ no_target target ];
}

-- as many bytes as a head may have, and no head
pub long_head : (bytes : List ℕ) → HasNoRequest bytes → 65536 ≤ length bytes → IsNoAskHead bytes
long_head bytes none long = record {
  no_head = λ head used is. none is.text is.rest is.reads;
  no_front = λ front. omega (arith, front.short);
}
