-- The laws of the head at the front of a stream.
use Rattle.std.proofs.Common.{◌≡◌, ℕ, ◌<◌, ◌≤◌, List, ◌++◌, append-nil, append_assoc, length, take, drop, arith, ap, sym, ◌∙◌, length-append, length-take-le, inl, inr}
use Rattle.std.proofs.lemmas.Bool.{cases_lt}
use Rattle.std.proofs.lemmas.List.{take-append-drop}
use Rattle.httparse.proofs.GrammarLemmas.{response_unique, response_prefix_free, ReadsResponse-append}
use Rattle.httparse.specs.Grammar.{ResponseHead, print_response, ReadsResponse, HasNoResponse}
use Rattle.http_heads.specs.HeadLaws.{HasOneHead, HeadStays, NoHeadStays, HeadIsFinished, FrontIsUnfinished, HeadStoodBefore, HeadComesWhole}
use Rattle.http_heads.specs.Heads.{head_of, IsUnfinished}
use Rattle.http_heads.proofs.Prefixes.{goes_on}

pub one_head : HasOneHead
one_head bytes head other used more a b =
    let same = (response_unique bytes a.text b.text a.rest b.rest a.reads b.reads).0 in
    (a.says ∙ ap head_of same ∙ sym b.says, a.takes ∙ ap (λ text. length (print_response text)) same ∙ sym b.takes)

pub head_stays : HeadStays
head_stays bytes more head used is = record {
  text = is.text;
  rest = is.rest ++ more;
  reads = ReadsResponse-append bytes is.text is.rest more is.reads;
  says = is.says;
  takes = is.takes;
  bytes_fit = is.bytes_fit;
  fields_fit = is.fields_fit;
}

pub head_is_finished : HeadIsFinished
head_is_finished bytes head used is front = front.none is.text is.rest is.reads

-- where a longer stream has no head, its front has none
none_before : (bytes more : List ℕ) → HasNoResponse (bytes ++ more) → HasNoResponse bytes
none_before bytes more none text rest reads = none text (rest ++ more) (ReadsResponse-append bytes text rest more reads)

pub front_is_unfinished : FrontIsUnfinished
front_is_unfinished bytes more front = record {
  short = omega (arith, front.short, length-append bytes more);
  none = none_before bytes more front.none;
  some =
      let reads = front.some.2 in
      (more ++ front.some.0, front.some.1, (reads.0, sym (append_assoc bytes more front.some.0) ∙ reads.1));
}

-- before its last byte has come a head is unfinished
unfinished_before : (bytes more : List ℕ) (text : ResponseHead) (rest : List ℕ)
    → ReadsResponse (bytes ++ more) text rest → length (print_response text) ≤ 65536 → length bytes < length (print_response text)
    → IsUnfinished bytes
unfinished_before bytes more text rest reads fits longer = record {
  short = omega arith;
  none = λ other rest' other_reads.
      let same = (response_prefix_free bytes more other text rest' rest other_reads reads).0 in
      absurd (omega (arith, ap (λ h. length (print_response h)) same, ap length other_reads.1, length-append (print_response other) rest'));
  some = (
    drop (length bytes) (print_response text),
    text,
    (reads.0, sym (goes_on bytes more (print_response text) rest reads.1 (omega arith)) ∙ sym (append-nil (print_response text))),
  );
}

-- a head that takes no more than the front stands in it
pub head_before : HeadStoodBefore
head_before bytes more head used is fits = record {
  text = is.text;
  rest = drop (length (print_response is.text)) bytes;
  reads = (is.reads.0, goes_on (print_response is.text) is.rest bytes more (sym is.reads.1) (omega (arith, is.takes)));
  says = is.says;
  takes = is.takes;
  bytes_fit = is.bytes_fit;
  fields_fit = is.fields_fit;
}

pub no_head_stays : NoHeadStays
no_head_stays bytes more none = record {
  no_head = λ head used is.
      elim (cases_lt (length bytes) used) [
        | inl longer ↦ none.no_front (unfinished_before bytes more is.text is.rest is.reads (omega (arith, is.takes, is.bytes_fit)) (omega (arith, is.takes)))
        | inr fits ↦ none.no_head head used (head_before bytes more head used is fits)
      ];
  no_front = λ front. none.no_front (front_is_unfinished bytes more front);
}

pub head_comes_whole : HeadComesWhole
head_comes_whole bytes head used is =
    let fits : used ≤ length bytes = omega (arith, is.takes, ap length is.reads.1, length-append (print_response is.text) is.rest) in
    let cut : (n : ℕ) → take n bytes ++ drop n bytes ≡ bytes = λ n. take-append-drop n bytes in (
      fits,
      head_before (take used bytes) (drop used bytes) head used (rw (cut used) is) (omega (arith, length-take-le used bytes fits)),
      λ n before. unfinished_before (take n bytes) (drop n bytes) is.text is.rest (rw (cut n) is.reads)
          (omega (arith, is.takes, is.bytes_fit)) (omega (arith, is.takes, length-take-le n bytes (omega arith))),
    )
