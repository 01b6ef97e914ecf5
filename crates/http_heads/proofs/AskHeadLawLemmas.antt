-- The laws of the head at the front of a stream.
use Rattle.std.proofs.Common.{◌≡◌, ℕ, Bool, true, subst, ◌<◌, ◌≤◌, List, [], ◌∷◌, ◌++◌, append-nil, append_assoc, length, take, drop, arith, ap, sym, ◌∙◌, refl, length-append, length-take-le, inl, inr}
use Rattle.std.proofs.lemmas.Bool.{cases_lt}
use Rattle.std.proofs.lemmas.List.{append_cancel_left, get_or_append_left, take-append-drop}
use Rattle.std.proofs.lemmas.List.Elements.{All-cons, All-nil}
use Rattle.std.proofs.lemmas.Str.{IsUtf8-from_ascii}
use Rattle.std.proofs.lemmas.Str.Ascii.{IsAscii-cons, IsAscii-nil}
use Rattle.std.specs.Prelude.{IsTrue}
use Rattle.httparse.proofs.GrammarLemmas.{request_unique, request_prefix_free, ReadsRequest-append, print_request-append}
use Rattle.httparse.specs.Grammar.{AllPass, LineEnd, lf, IsToken, is_uri_byte, print_end, print_blank, print_version, print_section, RequestHead, IsRequestHead, print_request, ReadsRequest, HasNoRequest, EndsInTarget, MayBecomeRequest}
use Rattle.http_heads.specs.AskHeadLaws.{HasOneAskHead, AskHeadStays, NoAskHeadStays, AskHeadIsFinished, FrontOfAskIsUnfinished, AskHeadStoodBefore, AskHeadComesWhole}
use Rattle.http_heads.specs.AskHeads.{ask_head_of, IsAskUnfinished}
use Rattle.http_heads.proofs.Prefixes.{goes_on}

pub one_head : HasOneAskHead
one_head bytes head other used more a b =
    let same = (request_unique bytes a.text b.text a.rest b.rest a.reads b.reads).0 in
    (a.says ∙ ap ask_head_of same ∙ sym b.says, a.takes ∙ ap (λ text. length (print_request text)) same ∙ sym b.takes)

pub head_stays : AskHeadStays
head_stays bytes more head used is = record {
  text = is.text;
  rest = is.rest ++ more;
  reads = ReadsRequest-append bytes is.text is.rest more is.reads;
  says = is.says;
  takes = is.takes;
  bytes_fit = is.bytes_fit;
  fields_fit = is.fields_fit;
}

pub head_is_finished : AskHeadIsFinished
head_is_finished bytes head used is front = front.none is.text is.rest is.reads

-- where a longer stream has no head, its front has none
none_before : (bytes more : List ℕ) → HasNoRequest (bytes ++ more) → HasNoRequest bytes
none_before bytes more none text rest reads = none text (rest ++ more) (ReadsRequest-append bytes text rest more reads)

-- all of a front passes where the whole does
pass_before : (test : ℕ → Bool) (a b : List ℕ) → AllPass test (a ++ b) → AllPass test a
pass_before test a b all = λ k d within. subst (λ x. test x ≡ true) (get_or_append_left a b d k within) (all k d (omega (arith, within, length-append a b)))

-- the head that ends just behind this method, by a target of one byte
shortest : List LineEnd → List ℕ → RequestHead
shortest blank method = record { blank = blank; method = method; target = 47 ∷ []; minor = 1; line_end = lf; fields = []; last = lf }

-- what that head has behind the method's space
shortest_tail : List ℕ
shortest_tail = 47 ∷ 32 ∷ (print_version 1 ++ (print_end lf ++ (print_section [] lf ++ [])))

shortest_is_head : (blank : List LineEnd) (method : List ℕ) → IsToken method → IsRequestHead (shortest blank method)
unfolding shortest
shortest_is_head blank method token = record {
  method = token;
  target = (omega arith, All-cons (λ b. IsTrue (is_uri_byte b)) 47 [] refl (All-nil _));
  target_text = IsUtf8-from_ascii _ (IsAscii-cons 47 [] (omega arith) IsAscii-nil);
  minor = omega arith;
  fields = All-nil _;
}

shortest_text : (blank : List LineEnd) (method : List ℕ)
    → (print_blank blank ++ method ++ 32 ∷ []) ++ shortest_tail ≡ print_request (shortest blank method) ++ []
unfolding shortest shortest_tail
shortest_text blank method =
    append_assoc (print_blank blank ++ method) (32 ∷ []) shortest_tail
    ∙ append_assoc (print_blank blank) method (32 ∷ shortest_tail)
    ∙ sym (print_request-append (shortest blank method) [])

-- the front of bytes that end in a target ends in it, or can become a head
target_before : (bytes more : List ℕ) → EndsInTarget (bytes ++ more) → MayBecomeRequest bytes
target_before bytes more (blank, method, target, token, uri, is) =
    let front : List ℕ = print_blank blank ++ method ++ 32 ∷ [] in
    let whole : bytes ++ more ≡ front ++ target = is ∙ sym (append_assoc (print_blank blank ++ method) (32 ∷ []) target) in
    elim (cases_lt (length bytes) (length front)) [
      | inl shorter ↦ inl (
        drop (length bytes) front ++ shortest_tail,
        shortest blank method,
        (
          shortest_is_head blank method token,
          sym (append_assoc bytes (drop (length bytes) front) shortest_tail)
              ∙ ap (λ text. text ++ shortest_tail) (sym (goes_on bytes more front target whole (omega (arith, shorter))))
              ∙ shortest_text blank method,
        ),
      )
      | inr longer ↦
          let suffix : List ℕ = drop (length front) bytes in
          let bytes_are : bytes ≡ front ++ suffix = goes_on front target bytes more (sym whole) longer in
          let rest_is : target ≡ suffix ++ more =
          append_cancel_left front target (suffix ++ more)
          (sym whole ∙ ap (λ text. text ++ more) bytes_are ∙ append_assoc front suffix more) in
          inr (
            blank,
            method,
            suffix,
            token,
            pass_before is_uri_byte suffix more (subst (AllPass is_uri_byte) rest_is uri),
            bytes_are ∙ append_assoc (print_blank blank ++ method) (32 ∷ []) suffix,
          )
    ]

may_before : (bytes more : List ℕ) → MayBecomeRequest (bytes ++ more) → MayBecomeRequest bytes
may_before bytes more (inl (after, text, reads)) =
    inl (more ++ after, text, (reads.0, sym (append_assoc bytes more after) ∙ reads.1))
may_before bytes more (inr target) = target_before bytes more target

pub front_is_unfinished : FrontOfAskIsUnfinished
front_is_unfinished bytes more front = record {
  short = omega (arith, front.short, length-append bytes more);
  none = none_before bytes more front.none;
  some = may_before bytes more front.some;
}

-- before its last byte has come a head is unfinished
unfinished_before : (bytes more : List ℕ) (text : RequestHead) (rest : List ℕ)
    → ReadsRequest (bytes ++ more) text rest → length (print_request text) ≤ 65536 → length bytes < length (print_request text)
    → IsAskUnfinished bytes
unfinished_before bytes more text rest reads fits longer = record {
  short = omega arith;
  none = λ other rest' other_reads.
      let same = (request_prefix_free bytes more other text rest' rest other_reads reads).0 in
      absurd (omega (arith, ap (λ h. length (print_request h)) same, ap length other_reads.1, length-append (print_request other) rest'));
  some = inl (
    drop (length bytes) (print_request text),
    text,
    (reads.0, sym (goes_on bytes more (print_request text) rest reads.1 (omega arith)) ∙ sym (append-nil (print_request text))),
  );
}

-- a head that takes no more than the front stands in it
pub head_before : AskHeadStoodBefore
head_before bytes more head used is fits = record {
  text = is.text;
  rest = drop (length (print_request is.text)) bytes;
  reads = (is.reads.0, goes_on (print_request is.text) is.rest bytes more (sym is.reads.1) (omega (arith, is.takes)));
  says = is.says;
  takes = is.takes;
  bytes_fit = is.bytes_fit;
  fields_fit = is.fields_fit;
}

pub no_head_stays : NoAskHeadStays
no_head_stays bytes more none = record {
  no_head = λ head used is.
      elim (cases_lt (length bytes) used) [
        | inl longer ↦ none.no_front (unfinished_before bytes more is.text is.rest is.reads (omega (arith, is.takes, is.bytes_fit)) (omega (arith, is.takes)))
        | inr fits ↦ none.no_head head used (head_before bytes more head used is fits)
      ];
  no_front = λ front. none.no_front (front_is_unfinished bytes more front);
}

pub head_comes_whole : AskHeadComesWhole
head_comes_whole bytes head used is =
    let fits : used ≤ length bytes = omega (arith, is.takes, ap length is.reads.1, length-append (print_request is.text) is.rest) in
    let cut : (n : ℕ) → take n bytes ++ drop n bytes ≡ bytes = λ n. take-append-drop n bytes in (
      fits,
      head_before (take used bytes) (drop used bytes) head used (rw (cut used) is) (omega (arith, length-take-le used bytes fits)),
      λ n before. unfinished_before (take n bytes) (drop n bytes) is.text is.rest (rw (cut n) is.reads)
          (omega (arith, is.takes, is.bytes_fit)) (omega (arith, is.takes, length-take-le n bytes (omega arith))),
    )
