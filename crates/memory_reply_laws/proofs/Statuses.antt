-- Heads of a status alone, as they are read.
use Rattle.std.proofs.Common.{◌≡◌, ◌⊎◌, inl, inr, ℕ, zero, suc, ◌+◌, ◌/◌, ◌%◌, ◌<◌, ◌≤◌, ◌^◌, Bool, true, false, cond, List, [], ◌∷◌, ◌++◌, append_assoc, append-nil, length, length-append, mod-lt, get_or, arith, ap, sym, subst, ◌∙◌, refl}
use Rattle.std.proofs.lemmas.Bool.{cond-true, cond-false, and_from, cases_Bool, eqb-true, eq-eqb, ne_eqb, le-leb, lt-ltb, true≢false}
use Rattle.std.proofs.lemmas.Fmt.{decimal_is_IsNumeral, length-decimal-le}
use Rattle.std.proofs.lemmas.Int.Digits.{digits_value-lt}
use Rattle.std.proofs.lemmas.List.Elements.{All-nil, All-cons, All-head, All-tail}
use Rattle.std.specs.Char.{is_ascii_digit}
use Rattle.std.specs.Fmt.{decimal, digits, digits_onto, digit_glyph}
use Rattle.std.specs.Prelude.{IsTrue, Option, Some, None, is_none, codes, ◌||◌, ◌&&◌, ◌==◌}
use Rattle.std.specs.Str.Parse.{digits_value}
use Rattle.httparse.specs.Grammar.{AllPass, print_blank, print_end, print_reason, print_section, print_response, LineEnd, crlf, lf, ResponseHead, IsResponseHead, ReadsResponse}
use Rattle.link_source.specs.Replies.{status_head, no_content_line}
use Rattle.link_source.specs.Requests.{ended_line}
use Rattle.range_http.specs.declared.asked.Asked.{Asked}
use Rattle.range_http.specs.declared.framing.Framing.TheVariants.{Length}
use Rattle.range_http.specs.declared.verdict.Verdict.{Verdict}
use Rattle.range_http.specs.declared.verdict.Verdict.TheVariants.{Empty, Moved, NotFound}
use Rattle.range_http.specs.Framing.{framing_of}
use Rattle.http_heads.specs.HeadLaws.{HeadComesWhole}
use Rattle.http_heads.specs.Heads.{IsNoHead}
use Rattle.range_http.specs.Range.{WritesNumber, ◌>>=◌}
use Rattle.range_http.specs.RangeLaws.{NumbersAreRead}
use Rattle.range_http.specs.Verdict.{framed_verdict, whole_verdict, content_verdict, is_moved, is_empty, overloaded, unauthorized, unexpected, verdict_of}
use Rattle.memory_reply_laws.proofs.Numbers.{values_pass}
use Rattle.memory_reply_laws.proofs.Whole.{none_field, none_written}
use Rattle.memory_reply_laws.proofs.Written.{head_text, AreWritten, IsWritten, said, has_head, length_head}
use Rattle.memory_reply_laws.specs.BadReplies.{bare_verdict, StatusIsRead, OtherStatusIsNoHead, StatusIsReadOrNone, NothingIsUnfinished}
use Rattle.memory_reply_laws.specs.Reading.{BeginsWithHead}

-- ---- numbers are written in digits, however large they are

glyph-is-digit : (d : ℕ) → d < 10 → is_ascii_digit (digit_glyph false d) ≡ true
glyph-is-digit d small =
    let is : digit_glyph false d ≡ 48 + d = cond-true _ _ _ (lt-ltb d 10 small) in
    ap is_ascii_digit is ∙ and_from _ _ (le-leb 48 (48 + d) (omega arith)) (le-leb (48 + d) 57 (omega (arith, small)))

either : (b : Bool) (xs ys : List ℕ) → AllPass is_ascii_digit xs → AllPass is_ascii_digit ys → AllPass is_ascii_digit (cond b xs ys)
either true xs ys p q = p
either false xs ys p q = q

onto-digits : (k n : ℕ) (acc : List ℕ) → AllPass is_ascii_digit acc → AllPass is_ascii_digit (digits_onto k 10 false n acc)
onto-digits zero n acc are = are
onto-digits (suc k) n acc are =
    let glyph = glyph-is-digit (n % 10) (let some : 0 < 10 = omega arith in mod-lt n some) in
    let more = All-cons (λ b. IsTrue (is_ascii_digit b)) (digit_glyph false (n % 10)) acc glyph are in
    either (n / 10 == 0) _ _ more (onto-digits k (n / 10) _ more)

are-digits : (n : ℕ) → AllPass is_ascii_digit (decimal n)
unfolding digits
are-digits n = onto-digits 64 n [] (All-nil (λ b. IsTrue (is_ascii_digit b)))

-- ---- how many digits stand before something else

abbrev StartsOther : List ℕ → Type 0
StartsOther text = (b : ℕ) (behind : List ℕ) → text ≡ b ∷ behind → is_ascii_digit b ≡ false

no-digit : {A : Type 0} (b : ℕ) (xs : List ℕ) → AllPass is_ascii_digit (b ∷ xs) → is_ascii_digit b ≡ false → A
no-digit b xs are other = absurd (true≢false (sym (All-head (λ b. IsTrue (is_ascii_digit b)) b xs are) ∙ other))

as-many : (xs ys t u : List ℕ) → AllPass is_ascii_digit xs → AllPass is_ascii_digit ys → StartsOther t → StartsOther u → xs ++ t ≡ ys ++ u
    → length xs ≡ length ys
as-many [] [] t u first second t_other u_other same = refl
as-many [] (y ∷ ys) t u first second t_other u_other same = no-digit y ys second (t_other y (ys ++ u) same)
as-many (x ∷ xs) [] t u first second t_other u_other same = no-digit x xs first (u_other x (xs ++ t) (sym same))
as-many (x ∷ xs) (y ∷ ys) t u first second t_other u_other same =
    let rest : xs ++ t ≡ ys ++ u = cc in
    let tails = as-many xs ys t u (All-tail (λ b. IsTrue (is_ascii_digit b)) x xs first) (All-tail (λ b. IsTrue (is_ascii_digit b)) y ys second) t_other u_other rest in
    omega (arith, tails)

starts : (b : ℕ) (rest : List ℕ) → is_ascii_digit b ≡ false → StartsOther (b ∷ rest)
starts b rest other c behind same =
    let is : b ≡ c = cc in
    subst (λ d. is_ascii_digit d ≡ false) is other

-- behind the status stands no digit
behind-status : (reason : Option (List ℕ)) (end : LineEnd) (section rest : List ℕ) → StartsOther (print_reason reason ++ (print_end end ++ section ++ rest))
behind-status None crlf section rest = starts 13 _ refl
behind-status None lf section rest = starts 10 _ refl
behind-status (Some phrase) end section rest = starts 32 _ refl

-- ---- a head of a status

abbrev line : List LineEnd → ResponseHead → List ℕ → List ℕ
line blank h rest =
    print_blank blank ++ (codes "HTTP/1." ++ (48 + h.minor) ∷ []) ++ 32 ∷ h.digits ++ print_reason h.reason ++ print_end h.line_end
    ++ print_section h.fields h.last ++ rest

printed : (h : ResponseHead) (rest : List ℕ) → print_response h ++ rest ≡ line h.blank h rest
unfolding print_response
printed h rest = refl

after-digits : (ds reason end section rest : List ℕ) → ds ++ reason ++ end ++ section ++ rest ≡ ds ++ (reason ++ (end ++ section ++ rest))
after-digits ds reason end section rest = simp append_assoc

-- in a head stand three digits
three-digits : (ds more : List ℕ) (h : ResponseHead) (rest : List ℕ) → AllPass is_ascii_digit ds → StartsOther more → IsResponseHead h
    → codes "HTTP/1.1 " ++ ds ++ more ≡ print_response h ++ rest → length ds ≡ 3
three-digits ds more h rest are other is same = by h.blank (same ∙ printed h rest)
  where
    by : (blank : List LineEnd) → codes "HTTP/1.1 " ++ ds ++ more ≡ line blank h rest → length ds ≡ 3
    by [] here =
        let section = print_section h.fields h.last in
        let behind : ds ++ more ≡ h.digits ++ print_reason h.reason ++ print_end h.line_end ++ section ++ rest = cc in
        as-many ds h.digits more _ are is.digits.1 other (behind-status h.reason h.line_end section rest)
        (behind ∙ after-digits h.digits (print_reason h.reason) (print_end h.line_end) section rest)
        ∙ is.digits.0
    by (crlf ∷ ends) here = absurd (omega (arith, ap (λ text. get_or text 0 0) here))
    by (lf ∷ ends) here = absurd (omega (arith, ap (λ text. get_or text 0 0) here))

-- what stands behind the digits of a status alone
abbrev behind : List ℕ
behind = codes " \r\nContent-Length: 0\r\n\r\n"

grouped : (front ds space end line last : List ℕ) → ((front ++ ds ++ space) ++ end) ++ line ++ last ≡ front ++ ds ++ (space ++ end ++ line ++ last)
grouped front ds space end line last = simp append_assoc

status-text : (status : ℕ) → status_head status ≡ codes "HTTP/1.1 " ++ decimal status ++ behind
unfolding status_head
status-text status = grouped (codes "HTTP/1.1 ") (decimal status) (codes " ") (codes "\r\n") no_content_line (ended_line [])

no-status : (status : ℕ) (more : List ℕ) (h : ResponseHead) (rest : List ℕ) → (length (decimal status) ≡ 3 → ⊥) → ReadsResponse (status_head status ++ more) h rest → ⊥
no-status status more h rest not_three reads =
    let ds = decimal status in
    let text : codes "HTTP/1.1 " ++ ds ++ (behind ++ more) ≡ status_head status ++ more =
    sym (ap (λ t. t ++ more) (status-text status) ∙ append_assoc (codes "HTTP/1.1 ") (ds ++ behind) more ∙ ap (λ t. codes "HTTP/1.1 " ++ t) (append_assoc ds behind more)) in
    not_three (three-digits ds (behind ++ more) h rest (are-digits status) (starts 32 _ refl) reads.0 (text ∙ reads.1))

no-head : (status : ℕ) → (length (decimal status) ≡ 3 → ⊥) → IsNoHead (status_head status)
no-head status not_three = record {
  no_head = λ head used is. no-status status [] is.text is.rest not_three (rw append-nil is.reads);
  no_front = λ front. no-status status front.some.0 front.some.1 [] not_three front.some.2;
}

-- ---- what such a head means

zero-written : WritesNumber (codes "0") 0
zero-written = record { digits = (omega arith, (omega arith, record {})); value = refl; small = omega arith }

and-none : (a b : Bool) → (a && b && false) ≡ false
and-none true true = refl
and-none true false = refl
and-none false b = refl

and-false : (a : Bool) → (a && false) ≡ false
and-false true = refl
and-false false = refl

-- a test for 206, of which nothing comes here
whole-or : (whole ranged part : Bool) (a b c : Verdict) → (whole ≡ true → part ≡ false) → b ≡ c
    → cond (whole || part) (cond part b a) c ≡ cond whole a c
whole-or true ranged true a b c apart same = absurd (true≢false (apart refl))
whole-or true ranged false a b c apart same = refl
whole-or false ranged true a b c apart same = same
whole-or false ranged false a b c apart same = refl

bare-verdict : NumbersAreRead → (ds : List ℕ) (asked : Asked) → verdict_of (said ds (none_field ∷ [])) asked ≡ bare_verdict (digits_value 10 ds) asked
bare-verdict numbers ds asked =
    let status = digits_value 10 ds in
    let head = said ds (none_field ∷ []) in
    let framing : framing_of head ≡ Some (Length 0) = ap (λ number. number >>= λ n. Some (Length n)) ((numbers (codes "0") 0).1 zero-written) in
    let content : content_verdict head asked ≡ framed_verdict head asked (Some (Length 0)) = ap (framed_verdict head asked) framing in
    let moved : is_moved head ≡ false = and-false _ in
    let empty : is_empty head asked ≡ false = and-none (status == 416) (is_none asked.total) in
    let apart : (status == 200) ≡ true → (status == 206) ≡ false = λ e. let is = eqb-true status 200 e in ne_eqb status 206 (λ f. omega (arith, is, f)) in
    let last : cond (status == 200 || status == 206) (content_verdict head asked) unexpected ≡ cond (status == 200) (whole_verdict asked (Length 0)) unexpected =
    ap (λ c. cond (status == 200 || status == 206) c unexpected) content ∙ whole-or (status == 200) true (status == 206) _ _ unexpected apart refl in
    let other : cond (is_moved head) Moved (cond (is_empty head asked) Empty (cond (status == 200 || status == 206) (content_verdict head asked) unexpected))
    ≡ cond (status == 200) (whole_verdict asked (Length 0)) unexpected =
    cond-false (is_moved head) _ _ moved ∙ cond-false (is_empty head asked) _ _ empty ∙ last in
    ap (λ v. cond (status == 404) NotFound (cond (status == 401) unauthorized (cond (status == 503) overloaded v))) other

-- ---- reading

status-written : (status : ℕ) → length (decimal status) ≡ 3 → AreWritten (decimal status) [] (none_field ∷ [])
status-written status three = record {
  three = three;
  digits_are = are-digits status;
  reason_is = values_pass [] refl;
  fields_are = All-cons IsWritten none_field [] none_written (All-nil IsWritten);
  few = omega arith;
  short = omega (arith, length_head (decimal status) [] (none_field ∷ []), three);
}

no-reason : (front ds space end line last : List ℕ) → ((front ++ ds ++ space ++ []) ++ end) ++ line ++ last ≡ front ++ ds ++ (space ++ end ++ line ++ last)
no-reason front ds space end line last = simp (append_assoc, append-nil)

head-text : (status : ℕ) → status_head status ≡ head_text (decimal status) [] (none_field ∷ []) ++ []
head-text status =
    let same : status_head status ≡ head_text (decimal status) [] (none_field ∷ []) =
    status-text status ∙ sym (no-reason (codes "HTTP/1.1 ") (decimal status) (codes " ") (codes "\r\n") no_content_line (ended_line [])) in
    same ∙ sym (append-nil (head_text (decimal status) [] (none_field ∷ [])))

is-read : NumbersAreRead → (status : ℕ) (asked : Asked) → length (decimal status) ≡ 3
    → BeginsWithHead (status_head status) asked (digits_value 10 (decimal status)) (length (status_head status)) (bare_verdict (digits_value 10 (decimal status)) asked)
is-read numbers status asked three =
    let told = digits_value 10 (decimal status) in
    let has = has_head (decimal status) [] (none_field ∷ []) (status_head status) [] asked _ (head-text status) (status-written status three) (bare-verdict numbers (decimal status) asked) in
    let all : length (head_text (decimal status) [] (none_field ∷ [])) ≡ length (status_head status) =
    sym (ap length (head-text status ∙ append-nil (head_text (decimal status) [] (none_field ∷ [])))) in
    subst (λ used. BeginsWithHead (status_head status) asked told used (bare_verdict told asked)) all has

-- ---- how many digits a number has

small-power : (k : ℕ) → k ≤ 3 → (10 ^ k ≤ 1000) × (k ≤ 2 → 10 ^ k ≤ 100)
small-power zero few = (omega arith, λ fewer. omega arith)
small-power (suc zero) few = (omega arith, λ fewer. omega arith)
small-power (suc (suc zero)) few = (omega arith, λ fewer. omega arith)
small-power (suc (suc (suc zero))) few = (omega arith, λ fewer. omega (arith, fewer))
small-power (suc (suc (suc (suc k)))) few = omega (arith, few)

below-power : (status : ℕ) → status < 2 ^ 64 → status < 10 ^ length (decimal status)
below-power status small =
    let is = decimal_is_IsNumeral status small in
    omega (arith, is.1, digits_value-lt 10 (decimal status) is.0.1)

has-three : (status : ℕ) → 100 ≤ status → status < 1000 → length (decimal status) ≡ 3
has-three status low high = elim (cases_Bool (length (decimal status) == 3)) [
  | inl is ↦ eqb-true _ 3 is
  | inr other ↦
      let most = length-decimal-le 3 status (omega arith) (omega (arith, high)) (omega (arith, high)) in
      let few : length (decimal status) ≤ 2 = le-two (length (decimal status)) most other in
      omega (arith, low, below-power status (omega (arith, high)), (small-power (length (decimal status)) (omega (arith, most))).1 few)
]
  where
    le-two : (n : ℕ) → n ≤ 3 → (n == 3) ≡ false → n ≤ 2
    le-two n most other = elim (cases_Bool (n == 2)) [
      | inl is ↦ omega (arith, eqb-true n 2 is)
      | inr not_two ↦ by n most other
    ]
      where
        by : (m : ℕ) → m ≤ 3 → (m == 3) ≡ false → m ≤ 2
        by zero few is = omega arith
        by (suc zero) few is = omega arith
        by (suc (suc zero)) few is = omega arith
        by (suc (suc (suc zero))) few is = absurd (true≢false is)
        by (suc (suc (suc (suc m)))) few is = omega (arith, few)

not-three : (status : ℕ) → status < 2 ^ 64 → (status < 100) ⊎ (1000 ≤ status) → length (decimal status) ≡ 3 → ⊥
not-three status small (inl low) three = omega (arith, three, length-decimal-le 2 status (omega arith) (omega (arith, low)) small)
not-three status small (inr high) three =
    let bound = below-power status small in
    let same : 10 ^ length (decimal status) ≡ 1000 = ap (λ k. 10 ^ k) three in
    omega (arith, bound, same, high)

pub status_is_read : NumbersAreRead → StatusIsRead
status_is_read numbers status asked low high =
    let value : digits_value 10 (decimal status) ≡ status = (decimal_is_IsNumeral status (omega (arith, high))).1 in
    subst (λ n. BeginsWithHead (status_head status) asked n (length (status_head status)) (bare_verdict n asked)) value (is-read numbers status asked (has-three status low high))

pub other_status_is_no_head : OtherStatusIsNoHead
other_status_is_no_head status small other = no-head status (not-three status small other)

pub status_is_read_or_none : NumbersAreRead → StatusIsReadOrNone
status_is_read_or_none numbers status asked = elim (cases_Bool (length (decimal status) == 3)) [
  | inl is ↦ inl (digits_value 10 (decimal status), is-read numbers status asked (eqb-true _ 3 is))
  | inr not_three ↦ inr (no-head status (λ is. true≢false (sym (eq-eqb (length (decimal status)) 3 is) ∙ not_three)))
]

pub nothing_is_unfinished : NumbersAreRead → HeadComesWhole → NothingIsUnfinished
nothing_is_unfinished numbers comes_whole =
    let any : Asked = record { first = 0; last = 0; total = None } in
    let has = status_is_read numbers 200 any (omega arith) (omega arith) in
    let some : 0 < length (status_head 200) = omega (arith, ap length (status-text 200), length-append (codes "HTTP/1.1 " ++ decimal 200) behind) in
    (comes_whole (status_head 200) has.head (length (status_head 200)) has.begins).2 0 some
