-- Replies, as lines up to one that begins with a closing.
use Rattle.std.proofs.Common.{◌≡◌, ℕ, suc, zero, ◌+◌, ◌-◌, ◌*◌, ◌/◌, ◌%◌, ◌<◌, ◌≤◌, ◌⊎◌, inl, inr, true, false, List, [], ◌∷◌, ◌++◌, length, take, drop, get_or, arith, ap, sym, ◌∙◌, refl, subst, append-nil, append_assoc, length-append, length-take-le}
use Rattle.std.proofs.lemmas.Bool.{cases_lt, false≢true, and_parts}
use Rattle.std.proofs.lemmas.Bool.Decides.{nat_tests}
use Rattle.std.proofs.lemmas.List.{take-append-drop, get_or-append-add}
use Rattle.std.proofs.lemmas.List.Elements.{All-head}
use Rattle.std.specs.Char.{is_ascii_digit}
use Rattle.std.specs.List.{concat, list_all}
use Rattle.std.specs.Prelude.{◌&&◌, All, IfSome, slice_get}
use Rattle.ftp_replies.specs.Closings.{MayClose, ClosesBehind}
use Rattle.ftp_replies.specs.Fronts.{BeginsWithText, StandsInFront, IsDue, HasNone}
use Rattle.ftp_replies.specs.LineEnds.{LineEndsAt}
use Rattle.ftp_replies.specs.Lines.{line_end, IsReplyLine}
use Rattle.ftp_replies.specs.Replies.{code_text, opening, closing, IsReply, BeginsWithReply, IsReplyDue, HasNoReply}
use Rattle.ftp_replies.proofs.ClosingLemmas.{closes_last}
use Rattle.ftp_replies.proofs.FrontLemmas.{goes_on, none_from_fits, fits_from_none}
use Rattle.ftp_replies.proofs.LineLemmas.{ends_in, line_len_is, line_ends, made_line}

-- ---- three digits

abbrev digits_code : ℕ → ℕ → ℕ → ℕ
digits_code a b c = a * 100 + b * 10 + c

pub code_back : (a b c : ℕ) → a < 10 → b < 10 → c < 10 → code_text (digits_code a b c) ≡ (48 + a) ∷ (48 + b) ∷
    (48 + c) ∷ []
code_back a b c small_a small_b small_c =
    let one : 48 + digits_code a b c / 100 ≡ 48 + a = omega (arith, small_a, small_b, small_c) in
    let two : 48 + digits_code a b c / 10 % 10 ≡ 48 + b = omega (arith, small_a, small_b, small_c) in
    let three : 48 + digits_code a b c % 10 ≡ 48 + c = omega (arith, small_a, small_b, small_c) in
    cc

pub same_code : (c d : ℕ) → c < 1000 → d < 1000 → code_text c ≡ code_text d → c ≡ d
same_code c d small_c small_d same =
    let one : 48 + c / 100 ≡ 48 + d / 100 = cc in
    let two : 48 + c / 10 % 10 ≡ 48 + d / 10 % 10 = cc in
    let three : 48 + c % 10 ≡ 48 + d % 10 = cc in
    omega (arith, one, two, three, small_c, small_d)

-- ---- four bytes of which none of the first three is CR

-- a mark of four bytes
pub record IsMark (mark : List ℕ) : Type 0 where
  pub four : length mark ≡ 4
  pub not_cr : (at : ℕ) → at < 3 → 13 < get_or mark at 0

three_bytes : (a b c d : ℕ) → 13 < a → 13 < b → 13 < c → (at : ℕ) → at < 3 → 13 < get_or (a ∷ b ∷ c ∷ d ∷ []) at 0
three_bytes a b c d is_a is_b is_c zero within = is_a
three_bytes a b c d is_a is_b is_c (suc zero) within = is_b
three_bytes a b c d is_a is_b is_c (suc (suc zero)) within = is_c
three_bytes a b c d is_a is_b is_c (suc (suc (suc n))) within = absurd (omega (arith, within))

code_mark : (code last : ℕ) → IsMark (code_text code ++ last ∷ [])
code_mark code last = record {
  four = refl;
  not_cr = three_bytes (48 + code / 100) (48 + code / 10 % 10) (48 + code % 10) last (omega arith) (omega arith)
      (omega arith);
}

no_end_in : (mark : List ℕ) → IsMark mark → (at : ℕ) → LineEndsAt mark at → ⊥
no_end_in mark is at e =
    let four = is.four in
    let inside = e.within in
    let cr = e.cr in
    let above = is.not_cr at (omega (arith, four, inside)) in
    omega (arith, cr, above)

-- a line of bytes that begin with a mark begins with it
pub line_begins : (mark line more rest : List ℕ) → IsMark mark → IsReplyLine line → line ++ more ≡ mark ++ rest
    → BeginsWithText mark line
line_begins mark line more rest is line_is same = elim (cases_lt (length line) (length mark)) [
  | inl shorter ↦
      let end = line_len_is line line_is in
      absurd (no_end_in mark is (length line_is.text)
      (ends_in line mark more rest (length line_is.text) same (line_ends line line_is) (omega (arith, end, shorter))))
  | inr longer ↦ (drop (length mark) line, goes_on mark rest line more (sym same) longer)
]

-- one mark and CR LF are a line
pub mark_closes : (mark : List ℕ) → IsMark mark → MayClose mark
mark_closes mark is =
    let four = is.four in
    let len : length (mark ++ line_end) ≡ 6 = length-append mark line_end ∙ ap (λ n. n + 2) four in
    made_line mark (omega (arith, four)) (λ at e.
    let inside = e.within in
    let cr : get_or (mark ++ line_end) at 0 ≡ 13 = e.cr in
    let lf : get_or (mark ++ line_end) (at + 1) 0 ≡ 10 = e.lf in
    let before : at + 1 < length mark → ⊥ = λ within. no_end_in mark is at
    (ends_in (mark ++ line_end) mark [] line_end at (append-nil (mark ++ line_end)) e within) in
    let seam : at ≡ 3 → ⊥ = λ is_three.
    let third : get_or (mark ++ line_end) 4 0 ≡ 13 =
    let at_four : 4 ≡ length mark + 0 = omega (arith, four) in
    ap (λ k. get_or (mark ++ line_end) k 0) at_four ∙ get_or-append-add mark line_end 0 0 in
    let next : at + 1 ≡ 4 = omega (arith, is_three) in
    let both : 10 ≡ 13 = sym lf ∙ (ap (λ k. get_or (mark ++ line_end) k 0) next ∙ third) in
    omega (arith, both) in
    omega (arith, len, inside, before, four, seam))

-- ---- a reply and its lines

pub reply_closes : (code : ℕ) (bytes : List ℕ) → IsReply code bytes → ClosesBehind (closing code) 0 bytes
reply_closes code bytes is =
    let few = is.few in
    record {
      front = is.front;
      last = is.last;
      is = is.is;
      lines_are = is.lines;
      few = omega (arith, few);
      between = is.between;
      closes = is.closes;
    }

begins_by : (code : ℕ) (bytes : List ℕ) (front : List (List ℕ)) (last : List ℕ) → bytes ≡ concat (front ++ last ∷ [])
    → IfSome (slice_get front 0) (BeginsWithText (opening code)) → BeginsWithText (closing code) last
    → BeginsWithText (opening code) bytes ⊎ BeginsWithText (closing code) bytes
begins_by code bytes [] last is opens closes = inr
    (closes.0 ++ [], is ∙ (ap (λ l. l ++ []) closes.1 ∙ append_assoc (closing code) closes.0 []))
begins_by code bytes (line ∷ front) last is opens closes =
    let rest : List ℕ = concat (front ++ last ∷ []) in
    inl (opens.0 ++ rest, is ∙ (ap (λ l. l ++ rest) opens.1 ∙ append_assoc (opening code) opens.0 rest))

pub reply_begins : (code : ℕ) (bytes : List ℕ) → IsReply code bytes → BeginsWithText (opening code) bytes
    ⊎ BeginsWithText (closing code) bytes
reply_begins code bytes is = begins_by code bytes is.front is.last is.is is.opens is.closes

opens_by : (code : ℕ) (bytes more rest : List ℕ) (front : List (List ℕ)) (last : List ℕ)
    → bytes ≡ concat (front ++ last ∷ [])
    → All IsReplyLine (front ++ last ∷ []) → All (λ line. BeginsWithText (closing code) line → ⊥) front
    → (bytes ++ more ≡ opening code ++ rest) ⊎ (bytes ++ more ≡ closing code ++ rest)
    → IfSome (slice_get front 0) (BeginsWithText (opening code))
opens_by code bytes more rest [] last is are between begins = tt
opens_by code bytes more rest (line ∷ front) last is are between begins =
    let line_is = All-head IsReplyLine line (front ++ last ∷ []) are in
    let others : List ℕ = concat (front ++ last ∷ []) in
    let whole : bytes ++ more ≡ line ++ (others ++ more) = ap (λ l. l ++ more) is ∙ append_assoc line others more in
    elim begins [
      | inl opens ↦ line_begins (opening code) line (others ++ more) rest (code_mark code 45) line_is
          (sym whole ∙ opens)
      | inr closes ↦ absurd (All-head (λ l. BeginsWithText (closing code) l → ⊥) line front between
          (line_begins (closing code) line (others ++ more) rest (code_mark code 32) line_is (sym whole ∙ closes)))
    ]

pub reply_from : (code : ℕ) (one more rest : List ℕ) → code < 1000 → ClosesBehind (closing code) 0 one
    → (one ++ more ≡ opening code ++ rest) ⊎ (one ++ more ≡ closing code ++ rest) → IsReply code one
reply_from code one more rest small c begins =
    let few = c.few in
    record {
      small = small;
      front = c.front;
      last = c.last;
      is = c.is;
      lines = c.lines_are;
      few = omega (arith, few);
      opens = opens_by code one more rest c.front c.last c.is c.lines_are c.between begins;
      between = c.between;
      closes = c.closes;
    }

-- a code and CR LF
pub one_line : (code : ℕ) → code < 1000 → IsReply code (closing code ++ line_end)
one_line code small =
    reply_from code (closing code ++ line_end) [] line_end small
    (closes_last (closing code) 0 (closing code ++ line_end) (omega arith)
    (mark_closes (closing code) (code_mark code 32)) (line_end, refl))
    (inr (append-nil (closing code ++ line_end)))

-- ---- what no reply fits

pub no_reply : (bytes : List ℕ) →
    ((code : ℕ) (one more behind : List ℕ) → IsReply code one → one ++ more ≡ bytes ++ behind → ⊥) → HasNoReply bytes
no_reply bytes fits = (
  λ code used begun. (none_from_fits (IsReply code) bytes (fits code)).0 used begun,
  λ code behind is. (none_from_fits (IsReply code) bytes (fits code)).1 behind is,
)

pub fits_no_reply : (bytes : List ℕ) → HasNoReply bytes → (code : ℕ) (one more behind : List ℕ) → IsReply code one
    → one ++ more ≡ bytes ++ behind → ⊥
fits_no_reply bytes none code = fits_from_none (IsReply code) bytes (none.0 code, none.1 code)

-- a reply begins with its code and `-` or a space
pub record Marked (code : ℕ) (bytes : List ℕ) : Type 0 where
  pub mark : ℕ
  pub rest : List ℕ
  pub kind : (mark ≡ 45) ⊎ (mark ≡ 32)
  pub is : bytes ≡ code_text code ++ mark ∷ rest

pub marked : (code : ℕ) (bytes : List ℕ) → IsReply code bytes → Marked code bytes
marked code bytes is = elim (reply_begins code bytes is) [
  | inl opens ↦ record { mark = 45; rest = opens.0; kind = inl refl; is = opens.1 }
  | inr closes ↦ record { mark = 32; rest = closes.0; kind = inr refl; is = closes.1 }
]

-- the first four bytes tell the code
pub code_told : (code a b c d : ℕ) (one more rest behind : List ℕ) → IsReply code one
    → one ++ more ≡ (a ∷ b ∷ c ∷ d ∷ rest) ++ behind
    → (code_text code ≡ a ∷ b ∷ c ∷ []) × ((d ≡ 45) ⊎ (d ≡ 32))
code_told code a b c d one more rest behind is same =
    let m = marked code one is in
    let whole : code_text code ++ m.mark ∷ (m.rest ++ more) ≡ a ∷ b ∷ c ∷ d ∷ (rest ++ behind) = ap (λ l. l ++ more)
    (sym m.is) ∙ same in
    let mark : m.mark ≡ d = ap (λ l. get_or l 3 0) whole in (
      ap (take 3) whole,
      elim m.kind [
        | inl is_hyphen ↦ inl (sym mark ∙ is_hyphen)
        | inr is_space ↦ inr
            (sym mark ∙ is_space)
      ],
    )

-- ---- fewer than four bytes

digit_is : (n : ℕ) → n < 10 → is_ascii_digit (48 + n) ≡ true
digit_is n small = grind (arith, nat_tests)

front_digits : (a b c : ℕ) (short rest tail : List ℕ) → is_ascii_digit a ≡ true → is_ascii_digit b ≡ true
    → is_ascii_digit c ≡ true → length short < 4
    → a ∷ b ∷ c ∷ rest ≡ short ++ tail → list_all is_ascii_digit short ≡ true
front_digits a b c [] rest tail is_a is_b is_c few same = refl
front_digits a b c (x ∷ []) rest tail is_a is_b is_c few same =
    let one : a ≡ x = ap (λ l. get_or l 0 0) same in
    rw (sym one, is_a) refl
front_digits a b c (x ∷ y ∷ []) rest tail is_a is_b is_c few same =
    let one : a ≡ x = ap (λ l. get_or l 0 0) same in
    let two : b ≡ y = ap (λ l. get_or l 1 0) same in
    rw (sym one, sym two, is_a, is_b) refl
front_digits a b c (x ∷ y ∷ z ∷ []) rest tail is_a is_b is_c few same =
    let one : a ≡ x = ap (λ l. get_or l 0 0) same in
    let two : b ≡ y = ap (λ l. get_or l 1 0) same in
    let three : c ≡ z = ap (λ l. get_or l 2 0) same in
    rw (sym one, sym two, sym three, is_a, is_b, is_c) refl
front_digits a b c (x ∷ y ∷ z ∷ w ∷ short) rest tail is_a is_b is_c few same = absurd (omega (arith, few))

-- not all of them digits
pub short_none : (bytes : List ℕ) → length bytes < 4 → list_all is_ascii_digit bytes ≡ false → HasNoReply bytes
short_none bytes few not = no_reply bytes λ code one more behind is same.
    let small = is.small in
    let m = marked code one is in
    let whole : code_text code ++ m.mark ∷ (m.rest ++ more) ≡ bytes ++ behind = ap (λ l. l ++ more) (sym m.is) ∙ same in
    let all = front_digits (48 + code / 100) (48 + code / 10 % 10) (48 + code % 10) bytes
    (m.mark ∷ (m.rest ++ more)) behind
    (digit_is (code / 100) (omega (arith, small))) (digit_is (code / 10 % 10) (omega arith))
    (digit_is (code % 10) (omega arith)) few whole in
    false≢true (sym not ∙ all)

pub short_none_yet : (bytes : List ℕ) → length bytes < 4 → (code used : ℕ) → BeginsWithReply bytes code used → ⊥
short_none_yet bytes few code used begun =
    let m = marked code (take used bytes) begun.1 in
    omega (arith, few, begun.0, length-take-le used bytes begun.0, ap length m.is)

digit_value_of : (x : ℕ) → is_ascii_digit x ≡ true → (n : ℕ) × (x ≡ 48 + n) × (n < 10)
digit_value_of x is = (x - 48, grind (arith, nat_tests), grind (arith, nat_tests))

-- digits that begin a code
short_code : (bytes : List ℕ) → length bytes < 4 → list_all is_ascii_digit bytes ≡ true
    → (code : ℕ) × (behind : List ℕ) × (code < 1000) × (code_text code ≡ bytes ++ behind)
short_code [] few all = (0, 48 ∷ 48 ∷ 48 ∷ [], omega arith, code_back 0 0 0 (omega arith) (omega arith) (omega arith))
short_code (x ∷ []) few all =
    let p = digit_value_of x (and_parts (is_ascii_digit x) true all).0 in (
      digits_code p.0 0 0,
      48 ∷ 48 ∷ [],
      omega (arith, p.2),
      code_back p.0 0 0 p.2 (omega arith) (omega arith) ∙ ap (λ n. n ∷ 48 ∷ 48 ∷ []) (sym p.1),
    )
short_code (x ∷ y ∷ []) few all =
    let both = and_parts (is_ascii_digit x) (is_ascii_digit y && true) all in
    let p = digit_value_of x both.0 in
    let q = digit_value_of y (and_parts (is_ascii_digit y) true both.1).0 in
    let first = p.1 in
    let second = q.1 in (
      digits_code p.0 q.0 0,
      48 ∷ [],
      omega (arith, p.2, q.2),
      code_back p.0 q.0 0 p.2 q.2 (omega arith) ∙ cc,
    )
short_code (x ∷ y ∷ z ∷ []) few all =
    let both = and_parts (is_ascii_digit x) (is_ascii_digit y && (is_ascii_digit z && true)) all in
    let others = and_parts (is_ascii_digit y) (is_ascii_digit z && true) both.1 in
    let p = digit_value_of x both.0 in
    let q = digit_value_of y others.0 in
    let r = digit_value_of z (and_parts (is_ascii_digit z) true others.1).0 in
    let first = p.1 in
    let second = q.1 in
    let third = r.1 in (
      digits_code p.0 q.0 r.0,
      [],
      omega (arith, p.2, q.2, r.2),
      code_back p.0 q.0 r.0 p.2 q.2 r.2 ∙ cc,
    )
short_code (x ∷ y ∷ z ∷ w ∷ bytes) few all = absurd (omega (arith, few))

pub short_due : (bytes : List ℕ) → length bytes < 4 → list_all is_ascii_digit bytes ≡ true → IsReplyDue bytes
short_due bytes few all =
    let (code, behind, small, is) = short_code bytes few all in
    let rest : List ℕ = behind ++ 32 ∷ line_end in
    let whole : closing code ++ line_end ≡ bytes ++ rest =
    append_assoc (code_text code) (32 ∷ []) line_end ∙
    (ap (λ l. l ++ 32 ∷ line_end) is ∙ append_assoc bytes behind (32 ∷ line_end)) in
    (short_none_yet bytes few, (code, rest, subst (IsReply code) whole (one_line code small)))

-- ---- four bytes or more

pub four : (bytes : List ℕ) → 4 ≤ length bytes
    → bytes ≡ get_or bytes 0 0 ∷ get_or bytes 1 0 ∷ get_or bytes 2 0 ∷ get_or bytes 3 0 ∷ drop 4 bytes
four (a ∷ b ∷ c ∷ d ∷ bytes) long = refl
four (a ∷ b ∷ c ∷ []) long = absurd (omega (arith, long))
four (a ∷ b ∷ []) long = absurd (omega (arith, long))
four (a ∷ []) long = absurd (omega (arith, long))
four [] long = absurd (omega (arith, long))

pub told : (bytes : List ℕ) → 4 ≤ length bytes → (code : ℕ) (one more behind : List ℕ) → IsReply code one
    → one ++ more ≡ bytes ++ behind
    → (code_text code ≡ get_or bytes 0 0 ∷ get_or bytes 1 0 ∷ get_or bytes 2 0 ∷ []) ×
    ((get_or bytes 3 0 ≡ 45) ⊎ (get_or bytes 3 0 ≡ 32))
told bytes long code one more behind is same =
    code_told code (get_or bytes 0 0) (get_or bytes 1 0) (get_or bytes 2 0) (get_or bytes 3 0) one more
    (drop 4 bytes) behind is
    (same ∙ ap (λ l. l ++ behind) (four bytes long))

pub closing_is : (code a b c : ℕ) → code_text code ≡ a ∷ b ∷ c ∷ [] → closing code ≡ a ∷ b ∷ c ∷ 32 ∷ []
closing_is code a b c text = ap (λ l. l ++ 32 ∷ []) text

pub may_close : (code a b c : ℕ) → code_text code ≡ a ∷ b ∷ c ∷ [] → MayClose (a ∷ b ∷ c ∷ 32 ∷ [])
may_close code a b c text = subst MayClose (closing_is code a b c text) (mark_closes (closing code) (code_mark code 32))

module _ (bytes : List ℕ) (code : ℕ) (long : 4 ≤ length bytes) (small : code < 1000)
    (text : code_text code ≡ get_or bytes 0 0 ∷ get_or bytes 1 0 ∷ get_or bytes 2 0 ∷ [])
    (kind : (get_or bytes 3 0 ≡ 45) ⊎ (get_or bytes 3 0 ≡ 32)) where
  mark_at : (m : ℕ) → get_or bytes 3 0 ≡ m → bytes ≡ code_text code ++ m ∷ drop 4 bytes
  mark_at m is =
      four bytes long
      ∙ (ap (λ l. l ++ get_or bytes 3 0 ∷ drop 4 bytes) (sym text) ∙ ap (λ n. code_text code ++ n ∷ drop 4 bytes) is)

  bytes_begin : (bytes ≡ opening code ++ drop 4 bytes) ⊎ (bytes ≡ closing code ++ drop 4 bytes)
  bytes_begin = elim kind [ inl hyphen ↦ inl (mark_at 45 hyphen) | inr space ↦ inr (mark_at 32 space) ]

  as_reply : (one more behind : List ℕ) → ClosesBehind (closing code) 0 one → one ++ more ≡ bytes ++ behind
      → IsReply code one
  as_reply one more behind c same = reply_from code one more (drop 4 bytes ++ behind) small c (elim bytes_begin [
    | inl opens ↦ inl (same ∙ (ap (λ l. l ++ behind) opens ∙ append_assoc (opening code) (drop 4 bytes) behind))
    | inr closes ↦ inr (same ∙ (ap (λ l. l ++ behind) closes ∙ append_assoc (closing code) (drop 4 bytes) behind))
  ])

  as_closed : (other : ℕ) (one more behind : List ℕ) → IsReply other one → one ++ more ≡ bytes ++ behind
      → ClosesBehind (closing code) 0 one
  as_closed other one more behind is same =
      let same_text : code_text other ≡ code_text code = (told bytes long other one more behind is same).0 ∙ sym text in
      subst (λ n. ClosesBehind (closing n) 0 one) (same_code other code is.small small same_text)
      (reply_closes other one is)

  pub lines_whole : (used : ℕ) → StandsInFront (ClosesBehind (closing code) 0) bytes used → BeginsWithReply bytes code used
  lines_whole used begun = (
    begun.0,
    as_reply (take used bytes) (drop used bytes) [] begun.1
        (take-append-drop used bytes ∙ sym (append-nil bytes)),
  )

  pub lines_due : IsDue (ClosesBehind (closing code) 0) bytes → IsReplyDue bytes
  lines_due due = (
    λ other used begun. due.0 used (
      begun.0,
      as_closed other (take used bytes) (drop used bytes) [] begun.1
          (take-append-drop used bytes ∙ sym (append-nil bytes)),
    ),
    (code, due.1.0, as_reply (bytes ++ due.1.0) [] due.1.0 due.1.1 (append-nil (bytes ++ due.1.0))),
  )

  pub lines_none : HasNone (ClosesBehind (closing code) 0) bytes → HasNoReply bytes
  lines_none none = no_reply bytes λ other one more behind is same.
      fits_from_none (ClosesBehind (closing code) 0) bytes none one more behind
      (as_closed other one more behind is same) same
