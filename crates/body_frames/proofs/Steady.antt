-- What the front of a stream is stays so, however the stream goes on.
use Rattle.std.proofs.Common.{◌≡◌, ℕ, ◌+◌, ◌-◌, ◌<◌, ◌≤◌, ◌==◌, ◌&&◌, ◌⊎◌, true, false, List, [], ◌∷◌, ◌++◌, length, take, drop, Ok, Err, refl, sym, ap, ◌∙◌, inl, inr, arith, length-append, length-drop, zero-le, suc-le-suc}
use Rattle.std.specs.List.{list_any}
use Rattle.std.specs.Str.Parse.{digits_value}
use Rattle.std.proofs.lemmas.Str.Parse.{digits_value-take-le}
use Rattle.std.proofs.lemmas.Bool.{cases_lt, cases_Bool, both_ways, lt-ltb, and_from, and_parts, eqb-true, cond_both, false_from_ne_true}
use Rattle.std.proofs.lemmas.List.{take_all, take_at, drop-append-le, take-append-le}
use Rattle.std.proofs.lemmas.List.Folds.{list_all-append}
use Rattle.body_frames.specs.Lines.{Short, Wrong, is_line_end, line_text, line_at, size_line, is_size, is_size_text, size_digits}
use Rattle.body_frames.specs.Open.{may_be_size}
use Rattle.body_frames.specs.declared.BodyErr.{BodyErr}
use Rattle.body_frames.specs.declared.BodyErr.TheVariants.{BadChunk, LineTooLong}
use Rattle.body_frames.proofs.LineText.{line_text-append, line_text-append_ended}
use Rattle.body_frames.proofs.SizeText.{is_semicolon, is_hex, digits-append_plain, digits-append_extension, digits_plain, is_size-parts, other_more, take-append_longer}
use Rattle.body_frames.proofs.LineAt.{line_at-long, line_at-short, line_at-ended, size_line-wrong, size_line-line}

-- The three answers of `line_at`.
pub record IsLong (most : ℕ) (error : BodyErr) (stream : List ℕ) : Type 0 where
  pub long : most < length (line_text stream)
  pub is : line_at most error stream ≡ Err (Wrong error)

pub record IsShort (most : ℕ) (error : BodyErr) (stream : List ℕ) : Type 0 where
  pub fits : length (line_text stream) ≤ most
  pub is : line_at most error stream ≡ Err Short

pub record IsEnded (most : ℕ) (error : BodyErr) (stream : List ℕ) : Type 0 where
  pub fits : length (line_text stream) ≤ most
  pub ended : length (line_text stream) + 2 ≤ length stream
  pub is : line_at most error stream ≡ Ok (line_text stream, drop (length (line_text stream) + 2) stream)

pub cases_line : (most : ℕ) (error : BodyErr) (stream : List ℕ) → IsLong most error stream ⊎ (IsShort most error stream ⊎ IsEnded most error stream)
cases_line most error stream = elim (cases_lt most (length (line_text stream))) [
  | inl long ↦ inl (record { long = long; is = line_at-long most error stream long })
  | inr fits ↦ elim (cases_lt (length stream) (length (line_text stream) + 2)) [
    | inl short ↦ inr (inl (record { fits = fits; is = line_at-short most error stream fits short }))
    | inr ended ↦ inr (inr (record { fits = fits; ended = ended; is = line_at-ended most error stream fits ended }))
  ]
]

longer : (a b : List ℕ) → length (line_text a) ≤ length (line_text (a ++ b))
longer a b = let next = line_text-append a b in omega (arith, ap length next.1, length-append (line_text a) next.0)

module _ (most : ℕ) (error : BodyErr) (stream more : List ℕ) where
  still_ended : IsEnded most error stream → line_at most error (stream ++ more) ≡ Ok (line_text stream, drop (length (line_text stream) + 2) stream ++ more)
  still_ended is =
      let same = line_text-append_ended stream more is.ended in
      line_at-ended most error (stream ++ more) (omega (arith, ap length same, is.fits)) (omega (arith, ap length same, is.ended, length-append stream more))
      ∙ (ap (λ text. Ok (text, drop (length text + 2) (stream ++ more))) same ∙ ap (λ rest. Ok (line_text stream, rest)) (drop-append-le (length (line_text stream) + 2) stream more is.ended))

  pub line_at-append_ok : (line : List ℕ × List ℕ) → line_at most error stream ≡ Ok line → line_at most error (stream ++ more) ≡ Ok (line.0, line.1 ++ more)
  line_at-append_ok line ok = elim (cases_line most error stream) [
    | inl long ↦ absurd (let e = long.is in cc)
    | inr (inl short) ↦ absurd (let e = short.is in cc)
    | inr (inr ended) ↦
        let e : line ≡ (line_text stream, drop (length (line_text stream) + 2) stream) = (let is = ended.is in cc) in
        still_ended ended ∙ ap (λ (l : List ℕ × List ℕ). Ok (l.0, l.1 ++ more)) (sym e)
  ]

  pub line_at-append_wrong : (wrong : BodyErr) → line_at most error stream ≡ Err (Wrong wrong) → line_at most error (stream ++ more) ≡ Err (Wrong wrong)
  line_at-append_wrong wrong err = elim (cases_line most error stream) [
    | inl long ↦
        let e : Wrong error ≡ Wrong wrong = (let is = long.is in cc) in
        line_at-long most error (stream ++ more) (omega (arith, long.long, longer stream more)) ∙ ap (λ w. Err w) e
    | inr (inl short) ↦ absurd (let e = short.is in cc)
    | inr (inr ended) ↦ absurd (let e = ended.is in cc)
  ]

  pub line_at-ok_len : (line : List ℕ × List ℕ) → line_at most error stream ≡ Ok line → length line.1 + 2 ≤ length stream
  line_at-ok_len line ok = elim (cases_line most error stream) [
    | inl long ↦ absurd (let e = long.is in cc)
    | inr (inl short) ↦ absurd (let e = short.is in cc)
    | inr (inr ended) ↦
        let e : line ≡ (line_text stream, drop (length (line_text stream) + 2) stream) = (let is = ended.is in cc) in
        omega (arith, ap (λ (l : List ℕ × List ℕ). length l.1) e, ended.ended, length-drop (length (line_text stream) + 2) stream)
  ]

  pub line_at-ok_same : (line : List ℕ × List ℕ) → line_at most error stream ≡ Ok line → line_text (stream ++ more) ≡ line_text stream
  line_at-ok_same line ok = elim (cases_line most error stream) [
    | inl long ↦ absurd (let e = long.is in cc)
    | inr (inl short) ↦ absurd (let e = short.is in cc)
    | inr (inr ended) ↦ line_text-append_ended stream more ended.ended
  ]

  pub line_at-ok_fits : (line : List ℕ × List ℕ) → line_at most error stream ≡ Ok line → length line.0 ≤ most
  line_at-ok_fits line ok = elim (cases_line most error stream) [
    | inl long ↦ absurd (let e = long.is in cc)
    | inr (inl short) ↦ absurd (let e = short.is in cc)
    | inr (inr ended) ↦
        let e : line_text stream ≡ line.0 = (let is = ended.is in cc) in
        omega (arith, ap length e, ended.fits)
  ]

  pub line_at-wrong_long : (wrong : BodyErr) → line_at most error stream ≡ Err (Wrong wrong) → most + 1 ≤ length (line_text stream)
  line_at-wrong_long wrong err = elim (cases_line most error stream) [
    | inl long ↦ omega (arith, long.long)
    | inr (inl short) ↦ absurd (let e = short.is in cc)
    | inr (inr ended) ↦ absurd (let e = ended.is in cc)
  ]

-- The front of a size line's text is one too.
is_size-front : (digits more : List ℕ) → 0 < length digits → is_size (digits ++ more) ≡ true → is_size digits ≡ true
unfolding is_size
is_size-front digits more some is =
    let parts = is_size-parts (digits ++ more) is in
    let less = digits_value-take-le 16 (digits ++ more) (length digits) (suc-le-suc zero-le) in
    let hex = and_parts _ _ (sym (list_all-append is_hex digits more) ∙ parts.1.0) in
    let front = take_at digits more (length digits) refl in
    and_from _ _ (and_from _ _ (lt-ltb _ _ some) hex.0) (lt-ltb _ _ (omega (arith, parts.1.1, less, ap (digits_value 16) front)))

pub text-front : (text more : List ℕ) → 0 < length text → is_size_text (text ++ more) ≡ true → is_size_text text ≡ true
text-front text more some is = elim (cases_Bool (list_any is_semicolon text)) [
  | inl extension ↦ ap is_size (sym (digits-append_extension text more extension)) ∙ is
  | inr plain ↦ ap is_size (digits_plain text plain) ∙ is_size-front text (size_digits more) some (ap is_size (sym (digits-append_plain text more plain)) ∙ is)
]

-- No size line begins with a CR.
cr_first : (rest : List ℕ) → may_be_size (13 ∷ rest) ≡ false
unfolding line_text is_size
cr_first rest =
    cond_both (is_line_end (13 ∷ rest)) [] (13 ∷ line_text rest) (λ t. is_size_text (take 257 t) ≡ false) (λ _. refl)
    (λ _. other_more [] 13 (take 256 (line_text rest)) refl (λ e. omega (arith, e)) (omega arith))

first_of_none : (byte : ℕ) (rest : List ℕ) → length (line_text (byte ∷ rest)) ≡ 0 → byte ≡ 13
unfolding line_text
first_of_none byte [] none = elim (cases_Bool (byte == 13)) [ inl cr ↦ eqb-true byte 13 cr | inr other ↦ absurd (omega (arith, rw other at none)) ]
first_of_none byte (next ∷ rest) none = elim (cases_Bool (byte == 13 && next == 10)) [ inl end ↦ eqb-true byte 13 (and_parts _ _ end).0 | inr other ↦ absurd (omega (arith, rw other at none)) ]

-- A line that isn't the front of a size line doesn't become one.
pub no_size_more : (byte : ℕ) (rest more : List ℕ) → may_be_size (byte ∷ rest) ≡ false → may_be_size (byte ∷ (rest ++ more)) ≡ false
no_size_more byte rest more none = false_from_ne_true _ (λ is.
    let next = line_text-append (byte ∷ rest) more in
    let text = line_text (byte ∷ rest) in
    let size : is_size_text (take 257 (text ++ next.0)) ≡ true = ap (λ t. is_size_text (take 257 t)) (sym next.1) ∙ is in
    elim (cases_lt 0 (length text)) [
      | inl some ↦ elim (cases_lt (length text) 257) [
        | inl short ↦
            let front = text-front text (take (257 - length text) next.0) some (ap is_size_text (sym (take-append_longer text next.0 257 (omega (arith, short)))) ∙ size) in
            both_ways _ none (ap is_size_text (take_all 257 text (omega (arith, short))) ∙ front)
        | inr long ↦ both_ways _ none (ap is_size_text (sym (take-append-le 257 text next.0 long)) ∙ size)
      ]
      | inr nothing ↦
          let first = first_of_none byte rest (omega (arith, nothing)) in
          both_ways _ (cr_first (rest ++ more)) (ap (λ b. may_be_size (b ∷ (rest ++ more))) (sym first) ∙ is)
    ])

pub size_line-append_ok : (stream more : List ℕ) (line : List ℕ × List ℕ) → size_line stream ≡ Ok line → size_line (stream ++ more) ≡ Ok (line.0, line.1 ++ more)
unfolding size_line
size_line-append_ok [] more line ok = absurd cc
size_line-append_ok (byte ∷ rest) more line ok = elim (cases_Bool (may_be_size (byte ∷ rest))) [
  | inl size ↦
      let ends : line_at 256 LineTooLong (byte ∷ rest) ≡ Ok line = sym (size_line-line (byte ∷ rest) (omega arith) size) ∙ ok in
      let same = line_at-ok_same 256 LineTooLong (byte ∷ rest) more line ends in
      size_line-line (byte ∷ (rest ++ more)) (omega arith) (ap (λ t. is_size_text (take 257 t)) same ∙ size) ∙ line_at-append_ok 256 LineTooLong (byte ∷ rest) more line ends
  | inr no_size ↦ absurd (let e = size_line-wrong (byte ∷ rest) (omega arith) no_size in cc)
]

pub size_line-append_wrong : (stream more : List ℕ) (wrong : BodyErr) → size_line stream ≡ Err (Wrong wrong) → size_line (stream ++ more) ≡ Err (Wrong wrong)
unfolding size_line
size_line-append_wrong [] more wrong err = absurd cc
size_line-append_wrong (byte ∷ rest) more wrong err = elim (cases_Bool (may_be_size (byte ∷ rest))) [
  | inl size ↦
      let long : line_at 256 LineTooLong (byte ∷ rest) ≡ Err (Wrong wrong) = sym (size_line-line (byte ∷ rest) (omega arith) size) ∙ err in
      let next = line_text-append (byte ∷ rest) more in
      let same : take 257 (line_text (byte ∷ (rest ++ more))) ≡ take 257 (line_text (byte ∷ rest)) = ap (take 257) next.1 ∙ take-append-le 257 (line_text (byte ∷ rest)) next.0 (line_at-wrong_long 256 LineTooLong (byte ∷ rest) more wrong long) in
      size_line-line (byte ∷ (rest ++ more)) (omega arith) (ap is_size_text same ∙ size) ∙ line_at-append_wrong 256 LineTooLong (byte ∷ rest) more wrong long
  | inr no_size ↦
      let e : Wrong BadChunk ≡ Wrong wrong = (let is = size_line-wrong (byte ∷ rest) (omega arith) no_size in cc) in
      size_line-wrong (byte ∷ (rest ++ more)) (omega arith) (no_size_more byte rest more no_size) ∙ ap (λ w. Err w) e
]

pub size_line-ok_len : (stream : List ℕ) (line : List ℕ × List ℕ) → size_line stream ≡ Ok line → length line.1 + 2 ≤ length stream
unfolding size_line
size_line-ok_len [] line ok = absurd cc
size_line-ok_len (byte ∷ rest) line ok = elim (cases_Bool (may_be_size (byte ∷ rest))) [
  | inl size ↦ line_at-ok_len 256 LineTooLong (byte ∷ rest) [] line (sym (size_line-line (byte ∷ rest) (omega arith) size) ∙ ok)
  | inr no_size ↦ absurd (let e = size_line-wrong (byte ∷ rest) (omega arith) no_size in cc)
]
