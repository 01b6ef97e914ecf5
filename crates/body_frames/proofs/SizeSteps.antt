-- One byte more in a size line.
use Rattle.std.proofs.Common.{◌≡◌, ◌≢◌, ℕ, ◌+◌, ◌-◌, ◌*◌, ◌^◌, ◌<◌, ◌≤◌, ◌==◌, ◌||◌, Bool, true, false, cond, nat_lt, List, [], ◌∷◌, ◌++◌, length, take, Ok, Err, refl, sym, ap, ◌∙◌, inl, inr, arith, append-nil, length-append}
use Rattle.std.specs.List.{list_any, list_all}
use Rattle.std.specs.Char.{digit_value}
use Rattle.std.specs.Str.Parse.{digits_value}
use Rattle.std.proofs.lemmas.Bool.{both_ways, ne_eqb, and_left, and_right, le-ltb, lt-ltb, cond_both}
use Rattle.std.proofs.lemmas.Int.Digits.{digits_value_push}
use Rattle.std.proofs.lemmas.List.{take_all, nil_from_length}
use Rattle.body_frames.specs.Lines.{Wrong, line_text, size_line, is_size, is_size_text, chunk_size}
use Rattle.body_frames.specs.Open.{IsOpenLine, LineGoesOn, IsOpenSize, may_be_size, SizeGoesOn, SizeLineGoesOn, last_cr}
use Rattle.body_frames.specs.declared.BodyErr.{BodyErr}
use Rattle.body_frames.specs.declared.BodyErr.TheVariants.{BadChunk, LineTooLong}
use Rattle.body_frames.specs.declared.line.LineStep.TheVariants.{Ended, TooLong}
use Rattle.body_frames.specs.declared.line.SizeStep.TheVariants.{Ended as SizeEnded}
use Rattle.body_frames.proofs.LineAt.{line_at-long, line_at-just_ended, size_line-wrong, size_line-line}
use Rattle.body_frames.specs.declared.line.OpenLine.{OpenLine}
use Rattle.body_frames.specs.declared.line.SizeLine.{SizeLine}
use Rattle.std.proofs.lemmas.List.Folds.{list_any-append}
use Rattle.std.proofs.Math.Bool.{or-false}
use Rattle.body_frames.proofs.LineText.{line_text-append, ends, pushed}
use Rattle.body_frames.proofs.SizeText.{is_semicolon, is_hex, Plain, digits-append_extension, is_size-parts, is_size_push, digits_plain, digit_more, extension_more, other_more, other_first, not_digit, take-append_longer, take_some}

-- a line that begins with a byte that is no digit
first_is_other : (byte : ℕ) → 16 ≤ digit_value byte → may_be_size (byte ∷ []) ≡ false
unfolding line_text
first_is_other byte no_digit =
    ap is_size_text (take_all 257 (cond (byte == 13) [] (byte ∷ [])) (cond_both (byte == 13) [] (byte ∷ []) (λ t. length t ≤ 257) (λ _. omega arith) (λ _. omega arith))) ∙ other_first byte no_digit

module _ (came : List ℕ) (self : SizeLine) (is : IsOpenSize came self) where
  fits : length (line_text came) ≤ 256
  fits = omega (arith, self.line.in_limit, is.line.len)

  text_nil : came ≡ [] → line_text came ≡ []
  unfolding line_text
  text_nil h = ap line_text h

  -- what has a byte has a size
  begun : 0 < length came → is_size_text (line_text came) ≡ true
  begun some = elim is.fits [ inl nil ↦ absurd (omega (arith, ap length nil)) | inr size ↦ size ]

  -- a text that fits is judged whole
  judged : (text : List ℕ) → length text ≤ 257 → take 257 text ≡ text
  judged text small = take_all 257 text small

  -- any byte in an extension
  pub in_extension : (byte : ℕ) → self.in_extension ≡ true → SizeGoesOn (came ++ byte ∷ []) (Ok self.size)
  in_extension byte extension =
      let has : list_any is_semicolon (line_text came) ≡ true = sym is.extension ∙ extension in
      let size : is_size_text (line_text came) ≡ true = elim is.fits [ inl nil ↦ absurd (both_ways _ (ap (list_any is_semicolon) (text_nil nil)) has) | inr size ↦ size ] in
      let next = line_text-append came (byte ∷ []) in (
        ap (λ t. is_size_text (take 257 t)) next.1 ∙ (ap is_size_text (take-append_longer (line_text came) next.0 257 (omega (arith, fits))) ∙ (ap is_size (digits-append_extension (line_text came) _ has) ∙ size)),
        is.value ∙ sym (ap chunk_size next.1 ∙ ap (digits_value 16) (digits-append_extension (line_text came) next.0 has)),
      )

  module _ (digits : self.in_extension ≡ false) where
    plain : Plain (line_text came)
    plain = sym is.extension ∙ digits

    hex : list_all is_hex (line_text came) ≡ true
    hex = elim is.fits [ inl nil ↦ ap (list_all is_hex) (text_nil nil) | inr size ↦ (is_size-parts (line_text came) (ap is_size (sym (digits_plain (line_text came) plain)) ∙ size)).1.0 ]

    -- the CR LF
    pub at_end : self.line.cr ≡ true → SizeGoesOn (came ++ 10 ∷ []) (Ok self.size)
    at_end cr =
        let all : came ≡ line_text came ++ 13 ∷ [] = is.line.all ∙ ap (λ b. line_text came ++ last_cr b) cr in
        let same = (ends came all).0 in
        (ap (λ t. is_size_text (take 257 t)) same ∙ (ap is_size_text (judged (line_text came) (omega (arith, fits))) ∙ begun (omega (arith, ap length all, length-append (line_text came) (13 ∷ [])))), is.value ∙ ap chunk_size (sym same))

    -- text of digits with another byte in it
    wrong : (byte : ℕ) (more : List ℕ) → byte ≢ 59 → 16 ≤ digit_value byte → is_size_text (take 257 (line_text came ++ byte ∷ more)) ≡ false
    wrong byte more other no_digit =
        let rest = take_some (257 - length (line_text came)) byte more (omega (arith, fits)) in
        ap is_size_text (take-append_longer (line_text came) (byte ∷ more) 257 (omega (arith, fits)) ∙ ap (λ t. line_text came ++ t) rest.1) ∙ other_more (line_text came) byte rest.0 plain other no_digit

    -- another byte behind a CR
    pub after_cr : (byte : ℕ) → self.line.cr ≡ true → byte ≢ 10 → SizeGoesOn (came ++ byte ∷ []) (Err BadChunk)
    after_cr byte cr other =
        let p = pushed came self.line.cr byte is.line.all (and_right _ _ (ne_eqb byte 10 other)) in
        (ap (λ t. is_size_text (take 257 t)) (p.text ∙ ap (λ b. line_text came ++ (last_cr b ++ cond (byte == 13) [] (byte ∷ []))) cr) ∙ wrong 13 _ (λ e. omega (arith, e)) (omega arith), refl)

    module _ (no_cr : self.line.cr ≡ false) where
      -- text with a byte that is no CR
      text_more : (byte : ℕ) → byte ≢ 13 → line_text (came ++ byte ∷ []) ≡ line_text came ++ byte ∷ []
      text_more byte other =
          let p = pushed came self.line.cr byte is.line.all (and_left _ _ no_cr) in
          p.text ∙ (ap (λ b. line_text came ++ (last_cr b ++ cond (byte == 13) [] (byte ∷ []))) no_cr ∙ ap (λ b. line_text came ++ cond b [] (byte ∷ [])) (ne_eqb byte 13 other))

      text_cr : line_text (came ++ 13 ∷ []) ≡ line_text came
      text_cr =
          let p = pushed came self.line.cr 13 is.line.all (and_left _ _ no_cr) in
          p.text ∙ (ap (λ b. line_text came ++ (last_cr b ++ [])) no_cr ∙ append-nil _)

      none_came : length (line_text came) ≡ 0 → came ≡ []
      none_came none = is.line.all ∙ ap (λ b. line_text came ++ last_cr b) no_cr ∙ append-nil _ ∙ nil_from_length _ none

      judged_more : (byte : ℕ) → byte ≢ 13 → take 257 (line_text (came ++ byte ∷ [])) ≡ line_text came ++ byte ∷ []
      judged_more byte other =
          ap (take 257) (text_more byte other) ∙ judged (line_text came ++ byte ∷ []) (omega (arith, fits, length-append (line_text came) (byte ∷ [])))

      size_with_digit : (byte : ℕ) → digit_value byte < 16 → is_size_text (take 257 (line_text (came ++ byte ∷ []))) ≡ nat_lt (self.size * 16 + digit_value byte) (2 ^ 32)
      size_with_digit byte digit =
          ap is_size_text (judged_more byte (not_digit byte 13 (omega arith) digit)) ∙ (ap is_size (digit_more (line_text came) byte plain digit) ∙ (is_size_push (line_text came) byte hex digit ∙ ap (λ t. nat_lt (digits_value 16 t * 16 + digit_value byte) (2 ^ 32)) (sym (digits_plain (line_text came) plain)) ∙ ap (λ n. nat_lt (n * 16 + digit_value byte) (2 ^ 32)) (sym is.value)))

      value_more : (byte : ℕ) → digit_value byte < 16 → chunk_size (line_text (came ++ byte ∷ [])) ≡ self.size * 16 + digit_value byte
      value_more byte digit =
          ap chunk_size (text_more byte (not_digit byte 13 (omega arith) digit)) ∙ (ap (digits_value 16) (digit_more (line_text came) byte plain digit) ∙ (digits_value_push 16 (line_text came) byte ∙ ap (λ t. digits_value 16 t * 16 + digit_value byte) (sym (digits_plain (line_text came) plain)) ∙ ap (λ n. n * 16 + digit_value byte) (sym is.value)))

      some_came : 0 < self.line.len → 0 < length came
      some_came some = omega (arith, is.line.len, ap length is.line.all, length-append (line_text came) (last_cr self.line.cr))

      pub digit_fits : (byte : ℕ) → digit_value byte < 16 → self.size * 16 + digit_value byte < 2 ^ 32 → SizeGoesOn (came ++ byte ∷ []) (Ok (self.size * 16 + digit_value byte))
      digit_fits byte digit small =
          (size_with_digit byte digit ∙ lt-ltb _ _ small, sym (value_more byte digit))

      pub digit_overflows : (byte : ℕ) → digit_value byte < 16 → 2 ^ 32 ≤ self.size * 16 + digit_value byte → SizeGoesOn (came ++ byte ∷ []) (Err BadChunk)
      digit_overflows byte digit large = (size_with_digit byte digit ∙ le-ltb _ _ large, refl)

      -- no digit where nothing came
      pub none_yet : (byte : ℕ) → self.line.len ≡ 0 → 16 ≤ digit_value byte → SizeGoesOn (came ++ byte ∷ []) (Err BadChunk)
      none_yet byte none no_digit =
          let nothing = none_came (omega (arith, is.line.len)) in
          (ap (λ c. may_be_size (c ++ byte ∷ [])) nothing ∙ first_is_other byte no_digit, refl)

      pub other_byte : (byte : ℕ) → byte ≢ 59 → byte ≢ 13 → 16 ≤ digit_value byte → SizeGoesOn (came ++ byte ∷ []) (Err BadChunk)
      other_byte byte no_extension no_cr' no_digit = (ap (λ t. is_size_text (take 257 t)) (text_more byte no_cr') ∙ wrong byte [] no_extension no_digit, refl)

      pub semicolon : 0 < self.line.len → SizeGoesOn (came ++ 59 ∷ []) (Ok self.size)
      semicolon some = (
        ap is_size_text (judged_more 59 (λ e. omega (arith, e))) ∙ (ap is_size (extension_more (line_text came) plain) ∙ begun (some_came some)),
        is.value ∙ sym (ap chunk_size (text_more 59 (λ e. omega (arith, e))) ∙ ap (digits_value 16) (extension_more (line_text came) plain)),
      )

      pub cr_comes : 0 < self.line.len → SizeGoesOn (came ++ 13 ∷ []) (Ok self.size)
      cr_comes some =
          (ap (λ t. is_size_text (take 257 t)) text_cr ∙ (ap is_size_text (judged (line_text came) (omega (arith, fits))) ∙ begun (some_came some)), is.value ∙ ap chunk_size (sym text_cr))

cr_alone : (cr : Bool) → list_any is_semicolon (last_cr cr) ≡ false
cr_alone true = refl
cr_alone false = refl

-- A `;` stands in what came where it stands in the text.
has_semicolon : (came : List ℕ) (line : OpenLine) → IsOpenLine came line → list_any is_semicolon came ≡ list_any is_semicolon (line_text came)
has_semicolon came line is =
    ap (list_any is_semicolon) is.all ∙ (list_any-append is_semicolon (line_text came) (last_cr line.cr) ∙ (ap (λ b. list_any is_semicolon (line_text came) || b) (cr_alone line.cr) ∙ or-false _))

has_semicolon_push : (came : List ℕ) (byte : ℕ) (old new : OpenLine) → IsOpenLine came old → IsOpenLine (came ++ byte ∷ []) new → list_any is_semicolon (line_text (came ++ byte ∷ [])) ≡ (list_any is_semicolon (line_text came) || byte == 59)
has_semicolon_push came byte old new is becomes =
    sym (has_semicolon (came ++ byte ∷ []) new becomes) ∙ (list_any-append is_semicolon came (byte ∷ []) ∙ (ap (λ b. b || (byte == 59 || false)) (has_semicolon came old is) ∙ ap (λ b. list_any is_semicolon (line_text came) || b) (or-false (byte == 59))))

-- the size line goes on
pub goes_on : (came : List ℕ) (byte size : ℕ) (in_extension : Bool) (old : SizeLine) (new : OpenLine) → IsOpenSize came old → IsOpenLine (came ++ byte ∷ []) new → new.len ≤ 256 → SizeGoesOn (came ++ byte ∷ []) (Ok size) → in_extension ≡ (old.in_extension || byte == 59) → IsOpenSize (came ++ byte ∷ []) record { line = new; size = size; in_extension = in_extension }
goes_on came byte size in_extension old new is becomes fits sized extension =
    record {
      line = becomes;
      value = sized.1;
      extension = extension ∙ (ap (λ b. b || byte == 59) is.extension ∙ sym (has_semicolon_push came byte old.line new is.line becomes));
      fits = inr (ap is_size_text (sym (take_all 257 (line_text (came ++ byte ∷ [])) (omega (arith, becomes.len)))) ∙ sized.0);
    }

some_pushed : (came : List ℕ) (byte : ℕ) → 0 < length (came ++ byte ∷ [])
some_pushed came byte = omega (arith, length-append came (byte ∷ []))

-- the size line is wrong
pub size_wrong : (came : List ℕ) (byte : ℕ) (error : BodyErr) → SizeGoesOn (came ++ byte ∷ []) (Err error) → size_line (came ++ byte ∷ []) ≡ Err (Wrong error)
size_wrong came byte error wrong = size_line-wrong (came ++ byte ∷ []) (some_pushed came byte) wrong.0 ∙ ap (λ e. Err (Wrong e)) (sym wrong.1)

-- the size line is too long
pub size_long : (came : List ℕ) (byte size : ℕ) → SizeGoesOn (came ++ byte ∷ []) (Ok size) → LineGoesOn 256 came byte TooLong → size_line (came ++ byte ∷ []) ≡ Err (Wrong LineTooLong)
size_long came byte size sized long =
    size_line-line (came ++ byte ∷ []) (some_pushed came byte) sized.0 ∙ line_at-long 256 LineTooLong (came ++ byte ∷ []) long

-- the size line has ended
pub size_ended : (came : List ℕ) (byte size : ℕ) (old : SizeLine) → IsOpenSize came old → SizeGoesOn (came ++ byte ∷ []) (Ok size) → LineGoesOn 256 came byte Ended → SizeLineGoesOn (came ++ byte ∷ []) (Ok (SizeEnded size))
size_ended came byte size old is sized ended =
    let text = line_text (came ++ byte ∷ []) in
    (text, size_line-line (came ++ byte ∷ []) (some_pushed came byte) sized.0 ∙ line_at-just_ended 256 LineTooLong (came ++ byte ∷ []) (omega (arith, ap length ended.0, is.line.len, old.line.in_limit)) (omega (arith, ap length ended.0, ended.1)), sized.1)
