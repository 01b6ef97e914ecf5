-- What `line_at` and `size_line` give.
use Rattle.std.proofs.Common.{◌≡◌, ℕ, ◌+◌, ◌<◌, ◌≤◌, Bool, true, false, List, [], ◌∷◌, length, drop, Ok, Err, refl, ap, ◌∙◌, arith, length-append}
use Rattle.std.proofs.lemmas.Bool.{lt-ltb, le-ltb}
use Rattle.std.proofs.lemmas.List.{drop_all}
use Rattle.body_frames.specs.Lines.{Short, Wrong, line_text, line_at, size_line}
use Rattle.body_frames.specs.Open.{IsOpenLine, may_be_size, last_cr}
use Rattle.body_frames.specs.declared.BodyErr.{BodyErr}
use Rattle.body_frames.specs.declared.BodyErr.TheVariants.{BadChunk, LineTooLong}
use Rattle.body_frames.specs.declared.line.OpenLine.{OpenLine}

module _ (most : ℕ) (error : BodyErr) (stream : List ℕ) where
  pub line_at-long : most < length (line_text stream) → line_at most error stream ≡ Err (Wrong error)
  unfolding line_at
  line_at-long long = rw (lt-ltb _ _ long) refl

  pub line_at-short : length (line_text stream) ≤ most → length stream < length (line_text stream) + 2 → line_at most error stream ≡ Err Short
  unfolding line_at
  line_at-short fits short = rw (le-ltb _ _ fits, lt-ltb _ _ short) refl

  pub line_at-ended : length (line_text stream) ≤ most → length (line_text stream) + 2 ≤ length stream → line_at most error stream ≡ Ok (line_text stream, drop (length (line_text stream) + 2) stream)
  unfolding line_at
  line_at-ended fits ended = rw (le-ltb _ _ fits, le-ltb _ _ ended) refl

length_last_cr : (cr : Bool) → length (last_cr cr) ≤ 1
length_last_cr true = omega arith
length_last_cr false = omega arith

-- a line that a byte ended, and a line that hasn't ended
pub line_at-just_ended : (most : ℕ) (error : BodyErr) (stream : List ℕ) → length (line_text stream) ≤ most → length stream ≡ length (line_text stream) + 2 → line_at most error stream ≡ Ok (line_text stream, [])
line_at-just_ended most error stream fits len =
    line_at-ended most error stream fits (omega arith) ∙ ap (λ rest. Ok (line_text stream, rest)) (drop_all _ stream (omega arith))

pub line_at-open : (most : ℕ) (error : BodyErr) (came : List ℕ) (line : OpenLine) → IsOpenLine came line → line.len ≤ most → line_at most error came ≡ Err Short
line_at-open most error came line is fits =
    line_at-short most error came (omega (arith, is.len)) (omega (arith, ap length is.all, length-append (line_text came) (last_cr line.cr), length_last_cr line.cr))

pub size_line-wrong : (stream : List ℕ) → 0 < length stream → may_be_size stream ≡ false → size_line stream ≡ Err (Wrong BadChunk)
unfolding size_line
size_line-wrong [] some wrong = absurd (omega arith)
size_line-wrong (byte ∷ rest) some wrong = rw wrong refl

pub size_line-line : (stream : List ℕ) → 0 < length stream → may_be_size stream ≡ true → size_line stream ≡ line_at 256 LineTooLong stream
unfolding size_line
size_line-line [] some size = absurd (omega arith)
size_line-line (byte ∷ rest) some size = rw size refl
