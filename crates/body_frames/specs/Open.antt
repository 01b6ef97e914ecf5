-- What the parser keeps of a line whose CR LF hasn't come, against the bytes of the line that came.
use Rattle.std.specs.Prelude.{◌≡◌, ℕ, ◌+◌, ◌<◌, ◌≤◌, ◌==◌, ◌⊎◌, Bool, true, false, if◌then◌else◌, List, [], ◌∷◌, ◌++◌, length, take, Result, Ok, Err}
use Rattle.std.specs.List.{list_any}
use Rattle.body_frames.specs.Lines.{Wrong, line_limit, line_text, chunk_size, is_size_text, size_line}
use Rattle.body_frames.specs.declared.BodyErr.{BodyErr}
use Rattle.body_frames.specs.declared.BodyErr.TheVariants.{BadChunk}
use Rattle.body_frames.specs.declared.line.OpenLine.{OpenLine}
use Rattle.body_frames.specs.declared.line.LineStep.{LineStep}
use Rattle.body_frames.specs.declared.line.LineStep.TheVariants.{Open, Ended, TooLong}
use Rattle.body_frames.specs.declared.line.SizeLine.{SizeLine}
use Rattle.body_frames.specs.declared.line.SizeStep.{SizeStep}
use Rattle.body_frames.specs.declared.line.SizeStep.TheVariants.{Open as SizeOpen, Ended as SizeEnded}

-- a CR that came last, if one did
abbrev pub last_cr : Bool → List ℕ
last_cr cr = if cr then 13 ∷ [] else []

-- these bytes came of the line
pub record IsOpenLine (came : List ℕ) (line : OpenLine) : Type 0 where
  pub len : line.len ≡ length (line_text came)
  pub all : came ≡ line_text came ++ last_cr line.cr

-- what one more byte makes of the line
abbrev pub LineGoesOn : ℕ → List ℕ → ℕ → LineStep → Type 0
LineGoesOn most came byte (Open line) = IsOpenLine (came ++ byte ∷ []) line × (line.len ≤ most)
LineGoesOn most came byte Ended =
    (line_text (came ++ byte ∷ []) ≡ line_text came) × (length (came ++ byte ∷ []) ≡ length (line_text came) + 2)
LineGoesOn most came byte TooLong = most < length (line_text (came ++ byte ∷ []))

-- these bytes came of the size line
pub record IsOpenSize (came : List ℕ) (size : SizeLine) : Type 0 where
  pub line : IsOpenLine came size.line
  pub value : size.size ≡ chunk_size (line_text came)
  pub extension : size.in_extension ≡ list_any (λ byte. byte == 59) (line_text came)
  pub fits : (came ≡ []) ⊎ (is_size_text (line_text came) ≡ true)

-- whether a size line may still come of these bytes
abbrev pub may_be_size : List ℕ → Bool
may_be_size came = is_size_text (take (line_limit + 1) (line_text came))

-- the size with one more byte, or the byte can't stand there
abbrev pub SizeGoesOn : List ℕ → Result ℕ BodyErr → Type 0
SizeGoesOn came (Ok size) = (may_be_size came ≡ true) × (size ≡ chunk_size (line_text came))
SizeGoesOn came (Err error) = (may_be_size came ≡ false) × (error ≡ BadChunk)

-- what the size line is once these bytes came
abbrev pub SizeLineGoesOn : List ℕ → Result SizeStep BodyErr → Type 0
SizeLineGoesOn came (Ok (SizeOpen size)) = IsOpenSize came size
SizeLineGoesOn came (Ok (SizeEnded size)) =
    (text : List ℕ) × (size_line came ≡ Ok (text, [])) × (size ≡ chunk_size text)
SizeLineGoesOn came (Err error) = size_line came ≡ Err (Wrong error)
