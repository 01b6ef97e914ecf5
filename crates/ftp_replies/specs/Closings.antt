-- Lines up to one that begins with a closing.
use Rattle.std.specs.Prelude.{◌≡◌, ℕ, ◌+◌, ◌<◌, List, [], ◌∷◌, ◌++◌, length, All}
use Rattle.std.specs.List.{concat}
use Rattle.ftp_replies.specs.Fronts.{BeginsWithText}
use Rattle.ftp_replies.specs.Lines.{line_end, IsReplyLine}
use Rattle.ftp_replies.specs.declared.limits.TheConstants.{MAX_REPLY_LINES}

-- a line can begin with the closing
abbrev pub MayClose : List ℕ → Type 0
MayClose closing = IsReplyLine (closing ++ line_end)

-- lines up to the first one that begins with the closing, behind so many lines of the reply
pub record ClosesBehind (closing : List ℕ) (lines : ℕ) (bytes : List ℕ) : Type 0 where
  pub front : List (List ℕ)
  pub last : List ℕ
  pub is : bytes ≡ concat (front ++ last ∷ [])
  pub lines_are : All IsReplyLine (front ++ last ∷ [])
  pub few : lines + length front < MAX_REPLY_LINES
  pub between : All (λ line. BeginsWithText closing line → ⊥) front
  pub closes : BeginsWithText closing last
