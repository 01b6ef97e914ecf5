-- Replies (RFC 959 section 4.2). The limit on their lines is this crate's own.
use Rattle.std.specs.Prelude.{◌≡◌, ℕ, ◌+◌, ◌<◌, ◌≤◌, ◌/◌, ◌%◌, List, [], ◌∷◌, ◌++◌, length, take, codes, All, IfSome, slice_get}
use Rattle.std.specs.List.{concat}
use Rattle.ftp_replies.specs.Fronts.{BeginsWithText}
use Rattle.ftp_replies.specs.Lines.{IsReplyLine}
use Rattle.ftp_replies.specs.declared.limits.TheConstants.{MAX_REPLY_LINES}
use Rattle.ftp_replies.specs.declared.reply.ReplyRead.{ReplyRead}
use Rattle.ftp_replies.specs.declared.reply.ReplyRead.TheVariants.{Whole, More, Bad}

-- the three digits of a code below 1000
abbrev pub code_text : ℕ → List ℕ
code_text code = (48 + code / 100) ∷ (48 + code / 10 % 10) ∷ (48 + code % 10) ∷ []

-- what the first of several lines begins with
abbrev pub opening : ℕ → List ℕ
opening code = code_text code ++ codes "-"

-- what the last line begins with
abbrev pub closing : ℕ → List ℕ
closing code = code_text code ++ codes " "

-- one line behind its code, or lines from the opening up to the first one that begins with the closing
pub record IsReply (code : ℕ) (bytes : List ℕ) : Type 0 where
  pub small : code < 1000
  pub front : List (List ℕ)
  pub last : List ℕ
  pub is : bytes ≡ concat (front ++ last ∷ [])
  pub lines : All IsReplyLine (front ++ last ∷ [])
  pub few : length front < MAX_REPLY_LINES
  pub opens : IfSome (slice_get front 0) (BeginsWithText (opening code))
  pub between : All (λ line. BeginsWithText (closing code) line → ⊥) front
  pub closes : BeginsWithText (closing code) last

-- the first `used` bytes are a reply of this code
abbrev pub BeginsWithReply : List ℕ → ℕ → ℕ → Type 0
BeginsWithReply bytes code used = (used ≤ length bytes) × IsReply code (take used bytes)

-- no reply stands at the front, and some bytes behind these make one
abbrev pub IsReplyDue : List ℕ → Type 0
IsReplyDue bytes = ((code used : ℕ) → BeginsWithReply bytes code used → ⊥)
    × ((code : ℕ) × (behind : List ℕ) × IsReply code (bytes ++ behind))

-- no reply stands at the front, and no bytes behind these make one
abbrev pub HasNoReply : List ℕ → Type 0
HasNoReply bytes = ((code used : ℕ) → BeginsWithReply bytes code used → ⊥)
    × ((code : ℕ) (behind : List ℕ) → IsReply code (bytes ++ behind) → ⊥)

abbrev pub AnswersReply : List ℕ → ReplyRead → Type 0
AnswersReply bytes (Whole code used) = BeginsWithReply bytes code used
AnswersReply bytes More = IsReplyDue bytes
AnswersReply bytes Bad = HasNoReply bytes
