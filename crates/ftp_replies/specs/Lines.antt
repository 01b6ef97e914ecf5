-- Lines of a reply (RFC 959 section 4.2). The limit on their bytes is this crate's own.
use Rattle.std.specs.Prelude.{◌≡◌, ℕ, ◌≤◌, List, [], ◌++◌, length, codes}
use Rattle.ftp_replies.specs.declared.limits.TheConstants.{MAX_LINE_BYTES}

-- CR LF
abbrev pub line_end : List ℕ
line_end = codes "\r\n"

-- text up to the first CR LF, and that
pub record IsReplyLine (line : List ℕ) : Type 0 where
  pub text : List ℕ
  pub is : line ≡ text ++ line_end
  pub few : length line ≤ MAX_LINE_BYTES
  pub first : (front behind : List ℕ) → line ≡ (front ++ line_end) ++ behind → behind ≡ []
