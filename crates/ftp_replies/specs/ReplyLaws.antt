-- Laws of the reply at the front of a stream, as far as the stream has come, and of what a line tells.
use Rattle.std.specs.Prelude.{◌≡◌, ℕ, ◌*◌, ◌<◌, ◌≤◌, List, ◌++◌, length, take}
use Rattle.ftp_replies.specs.Addresses.{TellsPort}
use Rattle.ftp_replies.specs.Sizes.{TellsSize}
use Rattle.ftp_replies.specs.Replies.{IsReply, BeginsWithReply, IsReplyDue, HasNoReply}
use Rattle.ftp_replies.specs.declared.limits.TheConstants.{MAX_LINE_BYTES, MAX_REPLY_LINES}

-- bytes begin with one reply at most
abbrev pub HasOneReply : Type 0
HasOneReply = (bytes : List ℕ) (code other used more : ℕ)
    → BeginsWithReply bytes code used → BeginsWithReply bytes other more → (code ≡ other) × (used ≡ more)

-- a reply stays, whatever follows
abbrev pub ReplyStays : Type 0
ReplyStays = (bytes more : List ℕ) (code used : ℕ)
    → BeginsWithReply bytes code used → BeginsWithReply (bytes ++ more) code used

-- what is no reply stays none, whatever follows
abbrev pub NoReplyStays : Type 0
NoReplyStays = (bytes more : List ℕ) → HasNoReply bytes → HasNoReply (bytes ++ more)

-- where a reply is due, it was due before
abbrev pub FrontOfReplyIsDue : Type 0
FrontOfReplyIsDue = (bytes more : List ℕ) → IsReplyDue (bytes ++ more) → IsReplyDue bytes

-- before its last byte has come a reply is due
abbrev pub ReplyComesWhole : Type 0
ReplyComesWhole = (bytes : List ℕ) (code used : ℕ)
    → BeginsWithReply bytes code used → (n : ℕ) → n < used → IsReplyDue (take n bytes)

-- a reply has no more bytes than its lines may have
abbrev pub ReplyIsShort : Type 0
ReplyIsShort = (bytes : List ℕ) (code : ℕ)
    → IsReply code bytes → length bytes ≤ MAX_REPLY_LINES * MAX_LINE_BYTES

-- a line tells one size
abbrev pub HasOneSize : Type 0
HasOneSize = (line : List ℕ) (size other : ℕ) → TellsSize line size → TellsSize line other → size ≡ other

-- a line tells one port
abbrev pub HasOnePort : Type 0
HasOnePort = (line : List ℕ) (port other : ℕ) → TellsPort line port → TellsPort line other → port ≡ other
