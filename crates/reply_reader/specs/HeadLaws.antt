-- Laws of the final head of a reply, as far as its stream has come.
use Rattle.std.specs.Prelude.{◌≡◌, ℕ, ◌≤◌, List, ◌++◌, length}
use Rattle.http_heads.specs.declared.head.Head.{Head}
use Rattle.reply_reader.specs.Heads.{IsHeadDue, HasFinalHead, HasNoFinalHead}

-- a stream has one final head at most
abbrev pub HasOneFinalHead : Type 0
HasOneFinalHead = (bytes : List ℕ) (head other : Head) (used more : ℕ)
    → HasFinalHead bytes head used → HasFinalHead bytes other more → (head ≡ other) × (used ≡ more)

-- a head that came isn't due
abbrev pub FinalHeadIsNotDue : Type 0
FinalHeadIsNotDue = (bytes : List ℕ) (head : Head) (used : ℕ) → HasFinalHead bytes head used → IsHeadDue bytes → ⊥

-- nor is it missing
abbrev pub FinalHeadIsThere : Type 0
FinalHeadIsThere = (bytes : List ℕ) (head : Head) (used : ℕ) → HasFinalHead bytes head used → HasNoFinalHead bytes → ⊥

-- a head that is due can still come
abbrev pub DueHeadMayCome : Type 0
DueHeadMayCome = (bytes : List ℕ) → IsHeadDue bytes → HasNoFinalHead bytes → ⊥

-- a final head stays, whatever follows
abbrev pub FinalHeadStays : Type 0
FinalHeadStays = (bytes more : List ℕ) (head : Head) (used : ℕ) → HasFinalHead bytes head used → HasFinalHead (bytes ++ more) head used

-- where no final head can come, none does, whatever follows
abbrev pub NoFinalHeadStays : Type 0
NoFinalHeadStays = (bytes more : List ℕ) → HasNoFinalHead bytes → HasNoFinalHead (bytes ++ more)

-- where the head is due, it was due before
abbrev pub FrontIsDue : Type 0
FrontIsDue = (bytes more : List ℕ) → IsHeadDue (bytes ++ more) → IsHeadDue bytes

-- the final head stands in the bytes that came
abbrev pub FinalHeadIsWithin : Type 0
FinalHeadIsWithin = (bytes : List ℕ) (head : Head) (used : ℕ) → HasFinalHead bytes head used → used ≤ length bytes

-- a final head that takes no more than the front stands in the front
abbrev pub FinalHeadStoodBefore : Type 0
FinalHeadStoodBefore = (bytes more : List ℕ) (head : Head) (used : ℕ)
    → HasFinalHead (bytes ++ more) head used → used ≤ length bytes → HasFinalHead bytes head used
