-- Laws of the head at the front of a stream, as far as the stream has come.
use Rattle.std.specs.Prelude.{◌≡◌, ℕ, ◌<◌, ◌≤◌, List, ◌++◌, length, take}
use Rattle.http_heads.specs.declared.head.Head.{Head}
use Rattle.http_heads.specs.Heads.{IsHead, IsUnfinished, IsNoHead}

-- bytes begin with one head at most
abbrev pub HasOneHead : Type 0
HasOneHead = (bytes : List ℕ) (head other : Head) (used more : ℕ)
    → IsHead bytes head used → IsHead bytes other more → (head ≡ other) × (used ≡ more)

-- a head stays, whatever follows
abbrev pub HeadStays : Type 0
HeadStays = (bytes more : List ℕ) (head : Head) (used : ℕ) → IsHead bytes head used → IsHead (bytes ++ more) head used

-- what is no head stays none, whatever follows
abbrev pub NoHeadStays : Type 0
NoHeadStays = (bytes more : List ℕ) → IsNoHead bytes → IsNoHead (bytes ++ more)

-- bytes that begin with a head aren't the front of one
abbrev pub HeadIsFinished : Type 0
HeadIsFinished = (bytes : List ℕ) (head : Head) (used : ℕ) → IsHead bytes head used → IsUnfinished bytes → ⊥

-- the front of an unfinished head is one too
abbrev pub FrontIsUnfinished : Type 0
FrontIsUnfinished = (bytes more : List ℕ) → IsUnfinished (bytes ++ more) → IsUnfinished bytes

-- a head that takes no more than the front stands in the front
abbrev pub HeadStoodBefore : Type 0
HeadStoodBefore = (bytes more : List ℕ) (head : Head) (used : ℕ) → IsHead (bytes ++ more) head used → used ≤ length bytes → IsHead bytes head used

-- a head stands once its last byte has come, and before that it is unfinished
abbrev pub HeadComesWhole : Type 0
HeadComesWhole = (bytes : List ℕ) (head : Head) (used : ℕ) → IsHead bytes head used
    → (used ≤ length bytes) × IsHead (take used bytes) head used × ((n : ℕ) → n < used → IsUnfinished (take n bytes))
