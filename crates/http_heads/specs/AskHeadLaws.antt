-- Laws of the head at the front of what a client sends, as far as it has come.
use Rattle.std.specs.Prelude.{◌≡◌, ℕ, ◌<◌, ◌≤◌, List, ◌++◌, length, take}
use Rattle.http_heads.specs.declared.ask_head.AskHead.{AskHead}
use Rattle.http_heads.specs.AskHeads.{IsAskHead, IsAskUnfinished, IsNoAskHead}

-- bytes begin with one head at most
abbrev pub HasOneAskHead : Type 0
HasOneAskHead = (bytes : List ℕ) (head other : AskHead) (used more : ℕ)
    → IsAskHead bytes head used → IsAskHead bytes other more → (head ≡ other) × (used ≡ more)

-- a head stays, whatever follows
abbrev pub AskHeadStays : Type 0
AskHeadStays = (bytes more : List ℕ) (head : AskHead) (used : ℕ) → IsAskHead bytes head used → IsAskHead (bytes ++ more) head used

-- what is no head stays none, whatever follows
abbrev pub NoAskHeadStays : Type 0
NoAskHeadStays = (bytes more : List ℕ) → IsNoAskHead bytes → IsNoAskHead (bytes ++ more)

-- bytes that begin with a head aren't the front of one
abbrev pub AskHeadIsFinished : Type 0
AskHeadIsFinished = (bytes : List ℕ) (head : AskHead) (used : ℕ) → IsAskHead bytes head used → IsAskUnfinished bytes → ⊥

-- the front of an unfinished head is one too
abbrev pub FrontOfAskIsUnfinished : Type 0
FrontOfAskIsUnfinished = (bytes more : List ℕ) → IsAskUnfinished (bytes ++ more) → IsAskUnfinished bytes

-- a head that takes no more than the front stands in the front
abbrev pub AskHeadStoodBefore : Type 0
AskHeadStoodBefore = (bytes more : List ℕ) (head : AskHead) (used : ℕ) → IsAskHead (bytes ++ more) head used → used ≤ length bytes
    → IsAskHead bytes head used

-- a head stands once its last byte has come, and before that it is unfinished
abbrev pub AskHeadComesWhole : Type 0
AskHeadComesWhole = (bytes : List ℕ) (head : AskHead) (used : ℕ) → IsAskHead bytes head used
    → (used ≤ length bytes) × IsAskHead (take used bytes) head used × ((n : ℕ) → n < used → IsAskUnfinished (take n bytes))
