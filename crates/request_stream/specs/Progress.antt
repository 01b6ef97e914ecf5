-- How far the request at the front of bytes was read.
use Rattle.std.specs.Prelude.{ℕ, ◌<◌, ◌≤◌, List, ◌++◌, length, take, ⊤}
use Rattle.request_stream.specs.HeadParts.{EndsIn}
use Rattle.request_stream.specs.Next.{IsUnfinishedRequest}
use Rattle.request_stream.specs.declared.progress.RequestProgress.{RequestProgress}
use Rattle.request_stream.specs.declared.progress.RequestProgress.TheVariants.{Unread, InHead, InContent}

-- the request is unfinished until so many bytes have come, whatever they are
abbrev pub LastsUntil : ℕ → List ℕ → ℕ → Type 0
LastsUntil most bytes until =
    (more : List ℕ) → length (bytes ++ more) < until → IsUnfinishedRequest most (bytes ++ more)

-- what is known of the bytes
abbrev pub IsReadUpTo : ℕ → List ℕ → RequestProgress → Type 0
IsReadUpTo most bytes Unread = ⊤
IsReadUpTo most bytes (InHead read part) = (read ≤ length bytes) × EndsIn part (take read bytes)
IsReadUpTo most bytes (InContent until) = LastsUntil most bytes until

-- .. is known of them whatever follows
abbrev pub ProgressStays : Type 0
ProgressStays = (most : ℕ) (bytes more : List ℕ) (progress : RequestProgress)
    → IsReadUpTo most bytes progress → IsReadUpTo most (bytes ++ more) progress

-- the request is unfinished, and so far it was read
pub record IsUnfinishedAt (most : ℕ) (bytes : List ℕ) (progress : RequestProgress) : Type 0 where
  pub unfinished : IsUnfinishedRequest most bytes
  pub read : IsReadUpTo most bytes progress
