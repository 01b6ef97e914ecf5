-- What a look at the front of bytes answers.
use Rattle.std.specs.Prelude.{ℕ, ◌+◌, ◌<◌, ◌≤◌, Bool, List, length, slice_range, ⊤}
use Rattle.http_heads.specs.declared.limits.TheConstants.{MAX_HEAD_BYTES}
use Rattle.request_stream.specs.Requests.{served, turned_away, IsOneRequest}
use Rattle.request_stream.specs.Streams.{HasNoWholeRequest}
use Rattle.request_stream.specs.declared.next.NextRequest.{NextRequest}
use Rattle.request_stream.specs.declared.next.NextRequest.TheVariants.{Served, TurnedAway, More, NoMemory}

-- a request that is served, whose content stands between these places
pub record IsServedBetween (most : ℕ) (bytes : List ℕ) (from used : ℕ) (last : Bool) : Type 0 where
  pub ordered : from ≤ used
  pub within : used ≤ length bytes
  pub is : IsOneRequest most bytes (served (slice_range bytes from used) last) used

-- no whole request, and fewer bytes than a head and a content may take together
pub record IsUnfinishedRequest (most : ℕ) (bytes : List ℕ) : Type 0 where
  pub none : HasNoWholeRequest most bytes
  pub few : length bytes < MAX_HEAD_BYTES + most

abbrev pub IsNextRequest : ℕ → List ℕ → NextRequest → Type 0
IsNextRequest most bytes (Served from used last) = IsServedBetween most bytes from used last
IsNextRequest most bytes (TurnedAway refusal) = (used : ℕ) × IsOneRequest most bytes (turned_away refusal) used
IsNextRequest most bytes More = IsUnfinishedRequest most bytes
IsNextRequest most bytes NoMemory = ⊤
