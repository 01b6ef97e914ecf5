-- What came of the parts of resources, by the streams of one link that were used for them, the oldest first.
use Rattle.std.specs.Prelude.{◌≡◌, ◌≢◌, ◌⊎◌, ℕ, List, [], ◌∷◌, ◌++◌, Option, Some, None}
use Rattle.link_source.specs.Exchanges.{Exchange}
use Rattle.span_map.specs.declared.jobs.JobPart.{JobPart}
use Rattle.request_chain.specs.Fetched.{Fetched as FetchedByRequests}
use Rattle.request_chain.specs.Plans.{FetchEnding, Done}
use Rattle.ftp_fetches.specs.Dialogues.{FtpFetched}
use Rattle.ftp_places.specs.Places.{ftp_place}
use Rattle.ftp_places.specs.declared.place.FtpPlace.{FtpPlace}

-- By a dialogue about a file on an FTP server, or by requests for ranges.
abbrev pub FetchedAt : Option FtpPlace → JobPart → List Exchange → List ℕ → FetchEnding → List Exchange → Type 0
FetchedAt None part streams bytes ending rest = FetchedByRequests (part ∷ []) streams bytes ending rest
FetchedAt (Some place) part streams bytes ending rest = FtpFetched place part streams bytes ending rest

-- Of one part, over these streams: the bytes that came, in order, how it ended, and the streams behind the last that was
-- used, which there are only where all came. Its URL says by what it is asked for.
unfoldable pub FetchedPart : JobPart → List Exchange → List ℕ → FetchEnding → List Exchange → Type 0
FetchedPart part streams bytes ending rest = FetchedAt (ftp_place part.url) part streams bytes ending rest

-- So of all parts, one after the other: the first one that isn't done is the last of which anything is asked.
abbrev pub Fetched : List JobPart → List Exchange → List ℕ → FetchEnding → List Exchange → Type 0
Fetched [] streams bytes ending rest = (bytes ≡ []) × (ending ≡ Done) × (rest ≡ streams)
Fetched (part ∷ parts) streams bytes ending rest =
    (FetchedPart part streams bytes ending rest × (ending ≢ Done))
    ⊎ ((own more : List ℕ) × (left : List Exchange) × FetchedPart part streams own Done left × (bytes ≡ own ++ more)
    × Fetched parts left more ending rest)

-- what the streams tell where these bytes were brought: waiting is what came behind them and wasn't used yet
pub record AreBrought (parts : List JobPart) (used : List Exchange) (bytes waiting : List ℕ) : Type 0 where
  pub ending : FetchEnding
  pub fetched : Fetched parts used (bytes ++ waiting) ending []

-- By the first of the parts these streams brought these bytes: whatever comes of the others comes behind them.
abbrev pub LeadOn : List JobPart → List Exchange → List ℕ → List JobPart → Type 0
LeadOn parts used bytes others = (streams rest : List Exchange) (more : List ℕ) (ending : FetchEnding)
    → Fetched others streams more ending rest → Fetched parts (used ++ streams) (bytes ++ more) ending rest
