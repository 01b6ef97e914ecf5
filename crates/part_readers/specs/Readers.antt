-- How far one part is read.
use Rattle.std.specs.Prelude.{◌≡◌, ◌⊎◌, ◌<◌, ◌≤◌, ℕ, ◌+◌, Bool, true, false, List, [], ◌∷◌, ◌++◌, length, Some, None, Result, MatchResult, ⊤}
use Rattle.link_source.specs.Endpoint.{IsUsable}
use Rattle.link_source.specs.Link.{LinkState}
use Rattle.link_source.specs.Exchanges.{Exchange}
use Rattle.span_map.specs.declared.jobs.JobPart.{JobPart}
use Rattle.reply_reader.specs.declared.loss.Loss.{Loss}
use Rattle.reply_reader.specs.declared.loss.Loss.TheVariants as losses
use Rattle.request_chain.specs.Chains.{Gains, HasBrought, IsChain, received_by}
use Rattle.request_chain.specs.Plans.{FetchEnding, Done, Open, Lost}
use Rattle.request_chain.specs.Rests.{IsOpenTo, TopIsWhole}
use Rattle.request_chain.specs.Turns.{AsksFor, MayGoOn}
use Rattle.request_chain.specs.declared.chain.ChainRead.{ChainRead}
use Rattle.ftp_fetches.specs.Dialogues.{FtpFetched}
use Rattle.ftp_link.specs.Talks.{IsTalk, MayTalk}
use Rattle.ftp_places.specs.Places.{ftp_place}
use Rattle.ftp_places.specs.declared.place.FtpPlace.{FtpPlace}
use Rattle.part_fetches.specs.Fetched.{FetchedPart}
use Rattle.part_readers.specs.declared.reader.PartReader.{PartReader}
use Rattle.part_readers.specs.declared.reader.PartReader.TheVariants.{Http, Ftp}

-- So far: these streams were used for the part and brought these bytes of it, and waiting is what came behind them.
abbrev pub IsReading : JobPart → List Exchange → List ℕ → List ℕ → PartReader → Type 0
IsReading part used bytes waiting (Http chain room) =
    (ftp_place part.url ≡ None) × IsChain (part ∷ []) used bytes chain × HasBrought (part ∷ []) used bytes waiting
IsReading part used bytes waiting (Ftp talk room) =
    (place : FtpPlace) × (ftp_place part.url ≡ Some place) × IsTalk place part used bytes talk × (waiting ≡ [])
    × ((ending : FetchEnding) × FtpFetched place part used bytes ending [])

-- the next request is for this URL
abbrev pub ReaderAsks : PartReader → List ℕ → Type 0
ReaderAsks (Http chain room) url = AsksFor chain url
ReaderAsks (Ftp talk room) url = ⊥

-- P, where the next request is for a URL that can't be asked
abbrev pub IfUnusableBy : PartReader → Type 0 → Type 0
IfUnusableBy reader P = (url : List ℕ) → ReaderAsks reader url → (IsUsable url → ⊥) → P

-- where it would go on with a reply, with data, or over the connection that is open, the link is open there
abbrev pub MayReadBy : PartReader → LinkState → Type 0
MayReadBy (Http chain room) link = MayGoOn chain link
MayReadBy (Ftp talk room) link = MayTalk talk link

-- whether the connection may take another request
abbrev pub rests_by : PartReader → Bool
rests_by (Http chain room) = chain.room.rests
rests_by (Ftp talk room) = false

-- how many bytes came from the link in the last read
abbrev pub taken_by : PartReader → ℕ
taken_by (Http chain room) = chain.taken
taken_by (Ftp talk room) = talk.taken

-- the connection is kept only behind a reply that was read whole, that of the newest of these exchanges
abbrev pub RestsWholeBy : PartReader → List Exchange → Type 0
RestsWholeBy reader exchanges = rests_by reader ≡ true → TopIsWhole exchanges

-- where it would ask over that connection, the link is open there
abbrev pub RestsOnBy : PartReader → LinkState → Type 0
RestsOnBy (Http chain room) link = chain.room.rests ≡ true → IsOpenTo chain.room.peer link
RestsOnBy (Ftp talk room) link = ⊤

-- P of the part, the exchanges before the reader and those that it used, and the bytes that it brought
abbrev pub ForEachPart : PartReader → LinkState → (JobPart → List Exchange → List Exchange → List ℕ → Type 0) → Type 0
ForEachPart reader link P = (part : JobPart) (before used : List Exchange) (bytes waiting : List ℕ)
    → IsReading part used bytes waiting reader → Gains before link.exchanges used → P part before used bytes

-- ---- what a read gains

pub record ReadsPart (part : JobPart) (before used : List Exchange) (bytes : List ℕ) (now : List Exchange) (added : List ℕ) (room allow : ℕ) (read : ChainRead) (reader : PartReader) : Type 0 where
  pub later : List Exchange
  pub gains : Gains before now later
  pub waiting : List ℕ
  -- bytes wait only where there was no room for them
  pub none_waits : length added < room → waiting ≡ []
  pub taken : received_by later ≡ received_by used + read.taken
  pub few : read.taken ≤ allow
  pub full : (read.done ≡ true) ⊎ (length added ≡ room) ⊎ (read.taken ≡ allow)
  pub goes_on : (read.done ≡ true) ⊎ IsReading part later (bytes ++ added) waiting reader
  pub done : read.done ≡ true → FetchedPart part later (bytes ++ added) Done []

-- what each loss says of the streams that were used, where so many faults of the link are counted now
abbrev pub TellsPartLoss : JobPart → List Exchange → List ℕ → ℕ → Loss → Type 0
TellsPartLoss part used bytes faults (losses.Link count) = FetchedPart part used bytes Open [] × (count ≡ faults)
TellsPartLoss part used bytes faults losses.NoMemory = Unit {0}
TellsPartLoss part used bytes faults loss = FetchedPart part used bytes (Lost loss) []

pub record LosesPart (part : JobPart) (before used : List Exchange) (bytes : List ℕ) (now : List Exchange) (added : List ℕ) (allow taken faults : ℕ) (loss : Loss) : Type 0 where
  pub later : List Exchange
  pub gains : Gains before now later
  pub taken_is : received_by later ≡ received_by used + taken
  pub few : taken ≤ allow
  pub tells : TellsPartLoss part later (bytes ++ added) faults loss

-- the part was read on by these bytes, or the rest was lost
abbrev pub ReadsOrLosesPart : JobPart → List Exchange → List Exchange → List ℕ → List ℕ → ℕ → ℕ → Result ChainRead Loss → PartReader → ℕ → LinkState → ℕ → Type 0
ReadsOrLosesPart part before used bytes added room allow result new taken link faults = MatchResult result
    (λ read. ReadsPart part before used bytes link.exchanges added room allow read new)
    (λ loss. LosesPart part before used bytes link.exchanges added allow taken faults loss)
