-- What is fetched of a job.
use Rattle.std.specs.Prelude.{◌≡◌, ◌≢◌, ◌⊎◌, ◌<◌, ◌≤◌, ℕ, ◌+◌, ◌-◌, List, [], ◌++◌, length, Option, Some, None, IsSome, true}
use Rattle.dl_kinds.specs.declared.plan.Plan.{Plan}
use Rattle.dl_kinds.specs.declared.runs.Run.{Run}
use Rattle.link_source.specs.Link.{LinkState}
use Rattle.link_source.specs.Exchanges.{Exchange}
use Rattle.span_map.specs.declared.jobs.Job.{Job}
use Rattle.span_map.specs.declared.jobs.JobPart.{JobPart}
use Rattle.reply_reader.specs.declared.loss.Loss.{Loss}
use Rattle.reply_reader.specs.declared.loss.Loss.TheVariants.{NoMemory}
use Rattle.request_chain.specs.Chains.{Gains, received_by}
use Rattle.request_chain.specs.Plans.{FetchEnding, Done, Lost}
use Rattle.request_chain.specs.Rests.{LetsGo, RestsOn, RestsWhole}
use Rattle.part_fetches.specs.Fetched.{AreBrought, Fetched}
use Rattle.part_fetches.specs.Losses.{TellsLoss}
use Rattle.fetch_session.specs.declared.blocks.TheConstants.{MOST_READY}
use Rattle.fetch_session.specs.Blocks.{cut, ready_blocks}
use Rattle.span_map.specs.Jobs.{IsJob, parts_len, run_start}
use Rattle.fetch_session.specs.declared.fetch.Fetch.{Fetch}
use Rattle.fetch_session.specs.declared.fetch.Got.{Got}
use Rattle.fetch_session.specs.declared.room.FetchRoom.{FetchRoom}
use Rattle.fetch_session.specs.declared.source.Source.{Source}
use Rattle.fetch_session.specs.Sources.{rests_at, IsSource, MayReadAt, RestsAt, RestsWholeAt, SourceAsks}

abbrev pub fetch_plan : Fetch → Plan
fetch_plan fetch = fetch.plan

-- the blocks that weren't handed out
abbrev pub rest_of : Fetch → Run
rest_of fetch = record { first = fetch.ready.first; count = fetch.end - fetch.ready.first }

-- those of them that are ready
abbrev pub ready_of : Fetch → Run
ready_of fetch = fetch.ready

-- the loss that it holds back, or has told
abbrev pub lost_of : Fetch → Option Loss
lost_of fetch = fetch.lost

-- behind these ready blocks the loss may be held back
abbrev pub IsHeldBack : Run → Loss → Type 0
IsHeldBack ready loss = (0 < ready.count) × (loss ≢ NoMemory)

-- where a fetch with this room would go on over the connection of the one before, the link is still open there
abbrev pub MayBegin : FetchRoom → LinkState → Type 0
MayBegin room link = RestsOn room.rooms.chain link

-- where a step would go on with a reply or over that connection, the link is open there
pub record MayStep (fetch : Fetch) (link : LinkState) : Type 0 where
  pub steps : lost_of fetch ≡ None → (ready_of fetch).count < (rest_of fetch).count → MayReadAt fetch.source.reader link
  pub rests : lost_of fetch ≡ None → RestsAt fetch.source.reader link

-- the link is closed, or the next fetch may go on over its connection
abbrev pub IsLetGo : Fetch → LinkState → Type 0
IsLetGo fetch link = (link.peer ≡ None) ⊎ (rests_at fetch.source.reader ≡ true)

-- so behind a probe
abbrev pub IsLeftTo : FetchRoom → LinkState → Type 0
IsLeftTo room link = LetsGo room.rooms.chain link

-- The fetch keeps a connection only behind a reply that was read whole, that of the newest of these exchanges.
abbrev pub KeepsBehindWhole : Fetch → List Exchange → Type 0
KeepsBehindWhole fetch exchanges = RestsWholeAt fetch.source.reader exchanges

-- so the room of the next fetch
abbrev pub IsKeptBehindWhole : FetchRoom → List Exchange → Type 0
IsKeptBehindWhole room exchanges = RestsWhole room.rooms.chain exchanges

-- the next request of the fetch is for this URL
abbrev pub AsksNext : Fetch → List ℕ → Type 0
AsksNext fetch url = SourceAsks fetch.source url

-- the second buffer may have come in, and nothing else changed
pub record SameButSpare (old new : Fetch) : Type 0 where
  pub plan : new.plan ≡ old.plan
  pub end_is : new.end ≡ old.end
  pub ready : new.ready ≡ old.ready
  pub source : new.source ≡ old.source
  pub held : new.held ≡ old.held
  pub lost : new.lost ≡ old.lost

-- more bytes than these are to come
abbrev pub IsShort : List JobPart → List ℕ → Type 0
IsShort parts bytes = length bytes < parts_len parts

-- The source brings more behind these bytes, which the streams tell.
pub record BringsMore (parts : List JobPart) (used : List Exchange) (bytes : List ℕ) (source : Source) : Type 0 where
  pub short : IsShort parts bytes
  pub source_is : IsSource parts used bytes source
  pub waiting : List ℕ
  pub brought : AreBrought parts used bytes waiting

-- these bytes came over these streams: all, or the source brings more, or the rest is lost
abbrev pub HasCome : List JobPart → List Exchange → List ℕ → Option Loss → Source → Type 0
HasCome parts used bytes None source = Fetched parts used bytes Done [] ⊎ BringsMore parts used bytes source
HasCome parts used bytes (Some loss) source = IsShort parts bytes × ((count : ℕ) × TellsLoss parts used bytes count loss)

-- The fetch of the job used these streams, the oldest first, and handed out these bytes of it.
pub record IsFetch (job : Job) (used : List Exchange) (handed : List ℕ) (fetch : Fetch) : Type 0 where
  pub is_job : IsJob job
  pub plan_is : fetch.plan ≡ job.plan
  pub end_is : fetch.end ≡ job.run.first + job.run.count
  pub begun : job.run.first ≤ fetch.ready.first
  pub handed_is : run_start job.plan job.run + length handed ≡ cut job.plan fetch.ready.first
  pub came : HasCome job.parts used (handed ++ fetch.held.items) fetch.lost fetch.source
  pub all : (rest_of fetch).count ≡ 0 → Fetched job.parts used handed Done []

-- the streams tell the bytes that were handed out, and more behind them
pub record IsFrontOfFetched (parts : List JobPart) (used : List Exchange) (handed : List ℕ) : Type 0 where
  pub behind : List ℕ
  pub ending : FetchEnding
  pub fetched : Fetched parts used (handed ++ behind) ending []

-- what a fetch handed out is at the front of what its streams tell, unless memory ran out
abbrev pub HandedIsFetched : Type 0
HandedIsFetched = (job : Job) (used : List Exchange) (handed : List ℕ) (fetch : Fetch)
    → IsFetch job used handed fetch → lost_of fetch ≢ Some NoMemory → IsFrontOfFetched job.parts used handed

-- A step ends where this many blocks are ready, where so many bytes came as are allowed, or where it holds back a loss.
abbrev pub IsStopped : ℕ → Got → Option Loss → Type 0
IsStopped allow got lost = (got.ready.count ≡ MOST_READY) ⊎ (got.taken ≡ allow) ⊎ IsSome lost

-- What a step gained: came is what came and wasn't handed out.
pub record FetchSteps (job : Job) (before used : List Exchange) (handed : List ℕ) (now : List Exchange) (allow : ℕ) (got : Got) (new : Fetch) : Type 0 where
  pub later : List Exchange
  pub gains : Gains before now later
  pub is_fetch : IsFetch job later handed new
  pub came : List ℕ
  pub ending : FetchEnding
  pub fetched : Fetched job.parts later (handed ++ came) ending []
  pub ready : got.ready ≡ ready_blocks job.plan job.run (length handed) (length handed + length came)
  pub done : got.done ≡ true → ending ≡ Done
  pub taken : received_by later ≡ received_by used + got.taken
  pub few : got.taken ≤ allow
  pub full : (got.done ≡ true) ⊎ IsStopped allow got (lost_of new)
  -- a loss that the streams tell is held back, unless the step stopped before it
  pub lost : (loss : Loss) → ending ≡ Lost loss → (lost_of new ≡ Some loss) ⊎ (got.ready.count ≡ MOST_READY) ⊎ (got.taken ≡ allow)

-- What a step gained that lost the rest: no whole block came that wasn't handed out.
pub record Fails (job : Job) (before used : List Exchange) (handed : List ℕ) (now : List Exchange) (allow : ℕ) (loss : Loss) (new : Fetch) : Type 0 where
  pub later : List Exchange
  pub gains : Gains before now later
  pub is_fetch : IsFetch job later handed new
  pub more : received_by used ≤ received_by later
  pub few : received_by later ≤ received_by used + allow
  pub came : List ℕ
  pub none_whole : (ready_blocks job.plan job.run (length handed) (length handed + length came)).count ≡ 0
  pub count : ℕ
  pub tells : TellsLoss job.parts later (handed ++ came) count loss
