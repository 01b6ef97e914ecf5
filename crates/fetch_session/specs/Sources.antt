-- How far the parts of a fetch are read.
use Rattle.std.specs.Prelude.{◌≡◌, ◌⊎◌, ◌<◌, ◌≤◌, ℕ, ◌+◌, Bool, true, false, List, [], ◌∷◌, ◌++◌, length, drop, Option, Some, None, Result, MatchResult, ⊤}
use Rattle.link_source.specs.Endpoint.{IsUsable}
use Rattle.link_source.specs.Link.{LinkState}
use Rattle.link_source.specs.Exchanges.{Exchange}
use Rattle.span_map.specs.declared.jobs.JobPart.{JobPart}
use Rattle.reply_reader.specs.declared.loss.Loss.{Loss}
use Rattle.request_chain.specs.Chains.{Gains, received_by}
use Rattle.request_chain.specs.Plans.{Done}
use Rattle.request_chain.specs.Rests.{RestsOn, TopIsWhole}
use Rattle.request_chain.specs.declared.chain.ChainRead.{ChainRead}
use Rattle.part_fetches.specs.Fetched.{AreBrought, Fetched, LeadOn}
use Rattle.part_fetches.specs.Losses.{TellsLoss}
use Rattle.part_readers.specs.Readers.{rests_by, IsReading, MayReadBy, ReaderAsks, RestsOnBy}
use Rattle.fetch_session.specs.declared.source.Reader.{Reader}
use Rattle.fetch_session.specs.declared.source.Reader.TheVariants.{Next, Part}
use Rattle.fetch_session.specs.declared.source.Source.{Source}

-- Of the parts that are left the first one is read so far: these streams were used for it and brought these bytes of it,
-- and waiting is what came behind them.
abbrev pub IsAtPart : Option Reader → List JobPart → List Exchange → List ℕ → List ℕ → Type 0
IsAtPart None parts used bytes waiting = ⊥
IsAtPart (Some (Next rooms)) parts used bytes waiting = (used ≡ []) × (bytes ≡ []) × (waiting ≡ [])
IsAtPart (Some (Part reader)) [] used bytes waiting = ⊥
IsAtPart (Some (Part reader)) (part ∷ parts) used bytes waiting = IsReading part used bytes waiting reader

-- These streams brought these bytes of the parts: the older ones all of the parts before the next one.
pub record IsSource (parts : List JobPart) (used : List Exchange) (bytes : List ℕ) (source : Source) : Type 0 where
  pub parts_are : source.parts ≡ parts
  pub older : List Exchange
  pub newer : List Exchange
  pub used_is : used ≡ older ++ newer
  pub front : List ℕ
  pub own : List ℕ
  pub bytes_are : bytes ≡ front ++ own
  pub leads : LeadOn parts older front (drop source.place parts)
  pub waiting : List ℕ
  pub at : IsAtPart source.reader (drop source.place parts) newer own waiting

-- the next request is for this URL: that of a part of which nothing is asked yet, or what its reader asks
abbrev pub AsksPart : Option Reader → List JobPart → List ℕ → Type 0
AsksPart None parts url = ⊥
AsksPart (Some (Next rooms)) [] url = ⊥
AsksPart (Some (Next rooms)) (part ∷ parts) url = part.url ≡ url
AsksPart (Some (Part reader)) [] url = ⊥
AsksPart (Some (Part reader)) (part ∷ parts) url = ReaderAsks reader url

abbrev pub SourceAsks : Source → List ℕ → Type 0
SourceAsks source url = AsksPart source.reader (drop source.place source.parts) url

-- P, where the next request is for a URL that can't be asked
abbrev pub IfUnusableNext : Source → Type 0 → Type 0
IfUnusableNext source P = (url : List ℕ) → SourceAsks source url → (IsUsable url → ⊥) → P

-- where it would go on with a reply, with data, or over the connection that is open, the link is open there
abbrev pub MayReadAt : Option Reader → LinkState → Type 0
MayReadAt None link = ⊤
MayReadAt (Some (Next rooms)) link = RestsOn rooms.chain link
MayReadAt (Some (Part reader)) link = MayReadBy reader link

-- whether the connection may take another request
abbrev pub rests_at : Option Reader → Bool
rests_at None = false
rests_at (Some (Next rooms)) = rooms.chain.rests
rests_at (Some (Part reader)) = rests_by reader

-- where it would ask over that connection, the link is open there
abbrev pub RestsAt : Option Reader → LinkState → Type 0
RestsAt None link = ⊤
RestsAt (Some (Next rooms)) link = RestsOn rooms.chain link
RestsAt (Some (Part reader)) link = RestsOnBy reader link

-- the connection is kept only behind a reply that was read whole, that of the newest of these exchanges
abbrev pub RestsWholeAt : Option Reader → List Exchange → Type 0
RestsWholeAt reader exchanges = rests_at reader ≡ true → TopIsWhole exchanges

-- the part that is next is asked for
abbrev pub IsBegun : Option Reader → Type 0
IsBegun None = ⊥
IsBegun (Some (Next rooms)) = ⊥
IsBegun (Some (Part reader)) = ⊤

-- the next part is next behind one that came, and else the part is the same
abbrev pub MovesOn : Source → Source → Bool → Type 0
MovesOn old new came = ((came ≡ true) × (new.place ≡ old.place + 1)) ⊎ ((came ≡ false) × (new.place ≡ old.place))

-- P of the parts that the source has, the exchanges before it and those that it used, and the bytes that it brought
abbrev pub ForEachRead : Source → LinkState → (List JobPart → List Exchange → List Exchange → List ℕ → Type 0) → Type 0
ForEachRead source link P = (parts : List JobPart) (before used : List Exchange) (bytes : List ℕ)
    → IsSource parts used bytes source → Gains before link.exchanges used → P parts before used bytes

-- ---- what a call gains

-- The state after a step that began with `was` bytes received, had so much room, and might take so many bytes in all. The
-- answer is whether the part came.
pub record StepsOn (parts : List JobPart) (before used : List Exchange) (bytes : List ℕ) (now : List Exchange) (added : List ℕ) (room allow was : ℕ) (new : Source) (came : Bool) : Type 0 where
  pub later : List Exchange
  pub gains : Gains before now later
  pub taken_is : received_by later + was ≡ received_by used + new.taken
  pub source_is : IsSource parts later (bytes ++ added) new
  -- bytes wait only where there was no room for them
  pub waits : (source_is.waiting ≡ []) ⊎ (room ≤ length added)
  pub full : came ≡ false → (length added ≡ room) ⊎ (new.taken ≡ allow)

-- the same, where the rest was lost
pub record LosesStep (parts : List JobPart) (before used : List Exchange) (bytes : List ℕ) (now : List Exchange) (added : List ℕ) (was faults : ℕ) (new : Source) (loss : Loss) : Type 0 where
  pub later : List Exchange
  pub gains : Gains before now later
  pub taken_is : received_by later + was ≡ received_by used + new.taken
  pub tells : TellsLoss parts later (bytes ++ added) faults loss

abbrev pub StepsOrLosesOn : List JobPart → List Exchange → List Exchange → List ℕ → List ℕ → ℕ → ℕ → ℕ → Result Bool Loss → Source → LinkState → ℕ → Type 0
StepsOrLosesOn parts before used bytes added room allow was result new link faults = MatchResult result
    (λ came. StepsOn parts before used bytes link.exchanges added room allow was new came)
    (LosesStep parts before used bytes link.exchanges added was faults new)

-- what was gained by a read
pub record ReadsParts (parts : List JobPart) (before used : List Exchange) (bytes : List ℕ) (now : List Exchange) (added : List ℕ) (room allow : ℕ) (read : ChainRead) (source : Source) : Type 0 where
  pub later : List Exchange
  pub gains : Gains before now later
  pub waiting : List ℕ
  pub brought : AreBrought parts later (bytes ++ added) waiting
  -- bytes wait only where there was no room for them
  pub none_waits : length added < room → waiting ≡ []
  pub taken : received_by later ≡ received_by used + read.taken
  pub few : read.taken ≤ allow
  pub full : (read.done ≡ true) ⊎ (length added ≡ room) ⊎ (read.taken ≡ allow)
  pub goes_on : IsSource parts later (bytes ++ added) source
  pub done : read.done ≡ true → Fetched parts later (bytes ++ added) Done []

-- what was gained by a read that lost the rest
pub record LosesParts (parts : List JobPart) (before used : List Exchange) (bytes : List ℕ) (now : List Exchange) (added : List ℕ) (allow faults : ℕ) (source : Source) (loss : Loss) : Type 0 where
  pub later : List Exchange
  pub gains : Gains before now later
  pub taken : received_by later ≡ received_by used + source.taken
  pub few : source.taken ≤ allow
  pub tells : TellsLoss parts later (bytes ++ added) faults loss

abbrev pub ReadsOrLosesParts : List JobPart → List Exchange → List Exchange → List ℕ → List ℕ → ℕ → ℕ → Result ChainRead Loss → Source → LinkState → ℕ → Type 0
ReadsOrLosesParts parts before used bytes added room allow result new link faults = MatchResult result
    (λ read. ReadsParts parts before used bytes link.exchanges added room allow read new)
    (LosesParts parts before used bytes link.exchanges added allow faults new)
