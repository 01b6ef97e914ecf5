-- What a worker has in hand between two turns, and how its link is, as plain data.
use Rattle.std.specs.Prelude.{◌≡◌, ◌⊎◌, ℕ, Bool, IsTrue, List, [], ◌++◌, ◌+◌, ◌-◌}
use Rattle.dl_kinds.specs.declared.gid.Gid.{Gid}
use Rattle.dl_kinds.specs.declared.runs.Run.{Run}
use Rattle.engine_turns.specs.declared.operations.FetchGrant.{FetchGrant}
use Rattle.link_source.specs.Exchanges.{Exchange}
use Rattle.link_source.specs.Link.{LinkState, closed}
use Rattle.link_source.specs.declared.Links.{Ghosts as LinkSays}
use Rattle.span_map.specs.declared.jobs.Job.{Job}
use Rattle.verify_piece.specs.Seals.{PieceBytes}
use Rattle.conn_worker.specs.declared.hands.Gain.{Gain}
use Rattle.conn_worker.specs.declared.hands.Gain.TheVariants.{Open}
use Rattle.conn_worker.specs.declared.hands.ProbeEnd.{ProbeEnd}

-- a link at one moment: its count of faults, and what it tells
pub record LinkAt : Type 0 where
  pub faults : ℕ
  pub state : LinkState

abbrev pub link_at : {L : Type 0} → LinkSays L → L → LinkAt
link_at {L} says link = record { faults = says.faults link; state = says.state link }

-- The link was hung up: it is open to nobody, and its exchanges and faults are as they were.
pub record IsHungUp (tells : Bool) (link link' : LinkAt) : Type 0 where
  pub faults : link'.faults ≡ link.faults
  pub state : IsTrue tells → link'.state ≡ closed link.state

-- the link is as it was, or was hung up
abbrev pub IsLeftAlone : Bool → LinkAt → LinkAt → Type 0
IsLeftAlone tells link link' = (link' ≡ link) ⊎ IsHungUp tells link link'

-- A fetch for a claim. The link was `since` at its grant, and the exchanges that it used since then are `used`, the oldest first.
-- The run and the bytes that were delivered are behind `rest` and `handed`. Of the bytes that turns granted so many are `left`.
pub record Fetching : Type 0 where
  pub claim : ℕ
  pub job : Job
  pub since : LinkAt
  pub granted : ℕ
  pub used : List Exchange
  pub handed : List ℕ
  pub rest : Run
  pub left : ℕ
  pub gain : Gain

-- A probe for a claim at a URL. The link was `since` at its grant.
pub record Probing : Type 0 where
  pub claim : ℕ
  pub url : List ℕ
  pub since : LinkAt
  pub used : List Exchange
  pub end : ProbeEnd

pub data Hand : Type 0 where
  Nothing : Hand
  Fetches : Fetching → Hand
  Probes : Probing → Hand
  Seals : (gid : Gid) → (sealed : PieceBytes) → Hand

-- what a worker has in hand, its moment, and its link
pub record WorkerAt : Type 0 where
  pub hand : Hand
  pub moment : ℕ
  pub link : LinkAt

-- a worker that took no turn yet
abbrev pub fresh : LinkAt → WorkerAt
fresh link = record { hand = Nothing; moment = 0; link = link }

-- ---- a fetch

-- a fetch that is granted over this link
abbrev pub begun_fetch : FetchGrant → LinkAt → Fetching
begun_fetch grant link =
    record {
      claim = grant.claim;
      job = grant.job;
      since = link;
      granted = grant.allow;
      used = [];
      handed = [];
      rest = grant.job.run;
      left = grant.allow;
      gain = Open;
    }

-- so many bytes more may be taken, and only these
abbrev pub allowing : Fetching → ℕ → Fetching
allowing f bytes = record f { granted = f.granted + bytes; left = bytes }

-- the blocks behind the first ones
abbrev pub blocks_behind : Run → Run → Run
blocks_behind rest run = record { first = rest.first + run.count; count = rest.count - run.count }

-- these blocks of it are delivered
abbrev pub delivered : Fetching → Run → List ℕ → Fetching
delivered f run bytes =
    record f { handed = f.handed ++ bytes; rest = blocks_behind f.rest run; gain = Open }
