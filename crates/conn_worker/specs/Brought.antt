-- What the turns of a worker bring is what came over its link for the claim that was granted last.
use Rattle.std.specs.Prelude.{◌≡◌, ◌<◌, ◌≤◌, ◌+◌, ℕ, Bool, IsTrue, List, [], ◌∷◌, ◌++◌, length, Option, Some, None, All}
use Rattle.dl_kinds.specs.declared.gid.Gid.{Gid}
use Rattle.dl_kinds.specs.declared.marks.Mark.{Mark}
use Rattle.dl_kinds.specs.declared.runs.Run.{Run}
use Rattle.dl_kinds.specs.Counts.{Rose}
use Rattle.engine_turns.specs.RunTurns.{brought_bytes}
use Rattle.engine_turns.specs.Told.{RunTurn}
use Rattle.engine_turns.specs.declared.operations.FetchGrant.{FetchGrant}
use Rattle.engine_turns.specs.declared.operations.Grant.{Grant}
use Rattle.engine_turns.specs.declared.operations.Grant.TheVariants as grant
use Rattle.engine_turns.specs.declared.operations.Operation.{Operation}
use Rattle.engine_turns.specs.declared.operations.Operation.TheVariants as operation
use Rattle.engine_turns.specs.declared.operations.Said.TheVariants as said
use Rattle.fetch_session.specs.Blocks.{cut}
use Rattle.fetch_session.specs.Fetches.{IsFrontOfFetched}
use Rattle.link_source.specs.Exchanges.{Exchange}
use Rattle.reply_reader.specs.Losses.{mark_of}
use Rattle.reply_reader.specs.declared.loss.Loss.{Loss}
use Rattle.request_chain.specs.Chains.{Gains}
use Rattle.request_chain.specs.Probes.{Told as TellsTotal}
use Rattle.part_fetches.specs.Probes.{Probed, TellsProbeLoss}
use Rattle.span_map.specs.Jobs.{run_end, run_start}
use Rattle.conn_worker.specs.Facts.{HasUsed, TellsRest}
use Rattle.conn_worker.specs.Hands.{LinkAt, WorkerAt, fresh}
use Rattle.conn_worker.specs.Sound.{NoGrant}
use Rattle.conn_worker.specs.Works.{Works}
use Rattle.conn_worker.specs.declared.ends.WorkEnd.{WorkEnd}

-- The last grant in the turns of a worker that began over this link, and how the worker was when it took that turn.
pub record LastGrant (tells : Bool) (worker : ℕ) (link : LinkAt) (turns : List RunTurn) (granted : Grant) : Type 0 where
  pub before : List RunTurn
  pub turn : RunTurn
  pub behind : List RunTurn
  pub cut_is : turns ≡ before ++ turn ∷ behind
  pub said_is : turn.answer.said ≡ said.Grant granted
  pub none_behind : All (λ t. NoGrant t.answer.said) behind
  pub at : WorkerAt
  pub works : Works tells worker before (fresh link) at None

-- the bytes that turns brought, in order
abbrev pub brought_in : List RunTurn → List ℕ
brought_in [] = []
brought_in (t ∷ ts) = brought_bytes t.op ++ brought_in ts

-- Over a link as it is now, these are the next blocks of those that were granted. The exchanges since the grant tell their bytes,
-- behind the bytes that turns brought since.
pub record BringsBlocks (tells : Bool) (worker : ℕ) (link : LinkAt) (turns : List RunTurn) (now : LinkAt)
    (claim : ℕ) (run : Run) (bytes : List ℕ) : Type 0 where
  pub granted : FetchGrant
  pub claim_is : claim ≡ granted.claim
  pub last : LastGrant tells worker link turns (grant.Fetch granted)
  pub used : List Exchange
  pub used_is : HasUsed tells last.at.link used now
  pub next : run_start granted.job.plan granted.job.run + length (brought_in last.behind) ≡ cut granted.job.plan run.first
  pub len : run_start granted.job.plan run + length bytes ≡ run_end granted.job.plan run
  pub told : IsTrue tells → IsFrontOfFetched granted.job.parts used (brought_in last.behind ++ bytes)

abbrev pub claim_of_grant : Grant → Option ℕ
claim_of_grant (grant.Fetch granted) = Some granted.claim
claim_of_grant (grant.Probe claim gid url) = Some claim
claim_of_grant (grant.Hash gid piece bytes) = None

-- These exchanges tell the loss of what was granted, behind the bytes that were brought.
abbrev pub TellsLossOf : Grant → List Exchange → List ℕ → ℕ → Loss → Type 0
TellsLossOf (grant.Fetch granted) used brought faults loss = TellsRest granted.job used brought loss
TellsLossOf (grant.Probe claim gid url) used brought faults loss = TellsProbeLoss url used faults loss
TellsLossOf (grant.Hash gid piece bytes) used brought faults loss = ⊥

-- The loss is told by the exchanges since the grant, and held against the mirror as the mark. A count of faults is the link's, and
-- rose since the grant.
pub record BringsLoss (tells : Bool) (worker : ℕ) (link : LinkAt) (turns : List RunTurn) (now : LinkAt)
    (claim : ℕ) (mark : Mark) : Type 0 where
  pub granted : Grant
  pub claim_is : claim_of_grant granted ≡ Some claim
  pub last : LastGrant tells worker link turns granted
  pub used : List Exchange
  pub used_is : HasUsed tells last.at.link used now
  pub loss : Loss
  pub mark_is : mark_of loss ≡ Some mark
  pub told : IsTrue tells → TellsLossOf granted used (brought_in last.behind) now.faults loss
  pub count : 0 < mark.count → Rose last.at.link.faults now.faults × (mark.count ≡ now.faults)

-- The exchanges since the grant tell the length.
pub record BringsLength (tells : Bool) (worker : ℕ) (link : LinkAt) (turns : List RunTurn) (now : LinkAt)
    (claim total : ℕ) : Type 0 where
  pub gid : Gid
  pub url : List ℕ
  pub last : LastGrant tells worker link turns (grant.Probe claim gid url)
  pub used : List Exchange
  pub used_is : HasUsed tells last.at.link used now
  pub told : IsTrue tells → Probed url used (TellsTotal total)

-- More bytes are asked for of the blocks that were granted last.
pub record AsksForMore (tells : Bool) (worker : ℕ) (link : LinkAt) (turns : List RunTurn) (claim : ℕ) : Type 0 where
  pub granted : FetchGrant
  pub claim_is : claim ≡ granted.claim
  pub last : LastGrant tells worker link turns (grant.Fetch granted)

-- What an operation of a worker is, over its link as it is now, behind these turns. It asks for work under the worker's own number,
-- or it is of what was granted last; there are no others.
abbrev pub BringsWhatCame : Bool → ℕ → LinkAt → List RunTurn → LinkAt → Operation → Type 0
BringsWhatCame tells worker link turns now (operation.Deliver claim run bytes moment) =
    BringsBlocks tells worker link turns now claim run bytes
BringsWhatCame tells worker link turns now (operation.Lose claim mark moment) =
    BringsLoss tells worker link turns now claim mark
BringsWhatCame tells worker link turns now (operation.Sized claim total moment) =
    BringsLength tells worker link turns now claim total
BringsWhatCame tells worker link turns now (operation.Seal gid sealed moment) =
    LastGrant tells worker link turns (grant.Hash gid sealed.piece sealed.bytes)
BringsWhatCame tells worker link turns now (operation.More claim want moment) =
    AsksForMore tells worker link turns claim
BringsWhatCame tells worker link turns now (operation.Next asked moment) = asked ≡ worker
BringsWhatCame tells worker link turns now op = ⊥

-- ---- the link meanwhile

-- the link went on from the one to the other: no fault is forgotten, and these exchanges came on top
pub record IsLaterLink (tells : Bool) (older newer : LinkAt) : Type 0 where
  pub faults : older.faults ≤ newer.faults
  pub used : List Exchange
  pub gained : IsTrue tells → Gains older.state.exchanges newer.state.exchanges used

-- what it tells ends its claim
abbrev pub EndsClaim : Operation → Type 0
EndsClaim (operation.Lose claim mark moment) = Unit {0}
EndsClaim (operation.Sized claim total moment) = Unit {0}
EndsClaim op = ⊥

-- Each turn of a worker, with the worker as it was then. From a turn that ends its claim the link goes on to where it is behind
-- them all.
abbrev pub TurnsBringWhatCame : Type 0
TurnsBringWhatCame =
    (tells : Bool) (worker : ℕ) (link : LinkAt) (before : List RunTurn) (t : RunTurn) (behind : List RunTurn)
    (b : WorkerAt) (end : Option WorkEnd) → Works tells worker (before ++ t ∷ behind) (fresh link) b end
    → (at : WorkerAt) × Works tells worker before (fresh link) at None
    × BringsWhatCame tells worker link before at.link t.op
    × (EndsClaim t.op → IsLaterLink tells at.link b.link)

-- the link of a worker goes on from where it was before the first of its turns
abbrev pub LinksGoOn : Type 0
LinksGoOn =
    (tells : Bool) (worker : ℕ) (turns : List RunTurn) (link : LinkAt) (b : WorkerAt) (end : Option WorkEnd)
    → Works tells worker turns (fresh link) b end → IsLaterLink tells link b.link
