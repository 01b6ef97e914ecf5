-- What is so of a fetch or a probe that a worker has in hand, over its link as it is.
use Rattle.std.specs.Prelude.{◌≡◌, ◌≤◌, ◌↔◌, ◌+◌, ℕ, Bool, IsTrue, List, ◌++◌, length, Some}
use Rattle.dl_kinds.specs.declared.runs.Run.{Run}
use Rattle.engine_turns.specs.declared.limits.TheConstants.{MAX_DELIVERY}
use Rattle.fetch_session.specs.Blocks.{cut, ready_blocks}
use Rattle.fetch_session.specs.Fetches.{IsFrontOfFetched}
use Rattle.link_source.specs.Exchanges.{Exchange}
use Rattle.reply_reader.specs.Losses.{mark_of}
use Rattle.reply_reader.specs.declared.loss.Loss.{Loss}
use Rattle.request_chain.specs.Answered.{IsAnswered}
use Rattle.request_chain.specs.Chains.{Gains, received_by}
use Rattle.request_chain.specs.Links.{CountsLinkLoss}
use Rattle.request_chain.specs.Probes.{Told as TellsTotal}
use Rattle.part_fetches.specs.Losses.{TellsLoss}
use Rattle.part_fetches.specs.Probes.{Probed, TellsProbeLoss}
use Rattle.span_map.specs.Jobs.{IsJob, run_end, run_start}
use Rattle.span_map.specs.declared.jobs.Job.{Job}
use Rattle.conn_worker.specs.Hands.{Fetching, LinkAt, Probing}
use Rattle.conn_worker.specs.declared.hands.Gain.{Gain}
use Rattle.conn_worker.specs.declared.hands.Gain.TheVariants.{Ready, Lost, Open, Starved}
use Rattle.conn_worker.specs.declared.hands.ProbeEnd.{ProbeEnd}
use Rattle.conn_worker.specs.declared.hands.ProbeEnd.TheVariants.{Told, Missed, Lacking}

-- These are the exchanges since the link was so, the oldest first, and each had one answer of the mirrors.
pub record HasUsed (tells : Bool) (since : LinkAt) (used : List Exchange) (link : LinkAt) : Type 0 where
  pub later : since.faults ≤ link.faults
  pub gained : IsTrue tells → Gains since.state.exchanges link.state.exchanges used
  pub answered : IsTrue tells → IsAnswered since.state.content since.state.exchanges link.state

-- ---- fetches

-- Its bytes are those of its first blocks, no more came than was granted, and these exchanges brought them.
pub record IsCarried (tells : Bool) (f : Fetching) (link : LinkAt) : Type 0 where
  pub job : IsJob f.job
  pub end : f.rest.first + f.rest.count ≡ f.job.run.first + f.job.run.count
  pub place : run_start f.job.plan f.job.run + length f.handed ≡ cut f.job.plan f.rest.first
  pub used : HasUsed tells f.since f.used link
  pub spent : IsTrue tells → received_by f.used + f.left ≤ f.granted

-- of the bytes that were granted all came but those that are left
abbrev pub IsTakenExactly : Bool → Fetching → Type 0
IsTakenExactly tells f = IsTrue tells → received_by f.used + f.left ≡ f.granted

-- the first blocks that weren't delivered are ready, with their bytes
pub record IsReady (f : Fetching) (run : Run) (bytes : List ℕ) (last : Bool) : Type 0 where
  pub first : run.first ≡ f.rest.first
  pub some : 1 ≤ run.count
  pub few : run.count ≤ MAX_DELIVERY
  pub within : run.count ≤ f.rest.count
  pub all : IsTrue last ↔ (run.count ≡ f.rest.count)
  pub len : run_start f.job.plan run + length bytes ≡ run_end f.job.plan run

-- The exchanges tell the loss, behind bytes of no whole block that wasn't delivered.
pub record TellsRest (job : Job) (used : List Exchange) (handed : List ℕ) (loss : Loss) : Type 0 where
  pub came : List ℕ
  pub none_whole : (ready_blocks job.plan job.run (length handed) (length handed + length came)).count ≡ 0
  pub count : ℕ
  pub tells : TellsLoss job.parts used (handed ++ came) count loss

-- The blocks that are ready come next in what the exchanges tell; a loss is held against the mirror as its mark, and that of a
-- failed link has the count of its faults, which rose since the grant; where neither came, all that was granted came, and the exchanges
-- tell what was delivered.
abbrev pub IsGain : Bool → Fetching → LinkAt → Gain → Type 0
IsGain tells f link (Ready run bytes last) =
    IsReady f run bytes last × (IsTrue tells → IsFrontOfFetched f.job.parts f.used (f.handed ++ bytes))
    × IsTakenExactly tells f
IsGain tells f link (Lost loss mark) =
    (mark_of loss ≡ Some mark) × CountsLinkLoss f.since.faults link.faults loss × (IsTrue tells → TellsRest f.job f.used f.handed loss)
IsGain tells f link Open =
    (IsTrue tells → f.left ≡ 0) × IsTakenExactly tells f × (IsTrue tells → IsFrontOfFetched f.job.parts f.used f.handed)
IsGain tells f link Starved = Unit {0}

-- a fetch in hand, of which blocks are still to be delivered
pub record IsFetchingAt (tells : Bool) (f : Fetching) (link : LinkAt) : Type 0 where
  pub carried : IsCarried tells f link
  pub some : 1 ≤ f.rest.count
  pub gain : IsGain tells f link f.gain

-- ---- probes

-- what the exchanges tell
abbrev pub IsProbeEnd : Bool → Probing → LinkAt → ProbeEnd → Type 0
IsProbeEnd tells p link (Told total) = IsTrue tells → Probed p.url p.used (TellsTotal total)
IsProbeEnd tells p link (Missed loss mark) =
    (mark_of loss ≡ Some mark) × CountsLinkLoss p.since.faults link.faults loss
    × (IsTrue tells → TellsProbeLoss p.url p.used link.faults loss)
IsProbeEnd tells p link Lacking = Unit {0}

pub record IsProbingAt (tells : Bool) (p : Probing) (link : LinkAt) : Type 0 where
  pub used : HasUsed tells p.since p.used link
  pub end : IsProbeEnd tells p link p.end
