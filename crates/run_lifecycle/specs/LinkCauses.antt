-- What the history of a run shows of the link of a worker.
use Rattle.std.specs.Prelude.{◌≡◌, ◌<◌, ℕ, Contains, IsTrue, List, Some, Result, reverse}
use Rattle.conn_worker.specs.Brought.{EndsClaim, IsLaterLink, TellsLossOf, claim_of_grant}
use Rattle.conn_worker.specs.Facts.{HasUsed}
use Rattle.conn_worker.specs.Hands.{LinkAt, link_at}
use Rattle.conn_worker.specs.Works.{RunSight, Worked}
use Rattle.conn_worker.specs.declared.ends.Spent.{Spent}
use Rattle.conn_worker.specs.declared.ends.WorkEnd.{WorkEnd}
use Rattle.dl_kinds.specs.declared.claims.Claim.{Claim}
use Rattle.dl_kinds.specs.declared.gid.Gid.{Gid}
use Rattle.dl_kinds.specs.declared.marks.Mark.{Mark}
use Rattle.dl_kinds.specs.Counts.{Rose}
use Rattle.engine_turns.specs.Told.{RunTurn}
use Rattle.engine_turns.specs.NextRows.{IsJobOf, mirror_url}
use Rattle.engine_turns.specs.declared.operations.Grant.{Grant}
use Rattle.engine_turns.specs.declared.operations.Grant.TheVariants as grant
use Rattle.link_source.specs.Exchanges.{Exchange}
use Rattle.link_source.specs.declared.Links.{Ghosts as LinkSays}
use Rattle.machine_core.specs.OwnParts.{PayloadLengths}
use Rattle.machine_core.specs.RunLegal.{download_in, known_lengths}
use Rattle.machine_core.specs.Starts.{Download, RunStart}
use Rattle.machine_core.specs.declared.events.Event.{Event}
use Rattle.machine_core.specs.declared.events.Event.TheVariants.{Claimed}
use Rattle.reply_reader.specs.Losses.{mark_of}
use Rattle.reply_reader.specs.declared.loss.Loss.{Loss}
use Rattle.request_chain.specs.Probes.{Told}
use Rattle.part_fetches.specs.Probes.{Probed}

-- what the claim asks of its mirror: blocks of the payload, or the payload's length
abbrev pub IsGrantOf : PayloadLengths → Download → Claim → Grant → Type 0
IsGrantOf lengths download claim (grant.Fetch granted) =
    IsJobOf lengths download.subject claim.mirror claim.run granted.job
IsGrantOf lengths download claim (grant.Probe id gid url) = url ≡ mirror_url download.subject claim.mirror
IsGrantOf lengths download claim (grant.Hash gid piece bytes) = ⊥

-- A claim of the download, by this worker, came under this number, at this mirror, and this was granted for it.
pub record WasGranted (start : RunStart) (events : List Event) (worker : ℕ) (gid : Gid) (id mirror : ℕ)
    (granted : Grant) : Type 0 where
  pub claim : Claim
  pub came : Contains events (Claimed gid claim)
  pub by : claim.worker ≡ worker
  pub id_is : claim.id ≡ id
  pub mirror_is : claim.mirror ≡ mirror
  pub number : claim_of_grant granted ≡ Some id
  pub download : Download
  pub added : download_in start (reverse events) gid ≡ Some download
  pub asks : IsGrantOf (known_lengths start (reverse events) gid) download claim granted

module _ {L : Type 0} (links : LinkSays L) (start : RunStart) (events : List Event) (worker : ℕ) (old new : L)
  where
    -- The exchanges of the link in a stretch of the run from the grant on, in which it was used for this claim alone.
    pub record UsedForClaim (gid : Gid) (id mirror : ℕ) (granted : Grant) (used : List Exchange) (since at : LinkAt)
        : Type 0 where
      pub was : WasGranted start events worker gid id mirror granted
      pub from : IsLaterLink links.tells (link_at links old) since
      pub used_is : HasUsed links.tells since used at
      pub to : IsLaterLink links.tells at (link_at links new)

    -- The exchanges since its grant tell the loss, behind the bytes that were delivered. A count of faults is the link's,
    -- and rose meanwhile.
    pub record LostAsTold (gid : Gid) (id mirror : ℕ) (mark : Mark) : Type 0 where
      pub granted : Grant
      pub used : List Exchange
      pub since : LinkAt
      pub at : LinkAt
      pub meanwhile : UsedForClaim gid id mirror granted used since at
      pub brought : List ℕ
      pub loss : Loss
      pub mark_is : mark_of loss ≡ Some mark
      pub told : IsTrue links.tells → TellsLossOf granted used brought at.faults loss
      pub count : 0 < mark.count → Rose since.faults at.faults × (mark.count ≡ at.faults)

    -- the exchanges since its grant tell the length
    pub record SizedAsTold (gid : Gid) (id total : ℕ) : Type 0 where
      pub mirror : ℕ
      pub asked : Gid
      pub url : List ℕ
      pub used : List Exchange
      pub since : LinkAt
      pub at : LinkAt
      pub meanwhile : UsedForClaim gid id mirror (grant.Probe id asked url) used since at
      pub told : IsTrue links.tells → Probed url used (Told total)

-- ---- the turns of workers

-- A worker's own turns over its link, of these turns of a run.
pub record WorkedAmong {L : Type 0} (D : Type 0) (links : LinkSays L) (worker : ℕ) (turns : List RunTurn) (old new : L) : Type 0
  where
    pub from : RunSight D
    pub to : RunSight D
    pub came : Result WorkEnd Spent
    pub its : Worked links worker from old to new came
    pub among : (t : RunTurn) → Contains its.worked t → Contains turns t

-- one of these turns, which ends a claim, brought the event
pub record ComesOfClaimEnd (turns : List RunTurn) (e : Event) : Type 0 where
  pub turn : RunTurn
  pub among : Contains turns turn
  pub ends : EndsClaim turn.op
  pub there : Contains turn.events e
