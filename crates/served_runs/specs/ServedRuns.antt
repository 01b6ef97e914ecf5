-- What comes of claims in a whole run over links to mirrors in memory that serve a payload.
use Rattle.std.specs.Prelude.{◌≡◌, ◌≢◌, ◌⊎◌, ℕ, Contains, IsTrue, List, Some, Ok, reverse}
use Rattle.conn_worker.specs.declared.ends.WorkEnd.TheVariants.{NoMemory}
use Rattle.dl_disk.specs.declared.disk.Disk.{Ghosts as DiskSays}
use Rattle.dl_kinds.specs.declared.claims.Claim.{Claim}
use Rattle.dl_kinds.specs.declared.gid.Gid.{Gid}
use Rattle.dl_kinds.specs.declared.outside.Sink.{Ghosts as SinkSays}
use Rattle.engine_turns.specs.Told.{RunTurn}
use Rattle.link_source.specs.declared.Links.{Ghosts as LinkSays}
use Rattle.machine_core.specs.RunLegal.{download_in}
use Rattle.machine_core.specs.Starts.{Download, Subject}
use Rattle.machine_core.specs.declared.events.Event.TheVariants.{Claimed}
use Rattle.mirror_payloads.specs.Faithful.{IsFaithful}
use Rattle.option_set.specs.Values.{OptionValues}
use Rattle.run_lifecycle.specs.Begins.{start_of_line}
use Rattle.run_lifecycle.specs.Finishes.{Ran}
use Rattle.run_lifecycle.specs.LinkCauses.{WorkedAmong}
use Rattle.run_lifecycle.specs.Stops.{all_turns}
use Rattle.run_lifecycle.specs.declared.ended.Ended.{Ended}
use Rattle.served_runs.specs.ServingLaws.{IsToldRight, TellsSize, UsesClaim}
use Rattle.served_runs.specs.Serving.{ServesRightly, ServesUnused}

-- The turn is one of a worker's own in these turns of a run, over a link whose mirrors served the payload rightly: none on the way had a
-- bad answer left, or none was used while memory sufficed.
pub record ComesOfLink {L : Type 0} (D : Type 0) (links : LinkSays L) (turns : List RunTurn) (subject : Subject)
    (options : OptionValues) (mirror : ℕ) (payload : List ℕ) (t : RunTurn) : Type 0 where
  pub worker : ℕ
  pub old : L
  pub new : L
  pub own : WorkedAmong D links worker turns old new
  pub there : Contains own.its.worked t
  pub serves : ServesRightly (links.state old).content subject options mirror payload
      ⊎ (ServesUnused (links.state old).content (links.state new).content subject options mirror payload
      × (own.came ≢ Ok NoMemory))

module _ {D O L : Type 0} (says : DiskSays D) (sinks : SinkSays O) (links : LinkSays L) where
  -- Where all that uses claims, between the line's own call and the last stop, comes of such links, what a run brings from the
  -- mirror is right.
  abbrev pub RunsAreFaithful : Type 0
  RunsAreFaithful =
      (words : List (List ℕ)) (gids doors : ℕ) (disk : D) (out : O) (ended : Ended D) (out' : O)
      (ran : Ran says sinks words gids doors disk out ended out') (gid : Gid) (download : Download) (mirror : ℕ)
      (payload : List ℕ) → IsTrue links.tells
      → download_in (start_of_line gids doors ran.begins.line.globals) (reverse ended.journal.events.items) gid
      ≡ Some download
      → IsToldRight (start_of_line gids doors ran.begins.line.globals) (reverse ended.journal.events.items) gid payload
      download.subject
      → ((t : RunTurn) → Contains ran.stops.middle t → UsesClaim t.op
      → ComesOfLink D links (all_turns says ran.stops) download.subject download.options mirror payload t)
      → IsFaithful (start_of_line gids doors ran.begins.line.globals) gid mirror payload
      (reverse (all_turns says ran.stops))

  -- Where each length that was told, between the line's own call and the last stop, comes of such links, at whatever mirror the
  -- download had claims, it is the payload's.
  abbrev pub RunsTellRight : Type 0
  RunsTellRight =
      (words : List (List ℕ)) (gids doors : ℕ) (disk : D) (out : O) (ended : Ended D) (out' : O)
      (ran : Ran says sinks words gids doors disk out ended out') (gid : Gid) (download : Download) (payload : List ℕ)
      → IsTrue links.tells
      → download_in (start_of_line gids doors ran.begins.line.globals) (reverse ended.journal.events.items) gid
      ≡ Some download
      → ((t : RunTurn) (claim : Claim) → Contains ran.stops.middle t → TellsSize t.op
      → Contains (reverse ended.journal.events.items) (Claimed gid claim)
      → ComesOfLink D links (all_turns says ran.stops) download.subject download.options claim.mirror payload t)
      → IsToldRight (start_of_line gids doors ran.begins.line.globals) (reverse ended.journal.events.items) gid payload
      download.subject
