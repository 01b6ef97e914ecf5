-- What comes of claims over links to mirrors in memory that serve a payload. The newest turn is the first.
use Rattle.std.specs.Prelude.{◌≡◌, ◌≢◌, ◌⊎◌, ◌<◌, ◌≤◌, ℕ, Bool, IsTrue, All, Contains, List, Option, Some, length}
use Rattle.blameless_mirrors.specs.Chosen.{IsChosenPiece}
use Rattle.conn_worker.specs.Hands.{LinkAt}
use Rattle.conn_worker.specs.declared.ends.WorkEnd.{WorkEnd}
use Rattle.conn_worker.specs.declared.ends.WorkEnd.TheVariants.{NoMemory}
use Rattle.dl_kinds.specs.Plan.{piece_end, piece_start}
use Rattle.dl_kinds.specs.declared.claims.Claim.{Claim}
use Rattle.dl_kinds.specs.declared.gid.Gid.{Gid}
use Rattle.dl_kinds.specs.declared.runs.Run.{Run}
use Rattle.engine_turns.specs.NextRows.{IsJobOf}
use Rattle.engine_turns.specs.RunTurns.{MayComeAfter}
use Rattle.engine_turns.specs.Told.{AllTurns, RunTurn, history_of}
use Rattle.engine_turns.specs.declared.operations.Operation.{Operation}
use Rattle.engine_turns.specs.declared.operations.Operation.TheVariants.{Deliver, Lose, Sized}
use Rattle.link_source.specs.Mirrors.{Content}
use Rattle.machine_core.specs.OwnParts.{PayloadLengths, payload_lengths_of}
use Rattle.machine_core.specs.RunLegal.{IsLegal, download_in}
use Rattle.machine_core.specs.Starts.{Download, RunStart, Subject, Listed, Unlisted}
use Rattle.machine_core.specs.declared.events.Event.{Event}
use Rattle.machine_core.specs.declared.events.Event.TheVariants.{Claimed}
use Rattle.memory_serving_laws.specs.Laws.{AreGiven}
use Rattle.memory_serving_laws.specs.Serving.{LeadsAmong}
use Rattle.metainfo.specs.declared.meta.Meta.{Meta}
use Rattle.mirror_payloads.specs.Faithful.{IsFaithful, run_begin, run_bytes, run_finish}
use Rattle.option_set.specs.Values.{OptionValues}
use Rattle.span_map.specs.declared.jobs.Job.{Job}
use Rattle.served_runs.specs.Answering.{WorksOver}
use Rattle.served_runs.specs.Serving.{LeadsAmongMirror, ServesPayload, ServesRightly, ServesUnused}

-- ---- one job

-- the place is in a piece that the options choose
pub record IsChosenByte (meta : Meta) (options : OptionValues) (at : ℕ) : Type 0 where
  pub piece : ℕ
  pub chosen : IsChosenPiece meta options piece
  pub from : piece_start meta.plan.piece_len piece ≤ at
  pub before : at < piece_end meta.plan.total meta.plan.piece_len piece

-- each byte of the run of blocks is of such a piece, where there is a metainfo file
abbrev pub IsChosenRun : Subject → OptionValues → PayloadLengths → Run → Type 0
IsChosenRun (Listed meta uris) options lengths run =
    (at : ℕ) → run_begin lengths run ≤ at → at < run_finish lengths run → IsChosenByte meta options at
IsChosenRun (Unlisted uris) options lengths run = Unit {0}

-- a job for such a run
pub record IsChosenJob (options : OptionValues) (lengths : PayloadLengths) (subject : Subject) (mirror : ℕ) (run : Run) (job : Job)
    : Type 0 where
  pub of : IsJobOf lengths subject mirror run job
  pub chosen : IsChosenRun subject options lengths run

-- Of a payload that is served, the parts that are asked for a run of blocks give just their bytes ..
abbrev pub PartsAreGiven : Type 0
PartsAreGiven =
    (content : Content) (subject : Subject) (options : OptionValues) (mirror : ℕ) (payload : List ℕ) (lengths : PayloadLengths)
    (run : Run) (job : Job) → ServesPayload content subject options mirror payload → lengths.total ≡ length payload
    → IsChosenJob options lengths subject mirror run job → AreGiven content job.parts (run_bytes lengths payload run)

-- .. by the mirrors in memory that the URLs lead through
abbrev pub PartsLeadAmong : Type 0
PartsLeadAmong =
    (content : Content) (among : ℕ → Bool) (subject : Subject) (options : OptionValues) (mirror : ℕ) (lengths : PayloadLengths)
    (run : Run) (job : Job) → LeadsAmongMirror content among subject options mirror
    → IsChosenJob options lengths subject mirror run job → All (LeadsAmong content among) job.parts

-- ---- all turns

-- a length that was told of a download without a metainfo file is the payload's
abbrev pub IsToldRight : RunStart → List Event → Gid → List ℕ → Subject → Type 0
IsToldRight start past gid payload (Listed meta uris) = Unit {0}
IsToldRight start past gid payload (Unlisted uris) =
    (lengths : PayloadLengths) → payload_lengths_of start past gid ≡ Some lengths → lengths.total ≡ length payload

-- it brings blocks of a claim, or loses it
abbrev pub UsesClaim : Operation → Type 0
UsesClaim (Deliver claim run bytes now) = Unit {0}
UsesClaim (Lose claim mark now) = Unit {0}
UsesClaim op = ⊥

-- it tells the length of a payload
abbrev pub TellsSize : Operation → Type 0
TellsSize (Sized claim total now) = Unit {0}
TellsSize op = ⊥

-- The mirrors of a link served the payload rightly in work that ended so: none on the way had a bad answer left, or none was used while
-- memory sufficed.
abbrev pub ServedRightly : (old new : Content) → Option WorkEnd → Subject → OptionValues → ℕ → List ℕ → Type 0
ServedRightly old new end subject options mirror payload =
    ServesRightly old subject options mirror payload ⊎ (ServesUnused old new subject options mirror payload × (end ≢ Some NoMemory))

-- The turn is one of a worker's own among these, which it took over a link whose mirrors served the payload rightly.
pub record ComesOfServing (tells : Bool) (told : List RunTurn) (subject : Subject) (options : OptionValues) (mirror : ℕ)
    (payload : List ℕ) (t : RunTurn) : Type 0 where
  pub worker : ℕ
  pub worked : List RunTurn
  pub old : LinkAt
  pub new : LinkAt
  pub works : WorksOver tells worker worked old new
  pub among : (u : RunTurn) → Contains worked u → Contains told u
  pub there : Contains worked t
  pub serves : ServedRightly old.state.content new.state.content works.end subject options mirror payload

-- A run of these turns, in which all that uses claims comes of such work: what it brings from the mirror is right.
abbrev pub ServedClaimsAreFaithful : Type 0
ServedClaimsAreFaithful =
    (tells : Bool) (start : RunStart) (told : List RunTurn) (gid : Gid) (download : Download) (mirror : ℕ) (payload : List ℕ)
    → IsTrue tells → IsLegal start (history_of told) → AllTurns (MayComeAfter start) told
    → download_in start (history_of told) gid ≡ Some download
    → IsToldRight start (history_of told) gid payload download.subject
    → ((t : RunTurn) → Contains told t → UsesClaim t.op → ComesOfServing tells told download.subject download.options mirror payload t)
    → IsFaithful start gid mirror payload told

-- Where each length comes of work over links whose mirrors served the payload rightly, at whatever mirror the download had claims,
-- it is the payload's.
abbrev pub ServedLengthsAreRight : Type 0
ServedLengthsAreRight =
    (tells : Bool) (start : RunStart) (told : List RunTurn) (gid : Gid) (download : Download) (payload : List ℕ)
    → IsTrue tells → IsLegal start (history_of told) → AllTurns (MayComeAfter start) told
    → download_in start (history_of told) gid ≡ Some download
    → ((t : RunTurn) (claim : Claim) → Contains told t → TellsSize t.op → Contains (history_of told) (Claimed gid claim)
    → ComesOfServing tells told download.subject download.options claim.mirror payload t)
    → IsToldRight start (history_of told) gid payload download.subject
