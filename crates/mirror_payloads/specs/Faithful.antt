-- Which turns bring a payload's own bytes from a mirror. The newest turn is the first.
use Rattle.std.specs.Prelude.{◌≡◌, ◌<◌, ◌+◌, ◌-◌, ℕ, Contains, List}
use Rattle.dl_kinds.specs.Plan.{block_end, block_start}
use Rattle.dl_kinds.specs.declared.gid.Gid.{Gid}
use Rattle.dl_kinds.specs.declared.marks.Mark.{Mark}
use Rattle.dl_kinds.specs.declared.runs.Moment.{Moment}
use Rattle.dl_kinds.specs.declared.runs.Run.{Run}
use Rattle.dl_kinds.specs.Lists.{part_at}
use Rattle.engine_turns.specs.Told.{AllTurns, RunTurn, history_of}
use Rattle.engine_turns.specs.declared.operations.Operation.TheVariants.{Deliver}
use Rattle.machine_core.specs.OwnParts.{PayloadLengths}
use Rattle.machine_core.specs.RunLegal.{known_lengths}
use Rattle.machine_core.specs.Starts.{RunStart}
use Rattle.machine_core.specs.declared.events.Event.TheVariants.{Landed, Lost}

-- where the bytes of a run of blocks begin in a payload of these lengths, and where they end
abbrev pub run_begin : PayloadLengths → Run → ℕ
run_begin lengths run = block_start lengths.piece_len run.first

abbrev pub run_finish : PayloadLengths → Run → ℕ
run_finish lengths run = block_end lengths.total lengths.piece_len (run.first + run.count - 1)

-- the bytes of a run of blocks
abbrev pub run_bytes : PayloadLengths → List ℕ → Run → List ℕ
run_bytes lengths payload run = part_at payload (run_begin lengths run) (run_finish lengths run - run_begin lengths run)

-- What a turn brings from the mirror for the download is right: where blocks of its claim land, the bytes that were delivered
-- are the payload's; and where its claim is lost, the link's own count of faults is told.
pub record IsFaithfulTurn (start : RunStart) (gid : Gid) (mirror : ℕ) (payload : List ℕ) (before : List RunTurn)
    (t : RunTurn) : Type 0 where
  pub landed : (claim : ℕ) (run part : Run) (bytes : List ℕ) (now at : Moment) → t.op ≡ Deliver claim run bytes now
      → Contains t.events (Landed gid claim mirror part at)
      → bytes ≡ run_bytes (known_lengths start (history_of before) gid) payload run
  pub lost : (id piece : ℕ) (mark : Mark) → Contains t.events (Lost gid id mirror piece mark) → 0 < mark.count

-- so it is in all of these turns
abbrev pub IsFaithful : RunStart → Gid → ℕ → List ℕ → List RunTurn → Type 0
IsFaithful start gid mirror payload told = AllTurns (IsFaithfulTurn start gid mirror payload) told
