-- Which turn of a run may come after which, in all that doesn't speak of what the disk holds.
use Rattle.std.specs.Prelude.{◌≡◌, ◌⊎◌, ℕ, ◌-◌, ◌&&◌, nat_lt, Bool, true, false, Option, Some, None, List, [], if◌then◌else◌, length, reverse}
use Rattle.machine_core.specs.LawfulCalls.{IsLawful}
use Rattle.machine_core.specs.Reads.{is_finished_in}
use Rattle.machine_core.specs.Starts.{RunStart}
use Rattle.machine_core.specs.declared.events.Event.{Event}
use Rattle.machine_core.specs.declared.journal.TheConstants.{TURN_EVENTS}
use Rattle.engine_turns.specs.CallRows.{CallRow, LeaveRow, StopRow}
use Rattle.engine_turns.specs.ClaimRows.{DeliverRow, LoseRow, MoreRow, SizedRow}
use Rattle.engine_turns.specs.Faults.{CountsFaults}
use Rattle.engine_turns.specs.NextRows.{NextRow}
use Rattle.engine_turns.specs.NoticeRows.{notices_said}
use Rattle.engine_turns.specs.Phases.{TurnStart}
use Rattle.engine_turns.specs.SealRows.{SealRow}
use Rattle.engine_turns.specs.Standings.{AnswersOnly, OfClaim, RunStanding, standing_after}
use Rattle.engine_turns.specs.Told.{RunTurn, history_of, moment_in}
use Rattle.engine_turns.specs.declared.limits.TheConstants.{MAX_ENTRIES}
use Rattle.engine_turns.specs.declared.operations.Operation.{Operation}
use Rattle.engine_turns.specs.declared.operations.Operation.TheVariants as operation
use Rattle.engine_turns.specs.declared.operations.Said.{Said}
use Rattle.engine_turns.specs.declared.operations.Said.TheVariants.{Finished, Idle, JournalFull, NoMemory}

-- a call is a lawful one
abbrev pub IsLawfulOperation : Operation → Type 0
IsLawfulOperation (operation.Call session call now) = IsLawful call
IsLawfulOperation op = Unit {0}

-- ---- what is answered before anything is done

abbrev pub asks_for_work : Operation → Bool
asks_for_work (operation.Next worker now) = true
asks_for_work operation.Pulse = true
asks_for_work op = false

-- the others come after all else too
abbrev pub needs_entries : Operation → Bool
needs_entries operation.Pulse = false
needs_entries (operation.Notices from) = false
needs_entries operation.Leave = false
needs_entries (operation.Stop now) = false
needs_entries op = true

-- so many entries that a turn's events might not be taken
abbrev pub is_nearly_full : List Event → Bool
is_nearly_full past = nat_lt (MAX_ENTRIES - TURN_EVENTS) (length past)

-- to an operation that asks for work, or needs entries
abbrev pub answer_to : (asks needs : Bool) → RunStart → List Event → Option Said
answer_to asks needs start past =
    if asks && is_finished_in start past then Some Finished
    else if needs && is_nearly_full past then Some (JournalFull (length past))
    else None

abbrev pub answer_before : RunStart → List Event → Operation → Option Said
answer_before start past op = answer_to (asks_for_work op) (needs_entries op) start past

-- ---- each operation

-- these begin by making room for their events
abbrev pub takes_memory : Operation → Bool
takes_memory (operation.More claim want now) = false
takes_memory operation.Pulse = false
takes_memory operation.Leave = false
takes_memory (operation.Stop now) = false
takes_memory op = true

abbrev pub OperationRow : TurnStart → RunStanding → Operation → List Event → Said → Type 0
OperationRow at s (operation.Call session call now) = CallRow at s session call
OperationRow at s (operation.Next worker now) = NextRow at s worker
OperationRow at s (operation.Deliver claim run bytes now) = OfClaim at s claim (DeliverRow at s run bytes)
OperationRow at s (operation.More claim want now) = OfClaim at s claim (MoreRow at s want)
OperationRow at s (operation.Lose claim mark now) = OfClaim at s claim (LoseRow at s mark)
OperationRow at s (operation.Sized claim total now) = OfClaim at s claim (SizedRow at s total)
OperationRow at s (operation.Seal gid sealed now) = SealRow at s gid sealed
OperationRow at s operation.Pulse = AnswersOnly Idle
OperationRow at s (operation.Notices from) = AnswersOnly (notices_said at.start s.past from)
OperationRow at s operation.Leave = LeaveRow at s
OperationRow at s (operation.Stop now) = StopRow at s

-- ---- a turn

-- the bytes that an operation brought come back
abbrev pub brought_bytes : Operation → List ℕ
brought_bytes (operation.Deliver claim run bytes now) = bytes
brought_bytes (operation.Seal gid sealed now) = sealed.bytes
brought_bytes op = []

abbrev pub turn_start : RunStart → List RunTurn → RunTurn → TurnStart
turn_start start told t = record { start = start; now = moment_in told t.op; faults = t.before.faults }

-- what is answered before anything is done; otherwise want of memory before the operation began, or its row
abbrev pub IsAnswered : TurnStart → RunStanding → Operation → List Event → Said → Option Said → Type 0
IsAnswered at s op events said (Some before) = AnswersOnly before events said
IsAnswered at s op events said None =
    ((takes_memory op ≡ true) × AnswersOnly NoMemory events said) ⊎ OperationRow at s op events said

abbrev pub IsTurnAnswered : RunStart → List RunTurn → RunTurn → Option Said → Type 0
IsTurnAnswered start told t before =
    IsAnswered (turn_start start told t) (standing_after start told) t.op t.events t.answer.said before

-- the turn may come after these, of which the newest is the first
pub record MayComeAfter (start : RunStart) (told : List RunTurn) (t : RunTurn) : Type 0 where
  pub back : t.answer.back ≡ brought_bytes t.op
  pub answered : IsTurnAnswered start told t (answer_before start (history_of told) t.op)
  pub counts : CountsFaults t.before.faults t.events t.after.faults

-- .. with the oldest turn first, as a desk lists them
abbrev pub ties_turn : RunStart → List RunTurn → RunTurn → Type 0
ties_turn start turns t = MayComeAfter start (reverse turns) t
