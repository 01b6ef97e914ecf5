-- What the turns of a run say. They stand with the newest first, as a history does.
use Rattle.std.specs.Prelude.{ℕ, ◌==◌, ◌&&◌, ◌||◌, max, not, Bool, true, false, List, [], ◌∷◌, ◌++◌, filter}
use Rattle.std.specs.List.{list_any}
use Rattle.dl_kinds.specs.declared.runs.Moment.{Moment}
use Rattle.turn_desk.specs.declared.turn.Turn.{Turn}
use Rattle.machine_core.specs.Replays.{is_active_in, is_same_gid}
use Rattle.machine_core.specs.Starts.{RunStart}
use Rattle.machine_core.specs.declared.events.Event.{Event}
use Rattle.machine_core.specs.declared.events.Event.TheVariants.{Settled}
use Rattle.machine_core.specs.declared.handed.Handed.{Handed}
use Rattle.engine_turns.specs.declared.operations.Answer.{Answer}
use Rattle.engine_turns.specs.declared.operations.Grant.TheVariants.{Hash}
use Rattle.engine_turns.specs.declared.operations.Operation.{Operation}
use Rattle.engine_turns.specs.declared.operations.Operation.TheVariants as operation
use Rattle.engine_turns.specs.declared.operations.Said.{Said}
use Rattle.engine_turns.specs.declared.operations.Said.TheVariants.{Grant, Void, Done}

abbrev pub RunTurn : Type 0
RunTurn = Turn Operation Answer Event

-- the history after these events, which are in order
abbrev pub history_after : List Event → List Event → List Event
history_after past [] = past
history_after past (e ∷ events) = history_after (e ∷ past) events

-- the history after these turns
abbrev pub history_of : List RunTurn → List Event
history_of [] = []
history_of (t ∷ before) = history_after (history_of before) t.events

-- it holds of each turn with those before it
abbrev pub AllTurns : (List RunTurn → RunTurn → Type 0) → List RunTurn → Type 0
AllTurns P [] = Unit {0}
AllTurns P (t ∷ before) = P before t × AllTurns P before

-- ---- moments

-- the moment that an operation brings; 0 where it brings none
abbrev pub moment_of_operation : Operation → ℕ
moment_of_operation (operation.Call session call now) = now.0
moment_of_operation (operation.Next worker now) = now.0
moment_of_operation (operation.Deliver claim run bytes now) = now.0
moment_of_operation (operation.More claim want now) = now.0
moment_of_operation (operation.Lose claim mark now) = now.0
moment_of_operation (operation.Sized claim total now) = now.0
moment_of_operation (operation.Seal gid sealed now) = now.0
moment_of_operation operation.Pulse = 0
moment_of_operation (operation.Notices from) = 0
moment_of_operation operation.Leave = 0
moment_of_operation (operation.Stop now) = now.0

-- the latest that the turns brought
abbrev pub latest_moment : List RunTurn → ℕ
latest_moment [] = 0
latest_moment (t ∷ before) = max (moment_of_operation t.op) (latest_moment before)

-- at which a turn of the operation happens
abbrev pub moment_in : List RunTurn → Operation → Moment
moment_in before op = record { 0 = max (moment_of_operation op) (latest_moment before) }

-- ---- pieces that are handed out

-- what an answer hands out
abbrev pub handed_by : Said → List Handed
handed_by (Grant (Hash gid piece bytes)) = record { gid = gid; piece = piece } ∷ []
handed_by said = []

abbrev pub settles_handed : Handed → Event → Bool
settles_handed h (Settled gid piece right giver) = is_same_gid gid h.gid && piece == h.piece
settles_handed h e = false

abbrev pub seals_handed : Handed → Operation → Bool
seals_handed h (operation.Seal gid sealed now) = is_same_gid gid h.gid && sealed.piece == h.piece
seals_handed h op = false

-- a seal with another answer leaves the piece handed out
abbrev pub is_taken : Said → Bool
is_taken Done = true
is_taken Void = true
is_taken said = false

-- the turn settles the piece, or takes its seal
abbrev pub takes_back : RunTurn → Handed → Bool
takes_back t h = list_any (settles_handed h) t.events || seals_handed h t.op && is_taken t.answer.said

-- the piece is of an active download, and the turn didn't take it back
abbrev pub stays_out : RunStart → RunTurn → List Event → Handed → Bool
stays_out start t past h = is_active_in start past h.gid && not (takes_back t h)

-- the pieces that workers compare now, the newest first
abbrev pub handed_in : RunStart → List RunTurn → List Handed
handed_in start [] = []
handed_in start (t ∷ before) =
    filter (stays_out start t (history_of (t ∷ before))) (handed_by t.answer.said ++ handed_in start before)
