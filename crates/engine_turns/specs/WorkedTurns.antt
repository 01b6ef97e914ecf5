-- Worked turns, and what they are to say.
use Rattle.std.specs.Prelude.{◌≡◌, ℕ, true, false, Option, Some, None, List, [], ◌∷◌}
use Rattle.dl_kinds.specs.declared.runs.Moment.{Moment}
use Rattle.dl_queue.specs.declared.kinds.QueueErr.TheVariants.{NotFound}
use Rattle.piece_table.specs.declared.giver.Giver.TheVariants.{Mixed}
use Rattle.turn_desk.specs.declared.turn.Stamp.{Stamp}
use Rattle.verify_piece.specs.Seals.{PieceBytes}
use Rattle.machine_core.specs.WorkedRuns.{added_uri, gid_at, key_of_first, one_at_once}
use Rattle.machine_core.specs.declared.calls.Call.{Call}
use Rattle.machine_core.specs.declared.calls.Call.TheVariants.{GetVersion, Pause, TellActive, Unpause}
use Rattle.machine_core.specs.declared.events.Event.{Event}
use Rattle.machine_core.specs.declared.events.Event.TheVariants.{Called, Settled, Stopped}
use Rattle.machine_core.specs.declared.handed.Handed.{Handed}
use Rattle.machine_core.specs.declared.notices.Cursor.{Cursor}
use Rattle.machine_core.specs.declared.notices.Notice.{Notice}
use Rattle.machine_core.specs.declared.notices.NoticeKind.TheVariants.{Start}
use Rattle.run_report.specs.declared.kinds.Reply.{Reply}
use Rattle.run_report.specs.declared.kinds.Reply.TheVariants.{Fine, Refused, Version}
use Rattle.engine_turns.specs.RunTurns.{MayComeAfter}
use Rattle.engine_turns.specs.Told.{RunTurn, handed_in, latest_moment}
use Rattle.engine_turns.specs.declared.operations.Grant.TheVariants.{Hash}
use Rattle.engine_turns.specs.declared.operations.Operation.{Operation}
use Rattle.engine_turns.specs.declared.operations.Operation.TheVariants.{Leave, More, Next, Pulse, Seal, Stop}
use Rattle.engine_turns.specs.declared.operations.Operation.TheVariants as operation
use Rattle.engine_turns.specs.declared.operations.Said.{Said}
use Rattle.engine_turns.specs.declared.operations.Said.TheVariants.{Allow, Done, Finished, Grant, Idle, NoMemory, Notices, Replied, Void}

abbrev pub moment_at : ℕ → Moment
moment_at ms = record { 0 = ms }

abbrev pub no_stamp : Stamp
no_stamp = record { time = 0; faults = 0 }

abbrev pub turn_with : Operation → Said → List Event → RunTurn
turn_with op said events =
    record {
      pass = 0;
      rank = 0;
      place = 0;
      before = no_stamp;
      op = op;
      answer = record { said = said; back = [] };
      events = events;
      after = no_stamp;
    }

-- the same, and the disk failed so often by its end
abbrev pub failing : ℕ → RunTurn → RunTurn
failing count t = record t { after = record { time = 0; faults = count } }

abbrev pub call_turn : Call → ℕ → RunTurn
call_turn call ms = turn_with (operation.Call 0 call (moment_at ms)) Idle (Called 0 call (moment_at ms) ∷ [])

-- ---- one piece, two workers

abbrev pub adding_turn : RunTurn
adding_turn = turn_with (operation.Call 0 TellActive (moment_at 0)) Idle (added_uri ∷ [])

abbrev pub handing_turn : ℕ → RunTurn
handing_turn worker = turn_with (Next worker (moment_at 5)) (Grant (Hash (gid_at 1) 0 [])) []

abbrev pub sealed_piece : PieceBytes
sealed_piece = record { piece = 0; bytes = [] }

abbrev pub seal_turn : Said → List Event → RunTurn
seal_turn said events = turn_with (Seal (gid_at 1) sealed_piece (moment_at 3)) said events

abbrev pub handed_piece : Handed
handed_piece = record { gid = gid_at 1; piece = 0 }

abbrev pub handed_out_turns : List RunTurn
handed_out_turns = handing_turn 0 ∷ adding_turn ∷ []

abbrev pub paused_turns : List RunTurn
paused_turns = call_turn (Pause key_of_first) 6 ∷ handed_out_turns

abbrev pub handed_again_turns : List RunTurn
handed_again_turns = handing_turn 1 ∷ call_turn (Unpause key_of_first) 7 ∷ paused_turns

pub record WorkedTurns : Type 0 where
  pub out : handed_in one_at_once handed_out_turns ≡ handed_piece ∷ []
  pub paused : handed_in one_at_once paused_turns ≡ []
  pub again : handed_in one_at_once handed_again_turns ≡ handed_piece ∷ []
  pub sealed : handed_in one_at_once
      (seal_turn Done (Settled (gid_at 1) 0 true Mixed ∷ []) ∷ handed_again_turns)
      ≡ []
  pub void : handed_in one_at_once (seal_turn Void [] ∷ handed_again_turns) ≡ []
  pub starved : handed_in one_at_once (seal_turn NoMemory [] ∷ handed_again_turns) ≡ handed_piece ∷ []
  pub latest : latest_moment (seal_turn Void [] ∷ handed_again_turns) ≡ 7

-- ---- a run in which nothing happened, without a console, and the same with a download that is active

abbrev pub stop_turn : RunTurn
stop_turn = turn_with (Stop (moment_at 4)) Done (Stopped ∷ [])

abbrev pub more_granted : RunTurn
more_granted = turn_with (More 7 100 (moment_at 2)) (Allow 100) []

-- the first place behind so many events
abbrev pub behind : ℕ → Cursor
behind events = record { event = events; nth = 0 }

abbrev pub telling_turn : Option Cursor → List Notice → ℕ → RunTurn
telling_turn from list events = turn_with (operation.Notices from) (Notices list (behind events)) []

abbrev pub started_first : Notice
started_first = record { kind = Start; gid = gid_at 1 }

-- the first turn of a run: this call, with this reply
abbrev pub replied_turn : Call → Reply → RunTurn
replied_turn call reply =
    turn_with (operation.Call 0 call (moment_at 6)) (Replied 0 reply false) (Called 0 call (moment_at 6) ∷ [])

pub record WorkedRows : Type 0 where
  pub rests : MayComeAfter one_at_once [] (turn_with Pulse Finished [])
  pub no_work : MayComeAfter one_at_once [] (turn_with (Next 0 (moment_at 2)) Finished [])
  pub goes_on : MayComeAfter one_at_once (adding_turn ∷ []) (turn_with Pulse Idle [])
  pub no_claim : MayComeAfter one_at_once [] (turn_with (More 7 100 (moment_at 2)) Void [])
  pub no_door : MayComeAfter one_at_once [] (turn_with Leave Done [])
  pub refused : MayComeAfter one_at_once [] (replied_turn (Pause key_of_first) (Refused NotFound))
  pub told : MayComeAfter one_at_once [] (replied_turn GetVersion Version)
  pub stops : MayComeAfter one_at_once [] stop_turn
  pub is_over : MayComeAfter one_at_once (stop_turn ∷ adding_turn ∷ []) (turn_with Pulse Finished [])
  pub joins : MayComeAfter one_at_once [] (telling_turn None [] 0)
  pub joins_later : MayComeAfter one_at_once (adding_turn ∷ []) (telling_turn None [] 1)
  pub starts : MayComeAfter one_at_once (adding_turn ∷ []) (telling_turn (Some (behind 0)) (started_first ∷ []) 1)
  -- and there is no other answer
  pub not_idle : ¬ MayComeAfter one_at_once [] (turn_with Pulse Idle [])
  pub not_granted : ¬ MayComeAfter one_at_once [] more_granted
  pub not_carried_out : ¬ MayComeAfter one_at_once [] (replied_turn (Pause key_of_first) Fine)
  pub not_told : ¬ MayComeAfter one_at_once [] (replied_turn GetVersion Fine)
  pub not_untold : ¬ MayComeAfter one_at_once (adding_turn ∷ []) (telling_turn (Some (behind 0)) [] 1)
  pub not_passed_over : ¬ MayComeAfter one_at_once (adding_turn ∷ []) (failing 5 (turn_with Pulse Idle []))
