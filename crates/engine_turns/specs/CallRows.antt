-- What is done by a call, where a door leaves, and at the stop: the progress of the downloads concerned is saved.
use Rattle.std.specs.Prelude.{◌≡◌, ◌⊎◌, ℕ, zero, suc, Bool, true, false, List, [], ◌∷◌, ◌++◌, length}
use Rattle.std.specs.List.{list_any}
use Rattle.dl_kinds.specs.declared.gid.Gid.{Gid}
use Rattle.dl_history.specs.PayloadParts.{is_ended, is_opened}
use Rattle.machine_core.specs.OwnParts.{own_of}
use Rattle.machine_core.specs.Reads.{IsSavedIn}
use Rattle.machine_core.specs.Replays.{is_active_in}
pub use Rattle.machine_core.specs.Replays.{gids_in}
use Rattle.machine_core.specs.RunLegal.{doors_left, goes_on_in, is_stop}
use Rattle.machine_core.specs.Starts.{RunStart}
use Rattle.machine_core.specs.declared.calls.Call.{Call}
use Rattle.machine_core.specs.declared.events.Event.{Event}
use Rattle.machine_core.specs.declared.events.Event.TheVariants.{Called, Left, Stopped}
use Rattle.run_report.specs.Replies.{IsReplyAt}
use Rattle.run_report.specs.declared.kinds.Reply.{Reply}
use Rattle.engine_turns.specs.Phases.{SavesPhase, TurnStart}
use Rattle.engine_turns.specs.declared.outcome.Outcome.{Outcome}
use Rattle.engine_turns.specs.declared.outcome.Outcome.TheVariants.{Over, Starved, Went}
use Rattle.engine_turns.specs.Standings.{AnswersUnlessStarved, RunStanding}
use Rattle.engine_turns.specs.Told.{history_after}
use Rattle.engine_turns.specs.declared.operations.Said.{Said}
use Rattle.engine_turns.specs.declared.operations.Said.TheVariants.{Done, Replied}

-- those of the gids of which this holds, in order
abbrev pub AreThose : (Gid → Type 0) → (all those : List Gid) → Type 0
AreThose P [] those = those ≡ []
AreThose P (gid ∷ gids) those =
    (P gid × (rest : List Gid) × (those ≡ gid ∷ rest) × AreThose P gids rest)
    ⊎ ((P gid → ⊥) × AreThose P gids those)

-- a download is opened, has not ended, and a save would list what the last one doesn't, or not what it does
pub record HasUnsaved (start : RunStart) (past : List Event) (gid : Gid) : Type 0 where
  pub opened : is_opened (own_of start past gid) ≡ true
  pub going : is_ended (own_of start past gid) ≡ false
  pub unsaved : ¬ IsSavedIn start past gid

-- ---- a call

-- it was active and isn't, or it went on and doesn't
abbrev pub IsTakenOff : RunStart → (past after : List Event) → Gid → Type 0
IsTakenOff start past after gid =
    ((is_active_in start past gid ≡ true) × (is_active_in start after gid ≡ false))
    ⊎ ((goes_on_in start past gid ≡ true) × (goes_on_in start after gid ≡ false))

-- taken off by what came, with something to save
pub record IsSavedOff (start : RunStart) (past after : List Event) (gid : Gid) : Type 0 where
  pub off : IsTakenOff start past after gid
  pub unsaved : HasUnsaved start after gid

abbrev pub is_starved : Outcome → Bool
is_starved Went = false
is_starved Over = false
is_starved Starved = true

pub record CallRow (at : TurnStart) (s : RunStanding) (session : ℕ) (call : Call) (events : List Event) (said : Said)
    : Type 0 where
  pub saves : List Event
  pub cut : events ≡ Called session call at.now ∷ saves
  pub those : List Gid
  pub those_are : AreThose (IsSavedOff at.start s.past (Called session call at.now ∷ s.past))
      (gids_in at.start (Called session call at.now ∷ s.past)) those
  pub outcome : Outcome
  pub saved : SavesPhase at those (Called session call at.now ∷ s.past) saves outcome
  pub reply : Reply
  pub is_reply : IsReplyAt at.start s.past call at.now reply
  pub answer : said ≡ Replied (length s.past) reply (is_starved outcome)

-- ---- a door leaves

abbrev pub left_events : ℕ → List Event
left_events zero = []
left_events (suc doors) = Left ∷ []

abbrev pub LeaveRow : TurnStart → RunStanding → List Event → Said → Type 0
LeaveRow at s events said = (events ≡ left_events (doors_left at.start s.past)) × (said ≡ Done)

-- ---- the stop

abbrev pub stop_events : Bool → List Event
stop_events true = []
stop_events false = Stopped ∷ []

-- it goes on, and has something to save
pub record IsSavedLast (start : RunStart) (past : List Event) (gid : Gid) : Type 0 where
  pub goes : goes_on_in start past gid ≡ true
  pub unsaved : HasUnsaved start past gid

pub record StopRow (at : TurnStart) (s : RunStanding) (events : List Event) (said : Said) : Type 0 where
  pub saves : List Event
  pub cut : events ≡ stop_events (list_any is_stop s.past) ++ saves
  pub those : List Gid
  pub those_are : AreThose (IsSavedLast at.start (history_after s.past (stop_events (list_any is_stop s.past))))
      (gids_in at.start s.past) those
  pub outcome : Outcome
  pub saved : SavesPhase at those (history_after s.past (stop_events (list_any is_stop s.past))) saves outcome
  pub answer : AnswersUnlessStarved Done outcome said
