-- What holds of the turns of every run.
use Rattle.std.specs.Prelude.{◌≡◌, ◌≤◌, ◌∷◌, true, All, List, reverse}
use Rattle.turn_desk.specs.Turns.{events_of}
use Rattle.machine_core.specs.Replays.{is_active_in}
use Rattle.machine_core.specs.Starts.{RunStart}
use Rattle.engine_turns.specs.Told.{RunTurn, handed_in, history_of, moment_in}
use Rattle.engine_turns.specs.declared.operations.Operation.{Operation}

-- in the order in which they came, the events of turns are what a desk lists of them
abbrev pub TurnsAppend : Type 0
TurnsAppend = (turns : List RunTurn) → reverse (history_of (reverse turns)) ≡ events_of turns

-- only pieces of active downloads are handed out
abbrev pub HandedAreActive : Type 0
HandedAreActive =
    (start : RunStart) (told : List RunTurn)
    → All (λ h. is_active_in start (history_of told) h.gid ≡ true) (handed_in start told)

-- a later turn happens no earlier
abbrev pub MomentsNeverFall : Type 0
MomentsNeverFall =
    (t : RunTurn) (told : List RunTurn) (op : Operation) → (moment_in told t.op).0 ≤ (moment_in (t ∷ told) op).0
