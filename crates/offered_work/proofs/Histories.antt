-- Events that come after a history.
use Rattle.std.proofs.Common.{◌≡◌, List, [], ◌∷◌, ◌++◌, refl}
use Rattle.engine_turns.specs.Told.{history_after}
use Rattle.machine_core.specs.RunLegal.{IsLegal}
use Rattle.machine_core.specs.Starts.{RunStart}
use Rattle.machine_core.specs.declared.events.Event.{Event}

pub history_append : (past front rest : List Event)
    → history_after past (front ++ rest) ≡ history_after (history_after past front) rest
history_append past [] rest = refl
history_append past (e ∷ front) rest = history_append (e ∷ past) front rest

pub legal_before : (start : RunStart) (past events : List Event) → IsLegal start (history_after past events)
    → IsLegal start past
legal_before start past [] legal = legal
legal_before start past (e ∷ events) legal = (legal_before start (e ∷ past) events legal).0
