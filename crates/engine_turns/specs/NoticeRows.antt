-- Which notices are told.
use Rattle.std.specs.Prelude.{Option, Some, None, List, [], map, take}
use Rattle.machine_core.specs.Notices.{due, end_of, upto}
use Rattle.machine_core.specs.Starts.{RunStart}
use Rattle.machine_core.specs.declared.events.Event.{Event}
use Rattle.machine_core.specs.declared.notices.Cursor.{Cursor}
use Rattle.machine_core.specs.declared.notices.Notice.{Notice}
use Rattle.machine_core.specs.declared.notices.TheConstants.{MOST_NOTICES}
use Rattle.engine_turns.specs.declared.operations.Said.{Said}
use Rattle.engine_turns.specs.declared.operations.Said.TheVariants.{Notices}

-- the next ones from a place on; none without one
abbrev pub notices_from : RunStart → List Event → Option Cursor → List Notice
notices_from start past None = []
notices_from start past (Some from) = map (λ p. p.notice) (take MOST_NOTICES (due start past from))

-- the place behind them; without one, where the history ends
abbrev pub place_behind : RunStart → List Event → Option Cursor → Cursor
place_behind start past None = end_of past
place_behind start past (Some from) = upto start past from

abbrev pub notices_said : RunStart → List Event → Option Cursor → Said
notices_said start past from = Notices (notices_from start past from) (place_behind start past from)
