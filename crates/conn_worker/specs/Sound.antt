-- What the answers of every run give.
use Rattle.std.specs.Prelude.{◌≤◌, List}
use Rattle.engine_turns.specs.RunTurns.{MayComeAfter}
use Rattle.engine_turns.specs.Told.{RunTurn}
use Rattle.engine_turns.specs.declared.operations.Grant.{Grant}
use Rattle.engine_turns.specs.declared.operations.Grant.TheVariants.{Fetch}
use Rattle.engine_turns.specs.declared.operations.Said.{Said}
use Rattle.engine_turns.specs.declared.operations.Said.TheVariants as said
use Rattle.machine_core.specs.Starts.{RunStart}
use Rattle.span_map.specs.Jobs.{IsJob}

-- blocks of a plan, of which a byte may be fetched
abbrev pub IsSoundGrant : Grant → Type 0
IsSoundGrant (Fetch granted) = IsJob granted.job × (1 ≤ granted.allow)
IsSoundGrant granted = Unit {0}

-- an allowance is of a byte at least
abbrev pub IsSoundAnswer : Said → Type 0
IsSoundAnswer (said.Grant granted) = IsSoundGrant granted
IsSoundAnswer (said.Allow bytes) = 1 ≤ bytes
IsSoundAnswer other = Unit {0}

abbrev pub AnswersAreSound : Type 0
AnswersAreSound =
    (start : RunStart) (told : List RunTurn) (t : RunTurn) → MayComeAfter start told t → IsSoundAnswer t.answer.said

-- nothing is granted
abbrev pub NoGrant : Said → Type 0
NoGrant (said.Grant granted) = ⊥
NoGrant other = Unit {0}
