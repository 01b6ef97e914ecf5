-- Turns of a worker that weren't short of memory.
use Rattle.std.specs.Prelude.{◌≡◌, ◌≢◌, ◌⊎◌, ℕ, Bool, true, false, Contains, List, []}
use Rattle.dl_kinds.specs.declared.gid.Gid.{Gid}
use Rattle.engine_turns.specs.RunTurns.{MayComeAfter}
use Rattle.engine_turns.specs.Told.{AllTurns, RunTurn, history_of}
use Rattle.engine_turns.specs.declared.operations.Operation.{Operation}
use Rattle.engine_turns.specs.declared.operations.Operation.TheVariants as operation
use Rattle.engine_turns.specs.declared.operations.Said.TheVariants.{NoMemory}
use Rattle.machine_core.specs.Replays.{queue_in}
use Rattle.machine_core.specs.RunLegal.{IsLegal}
use Rattle.machine_core.specs.Starts.{RunStart}
use Rattle.offered_work.specs.Offering.{AllMayBeFetched, HasOffer, IsAtRest}

-- a worker asks for work, or tells what became of it
abbrev pub is_of_worker : Operation → Bool
is_of_worker (operation.Next worker now) = true
is_of_worker (operation.Deliver claim run bytes now) = true
is_of_worker (operation.More claim want now) = true
is_of_worker (operation.Lose claim mark now) = true
is_of_worker (operation.Sized claim total now) = true
is_of_worker (operation.Seal gid sealed now) = true
is_of_worker op = false

abbrev pub is_call : Operation → Bool
is_call (operation.Call session call now) = true
is_call op = false

pub record IsWorkedTurn (t : RunTurn) : Type 0 where
  pub op : is_of_worker t.op ≡ true
  pub fed : t.answer.said ≢ NoMemory

-- The first turn may be a call. All others are a worker's, and none of these was short of memory.
abbrev pub IsWorkedBehind : List RunTurn → RunTurn → Type 0
IsWorkedBehind before t = IsWorkedTurn t ⊎ ((before ≡ []) × (is_call t.op ≡ true))

-- turns of a run, the newest first, that are such
pub record IsWorkedRun (start : RunStart) (told : List RunTurn) : Type 0 where
  pub legal : IsLegal start (history_of told)
  pub ties : AllTurns (MayComeAfter start) told
  pub worked : AllTurns IsWorkedBehind told

-- behind turns of a worker an active download has an offer, where no claim stands and none is to be
-- opened
abbrev pub ActiveHaveOffers : Type 0
ActiveHaveOffers =
    (start : RunStart) (told : List RunTurn) → IsWorkedRun start told
    → IsAtRest start (history_of told) → AllMayBeFetched start (history_of told)
    → (gid : Gid) → Contains (queue_in start (history_of told)).active gid → (now : ℕ)
    → HasOffer start (history_of told) now gid
