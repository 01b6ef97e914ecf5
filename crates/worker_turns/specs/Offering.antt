-- Where a worker that works alone always finds something to do: a matter of the history alone.
use Rattle.std.specs.Prelude.{◌≡◌, ℕ, false, Contains, None, List, []}
use Rattle.dl_kinds.specs.declared.gid.Gid.{Gid}
use Rattle.engine_turns.specs.Told.{RunTurn, handed_in, history_of}
use Rattle.engine_turns.specs.declared.operations.Operation.{Operation}
use Rattle.engine_turns.specs.declared.operations.Operation.TheVariants.{Next}
use Rattle.machine_core.specs.Claiming.{next_to_open}
use Rattle.machine_core.specs.Offers.{IsOffer}
use Rattle.machine_core.specs.Reads.{is_finished_in}
use Rattle.machine_core.specs.Replays.{queue_in}
use Rattle.machine_core.specs.RunLegal.{IsLegal}
use Rattle.machine_core.specs.Starts.{RunStart}
use Rattle.machine_core.specs.declared.events.Event.{Event}
use Rattle.machine_core.specs.declared.offers.Offer.{Offer}
use Rattle.conn_worker.specs.Hands.{LinkAt}
use Rattle.worker_turns.specs.Alone.{NoClaimStands}
use Rattle.worker_turns.specs.Reads.{IsSoloRun}
use Rattle.worker_turns.specs.TurnBounds.{EachBehind, NeverIdle}
use Rattle.dl_disk.specs.State.{DiskState}

-- Something is left to do, but no claim stands, and no download is to be opened.
pub record IsAtLeisure (start : RunStart) (past : List Event) : Type 0 where
  pub legal : IsLegal start past
  pub none : NoClaimStands start past
  pub going : is_finished_in start past ≡ false
  pub opened : next_to_open start past ≡ None

-- It isn't so that no active download has something to offer then, while no piece is handed out.
abbrev pub HasSomeOffer : RunStart → List Event → ℕ → Type 0
HasSomeOffer start past now =
    ¬ ((gid : Gid) → Contains (queue_in start past).active gid → (offer : Offer)
    → ¬ IsOffer [] start past now gid offer)

abbrev pub AlwaysOffers : RunStart → List Event → Type 0
AlwaysOffers start past = IsAtLeisure start past → (now : ℕ) → HasSomeOffer start past now

-- .. before each of the turns
abbrev pub TurnsFindOffers : RunStart → (earlier turns : List RunTurn) → Type 0
TurnsFindOffers start earlier turns =
    EachBehind (λ before t. AlwaysOffers start (history_of before)) earlier turns

-- where work is asked for no piece is handed out
abbrev pub AsksUnhanded : RunStart → List RunTurn → Operation → Type 0
AsksUnhanded start before (Next worker now) = handed_in start before ≡ []
AsksUnhanded start before op = Unit {0}

-- A worker that works alone asks for work while no piece is handed out, and isn't idle where the
-- history always has an offer.
pub record IsBusy (start : RunStart) (earlier turns : List RunTurn) : Type 0 where
  pub unhanded : EachBehind (λ before t. AsksUnhanded start before t.op) earlier turns
  pub busy : TurnsFindOffers start earlier turns → NeverIdle turns

module _ {D : Type 0} (state : D → DiskState) where
  -- so does the worker of a run over one link
  abbrev pub SoloRunsAreBusy : Type 0
  SoloRunsAreBusy =
      (start : RunStart) (earlier : List RunTurn) (worker : ℕ) (turns later : List RunTurn)
      (link now : LinkAt) (disk : D)
      → IsSoloRun state start earlier worker turns later link now disk → IsBusy start earlier turns
