-- How many turns a worker takes.
use Rattle.std.specs.Prelude.{◌≡◌, ◌≢◌, ◌≤◌, ◌+◌, ◌*◌, ◌&&◌, ℕ, Bool, true, false, IsTrue, List, [], ◌∷◌, length, All, Option}
use Rattle.engine_turns.specs.RunTurns.{MayComeAfter}
use Rattle.engine_turns.specs.Told.{RunTurn}
use Rattle.engine_turns.specs.declared.operations.Operation.{Operation}
use Rattle.engine_turns.specs.declared.operations.Operation.TheVariants.{Deliver, Seal}
use Rattle.engine_turns.specs.declared.operations.Said.{Said}
use Rattle.engine_turns.specs.declared.operations.Said.TheVariants.{Hold, Idle, Kept, Void}
use Rattle.link_source.specs.Exchanges.{Exchange}
use Rattle.machine_core.specs.Starts.{RunStart}
use Rattle.machine_core.specs.declared.events.Event.{Event}
use Rattle.request_chain.specs.Chains.{Gains, received_by}
use Rattle.turn_desk.specs.Turns.{events_of}
use Rattle.conn_worker.specs.Hands.{LinkAt, WorkerAt, fresh}
use Rattle.conn_worker.specs.Works.{Works}
use Rattle.conn_worker.specs.declared.ends.WorkEnd.{WorkEnd}

-- ---- turns behind others

-- It holds of each of these turns, in order, with those before it. Of the earlier ones the newest
-- is the first.
abbrev pub EachBehind : (List RunTurn → RunTurn → Type 0) → (earlier turns : List RunTurn) → Type 0
EachBehind P earlier [] = Unit {0}
EachBehind P earlier (t ∷ ts) = P earlier t × EachBehind P (t ∷ earlier) ts

-- each of these turns may come behind those before it
abbrev pub ComeAfter : RunStart → (earlier turns : List RunTurn) → Type 0
ComeAfter start earlier turns = EachBehind (MayComeAfter start) earlier turns

-- ---- what turns may not do for nothing

-- where blocks of a delivery are kept, some of them are counted in an event
abbrev pub CountsBlocks : Operation → Said → List Event → Type 0
CountsBlocks (Deliver claim run bytes now) (Kept counted repeated) events = 1 ≤ length events
CountsBlocks op said events = Unit {0}

abbrev pub DeliveriesCount : List RunTurn → Type 0
DeliveriesCount turns = All (λ t. CountsBlocks t.op t.answer.said t.events) turns

-- the seal of a piece is taken
abbrev pub IsSealTaken : Operation → Said → Type 0
IsSealTaken (Seal gid sealed now) Void = ⊥
IsSealTaken op said = Unit {0}

abbrev pub SealsAreTaken : List RunTurn → Type 0
SealsAreTaken turns = All (λ t. IsSealTaken t.op t.answer.said) turns

-- there is always something to do, or to wait for
abbrev pub NeverIdle : List RunTurn → Type 0
NeverIdle turns = All (λ t. t.answer.said ≢ Idle) turns

abbrev pub is_hold : Said → Bool
is_hold (Hold ms) = true
is_hold said = false

-- no turn is held up behind one that was
abbrev pub HoldsOnce : (held : Bool) → List RunTurn → Type 0
HoldsOnce held [] = Unit {0}
HoldsOnce held (t ∷ ts) =
    (held && is_hold t.answer.said ≡ false) × HoldsOnce (is_hold t.answer.said) ts

-- ---- the bound

-- A worker takes these turns over a link that tells what it received, from where the link was to
-- where it is now.
pub record TakesTurnsOver (worker : ℕ) (turns : List RunTurn) (link now : LinkAt) : Type 0 where
  pub tells : Bool
  pub told : IsTrue tells
  pub b : WorkerAt
  pub end : Option WorkEnd
  pub works : Works tells worker turns (fresh link) b end
  pub now_is : now ≡ b.link

-- .. behind these earlier ones of the run
pub record WorksBehind (start : RunStart) (earlier : List RunTurn) (worker : ℕ)
    (turns : List RunTurn) (link now : LinkAt) : Type 0 where
  pub come : ComeAfter start earlier turns
  pub over : TakesTurnsOver worker turns link now

-- No turn of these is for nothing.
pub record GoesWell (turns : List RunTurn) : Type 0 where
  pub count : DeliveriesCount turns
  pub taken : SealsAreTaken turns
  pub busy : NeverIdle turns
  pub once : HoldsOnce false turns

-- at most eight turns for each event that they append and each byte that comes over the link
-- meanwhile, and eight more
abbrev pub AreBoundedBy : (turns : List RunTurn) → (link now : LinkAt) → Type 0
AreBoundedBy turns link now =
    (used : List Exchange) → Gains link.state.exchanges now.state.exchanges used
    → length turns ≤ 8 * (length (events_of turns) + received_by used) + 8

abbrev pub TurnsAreBounded : Type 0
TurnsAreBounded =
    (start : RunStart) (earlier : List RunTurn) (worker : ℕ) (turns : List RunTurn)
    (link now : LinkAt) → WorksBehind start earlier worker turns link now → GoesWell turns
    → AreBoundedBy turns link now
