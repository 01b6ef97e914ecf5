-- What a worker keeps, beside the plain data that it stands for.
use Rattle.std.specs.Prelude.{◌≡◌, ◌⊎◌, ◌≤◌, ◌+◌, ℕ, Bool, false, IsTrue, Option, Some, None, IfSome, List, Result, Ok, Err}
use Rattle.dl_kinds.specs.declared.marks.Mark.{Mark}
use Rattle.dl_kinds.specs.declared.runs.Moment.{Moment}
use Rattle.dl_kinds.specs.declared.runs.Run.{Run}
use Rattle.engine_turns.specs.declared.operations.Operation.{Operation}
use Rattle.fetch_session.specs.Fetches.{IsFetch, IsFrontOfFetched, MayBegin, MayStep, fetch_plan, lost_of, ready_of, rest_of}
use Rattle.fetch_session.specs.declared.room.FetchRoom.{FetchRoom}
use Rattle.reply_reader.specs.Losses.{mark_of}
use Rattle.reply_reader.specs.declared.loss.Loss.{Loss}
use Rattle.request_chain.specs.Chains.{received_by}
use Rattle.request_chain.specs.Links.{CountsLinkLoss}
use Rattle.conn_worker.specs.Facts.{IsCarried, IsFetchingAt, IsProbingAt, IsTakenExactly}
use Rattle.conn_worker.specs.Hands.{Fetching, Hand, Nothing, Fetches, Probes, Seals, LinkAt, Probing, WorkerAt, delivered, fresh}
use Rattle.conn_worker.specs.Table.{IsProbeOf, IsStepOf, Outcomes, due_op, end_of_hand}
use Rattle.conn_worker.specs.declared.ends.WorkEnd.{WorkEnd}
use Rattle.conn_worker.specs.declared.hands.FetchInHand.{FetchInHand}
use Rattle.conn_worker.specs.declared.hands.Gain.{Gain}
use Rattle.conn_worker.specs.declared.hands.Gain.TheVariants.{Ready, Lost, Open, Starved}
use Rattle.conn_worker.specs.declared.hands.InHand.{InHand}
use Rattle.conn_worker.specs.declared.hands.InHand.TheVariants as kept
use Rattle.conn_worker.specs.declared.hands.OpenFetch.{OpenFetch}
use Rattle.conn_worker.specs.declared.hands.ProbeInHand.{ProbeInHand}
use Rattle.conn_worker.specs.declared.hands.ProbeEnd.{ProbeEnd}
use Rattle.conn_worker.specs.declared.hands.ProbeEnd.TheVariants.{Told, Missed, Lacking}
use Rattle.conn_worker.specs.declared.hands.Waiting.{Waiting}
use Rattle.conn_worker.specs.declared.hands.Waiting.TheVariants as waiting
use Rattle.conn_worker.specs.declared.state.WorkState.{WorkState}

-- the next fetch may begin with this room
abbrev pub IsRoomFor : Bool → FetchRoom → LinkAt → Type 0
IsRoomFor tells room link = IsTrue tells → MayBegin room link.state

-- the fetch that was carried on so far, of which no block is ready
pub record IsOpenFetch (tells : Bool) (o : OpenFetch) (f : Fetching) (link : LinkAt) : Type 0 where
  pub claim : o.claim ≡ f.claim
  pub left : o.left ≡ f.left
  pub plan : fetch_plan o.fetch ≡ f.job.plan
  pub rest : rest_of o.fetch ≡ f.rest
  pub none_ready : (ready_of o.fetch).count ≡ 0
  pub may : IsTrue tells → MayStep o.fetch link.state
  pub lost : IfSome (lost_of o.fetch) (CountsLinkLoss f.since.faults link.faults)
  pub fetch : IsTrue tells → IsFetch f.job f.used f.handed o.fetch
  pub carried : IsCarried tells f link

-- it may be carried on
pub record MayStepOn (tells : Bool) (o : OpenFetch) (f : Fetching) (link : LinkAt) : Type 0 where
  pub is : IsOpenFetch tells o f link
  pub some : 1 ≤ f.rest.count
  pub exact : IsTakenExactly tells f
  pub front : IsTrue tells → IsFrontOfFetched f.job.parts f.used f.handed

-- once the blocks that are ready are delivered
abbrev pub delivering : Fetching → Gain → Fetching
delivering f (Ready run bytes last) = delivered f run bytes
delivering f gain = f

pub record IsFetchInHand (tells : Bool) (h : FetchInHand) (f : Fetching) (link : LinkAt) : Type 0 where
  pub gain : h.gain ≡ f.gain
  pub is : IsOpenFetch tells h.open_fetch (delivering f f.gain) link
  pub at : IsFetchingAt tells f link

pub record IsProbeInHand (tells : Bool) (h : ProbeInHand) (p : Probing) (link : LinkAt) : Type 0 where
  pub claim : h.claim ≡ p.claim
  pub end : h.end ≡ p.end
  pub room : IsRoomFor tells h.room link
  pub at : IsProbingAt tells p link

abbrev pub IsInHand : Bool → InHand → Hand → LinkAt → Type 0
IsInHand tells (kept.Nothing room) Nothing link = IsRoomFor tells room link
IsInHand tells (kept.Fetches h) (Fetches f) link = IsFetchInHand tells h f link
IsInHand tells (kept.Probes h) (Probes p) link = IsProbeInHand tells h p link
IsInHand tells (kept.Seals h) (Seals gid sealed) link =
    (h.gid ≡ gid) × (h.sealed ≡ sealed) × IsRoomFor tells h.room link
IsInHand tells h hand link = ⊥

-- what is in hand is one of the outcomes
abbrev pub HasOutcome : Bool → Outcomes → InHand → LinkAt → Type 0
HasOutcome tells Outcome h link = (hand : Hand) × Outcome hand link × IsInHand tells h hand link

-- what a loss comes to
abbrev pub gain_by : Loss → Option Mark → Gain
gain_by loss None = Starved
gain_by loss (Some mark) = Lost loss mark

abbrev pub gain_of : Loss → Gain
gain_of loss = gain_by loss (mark_of loss)

abbrev pub probe_lost_by : Loss → Option Mark → ProbeEnd
probe_lost_by loss None = Lacking
probe_lost_by loss (Some mark) = Missed loss mark

abbrev pub probe_lost : Loss → ProbeEnd
probe_lost loss = probe_lost_by loss (mark_of loss)

abbrev pub probe_end : Result ℕ Loss → ProbeEnd
probe_end (Ok total) = Told total
probe_end (Err loss) = probe_lost loss

-- it is the probe of the URL
abbrev pub IsProbedInHand : Bool → ℕ → List ℕ → (link link' : LinkAt) → ProbeInHand → Type 0
IsProbedInHand tells claim url link link' h =
    (p : Probing) × IsProbeOf tells claim url link link' p × IsProbeInHand tells h p link'

-- it read on, and no block of it became ready: it may be carried on
pub record IsReadOn (tells : Bool) (o : OpenFetch) (f : Fetching) (link : LinkAt) (g : Fetching) : Type 0 where
  pub same : g ≡ record f { used = g.used; left = g.left; gain = Open }
  pub more : IsTrue tells → received_by f.used ≤ received_by g.used
  pub may : MayStepOn tells o g link

-- it is the fetch one step later
abbrev pub IsStepInHand : Bool → Fetching → LinkAt → FetchInHand → Type 0
IsStepInHand tells f link h = (g : Fetching) × IsStepOf tells f link g × IsFetchInHand tells h g link

-- it received no more than so many bytes
abbrev pub TakesAtMost : Bool → ℕ → Fetching → Fetching → Type 0
TakesAtMost tells allow f g = IsTrue tells → received_by g.used ≤ received_by f.used + allow

-- so many bytes of it were read: they brought blocks, or a loss, or it may be carried on
abbrev pub IsReadBy : Bool → ℕ → Fetching → LinkAt → OpenFetch → Gain → Type 0
IsReadBy tells allow f link o Open =
    (g : Fetching) × IsReadOn tells o f link g × (IsTrue tells → g.left + allow ≡ f.left)
IsReadBy tells allow f link o gain =
    (g : Fetching) × IsStepOf tells f link g × IsFetchInHand tells (record { open_fetch = o; gain = gain }) g link
    × TakesAtMost tells allow f g

abbrev pub IsReadInHand : Bool → ℕ → Fetching → LinkAt → FetchInHand → Type 0
IsReadInHand tells allow f link h = IsReadBy tells allow f link h.open_fetch h.gain

-- so many bytes of it brought neither a block nor a loss
pub record BringsNone (tells : Bool) (part : ℕ) (f : Fetching) : Type 0 where
  pub o : OpenFetch
  pub link : LinkAt
  pub g : Fetching
  pub on : IsReadOn tells o f link g
  pub part_is : IsTrue tells → g.left + part ≡ f.left

-- it is the fetch one step later, which took no more than a part of so many bytes, unless these brought nothing
abbrev pub IsPartInHand : Bool → ℕ → Fetching → LinkAt → FetchInHand → Type 0
IsPartInHand tells part f link h =
    (g : Fetching) × IsStepOf tells f link g × IsFetchInHand tells h g link
    × (TakesAtMost tells part f g ⊎ BringsNone tells part f)

-- ---- while the turn is taken

-- what was in hand is told by the turn, and no fetch that a turn carries on
abbrev pub is_let_go_by : Gain → Type 0
is_let_go_by (Ready run bytes last) = ⊥
is_let_go_by Open = ⊥
is_let_go_by gain = Unit {0}

abbrev pub IsLetGoOf : Hand → Type 0
IsLetGoOf Nothing = ⊥
IsLetGoOf (Fetches f) = is_let_go_by f.gain
IsLetGoOf hand = Unit {0}

-- the fetch whose ready blocks are delivered; there are more, unless those were the last ones
pub record IsDelivered (tells : Bool) (o : OpenFetch) (last : Bool) (f : Fetching) (link : LinkAt) : Type 0 where
  pub is : IsOpenFetch tells o f link
  pub more : last ≡ false → 1 ≤ f.rest.count
  pub gain : f.gain ≡ Open
  pub exact : IsTakenExactly tells f
  pub front : IsTrue tells → IsFrontOfFetched f.job.parts f.used f.handed

-- they are being delivered
pub record IsDelivering (tells : Bool) (o : OpenFetch) (last : Bool) (f : Fetching) (link : LinkAt) : Type 0 where
  pub run : Run
  pub bytes : List ℕ
  pub gain : f.gain ≡ Ready run bytes last
  pub is : IsDelivered tells o last (delivered f run bytes) link

pub record IsAskingMore (tells : Bool) (o : OpenFetch) (f : Fetching) (link : LinkAt) : Type 0 where
  pub gain : f.gain ≡ Open
  pub at : IsFetchingAt tells f link
  pub is : IsOpenFetch tells o f link

abbrev pub IsWaiting : Bool → Waiting → Hand → LinkAt → Type 0
IsWaiting tells (waiting.Free room) hand link = IsLetGoOf hand × IsRoomFor tells room link
IsWaiting tells (waiting.WantsWork room) Nothing link = IsRoomFor tells room link
IsWaiting tells (waiting.Delivers o last) (Fetches f) link = IsDelivering tells o last f link
IsWaiting tells (waiting.Asks o) (Fetches f) link = IsAskingMore tells o f link
IsWaiting tells w hand link = ⊥

-- the turn that is due was made of it
abbrev pub MakesTurn : ℕ → Moment → InHand → Operation → Waiting → Type 0
MakesTurn worker now h op w =
    (tells : Bool) (hand : Hand) (link : LinkAt) → IsInHand tells h hand link
    → (op ≡ due_op worker hand now) × IsWaiting tells w hand link

abbrev pub MakesFetchTurn : ℕ → Moment → FetchInHand → Operation → Waiting → Type 0
MakesFetchTurn worker now h op w =
    (tells : Bool) (f : Fetching) (link : LinkAt) → IsFetchInHand tells h f link
    → (op ≡ due_op worker (Fetches f) now) × IsWaiting tells w (Fetches f) link

abbrev pub MakesProbeTurn : ℕ → Moment → ProbeInHand → Operation → Waiting → Type 0
MakesProbeTurn worker now h op w =
    (tells : Bool) (p : Probing) (link : LinkAt) → IsProbeInHand tells h p link
    → (op ≡ due_op worker (Probes p) now) × IsWaiting tells w (Probes p) link

-- its room is left
abbrev pub WaitsWithRoom : Waiting → FetchRoom → Type 0
WaitsWithRoom w room =
    (tells : Bool) (hand : Hand) (link : LinkAt) → IsWaiting tells w hand link → IsRoomFor tells room link

abbrev pub StaysWaiting : Waiting → Waiting → Type 0
StaysWaiting old new =
    (tells : Bool) (hand : Hand) (link : LinkAt) → IsWaiting tells old hand link → IsWaiting tells new hand link

-- it ends the work so
abbrev pub EndsAs : InHand → Option WorkEnd → Type 0
EndsAs h end =
    (tells : Bool) (hand : Hand) (link : LinkAt) → IsInHand tells h hand link → end ≡ end_of_hand hand

-- ---- between two turns

abbrev pub IsInHandOf : Bool → Option InHand → Hand → LinkAt → Type 0
IsInHandOf tells None hand link = ⊥
IsInHandOf tells (Some h) hand link = IsInHand tells h hand link

pub record StandsAs (tells : Bool) (state : WorkState) (link : LinkAt) (a : WorkerAt) : Type 0 where
  pub link_is : a.link ≡ link
  pub moment_is : a.moment ≡ state.moment.0
  pub hand_is : IsInHandOf tells state.hand a.hand link

-- nothing is in hand yet
pub record IsNewState (worker : ℕ) (state : WorkState) : Type 0 where
  pub worker_is : state.worker ≡ worker
  pub moment_is : state.moment ≡ record { 0 = 0 }
  pub stands : (tells : Bool) (link : LinkAt) → StandsAs tells state link (fresh link)
