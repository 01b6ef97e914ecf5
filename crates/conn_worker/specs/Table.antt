-- Which turn a worker takes, by what it has in hand, and what it has in hand behind the answer.
use Rattle.std.specs.Prelude.{◌≡◌, ◌≤◌, ℕ, zero, suc, Bool, true, false, IsTrue, List, Option, Some, None}
use Rattle.std.specs.Option.{option_or}
use Rattle.dl_kinds.specs.declared.runs.Moment.{Moment}
use Rattle.engine_turns.specs.declared.limits.TheConstants.{MAX_ALLOWANCE}
use Rattle.engine_turns.specs.declared.operations.Grant.{Grant}
use Rattle.engine_turns.specs.declared.operations.Grant.TheVariants as grant
use Rattle.engine_turns.specs.declared.operations.Operation.{Operation}
use Rattle.engine_turns.specs.declared.operations.Operation.TheVariants as operation
use Rattle.engine_turns.specs.declared.operations.Said.{Said}
use Rattle.engine_turns.specs.declared.operations.Said.TheVariants as said
use Rattle.request_chain.specs.Chains.{received_by}
use Rattle.conn_worker.specs.Ends.{end_of_said}
use Rattle.conn_worker.specs.Facts.{IsFetchingAt, IsProbingAt}
use Rattle.conn_worker.specs.Hands.{Fetching, Hand, Nothing, Fetches, Probes, Seals, IsHungUp, LinkAt, Probing, allowing, begun_fetch, delivered}
use Rattle.conn_worker.specs.declared.ends.WorkEnd.{WorkEnd}
use Rattle.conn_worker.specs.declared.ends.WorkEnd.TheVariants.{NoMemory}
use Rattle.conn_worker.specs.declared.hands.Gain.{Gain}
use Rattle.conn_worker.specs.declared.hands.Gain.TheVariants.{Ready, Lost, Open, Starved}
use Rattle.conn_worker.specs.declared.hands.ProbeEnd.{ProbeEnd}
use Rattle.conn_worker.specs.declared.hands.ProbeEnd.TheVariants.{Told, Missed, Lacking}

-- ---- the turn that is due

-- blocks that are ready are delivered, a loss is told, and otherwise more bytes are asked for
abbrev pub fetch_op : ℕ → Fetching → Moment → Gain → Operation
fetch_op worker f now (Ready run bytes last) = operation.Deliver f.claim run bytes now
fetch_op worker f now (Lost loss mark) = operation.Lose f.claim mark now
fetch_op worker f now Open = operation.More f.claim MAX_ALLOWANCE now
fetch_op worker f now Starved = operation.Next worker now

abbrev pub probe_op : (worker claim : ℕ) → Moment → ProbeEnd → Operation
probe_op worker claim now (Told total) = operation.Sized claim total now
probe_op worker claim now (Missed loss mark) = operation.Lose claim mark now
probe_op worker claim now Lacking = operation.Next worker now

abbrev pub due_op : ℕ → Hand → Moment → Operation
due_op worker Nothing now = operation.Next worker now
due_op worker (Fetches f) now = fetch_op worker f now f.gain
due_op worker (Probes p) now = probe_op worker p.claim now p.end
due_op worker (Seals gid sealed) now = operation.Seal gid sealed now

-- ---- what follows

-- one step of the fetch: it is carried on, and no byte that it received is forgotten
pub record IsStepOf (tells : Bool) (f : Fetching) (link : LinkAt) (g : Fetching) : Type 0 where
  pub same : g ≡ record f { used = g.used; left = g.left; gain = g.gain }
  pub more : IsTrue tells → received_by f.used ≤ received_by g.used
  pub at : IsFetchingAt tells g link

-- a hand and the link, behind what a worker did
abbrev pub Outcomes : Type 1
Outcomes = Hand → LinkAt → Type 0

-- nothing is in hand, and the link is as it was
abbrev pub LeavesNothing : LinkAt → Outcomes
LeavesNothing link hand' link' = (hand' ≡ Nothing) × (link' ≡ link)

-- nothing is in hand, and the link is hung up, so that no connection stands open for nothing
abbrev pub HangsUp : Bool → LinkAt → Outcomes
HangsUp tells link hand' link' = (hand' ≡ Nothing) × IsHungUp tells link link'

abbrev pub LeavesFetch : Fetching → LinkAt → Outcomes
LeavesFetch f link hand' link' = (hand' ≡ Fetches f) × (link' ≡ link)

abbrev pub StepsOn : Bool → Fetching → Outcomes
StepsOn tells f hand' link' = (g : Fetching) × IsStepOf tells f link' g × (hand' ≡ Fetches g)

-- the mirror was asked for the length of the payload
pub record IsProbeOf (tells : Bool) (claim : ℕ) (url : List ℕ) (link link' : LinkAt) (p : Probing) : Type 0 where
  pub claim_is : p.claim ≡ claim
  pub url_is : p.url ≡ url
  pub since_is : p.since ≡ link
  pub at : IsProbingAt tells p link'

-- what was granted is done: a step of a fetch, a probe, or a digest
abbrev pub FollowsGrant : Bool → Grant → LinkAt → Outcomes
FollowsGrant tells (grant.Fetch granted) link hand' link' = StepsOn tells (begun_fetch granted link) hand' link'
FollowsGrant tells (grant.Probe claim gid url) link hand' link' =
    (p : Probing) × IsProbeOf tells claim url link link' p × (hand' ≡ Probes p)
FollowsGrant tells (grant.Hash gid piece bytes) link hand' link' =
    (hand' ≡ Seals gid (record { piece = piece; bytes = bytes })) × (link' ≡ link)

-- blocks were counted: the last ones end the fetch, and another step is made only where bytes are left
abbrev pub goes_on_by : Bool → Fetching → ℕ → LinkAt → Outcomes
goes_on_by tells f zero link = LeavesFetch f link
goes_on_by tells f (suc left) link = StepsOn tells f

abbrev pub FollowsKept : Bool → Fetching → Bool → LinkAt → Outcomes
FollowsKept tells f true link = LeavesNothing link
FollowsKept tells f false link = goes_on_by tells f f.left link

abbrev pub FollowsDelivery : Bool → Fetching → Bool → Said → LinkAt → Outcomes
FollowsDelivery tells f last (said.Kept counted repeated) link = FollowsKept tells f last link
FollowsDelivery tells f last other link = HangsUp tells link

-- more bytes may be taken, or none yet
abbrev pub FollowsMore : Bool → Fetching → Said → LinkAt → Outcomes
FollowsMore tells f (said.Allow bytes) link = StepsOn tells (allowing f bytes)
FollowsMore tells f (said.Hold ms) link = LeavesFetch f link
FollowsMore tells f other link = HangsUp tells link

abbrev pub FollowsFetch : Bool → Fetching → Gain → Said → LinkAt → Outcomes
FollowsFetch tells f (Ready run bytes last) answer link =
    FollowsDelivery tells (delivered f run bytes) last answer link
FollowsFetch tells f Open answer link = FollowsMore tells f answer link
FollowsFetch tells f other answer link = LeavesNothing link

-- What follows the answer of the turn that was due. Who asked for work in vain hangs up; a loss, a length and a digest are followed by
-- a turn that asks for work, to which the link is left as it was.
abbrev pub FollowsAnswer : Bool → Hand → Said → LinkAt → Outcomes
FollowsAnswer tells hand (said.Grant granted) link = FollowsGrant tells granted link
FollowsAnswer tells Nothing answer link = HangsUp tells link
FollowsAnswer tells (Fetches f) answer link = FollowsFetch tells f f.gain answer link
FollowsAnswer tells hand answer link = LeavesNothing link

-- ---- the end

abbrev pub end_of_gain : Gain → Option WorkEnd
end_of_gain Starved = Some NoMemory
end_of_gain gain = None

abbrev pub end_of_probe : ProbeEnd → Option WorkEnd
end_of_probe Lacking = Some NoMemory
end_of_probe end = None

abbrev pub end_of_hand : Hand → Option WorkEnd
end_of_hand (Fetches f) = end_of_gain f.gain
end_of_hand (Probes p) = end_of_probe p.end
end_of_hand hand = None

-- the answer ends the work, or want of memory behind it
abbrev pub end_behind : Said → Hand → Option WorkEnd
end_behind answer hand' = option_or (end_of_said answer) (end_of_hand hand')
