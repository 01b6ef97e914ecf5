-- What a turn costs, by what the worker has in hand: how many turns there may be up to the next event or byte.
use Rattle.std.proofs.Common.{◌≡◌, ◌≤◌, ◌+◌, ◌∷◌, ℕ, zero, suc, Bool, true, false, IsTrue, List, [], length, refl, sym, ap, subst, arith}
use Rattle.std.proofs.lemmas.List.Sums.{sum_by-cons}
use Rattle.engine_turns.specs.declared.operations.Grant.{Grant}
use Rattle.engine_turns.specs.declared.operations.Grant.TheVariants as grant
use Rattle.engine_turns.specs.declared.operations.Said.{Said}
use Rattle.engine_turns.specs.declared.operations.Said.TheVariants as said
use Rattle.link_source.specs.Exchanges.{Exchange}
use Rattle.request_chain.specs.Chains.{Gains, received_by}
use Rattle.conn_worker.specs.Facts.{IsCarried, IsGain, IsTakenExactly}
use Rattle.conn_worker.specs.Hands.{Fetching, Hand, Nothing, Fetches, Probes, Seals, LinkAt, allowing, begun_fetch, delivered}
use Rattle.conn_worker.specs.Sound.{NoGrant}
use Rattle.conn_worker.specs.Table.{FollowsAnswer, FollowsDelivery, FollowsFetch, FollowsGrant, FollowsKept, FollowsMore, LeavesFetch, StepsOn, goes_on_by}
use Rattle.conn_worker.specs.declared.hands.Gain.{Gain}
use Rattle.conn_worker.specs.declared.hands.Gain.TheVariants.{Lost, Open, Ready, Starved}
use Rattle.worker_turns.proofs.Receiving.{received_over}
use Rattle.worker_turns.proofs.Followed.{fetch_followed, grant_followed, nothing_followed, probe_followed, seal_followed}

-- ---- bytes

pub gained_received : (before now gained : List Exchange) → Gains before now gained
    → received_by now ≡ received_by before + received_by gained
gained_received before now [] same = (let n : received_by now ≡ received_by before = ap received_by same in omega
    (arith, n))
gained_received before now (x ∷ xs) gains =
    let rest = gained_received (x ∷ before) now xs gains in
    let front = sum_by-cons (λ (stream : Exchange). length stream.received) x before in
    let more = sum_by-cons (λ (stream : Exchange). length stream.received) x xs in
    omega (arith, rest, front, more)

-- ---- costs

abbrev pub gain_cost : Gain → Bool → ℕ
gain_cost Open true = 4
gain_cost Open false = 5
gain_cost gain held = 3

abbrev pub cost_of : Hand → Bool → ℕ
cost_of Nothing true = 1
cost_of Nothing false = 2
cost_of (Fetches f) held = gain_cost f.gain held
cost_of (Probes p) held = 3
cost_of (Seals gid sealed) held = 0

gain_cost_few : (gain : Gain) (held : Bool) → gain_cost gain held ≤ 5
gain_cost_few Open true = omega arith
gain_cost_few Open false = omega arith
gain_cost_few gain held = omega arith

pub cost_few : (hand : Hand) (held : Bool) → cost_of hand held ≤ 5
cost_few Nothing true = omega arith
cost_few Nothing false = omega arith
cost_few (Fetches f) held = gain_cost_few f.gain held
cost_few (Probes p) held = omega arith
cost_few (Seals gid sealed) held = omega arith

-- ---- what is known of a fetch in hand

-- its link received what it used, and so it has left what was granted but that
pub record IsMeasured (tells : Bool) (f : Fetching) (link : LinkAt) : Type 0 where
  pub over : IsTrue tells → received_over link ≡ received_over f.since + received_by f.used
  pub exact : IsTrue tells → received_by f.used + f.left ≡ f.granted

abbrev pub MeasuredBy : Bool → Fetching → LinkAt → Gain → Type 0
MeasuredBy tells f link (Ready run bytes last) = IsMeasured tells f link
MeasuredBy tells f link Open = IsMeasured tells f link × (IsTrue tells → f.left ≡ 0)
MeasuredBy tells f link gain = Unit {0}

abbrev pub MeasuredHand : Bool → Hand → LinkAt → Type 0
MeasuredHand tells (Fetches f) link = MeasuredBy tells f link f.gain
MeasuredHand tells hand link = Unit {0}

carried_measured : (tells : Bool) (f : Fetching) (link : LinkAt) → IsCarried tells f link → IsTakenExactly tells f
    → IsMeasured tells f link
carried_measured tells f link carried exact = record {
  over = λ told. gained_received f.since.state.exchanges link.state.exchanges f.used (carried.used.gained told);
  exact = exact;
}

pub gain_measured : (tells : Bool) (f : Fetching) (link : LinkAt) (gain : Gain) → IsCarried tells f link
    → IsGain tells f link gain → MeasuredBy tells f link gain
gain_measured tells f link (Ready run bytes last) carried is = carried_measured tells f link carried is.2
gain_measured tells f link Open carried is = (carried_measured tells f link carried is.1, is.0)
gain_measured tells f link (Lost loss mark) carried is = tt
gain_measured tells f link Starved carried is = tt

steps_measured : (tells : Bool) (f : Fetching) (hand' : Hand) (link' : LinkAt) → StepsOn tells f hand' link'
    → MeasuredHand tells hand' link'
steps_measured tells f hand' link' s =
    let g : Fetching = s.0 in
    subst (λ (h : Hand). MeasuredHand tells h link') (sym s.2)
    (gain_measured tells g link' g.gain s.1.at.carried s.1.at.gain)

nothing_measured : (tells : Bool) (hand' : Hand) (link' : LinkAt) → hand' ≡ Nothing → MeasuredHand tells hand' link'
nothing_measured tells hand' link' left = subst (λ (h : Hand). MeasuredHand tells h link') (sym left) tt

waits_measured : (tells : Bool) (f : Fetching) (link : LinkAt) (hand' : Hand) (link' : LinkAt) → f.gain ≡ Open
    → IsMeasured tells f link → (IsTrue tells → f.left ≡ 0) → LeavesFetch f link hand' link'
    → MeasuredHand tells hand' link'
waits_measured tells f link hand' link' opened is none leaves =
    subst (λ (l : LinkAt). MeasuredHand tells hand' l) (sym leaves.1)
    (subst (λ (h : Hand). MeasuredHand tells h link) (sym leaves.0)
    (subst (λ (g : Gain). MeasuredBy tells f link g) (sym opened) (is, none)))

kept_measured : (tells : Bool) (d : Fetching) (left : ℕ) (last : Bool) (link : LinkAt) (hand' : Hand) (link' : LinkAt)
    → d.left ≡ left → d.gain ≡ Open → IsMeasured tells d link → FollowsKept tells d last link hand' link'
    → MeasuredHand tells hand' link'
kept_measured tells d left true link hand' link' is opened measured kept = nothing_measured tells hand' link' kept.0
kept_measured tells d zero false link hand' link' is opened measured kept =
    waits_measured tells d link hand' link' opened measured (λ told. is)
    (subst (λ n. goes_on_by tells d n link hand' link') is kept)
kept_measured tells d (suc left) false link hand' link' is opened measured kept =
    steps_measured tells d hand' link' (subst (λ n. goes_on_by tells d n link hand' link') is kept)

delivery_measured : (tells : Bool) (d : Fetching) (last : Bool) (answer : Said) (link : LinkAt) (hand' : Hand)
    (link' : LinkAt) → d.gain ≡ Open → IsMeasured tells d link → FollowsDelivery tells d last answer link hand' link'
    → MeasuredHand tells hand' link'
delivery_measured tells d last (said.Kept counted repeated) link hand' link' opened measured is =
    kept_measured tells d d.left last link hand' link' refl opened measured is
delivery_measured tells d last answer link hand' link' opened measured is = nothing_measured tells hand' link' is.0

more_measured : (tells : Bool) (f : Fetching) (answer : Said) (link : LinkAt) (hand' : Hand) (link' : LinkAt)
    → f.gain ≡ Open → IsMeasured tells f link → (IsTrue tells → f.left ≡ 0) → FollowsMore tells f answer link hand'
    link'
    → MeasuredHand tells hand' link'
more_measured tells f (said.Allow bytes) link hand' link' opened measured none is =
    steps_measured tells (allowing f bytes) hand' link' is
more_measured tells f (said.Hold ms) link hand' link' opened measured none is =
    waits_measured tells f link hand' link' opened measured none is
more_measured tells f answer link hand' link' opened measured none is = nothing_measured tells hand' link' is.0

fetch_measured : (tells : Bool) (f : Fetching) (gain : Gain) (answer : Said) (link : LinkAt) (hand' : Hand)
    (link' : LinkAt) → f.gain ≡ gain → MeasuredBy tells f link gain → FollowsFetch tells f gain answer link hand' link'
    → MeasuredHand tells hand' link'
fetch_measured tells f (Ready run bytes last) answer link hand' link' is measured follows =
    delivery_measured tells (delivered f run bytes) last answer link hand' link' refl
    (record { over = measured.over; exact = measured.exact }) follows
fetch_measured tells f (Lost loss mark) answer link hand' link' is measured follows =
    nothing_measured tells hand' link' follows.0
fetch_measured tells f Open answer link hand' link' is measured follows =
    more_measured tells f answer link hand' link' is measured.0 measured.1 follows
fetch_measured tells f Starved answer link hand' link' is measured follows =
    nothing_measured tells hand' link' follows.0

grant_measured : (tells : Bool) (granted : Grant) (link : LinkAt) (hand' : Hand) (link' : LinkAt)
    → FollowsGrant tells granted link hand' link' → MeasuredHand tells hand' link'
grant_measured tells (grant.Fetch granted) link hand' link' is =
    steps_measured tells (begun_fetch granted link) hand' link' is
grant_measured tells (grant.Probe claim gid url) link hand' link' is =
    subst (λ (h : Hand). MeasuredHand tells h link') (sym is.2) tt
grant_measured tells (grant.Hash gid piece bytes) link hand' link' is =
    subst (λ (h : Hand). MeasuredHand tells h link') (sym is.0) tt

hand_measured : (tells : Bool) (hand : Hand) (answer : Said) (link : LinkAt) (hand' : Hand) (link' : LinkAt)
    → NoGrant answer → MeasuredHand tells hand link → FollowsAnswer tells hand answer link hand' link'
    → MeasuredHand tells hand' link'
hand_measured tells Nothing answer link hand' link' none measured is =
    nothing_measured tells hand' link' (nothing_followed tells answer link hand' link' none is).0
hand_measured tells (Fetches f) answer link hand' link' none measured is =
    fetch_measured tells f f.gain answer link hand' link' refl measured
    (fetch_followed tells f answer link hand' link' none is)
hand_measured tells (Probes p) answer link hand' link' none measured is =
    nothing_measured tells hand' link' (probe_followed tells p answer link hand' link' none is).0
hand_measured tells (Seals gid sealed) answer link hand' link' none measured is =
    nothing_measured tells hand' link' (seal_followed tells gid sealed answer link hand' link' none is).0

-- behind each answer
pub answer_measured : (tells : Bool) (hand : Hand) (answer : Said) (link : LinkAt) (hand' : Hand) (link' : LinkAt)
    → MeasuredHand tells hand link → FollowsAnswer tells hand answer link hand' link'
    → MeasuredHand tells hand' link'
answer_measured tells hand (said.Grant granted) link hand' link' measured is =
    grant_measured tells granted link hand' link' (grant_followed tells hand granted link hand' link' is)
answer_measured tells hand answer link hand' link' measured is =
    hand_measured tells hand answer link hand' link' tt measured is
