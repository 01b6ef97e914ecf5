-- The link of a worker forgets nothing of what it received.
use Rattle.std.proofs.Common.{◌≡◌, ◌≤◌, ◌+◌, ◌∷◌, ℕ, zero, suc, Bool, true, false, IsTrue, List, [], Option, Some, None, refl, ap, subst, arith}
use Rattle.engine_turns.specs.Told.{RunTurn}
use Rattle.engine_turns.specs.declared.operations.Grant.{Grant}
use Rattle.engine_turns.specs.declared.operations.Grant.TheVariants as grant
use Rattle.engine_turns.specs.declared.operations.Said.{Said}
use Rattle.engine_turns.specs.declared.operations.Said.TheVariants as said
use Rattle.link_source.specs.Link.{LinkState}
use Rattle.request_chain.specs.Chains.{received_by}
use Rattle.conn_worker.specs.Hands.{Fetching, Hand, Nothing, Fetches, Probes, Seals, IsHungUp, LinkAt, Probing, WorkerAt, allowing, begun_fetch, delivered}
use Rattle.conn_worker.specs.Sound.{NoGrant}
use Rattle.conn_worker.specs.Table.{FollowsAnswer, FollowsDelivery, FollowsFetch, FollowsGrant, FollowsKept, FollowsMore, StepsOn, end_behind, goes_on_by}
use Rattle.conn_worker.specs.Works.{EndsOrGoesOn, Works}
use Rattle.conn_worker.specs.declared.ends.WorkEnd.{WorkEnd}
use Rattle.conn_worker.specs.declared.hands.Gain.{Gain}
use Rattle.conn_worker.specs.declared.hands.Gain.TheVariants.{Lost, Open, Ready, Starved}
use Rattle.worker_turns.proofs.Receiving.{WorksOnward, received_over}
use Rattle.worker_turns.proofs.Costs.{IsMeasured, MeasuredBy, MeasuredHand, answer_measured, gained_received}
use Rattle.worker_turns.proofs.Followed.{fetch_followed, grant_followed, nothing_followed, probe_followed, seal_followed}

goes_so : (by : Option WorkEnd) (Ended Was Is : Type 0) → (Was → Is) → EndsOrGoesOn by Ended Was
    → EndsOrGoesOn by Ended Is
goes_so None Ended Was Is on was = on was
goes_so (Some by) Ended Was Is on ended = ended

same_onward : (link link' : LinkAt) → link' ≡ link → received_over link ≤ received_over link'
same_onward link link' same =
    (let n : received_over link' ≡ received_over link = ap received_over same in omega (arith, n))

hung_onward : (tells : Bool) (told : IsTrue tells) (link link' : LinkAt) → IsHungUp tells link link'
    → received_over link ≤ received_over link'
hung_onward tells told link link' hung =
    let same : received_over link' ≡ received_over link =
    ap (λ (s : LinkState). received_by s.exchanges) (hung.state told) in
    omega (arith, same)

-- a step goes on from what the link received
steps_onward : (tells : Bool) (told : IsTrue tells) (base : Fetching) (link : LinkAt) (hand' : Hand) (link' : LinkAt)
    → received_over link ≡ received_over base.since + received_by base.used → StepsOn tells base hand' link'
    → received_over link ≤ received_over link'
steps_onward tells told base link hand' link' over s =
    let g : Fetching = s.0 in
    let now = gained_received g.since.state.exchanges link'.state.exchanges g.used (s.1.at.carried.used.gained told) in
    let since : received_over g.since ≡ received_over base.since =
    ap (λ (x : Fetching). received_over x.since) s.1.same in
    let more = s.1.more told in omega (arith, over, now, since, more)

kept_onward : (tells : Bool) (told : IsTrue tells) (d : Fetching) (last : Bool) (left : ℕ) (link : LinkAt) (hand' : Hand)
    (link' : LinkAt) → d.left ≡ left → IsMeasured tells d link → FollowsKept tells d last link hand' link'
    → received_over link ≤ received_over link'
kept_onward tells told d true left link hand' link' is measured kept = same_onward link link' kept.1
kept_onward tells told d false zero link hand' link' is measured kept =
    same_onward link link' (subst (λ n. goes_on_by tells d n link hand' link') is kept).1
kept_onward tells told d false (suc left) link hand' link' is measured kept =
    steps_onward tells told d link hand' link' (measured.over told)
    (subst (λ n. goes_on_by tells d n link hand' link') is kept)

delivery_onward : (tells : Bool) (told : IsTrue tells) (d : Fetching) (last : Bool) (answer : Said) (link : LinkAt)
    (hand' : Hand) (link' : LinkAt) → IsMeasured tells d link → FollowsDelivery tells d last answer link hand' link'
    → received_over link ≤ received_over link'
delivery_onward tells told d last (said.Kept counted repeated) link hand' link' measured is =
    kept_onward tells told d last d.left link hand' link' refl measured is
delivery_onward tells told d last answer link hand' link' measured is = hung_onward tells told link link' is.1

more_onward : (tells : Bool) (told : IsTrue tells) (f : Fetching) (answer : Said) (link : LinkAt) (hand' : Hand)
    (link' : LinkAt) → IsMeasured tells f link → FollowsMore tells f answer link hand' link'
    → received_over link ≤ received_over link'
more_onward tells told f (said.Allow bytes) link hand' link' measured is =
    steps_onward tells told (allowing f bytes) link hand' link' (measured.over told) is
more_onward tells told f (said.Hold ms) link hand' link' measured is = same_onward link link' is.1
more_onward tells told f answer link hand' link' measured is = hung_onward tells told link link' is.1

fetch_onward : (tells : Bool) (told : IsTrue tells) (f : Fetching) (gain : Gain) (answer : Said) (link : LinkAt)
    (hand' : Hand) (link' : LinkAt) → MeasuredBy tells f link gain → FollowsFetch tells f gain answer link hand' link'
    → received_over link ≤ received_over link'
fetch_onward tells told f (Ready run bytes last) answer link hand' link' measured is =
    delivery_onward tells told (delivered f run bytes) last answer link hand' link'
    (record { over = measured.over; exact = measured.exact }) is
fetch_onward tells told f (Lost loss mark) answer link hand' link' measured is = same_onward link link' is.1
fetch_onward tells told f Open answer link hand' link' measured is =
    more_onward tells told f answer link hand' link' measured.0 is
fetch_onward tells told f Starved answer link hand' link' measured is = same_onward link link' is.1

grant_onward : (tells : Bool) (told : IsTrue tells) (granted : Grant) (link : LinkAt) (hand' : Hand) (link' : LinkAt)
    → FollowsGrant tells granted link hand' link' → received_over link ≤ received_over link'
grant_onward tells told (grant.Fetch granted) link hand' link' is =
    steps_onward tells told (begun_fetch granted link) link hand' link' (omega arith) is
grant_onward tells told (grant.Probe claim gid url) link hand' link' is =
    let p : Probing = is.0 in
    let now = gained_received p.since.state.exchanges link'.state.exchanges p.used (is.1.at.used.gained told) in
    let since : received_over p.since ≡ received_over link = ap received_over is.1.since_is in
    omega (arith, now, since)
grant_onward tells told (grant.Hash gid piece bytes) link hand' link' is = same_onward link link' is.1

hand_onward : (tells : Bool) (told : IsTrue tells) (hand : Hand) (answer : Said) (link : LinkAt) (hand' : Hand)
    (link' : LinkAt) → NoGrant answer → MeasuredHand tells hand link → FollowsAnswer tells hand answer link hand' link'
    → received_over link ≤ received_over link'
hand_onward tells told Nothing answer link hand' link' none measured is =
    hung_onward tells told link link' (nothing_followed tells answer link hand' link' none is).1
hand_onward tells told (Fetches f) answer link hand' link' none measured is =
    fetch_onward tells told f f.gain answer link hand' link' measured
    (fetch_followed tells f answer link hand' link' none is)
hand_onward tells told (Probes p) answer link hand' link' none measured is =
    same_onward link link' (probe_followed tells p answer link hand' link' none is).1
hand_onward tells told (Seals gid sealed) answer link hand' link' none measured is =
    same_onward link link' (seal_followed tells gid sealed answer link hand' link' none is).1

answer_onward : (tells : Bool) (told : IsTrue tells) (hand : Hand) (answer : Said) (link : LinkAt) (hand' : Hand)
    (link' : LinkAt) → MeasuredHand tells hand link → FollowsAnswer tells hand answer link hand' link'
    → received_over link ≤ received_over link'
answer_onward tells told hand (said.Grant granted) link hand' link' measured is =
    grant_onward tells told granted link hand' link' (grant_followed tells hand granted link hand' link' is)
answer_onward tells told hand answer link hand' link' measured is =
    hand_onward tells told hand answer link hand' link' tt measured is

pub works_onward : (tells : Bool) (worker : ℕ) (ts : List RunTurn) (a b : WorkerAt) (end : Option WorkEnd)
    → MeasuredHand tells a.hand a.link → Works tells worker ts a b end → WorksOnward tells worker ts a b end
works_onward tells worker [] a b end measured works = works
works_onward tells worker (t ∷ ts) a b end measured works =
    let m : WorkerAt = works.1 in
    let follows = works.2.follows in (
      works.0,
      m,
      record {
        does = works.2;
        more = λ told. answer_onward tells told a.hand t.answer.said a.link m.hand m.link measured follows;
      },
      goes_so (end_behind t.answer.said m.hand) _ _ _
          (λ rest. works_onward tells worker ts m b end
          (answer_measured tells a.hand t.answer.said a.link m.hand m.link measured follows) rest) works.3,
    )
