-- What follows an answer.
use Rattle.std.proofs.Common.{◌≡◌, ◌≢◌, ◌+◌, ◌++◌, ⊎_elim, ℕ, zero, suc, Bool, List, [], Option, None, Some, IfSome, refl, sym, subst, ◌∙◌, inl, append_assoc, arith}
use Rattle.dl_kinds.specs.declared.gid.Gid.{Gid}
use Rattle.engine_turns.specs.declared.operations.FetchGrant.{FetchGrant}
use Rattle.engine_turns.specs.declared.operations.Grant.{Grant}
use Rattle.engine_turns.specs.declared.operations.Grant.TheVariants as grant
use Rattle.engine_turns.specs.declared.operations.Said.{Said}
use Rattle.engine_turns.specs.declared.operations.Said.TheVariants as said
use Rattle.fetch_session.specs.Blocks.{cut}
use Rattle.fetch_session.specs.Fetches.{BringsMore, HasCome, IsFetch, IsFrontOfFetched, MayBegin, MayStep, fetch_plan, lost_of, ready_of, rest_of}
use Rattle.fetch_session.specs.declared.fetch.Fetch.{Fetch}
use Rattle.fetch_session.specs.declared.room.FetchRoom.{FetchRoom}
use Rattle.link_source.specs.Exchanges.{Exchange}
use Rattle.link_source.specs.Link.{LinkState}
use Rattle.reply_reader.specs.declared.loss.Loss.{Loss}
use Rattle.request_chain.specs.Chains.{received_by}
use Rattle.part_fetches.specs.Fetched.{Fetched}
use Rattle.request_chain.specs.Links.{CountsLinkLoss}
use Rattle.request_chain.specs.Plans.{Done}
use Rattle.fetch_session.specs.declared.source.Source.{Source}
use Rattle.span_map.specs.Jobs.{IsJob, run_start}
use Rattle.span_map.specs.declared.jobs.Job.{Job}
use Rattle.span_map.specs.declared.jobs.JobPart.{JobPart}
use Rattle.verify_piece.specs.Seals.{PieceBytes}
use Rattle.conn_worker.specs.Facts.{IsGain, IsTakenExactly}
use Rattle.conn_worker.specs.Hands.{Fetching, Hand, Nothing, Fetches, Probes, Seals, LinkAt, allowing, begun_fetch, delivered}
use Rattle.conn_worker.specs.Holding.{HasOutcome, IsAskingMore, IsDelivered, IsLetGoOf, IsOpenFetch, IsProbedInHand, IsRoomFor, IsStepInHand, IsWaiting, MayStepOn, delivering, is_let_go_by}
use Rattle.conn_worker.specs.Sound.{NoGrant}
use Rattle.conn_worker.specs.Table.{FollowsAnswer, FollowsDelivery, FollowsFetch, FollowsGrant, FollowsMore, HangsUp, LeavesFetch, LeavesNothing, StepsOn, goes_on_by}
use Rattle.conn_worker.specs.declared.hands.FetchInHand.{FetchInHand}
use Rattle.conn_worker.specs.declared.hands.Gain.{Gain}
use Rattle.conn_worker.specs.declared.hands.Gain.TheVariants.{Lost, Open, Ready, Starved}
use Rattle.conn_worker.specs.declared.hands.InHand.{InHand}
use Rattle.conn_worker.specs.declared.hands.InHand.TheVariants as kept
use Rattle.conn_worker.specs.declared.hands.OpenFetch.{OpenFetch}
use Rattle.conn_worker.specs.declared.hands.ProbeInHand.{ProbeInHand}
use Rattle.conn_worker.specs.declared.hands.Waiting.TheVariants as waiting
use Rattle.conn_worker.proofs.Steps.{waits_in_hand}

-- ---- steps

pub stepped_comes : (tells : Bool) (f : Fetching) (h : FetchInHand) (link' : LinkAt) → IsStepInHand tells f link' h
    → HasOutcome tells (StepsOn tells f) (kept.Fetches h) link'
stepped_comes tells f h link' s = (Fetches s.0, (s.0, s.1, refl), s.2)

-- the exchanges tell what was handed out of a fetch that isn't lost
front_by : (parts : List JobPart) (used : List Exchange) (handed held : List ℕ) (lost : Option Loss) (source : Source)
    → lost ≡ None → HasCome parts used (handed ++ held) lost source → IsFrontOfFetched parts used handed
front_by parts used handed held None source none came = ⊎_elim
    (λ (all : Fetched parts used (handed ++ held) Done []). record { behind = held; ending = Done; fetched = all })
    (λ (more : BringsMore parts used (handed ++ held) source). record {
      behind = held ++ more.waiting;
      ending = more.brought.ending;
      fetched = subst (λ l. Fetched parts used l more.brought.ending []) (append_assoc handed held more.waiting)
          more.brought.fetched;
    }) came
front_by parts used handed held (Some loss) source none came = absurd (let no : Some loss ≡ None = none in cc)

front_unlost : (job : Job) (used : List Exchange) (handed : List ℕ) (fetch : Fetch) → IsFetch job used handed fetch
    → lost_of fetch ≡ None → IsFrontOfFetched job.parts used handed
front_unlost job used handed fetch is none = front_by job.parts used handed fetch.held.items fetch.lost fetch.source none is.came

-- a fetch that begins may be carried on
pub begun_may : (tells : Bool) (granted : FetchGrant) (room : FetchRoom) (fetch : Fetch) (link : LinkAt) → IsJob granted.job
    → IsRoomFor tells room link → IsFetch granted.job [] [] fetch → fetch_plan fetch ≡ granted.job.plan
    → rest_of fetch ≡ granted.job.run → (ready_of fetch).count ≡ 0 → lost_of fetch ≡ None
    → ((link : LinkState) → MayBegin room link → MayStep fetch link)
    → cut granted.job.plan granted.job.run.first ≡ run_start granted.job.plan granted.job.run
    → MayStepOn tells (record { claim = granted.claim; fetch = fetch; left = granted.allow }) (begun_fetch granted link) link
begun_may tells granted room fetch link job begins is plan rest none unlost may first = record {
  is = record {
    claim = refl;
    left = refl;
    plan = plan;
    rest = rest;
    none_ready = none;
    may = λ t. may link.state (begins t);
    lost = subst (λ lost. IfSome lost (CountsLinkLoss link.faults link.faults)) (sym unlost) tt;
    fetch = λ t. is;
    carried = record {
      job = job;
      end = refl;
      place = omega (arith, first);
      used = record { later = omega arith; gained = λ t. refl; answered = λ t. inl (refl, refl) };
      spent = λ t. omega arith;
    };
  };
  some = (let some = job.some in omega (arith, some));
  exact = λ t. omega arith;
  front = λ t. front_unlost granted.job [] [] fetch is unlost;
}

allowed_exactly : (tells : Bool) (f : Fetching) (bytes : ℕ) (link : LinkAt) → f.gain ≡ Open → IsGain tells f link f.gain
    → IsTakenExactly tells (allowing f bytes)
allowed_exactly tells f bytes link gain is t =
    let open_is = subst (λ g. IsGain tells f link g) gain is in
    let left : f.left ≡ 0 = open_is.0 t in
    let exact : received_by f.used + f.left ≡ f.granted = open_is.1 t in
    omega (arith, left, exact)

-- so one that more bytes are let go for
pub allowed_may : (tells : Bool) (o : OpenFetch) (f : Fetching) (bytes : ℕ) (link : LinkAt) → IsAskingMore tells o f link
    → MayStepOn tells (record { claim = o.claim; fetch = o.fetch; left = bytes }) (allowing f bytes) link
allowed_may tells o f bytes link a = record {
  is = record {
    claim = a.is.claim;
    left = refl;
    plan = a.is.plan;
    rest = a.is.rest;
    none_ready = a.is.none_ready;
    may = a.is.may;
    lost = a.is.lost;
    fetch = a.is.fetch;
    carried = record {
      job = a.is.carried.job;
      end = a.is.carried.end;
      place = a.is.carried.place;
      used = a.is.carried.used;
      spent = λ t. let spent = a.is.carried.spent t in omega (arith, spent);
    };
  };
  some = a.at.some;
  exact = λ t. allowed_exactly tells f bytes link a.gain a.at.gain t;
  front = (subst (λ g. IsGain tells f link g) a.gain a.at.gain).2;
}

-- ---- a fetch that waits

pub held_comes : (tells : Bool) (o : OpenFetch) (f : Fetching) (link : LinkAt) → IsAskingMore tells o f link
    → HasOutcome tells (LeavesFetch f link) (kept.Fetches (record { open_fetch = o; gain = Open })) link
held_comes tells o f link a = (
  Fetches f,
  (refl, refl),
  record {
    gain = sym a.gain;
    is = subst (λ g. IsOpenFetch tells o (delivering f g) link) (sym a.gain) a.is;
    at = a.at;
  },
)

pub spent_comes : (tells : Bool) (o : OpenFetch) (f : Fetching) (link : LinkAt) → o.left ≡ 0 → f.gain ≡ Open
    → MayStepOn tells o f link
    → HasOutcome tells (goes_on_by tells f f.left link) (kept.Fetches (record { open_fetch = o; gain = Open })) link
spent_comes tells o f link spent gain m =
    let left : f.left ≡ 0 = sym m.is.left ∙ spent in
    subst (λ n. HasOutcome tells (goes_on_by tells f n link) (kept.Fetches (record { open_fetch = o; gain = Open })) link)
    (sym left) (Fetches f, (refl, refl), waits_in_hand tells o f link gain m (λ t. left))

steps_by : (tells : Bool) (f : Fetching) (left : ℕ) (h : InHand) (link link' : LinkAt) → left ≢ 0
    → HasOutcome tells (StepsOn tells f) h link' → HasOutcome tells (goes_on_by tells f left link) h link'
steps_by tells f zero h link link' some comes = absurd (some refl)
steps_by tells f (suc left) h link link' some comes = comes

pub left_comes : (tells : Bool) (o : OpenFetch) (f : Fetching) (h : FetchInHand) (link link' : LinkAt) → o.left ≢ 0
    → MayStepOn tells o f link → IsStepInHand tells f link' h
    → HasOutcome tells (goes_on_by tells f f.left link) (kept.Fetches h) link'
left_comes tells o f h link link' some m s =
    steps_by tells f f.left (kept.Fetches h) link link' (λ e. some (m.is.left ∙ e)) (stepped_comes tells f h link' s)

-- ---- nothing is left in hand

pub leaves : (tells : Bool) (o : OpenFetch) (f : Fetching) (room : FetchRoom) (link : LinkAt)
    → ((link : LinkState) → MayStep o.fetch link → MayBegin room link) → IsOpenFetch tells o f link
    → HasOutcome tells (LeavesNothing link) (kept.Nothing room) link
leaves tells o f room link may is = (Nothing, (refl, refl), λ t. may link.state (is.may t))

pub other_more : (tells : Bool) (f : Fetching) (answer : Said) (h : InHand) (link link' : LinkAt)
    → ((bytes : ℕ) → answer ≡ said.Allow bytes → ⊥) → ((ms : ℕ) → answer ≡ said.Hold ms → ⊥)
    → HasOutcome tells (HangsUp tells link) h link' → HasOutcome tells (FollowsMore tells f answer link) h link'
other_more tells f (said.Allow bytes) h link link' no_allow no_hold comes = absurd (no_allow bytes refl)
other_more tells f (said.Hold ms) h link link' no_allow no_hold comes = absurd (no_hold ms refl)
other_more tells f answer h link link' no_allow no_hold comes = comes

pub other_delivery : (tells : Bool) (f : Fetching) (last : Bool) (answer : Said) (h : InHand) (link link' : LinkAt)
    → ((counted repeated : ℕ) → answer ≡ said.Kept counted repeated → ⊥)
    → HasOutcome tells (HangsUp tells link) h link' → HasOutcome tells (FollowsDelivery tells f last answer link) h link'
other_delivery tells f last (said.Kept counted repeated) h link link' no_kept comes = absurd (no_kept counted repeated refl)
other_delivery tells f last answer h link link' no_kept comes = comes

-- ---- the whole

fetch_let_go : (tells : Bool) (f : Fetching) (gain : Gain) (answer : Said) (link : LinkAt) → is_let_go_by gain
    → FollowsFetch tells f gain answer link Nothing link
fetch_let_go tells f (Ready run bytes last) answer link go = absurd go
fetch_let_go tells f (Lost loss mark) answer link go = (refl, refl)
fetch_let_go tells f Open answer link go = absurd go
fetch_let_go tells f Starved answer link go = (refl, refl)

follows_let_go : (tells : Bool) (hand : Hand) (answer : Said) (link : LinkAt) → NoGrant answer → IsLetGoOf hand
    → FollowsAnswer tells hand answer link Nothing link
follows_let_go tells hand (said.Grant granted) link none go = absurd none
follows_let_go tells Nothing answer link none go = absurd go
follows_let_go tells (Fetches f) answer link none go = fetch_let_go tells f f.gain answer link go
follows_let_go tells (Probes p) answer link none go = (refl, refl)
follows_let_go tells (Seals gid sealed) answer link none go = (refl, refl)

pub free_comes : (tells : Bool) (room : FetchRoom) (hand : Hand) (answer : Said) (link : LinkAt) → NoGrant answer
    → IsWaiting tells (waiting.Free room) hand link → HasOutcome tells (FollowsAnswer tells hand answer link) (kept.Nothing room) link
free_comes tells room hand answer link none w = (Nothing, follows_let_go tells hand answer link none w.0, w.1)

follows_wanting : (tells : Bool) (answer : Said) (link : LinkAt) (hand' : Hand) (link' : LinkAt) → NoGrant answer
    → HangsUp tells link hand' link' → FollowsAnswer tells Nothing answer link hand' link'
follows_wanting tells (said.Grant granted) link hand' link' none is = absurd none
follows_wanting tells answer link hand' link' none is = is

pub wanting_comes : (tells : Bool) (room : FetchRoom) (hand : Hand) (answer : Said) (h : InHand) (link link' : LinkAt)
    → NoGrant answer → IsWaiting tells (waiting.WantsWork room) hand link → HasOutcome tells (HangsUp tells link) h link'
    → HasOutcome tells (FollowsAnswer tells hand answer link) h link'
wanting_comes tells room Nothing answer h link link' none w comes =
    (comes.0, follows_wanting tells answer link comes.0 link' none comes.1, comes.2)
wanting_comes tells room (Fetches f) answer h link link' none w comes = absurd w
wanting_comes tells room (Probes p) answer h link link' none w comes = absurd w
wanting_comes tells room (Seals gid sealed) answer h link link' none w comes = absurd w

follows_fetch : (tells : Bool) (f : Fetching) (answer : Said) (link : LinkAt) (hand' : Hand) (link' : LinkAt)
    → NoGrant answer → FollowsFetch tells f f.gain answer link hand' link'
    → FollowsAnswer tells (Fetches f) answer link hand' link'
follows_fetch tells f (said.Grant granted) link hand' link' none is = absurd none
follows_fetch tells f answer link hand' link' none is = is

pub delivers_comes : (tells : Bool) (o : OpenFetch) (last : Bool) (hand : Hand) (answer : Said) (h : InHand)
    (link link' : LinkAt) → NoGrant answer → IsWaiting tells (waiting.Delivers o last) hand link
    → ((f : Fetching) → IsDelivered tells o last f link → HasOutcome tells (FollowsDelivery tells f last answer link) h link')
    → HasOutcome tells (FollowsAnswer tells hand answer link) h link'
delivers_comes tells o last Nothing answer h link link' none w comes = absurd w
delivers_comes tells o last (Fetches f) answer h link link' none w comes =
    let r = comes (delivered f w.run w.bytes) w.is in (
      r.0,
      follows_fetch tells f answer link r.0 link' none
          (subst (λ g. FollowsFetch tells f g answer link r.0 link') (sym w.gain) r.1),
      r.2,
    )
delivers_comes tells o last (Probes p) answer h link link' none w comes = absurd w
delivers_comes tells o last (Seals gid sealed) answer h link link' none w comes = absurd w

pub asks_comes : (tells : Bool) (o : OpenFetch) (hand : Hand) (answer : Said) (h : InHand) (link link' : LinkAt)
    → NoGrant answer → IsWaiting tells (waiting.Asks o) hand link
    → ((f : Fetching) → IsAskingMore tells o f link → HasOutcome tells (FollowsMore tells f answer link) h link')
    → HasOutcome tells (FollowsAnswer tells hand answer link) h link'
asks_comes tells o Nothing answer h link link' none w comes = absurd w
asks_comes tells o (Fetches f) answer h link link' none w comes =
    let r = comes f w in (
      r.0,
      follows_fetch tells f answer link r.0 link' none
          (subst (λ g. FollowsFetch tells f g answer link r.0 link') (sym w.gain) r.1),
      r.2,
    )
asks_comes tells o (Probes p) answer h link link' none w comes = absurd w
asks_comes tells o (Seals gid sealed) answer h link link' none w comes = absurd w

pub delivers_fetch : (tells : Bool) (o : OpenFetch) (last : Bool) (hand : Hand) (link : LinkAt)
    → IsWaiting tells (waiting.Delivers o last) hand link → (f : Fetching) × IsDelivered tells o last f link
delivers_fetch tells o last Nothing link w = absurd w
delivers_fetch tells o last (Fetches f) link w = (delivered f w.run w.bytes, w.is)
delivers_fetch tells o last (Probes p) link w = absurd w
delivers_fetch tells o last (Seals gid sealed) link w = absurd w

pub asks_fetch : (tells : Bool) (o : OpenFetch) (hand : Hand) (link : LinkAt)
    → IsWaiting tells (waiting.Asks o) hand link → (f : Fetching) × IsAskingMore tells o f link
asks_fetch tells o Nothing link w = absurd w
asks_fetch tells o (Fetches f) link w = (f, w)
asks_fetch tells o (Probes p) link w = absurd w
asks_fetch tells o (Seals gid sealed) link w = absurd w

pub grant_comes : (tells : Bool) (hand : Hand) (granted : Grant) (h : InHand) (link link' : LinkAt)
    → HasOutcome tells (FollowsGrant tells granted link) h link'
    → HasOutcome tells (FollowsAnswer tells hand (said.Grant granted) link) h link'
grant_comes tells Nothing granted h link link' comes = comes
grant_comes tells (Fetches f) granted h link link' comes = comes
grant_comes tells (Probes p) granted h link link' comes = comes
grant_comes tells (Seals gid sealed) granted h link link' comes = comes

pub probe_comes : (tells : Bool) (claim : ℕ) (gid : Gid) (url asked : List ℕ) (h : ProbeInHand) (link link' : LinkAt)
    → asked ≡ url → IsProbedInHand tells claim asked link link' h
    → HasOutcome tells (FollowsGrant tells (grant.Probe claim gid url) link) (kept.Probes h) link'
probe_comes tells claim gid url asked h link link' same probed =
    let r = subst (λ u. IsProbedInHand tells claim u link link' h) same probed in (Probes r.0, (r.0, r.1, refl), r.2)

pub seal_comes : (tells : Bool) (gid : Gid) (piece : ℕ) (bytes : List ℕ) (sealed : PieceBytes) (room : FetchRoom)
    (link : LinkAt) → sealed ≡ record { piece = piece; bytes = bytes } → IsRoomFor tells room link
    → HasOutcome tells (FollowsGrant tells (grant.Hash gid piece bytes) link)
    (kept.Seals (record { gid = gid; sealed = sealed; room = room })) link
seal_comes tells gid piece bytes sealed room link is begins =
    (Seals gid (record { piece = piece; bytes = bytes }), (refl, refl), (refl, is, begins))

pub not_grant : (answer : Said) → ((granted : Grant) → answer ≡ said.Grant granted → ⊥) → NoGrant answer
not_grant (said.Grant granted) none = none granted refl
not_grant answer none = tt
