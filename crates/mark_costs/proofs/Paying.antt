-- What a worker's turns over a link cost a mirror that holds a piece, turn by turn: no more than the bad answers that it used.
use Rattle.std.proofs.Common.{◌≡◌, ◌⊎◌, inl, inr, ⊎_elim, ℕ, zero, suc, min, ◌+◌, ◌-◌, ◌<◌, ◌≤◌, ◌^◌, Bool, true, false, IsTrue, List, [], ◌∷◌, ◌++◌, length, drop, Option, Some, None, refl, sym, ap, subst, ◌∙◌, arith}
use Rattle.std.specs.Prelude.{Contains, ◌==◌, ◌&&◌}
use Rattle.std.proofs.lemmas.Bool.{eq-eqb, eqb-true, false≢true}
use Rattle.std.proofs.lemmas.Option.{none-some}
use Rattle.conn_worker.specs.Facts.{IsFetchingAt, IsGain, HasUsed, TellsRest}
use Rattle.conn_worker.specs.Hands.{Fetching, Hand, Nothing, Fetches, Probes, Seals, IsLeftAlone, LinkAt, Probing, allowing, begun_fetch, delivered}
use Rattle.conn_worker.specs.Table.{FollowsAnswer, FollowsDelivery, FollowsFetch, FollowsGrant, FollowsKept, FollowsMore, LeavesFetch, StepsOn, due_op, fetch_op, goes_on_by, probe_op}
use Rattle.conn_worker.specs.declared.hands.Gain.{Gain}
use Rattle.conn_worker.specs.declared.hands.Gain.TheVariants as gain
use Rattle.conn_worker.specs.declared.hands.ProbeEnd.{ProbeEnd}
use Rattle.conn_worker.specs.declared.hands.ProbeEnd.TheVariants as probe_end
use Rattle.conn_worker.proofs.Allowing.{LeavesLink, is_closed, stays_open}
use Rattle.dl_history.proofs.Bools.{and_both, and_left, and_right, true_not_false}
use Rattle.dl_kinds.specs.Plan.{piece_of}
use Rattle.dl_kinds.specs.declared.gid.Gid.{Gid}
use Rattle.dl_kinds.specs.declared.marks.Mark.{Mark}
use Rattle.dl_kinds.specs.declared.runs.Moment.{Moment}
use Rattle.dl_kinds.specs.declared.runs.Run.{Run}
use Rattle.engine_turns.specs.NextRows.{mirror_url}
use Rattle.engine_turns.specs.Told.{RunTurn}
use Rattle.engine_turns.specs.declared.operations.Grant.{Grant}
use Rattle.engine_turns.specs.declared.operations.Grant.TheVariants as grant
use Rattle.engine_turns.specs.declared.operations.Operation.{Operation}
use Rattle.engine_turns.specs.declared.operations.Operation.TheVariants as operation
use Rattle.engine_turns.specs.declared.operations.Said.{Said}
use Rattle.engine_turns.specs.declared.operations.Said.TheVariants as said
use Rattle.fetch_session.specs.Fetches.{IsFrontOfFetched}
use Rattle.link_source.specs.Exchanges.{Exchange}
use Rattle.link_source.specs.Link.{LinkState}
use Rattle.machine_core.proofs.Parts.{gid_is}
use Rattle.machine_core.specs.Replays.{is_same_gid}
use Rattle.machine_core.specs.Starts.{Listed}
use Rattle.machine_core.specs.declared.events.Event.{Event}
use Rattle.machine_core.specs.declared.events.Event.TheVariants.{Called, Opened, Sized, Claimed, Landed, Settled, Cleared, Lost, Checked, Saved, Ended, Left, Stopped}
use Rattle.memory_serving_laws.specs.Charges.{differing}
use Rattle.memory_serving_laws.specs.Serving.{used_among}
use Rattle.metainfo.specs.declared.meta.Meta.{Meta}
use Rattle.reply_reader.specs.Losses.{mark_of}
use Rattle.reply_reader.specs.declared.loss.Loss.{Loss}
use Rattle.reply_reader.specs.declared.loss.Loss.TheVariants as losses
use Rattle.request_chain.specs.Answered.{GaveAll, IsAnswered}
use Rattle.part_fetches.specs.Fetched.{Fetched}
use Rattle.part_fetches.specs.Losses.{TellsLoss}
use Rattle.request_chain.specs.Links.{CountsLinkLoss}
use Rattle.request_chain.specs.Plans as plans
use Rattle.span_map.specs.declared.jobs.Job.{Job}
use Rattle.stored_run.proofs.Left.{one_of}
use Rattle.served_runs.specs.Answering.{HasAnswered}
use Rattle.served_runs.specs.ServingLaws.{UsesClaim}
use Rattle.served_runs.proofs.Answered.{answered_by}
use Rattle.served_runs.proofs.Fronts.{IsToldOf, due_of, told_of}
use Rattle.served_runs.proofs.Working.{HoldsProbe, OfGrant, StandsBehind}
use Rattle.mark_costs.specs.Holding.{HoldsPiece}
use Rattle.mark_costs.specs.Paid.{CostAtMost, HasRightBytes, IsRightFor, lengths_of_meta}
use Rattle.mark_costs.proofs.Differs.{differing_both}
use Rattle.mark_costs.proofs.Fetch.{IsJobFor, PayingLaws, known_of, lost_known_next, paid_fetch, right_bytes}

-- ---- what answers keep

abbrev unheard : LinkState → LinkState
unheard link = record link { listens = false }

answers_of : (a b : LinkState) (top : List Exchange) → b.exchanges ≡ top ++ a.exchanges → GaveAll a.content top b.content
    → IsAnswered a.content a.exchanges (unheard b)
answers_of a b [] on_top gave = inl (on_top, gave)
answers_of a b (newest ∷ older) on_top gave = inr (record {
  newest = newest;
  older = older;
  on_top = on_top;
  between = gave.0;
  past = gave.2;
  due = gave.1;
  gave = gave.3;
  due_is = λ heard. absurd (false≢true heard);
})

pub kept_by : PayingLaws → (among : ℕ → Bool) (a b : LinkState) → HasAnswered a b
    → (b.content.mirrors ≡ a.content.mirrors) × (used_among among a.content ≤ used_among among b.content)
kept_by laws among a b has = laws.keep a.content a.exchanges (unheard b) among (answers_of a b has.top has.on_top has.gave)

-- ---- one of some events, or none

pub found_or_none : (test : Event → Bool) (events : List Event)
    → ((e : Event) × Contains events e × (test e ≡ true)) ⊎ ((e : Event) → Contains events e → test e ≡ false)
found_or_none test [] = inr (λ e there. absurd (let within = there.1 in omega (arith, within)))
found_or_none test (x ∷ events) = by (test x) refl (found_or_none test events)
  where
    by : (b : Bool) → test x ≡ b
        → ((e : Event) × Contains events e × (test e ≡ true)) ⊎ ((e : Event) → Contains events e → test e ≡ false)
        → ((e : Event) × Contains (x ∷ events) e × (test e ≡ true)) ⊎ ((e : Event) → Contains (x ∷ events) e → test e ≡ false)
    by true is rest = inl (x, (0, omega arith, refl), is)
    by false is (inl some) = inl (some.0, (suc some.1.0, (let within = some.1.1 in omega (arith, within)), some.1.2), some.2)
    by false is (inr none) = inr (λ e there. ⊎_elim (λ (same : x ≡ e). subst (λ (y : Event). test y ≡ false) same is)
        (λ (later : Contains events e). none e later) (one_of x e events there))

abbrev lands_by : Gid → (claim mirror : ℕ) → Event → Bool
lands_by gid claim mirror (Landed other id m run now) = is_same_gid gid other && (id == claim && m == mirror)
lands_by gid claim mirror e = false

abbrev loses_by : Gid → (mirror piece : ℕ) → Event → Bool
loses_by gid mirror piece (Lost other id m p mark) = is_same_gid gid other && (m == mirror && p == piece)
loses_by gid mirror piece e = false

same_gid : (gid : Gid) → is_same_gid gid gid ≡ true
same_gid gid = eq-eqb gid.0 gid.0 refl

three : (gid other : Gid) (a b c d : ℕ) → (is_same_gid gid other && (a == b && c == d)) ≡ true → (other ≡ gid) × (a ≡ b) × (c ≡ d)
three gid other a b c d is =
    let rest = and_right (is_same_gid gid other) (a == b && c == d) is in (
      gid_is gid other (and_left (is_same_gid gid other) (a == b && c == d) is),
      eqb-true a b (and_left (a == b) (c == d) rest),
      eqb-true c d (and_right (a == b) (c == d) rest),
    )

three_true : (gid : Gid) (a b : ℕ) → (is_same_gid gid gid && (a == a && b == b)) ≡ true
three_true gid a b = and_both (is_same_gid gid gid) (a == a && b == b) (same_gid gid)
    (and_both (a == a) (b == b) (eq-eqb a a refl) (eq-eqb b b refl))

landed_is : (gid : Gid) (claim mirror : ℕ) (e : Event) → lands_by gid claim mirror e ≡ true
    → (run : Run) × (now : Moment) × (e ≡ Landed gid claim mirror run now)
landed_is gid claim mirror (Landed other id m run now) is =
    let same = three gid other id claim m mirror is in
    (run, now, λ i. Landed (same.0 i) (same.1 i) (same.2 i) run now)
landed_is gid claim mirror (Called session asked now) is = absurd cc
landed_is gid claim mirror (Opened other verified blocks now) is = absurd cc
landed_is gid claim mirror (Sized other id total) is = absurd cc
landed_is gid claim mirror (Claimed other c) is = absurd cc
landed_is gid claim mirror (Settled other p right giver) is = absurd cc
landed_is gid claim mirror (Cleared other p) is = absurd cc
landed_is gid claim mirror (Lost other id m p mark) is = absurd cc
landed_is gid claim mirror (Checked other right) is = absurd cc
landed_is gid claim mirror (Saved other now) is = absurd cc
landed_is gid claim mirror (Ended other how) is = absurd cc
landed_is gid claim mirror Left is = absurd cc
landed_is gid claim mirror Stopped is = absurd cc

lost_is : (gid : Gid) (mirror piece : ℕ) (e : Event) → loses_by gid mirror piece e ≡ true
    → (id : ℕ) × (mark : Mark) × (e ≡ Lost gid id mirror piece mark)
lost_is gid mirror piece (Lost other id m p mark) is =
    let same = three gid other m mirror p piece is in
    (id, mark, λ i. Lost (same.0 i) id (same.1 i) (same.2 i) mark)
lost_is gid mirror piece (Called session asked now) is = absurd cc
lost_is gid mirror piece (Opened other verified blocks now) is = absurd cc
lost_is gid mirror piece (Sized other id total) is = absurd cc
lost_is gid mirror piece (Claimed other c) is = absurd cc
lost_is gid mirror piece (Settled other p right giver) is = absurd cc
lost_is gid mirror piece (Cleared other p) is = absurd cc
lost_is gid mirror piece (Landed other id m run now) is = absurd cc
lost_is gid mirror piece (Checked other right) is = absurd cc
lost_is gid mirror piece (Saved other now) is = absurd cc
lost_is gid mirror piece (Ended other how) is = absurd cc
lost_is gid mirror piece Left is = absurd cc
lost_is gid mirror piece Stopped is = absurd cc

-- ---- losses

abbrev count_in : Option Mark → ℕ
count_in None = 0
count_in (Some mark) = mark.count

-- the mark of a failed link has its count, which rose
link_counted : (since now count : ℕ) (mark : Mark) → mark_of (losses.Link count) ≡ Some mark
    → CountsLinkLoss since now (losses.Link count) → 0 < mark.count
link_counted since now count mark is counts =
    let same : count ≡ mark.count = ap count_in is in
    let r = counts count refl in
    let rose : min (since + 1) (2 ^ 64 - 1) ≤ now = r.0 in
    let now_is : count ≡ now = r.1 in
    omega (arith, same, rose, now_is)

module _ (laws : PayingLaws) (tells : Bool) (true_is : IsTrue tells) (first : LinkAt) (gid : Gid) (meta : Meta)
    (uris : List (List ℕ)) (mirror : ℕ) (held : List ℕ) (among : ℕ → Bool) (piece : ℕ)
    (holds : HoldsPiece first.state.content meta (mirror_url (Listed meta uris) mirror) held among piece) where
  abbrev pub used_at : LinkAt → ℕ
  used_at link = used_among among link.state.content

  abbrev IsJobHere : Run → Job → Type 0
  IsJobHere run job = IsJobFor laws tells true_is first.state.content meta uris mirror held among piece holds run job

  abbrev known : Job → List (Option ℕ)
  known job = known_of meta held piece job

  -- so much was paid when the job was granted, or together with what differed of what was delivered
  abbrev pub PaysBy : ℕ → Job → LinkAt → List ℕ → Type 0
  PaysBy n job since handed =
      (n + used_at first ≤ used_at since)
      ⊎ ((run : Run) × IsJobHere run job × (n + used_at first ≤ used_at since + differing handed (known job)))

  abbrev pub Told : Fetching → LinkAt → Type 0
  Told f link = IsToldOf tells true_is f link

  -- so much was paid by a worker that has this in hand
  abbrev pub HandPays : ℕ → Hand → LinkAt → Type 0
  HandPays n (Fetches f) link = PaysBy n f.job f.since f.handed × ((f.gain ≡ gain.Starved → ⊥) → Told f link)
  HandPays n hand link = n + used_at first ≤ used_at link

  -- with what is due now, unless the rest was lost
  abbrev DuePays : ℕ → Fetching → Gain → Type 0
  DuePays n f (gain.Lost loss mark) = Unit {0}
  DuePays n f g = PaysBy n f.job f.since (due_of g f.handed)

  -- .. behind the turn that is due, before what follows it
  abbrev pub TurnPays : ℕ → Hand → LinkAt → Type 0
  TurnPays n (Fetches f) link = (n + used_at first ≤ used_at link) × DuePays n f f.gain × Told f link
  TurnPays n hand link = n + used_at first ≤ used_at link

  pays_more : (n : ℕ) (job : Job) (since : LinkAt) (handed more : List ℕ) → PaysBy n job since handed
      → PaysBy n job since (handed ++ more)
  pays_more n job since handed more (inl few) = inl few
  pays_more n job since handed more (inr by) =
      let both = differing_both handed more (known job) in
      let few = by.2 in
      inr (by.0, by.1, omega (arith, both, few))

  pays_due : (n : ℕ) (job : Job) (since : LinkAt) (g : Gain) (handed : List ℕ) → PaysBy n job since handed
      → PaysBy n job since (due_of g handed)
  pays_due n job since (gain.Ready run bytes last) handed pays = pays_more n job since handed bytes pays
  pays_due n job since (gain.Lost loss mark) handed pays = pays
  pays_due n job since gain.Open handed pays = pays
  pays_due n job since gain.Starved handed pays = pays

  -- ---- what was paid by now

  module _ (f : Fetching) (link : LinkAt) (since : HasAnswered first.state f.since.state) where
    since_same : f.since.state.content.mirrors ≡ first.state.content.mirrors
    since_same = (kept_by laws among first.state f.since.state since).0

    later_used : HasUsed tells f.since f.used link → used_at f.since ≤ used_at link
    later_used has = (kept_by laws among f.since.state link.state (answered_by f.since.state link.state (has.answered true_is))).1

    settled : (n : ℕ) → PaysBy n f.job f.since (due_of f.gain f.handed) → Told f link → n + used_at first ≤ used_at link
    settled n (inl few) told = let more = later_used told.used_is in omega (arith, few, more)
    settled n (inr by) told =
        let due = due_of f.gain f.handed in
        let front = told.front in
        let paid = paid_fetch laws tells true_is first.state.content meta uris mirror held among piece holds by.0 f.job f.since link
        f.used (due ++ front.behind) front.ending since_same by.1 told.used_is front.fetched in
        let all = paid.paid in
        let both = differing_both due front.behind (known f.job) in
        let few = by.2 in
        omega (arith, all, both, few)

  -- ---- what follows a turn

  steps_pay : (n : ℕ) (base : Fetching) (hand' : Hand) (link' : LinkAt) → PaysBy n base.job base.since base.handed
      → StepsOn tells base hand' link' → HandPays n hand' link'
  steps_pay n base hand' link' pays s =
      let g : Fetching = s.0 in
      let same = s.1.same in
      subst (λ (h : Hand). HandPays n h link') (sym s.2) (
        subst (λ (x : Fetching). PaysBy n x.job x.since x.handed) (sym same) pays,
        λ fed. told_of tells true_is g link' s.1.at fed,
      )

  leaves_pay : (n : ℕ) (d : Fetching) (link : LinkAt) (hand' : Hand) (link' : LinkAt) → PaysBy n d.job d.since d.handed → Told d link
      → LeavesFetch d link hand' link' → HandPays n hand' link'
  leaves_pay n d link hand' link' pays told leaves =
      subst (λ (h : Hand). HandPays n h link') (sym leaves.0) (
        pays,
        λ fed. subst (λ (l : LinkAt). Told d l) (sym leaves.1) told,
      )

  -- nothing is used where the link is left alone
  used_alone : (link link' : LinkAt) → IsLeftAlone tells link link' → used_at link' ≡ used_at link
  used_alone link link' (inl same) = ap used_at same
  used_alone link link' (inr hung) = ap (λ (s : LinkState). used_among among s.content) (hung.state true_is)

  nothing_pays : (n : ℕ) (link : LinkAt) (hand' : Hand) (link' : LinkAt) → n + used_at first ≤ used_at link
      → LeavesLink tells link hand' link' → HandPays n hand' link'
  nothing_pays n link hand' link' few leaves =
      let same = used_alone link link' leaves.1 in
      subst (λ (h : Hand). HandPays n h link') (sym leaves.0)
      (let e : n + used_at first ≤ used_at link' = omega (arith, few, same) in e)

  grant_pays : (n : ℕ) (granted : Grant) (link : LinkAt) (hand' : Hand) (link' : LinkAt) → n + used_at first ≤ used_at link
      → FollowsGrant tells granted link hand' link' → HandPays n hand' link'
  grant_pays n (grant.Fetch granted) link hand' link' few follows =
      steps_pay n (begun_fetch granted link) hand' link' (inl few) follows
  grant_pays n (grant.Probe claim g url) link hand' link' few follows =
      let p : Probing = follows.0 in
      let of_url = follows.1 in
      let more = (kept_by laws among p.since.state link'.state
      (answered_by p.since.state link'.state (of_url.at.used.answered true_is))).1 in
      let same : used_at p.since ≡ used_at link = ap used_at of_url.since_is in
      subst (λ (h : Hand). HandPays n h link') (sym follows.2) (let e : n + used_at first ≤ used_at link' = omega (arith, few, more, same) in e)
  grant_pays n (grant.Hash g p bytes) link hand' link' few follows =
      subst (λ (h : Hand). HandPays n h link') (sym follows.0)
      (subst (λ (l : LinkAt). n + used_at first ≤ used_at l) (sym follows.1) few)

  kept_pays : (n : ℕ) (d : Fetching) (left : ℕ) (last : Bool) (link : LinkAt) (hand' : Hand) (link' : LinkAt) → d.left ≡ left
      → n + used_at first ≤ used_at link → PaysBy n d.job d.since d.handed → Told d link
      → FollowsKept tells d last link hand' link' → HandPays n hand' link'
  kept_pays n d left true link hand' link' is few pays told follows =
      nothing_pays n link hand' link' few (stays_open tells link hand' link' follows)
  kept_pays n d zero false link hand' link' is few pays told follows =
      leaves_pay n d link hand' link' pays told (subst (λ k. goes_on_by tells d k link hand' link') is follows)
  kept_pays n d (suc left) false link hand' link' is few pays told follows =
      steps_pay n d hand' link' pays (subst (λ k. goes_on_by tells d k link hand' link') is follows)

  delivery_pays : (n : ℕ) (d : Fetching) (last : Bool) (answer : Said) (link : LinkAt) (hand' : Hand) (link' : LinkAt)
      → n + used_at first ≤ used_at link → PaysBy n d.job d.since d.handed → Told d link
      → FollowsDelivery tells d last answer link hand' link' → HandPays n hand' link'
  delivery_pays n d last (said.Kept counted repeated) link hand' link' few pays told follows =
      kept_pays n d d.left last link hand' link' refl few pays told follows
  delivery_pays n d last answer link hand' link' few pays told follows =
      nothing_pays n link hand' link' few (is_closed tells link hand' link' follows)

  more_pays : (n : ℕ) (f : Fetching) (answer : Said) (link : LinkAt) (hand' : Hand) (link' : LinkAt)
      → n + used_at first ≤ used_at link → PaysBy n f.job f.since f.handed → Told f link
      → FollowsMore tells f answer link hand' link' → HandPays n hand' link'
  more_pays n f (said.Allow bytes) link hand' link' few pays told follows =
      steps_pay n (allowing f bytes) hand' link' pays follows
  more_pays n f (said.Hold ms) link hand' link' few pays told follows = leaves_pay n f link hand' link' pays told follows
  more_pays n f answer link hand' link' few pays told follows =
      nothing_pays n link hand' link' few (is_closed tells link hand' link' follows)

  fetch_pays : (n : ℕ) (f : Fetching) (g : Gain) (answer : Said) (link : LinkAt) (hand' : Hand) (link' : LinkAt) → f.gain ≡ g
      → n + used_at first ≤ used_at link → DuePays n f g → Told f link
      → FollowsFetch tells f g answer link hand' link' → HandPays n hand' link'
  fetch_pays n f (gain.Ready run bytes last) answer link hand' link' is few pays told follows =
      delivery_pays n (delivered f run bytes) last answer link hand' link' few pays
      (record {
        used_is = told.used_is;
        front = subst (λ (g : Gain). IsFrontOfFetched f.job.parts f.used (due_of g f.handed)) is told.front;
      }) follows
  fetch_pays n f gain.Open answer link hand' link' is few pays told follows =
      more_pays n f answer link hand' link' few pays told follows
  fetch_pays n f (gain.Lost loss mark) answer link hand' link' is few pays told follows =
      nothing_pays n link hand' link' few (stays_open tells link hand' link' follows)
  fetch_pays n f gain.Starved answer link hand' link' is few pays told follows =
      nothing_pays n link hand' link' few (stays_open tells link hand' link' follows)

  pub next_pays : (n : ℕ) (hand : Hand) (answer : Said) (link : LinkAt) (hand' : Hand) (link' : LinkAt) → TurnPays n hand link
      → FollowsAnswer tells hand answer link hand' link' → HandPays n hand' link'
  next_pays n Nothing (said.Grant granted) link hand' link' few follows = grant_pays n granted link hand' link' few follows
  next_pays n Nothing answer link hand' link' few follows =
      nothing_pays n link hand' link' few (is_closed tells link hand' link' follows)
  next_pays n (Probes p) (said.Grant granted) link hand' link' few follows = grant_pays n granted link hand' link' few follows
  next_pays n (Probes p) answer link hand' link' few follows =
      nothing_pays n link hand' link' few (stays_open tells link hand' link' follows)
  next_pays n (Seals g sealed) (said.Grant granted) link hand' link' few follows = grant_pays n granted link hand' link' few follows
  next_pays n (Seals g sealed) answer link hand' link' few follows =
      nothing_pays n link hand' link' few (stays_open tells link hand' link' follows)
  next_pays n (Fetches f) (said.Grant granted) link hand' link' pays follows = grant_pays n granted link hand' link' pays.0 follows
  next_pays n (Fetches f) answer link hand' link' pays follows =
      fetch_pays n f f.gain answer link hand' link' refl pays.0 pays.1 pays.2 follows

  -- ---- a turn

  -- what is known of the events of the turn that is due
  pub record TurnFacts (turns : List RunTurn) (hand : Hand) (link : LinkAt) (t : RunTurn) : Type 0 where
    pub lost_op : (id : ℕ) (mark : Mark) → Contains t.events (Lost gid id mirror piece mark)
        → (now : Moment) × (t.op ≡ operation.Lose id mark now)
    pub landed_job : (f : Fetching) (run part : Run) (bytes : List ℕ) (now when : Moment) → OfGrant tells first turns f
        → t.op ≡ operation.Deliver f.claim run bytes now → Contains t.events (Landed gid f.claim mirror part when)
        → (whole : Run) × IsJobHere whole f.job
    pub lost_job : (f : Fetching) (mark : Mark) → OfGrant tells first turns f
        → Contains t.events (Lost gid f.claim mirror piece mark) → (whole : Run) × IsJobHere whole f.job
    pub no_probe : (p : Probing) (mark : Mark) → HoldsProbe tells first turns p link
        → ¬ Contains t.events (Lost gid p.claim mirror piece mark)
    pub uncounted : (id : ℕ) (mark : Mark) → Contains t.events (Lost gid id mirror piece mark) → ¬ (0 < mark.count)
    pub ends : (f : Fetching) (mark : Mark) → hand ≡ Fetches f → Contains t.events (Lost gid f.claim mirror piece mark)
        → piece_of meta.plan.piece_len f.rest.first ≡ piece

  abbrev pub Costs : List RunTurn → ℕ → Type 0
  Costs told n = CostAtMost gid mirror meta held piece told n

  abbrev IsRight : RunTurn → Type 0
  IsRight t = IsRightFor gid mirror meta held piece t

  abbrev Step : RunTurn → List RunTurn → Hand → LinkAt → Type 0
  Step t before hand link = (k : ℕ) × Costs (t ∷ before) k × TurnPays k hand link

  module _ (turns : List RunTurn) (t : RunTurn) (before : List RunTurn) (link : LinkAt) where
    -- a turn that uses no claim
    quiet_right : (hand : Hand) → TurnFacts turns hand link t → (op : Operation) → t.op ≡ op → (UsesClaim op → ⊥) → IsRight t
    quiet_right hand facts op is none = record {
      landed = λ claim run part bytes now at same there.
          absurd (none (subst UsesClaim is (subst UsesClaim (sym same) tt)));
      lost = λ id mark there.
          let its = facts.lost_op id mark there in
          none (subst UsesClaim is (subst UsesClaim (sym its.1) tt));
    }

    module _ (f : Fetching) (stands : StandsBehind tells first turns (Fetches f) link) (facts : TurnFacts turns (Fetches f) link t)
        (n : ℕ) (cost : Costs before n) (pays : PaysBy n f.job f.since f.handed) (told : Told f link) where
      since : HasAnswered first.state f.since.state
      since = stands.held.of_grant.since true_is

      few_now : n + used_at first ≤ used_at link
      few_now = settled f link since n (pays_due n f.job f.since f.gain f.handed pays) told

      based : (whole : Run) → IsJobHere whole f.job → n + used_at first ≤ used_at f.since + differing f.handed (known f.job)
      based whole job = by pays
        where
          by : PaysBy n f.job f.since f.handed → n + used_at first ≤ used_at f.since + differing f.handed (known f.job)
          by (inl few) = omega (arith, few)
          by (inr more) = more.2

      -- ---- more bytes are asked for

      open_step : (moment : Moment) (want : ℕ) → t.op ≡ operation.More f.claim want moment → f.gain ≡ gain.Open
          → Step t before (Fetches f) link
      open_step moment want op is = (
        n,
        inl (quiet_right (Fetches f) facts (operation.More f.claim want moment) op (λ no_use. no_use), cost),
        (few_now, subst (DuePays n f) (sym is) pays, told),
      )

      -- ---- blocks

      module _ (run : Run) (bytes : List ℕ) (last : Bool) (moment : Moment) (is : f.gain ≡ gain.Ready run bytes last)
          (op : t.op ≡ operation.Deliver f.claim run bytes moment) where
        not_lost : (id : ℕ) (mark : Mark) → ¬ Contains t.events (Lost gid id mirror piece mark)
        not_lost id mark there =
            let its = facts.lost_op id mark there in
            let e : operation.Deliver f.claim run bytes moment ≡ operation.Lose id mark its.0 = sym op ∙ its.1 in cc

        now_told : IsFrontOfFetched f.job.parts f.used (f.handed ++ bytes)
        now_told = subst (λ (g : Gain). IsFrontOfFetched f.job.parts f.used (due_of g f.handed)) is told.front

        turn_pays : (k : ℕ) → PaysBy k f.job f.since (f.handed ++ bytes) → TurnPays k (Fetches f) link
        turn_pays k more = (
          settled f link since k (subst (λ (g : Gain). PaysBy k f.job f.since (due_of g f.handed)) (sym is) more) told,
          subst (DuePays k f) (sym is) more,
          told,
        )

        none_landed : ((e : Event) → Contains t.events e → lands_by gid f.claim mirror e ≡ false) → IsRight t
        none_landed none = record {
          landed = λ claim run' part bytes' now at same there.
              let e : operation.Deliver f.claim run bytes moment ≡ operation.Deliver claim run' bytes' now = sym op ∙ same in
              let its : f.claim ≡ claim = cc in
              absurd (true_not_false (lands_by gid f.claim mirror (Landed gid f.claim mirror part at))
              (three_true gid f.claim mirror)
              (none (Landed gid f.claim mirror part at)
              (subst (λ (c : ℕ). Contains t.events (Landed gid c mirror part at)) (sym its) there)));
          lost = not_lost;
        }

        module _ (whole : Run) (job : IsJobHere whole f.job) where
          at : IsFetchingAt tells f link
          at = stands.held.at (λ opened. let e : gain.Ready run bytes last ≡ gain.Open = sym is ∙ opened in cc)

          wrong_bytes : ℕ
          wrong_bytes = differing bytes (drop (length f.handed) (known f.job))

          none_wrong : differing bytes (drop (length f.handed) (known f.job)) ≡ 0 → IsRight t
          none_wrong zero_is =
              let ready = (subst (λ (g : Gain). IsGain tells f link g) is at.gain).0 in
              let paid = paid_fetch laws tells true_is first.state.content meta uris mirror held among piece holds whole f.job
              f.since link f.used ((f.handed ++ bytes) ++ now_told.behind) now_told.ending
              (since_same f link since) job told.used_is now_told.fetched in
              let right = right_bytes laws tells true_is first.state.content meta uris mirror held among piece holds f link whole
              job at run bytes now_told.behind last ready paid.few zero_is in
              record {
                landed = λ claim run' part bytes' now when same there.
                    let e : operation.Deliver f.claim run bytes moment ≡ operation.Deliver claim run' bytes' now = sym op ∙ same in
                    let runs : run ≡ run' = cc in
                    let all : bytes ≡ bytes' = cc in
                    subst (λ (r : Run). HasRightBytes (lengths_of_meta meta) held piece r bytes') runs
                    (subst (λ (b : List ℕ). HasRightBytes (lengths_of_meta meta) held piece run b) all right);
                lost = not_lost;
              }

          landed_by_wrong : (d : ℕ) → differing bytes (drop (length f.handed) (known f.job)) ≡ d → Step t before (Fetches f) link
          landed_by_wrong zero is_d =
              (n, inl (none_wrong is_d, cost), turn_pays n (pays_more n f.job f.since f.handed bytes pays))
          landed_by_wrong (suc d) is_d =
              let both = differing_both f.handed bytes (known f.job) in
              let base = based whole job in (
                suc n,
                inr (subst UsesClaim (sym op) tt, n, refl, cost),
                turn_pays (suc n) (inr (whole, job, omega (arith, both, base, is_d))),
              )

        ready_step : Step t before (Fetches f) link
        ready_step = ⊎_elim
            (λ (some : (e : Event) × Contains t.events e × (lands_by gid f.claim mirror e ≡ true)).
            let its = landed_is gid f.claim mirror some.0 some.2 in
            let there = subst (λ (e : Event). Contains t.events e) its.2 some.1 in
            let job = facts.landed_job f run its.0 bytes moment its.1 stands.held.of_grant op there in
            landed_by_wrong job.0 job.1 (differing bytes (drop (length f.handed) (known f.job))) refl)
            (λ (none : (e : Event) → Contains t.events e → lands_by gid f.claim mirror e ≡ false).
            (n, inl (none_landed none, cost), turn_pays n (pays_more n f.job f.since f.handed bytes pays)))
            (found_or_none (lands_by gid f.claim mirror) t.events)

      -- ---- a loss

      module _ (loss : Loss) (mark : Mark) (moment : Moment) (is : f.gain ≡ gain.Lost loss mark)
          (op : t.op ≡ operation.Lose f.claim mark moment) where
        none_lost : ((e : Event) → Contains t.events e → loses_by gid mirror piece e ≡ false) → IsRight t
        none_lost none = record {
          landed = λ claim run part bytes now at same there.
              let e : operation.Lose f.claim mark moment ≡ operation.Deliver claim run bytes now = sym op ∙ same in absurd cc;
          lost = λ id mark' there.
              true_not_false (loses_by gid mirror piece (Lost gid id mirror piece mark')) (three_true gid mirror piece)
              (none (Lost gid id mirror piece mark') there);
        }

        due_pays : (k : ℕ) → k + used_at first ≤ used_at link → TurnPays k (Fetches f) link
        due_pays k few = (few, subst (DuePays k f) (sym is) tt, told)

        -- unless the link failed, the exchanges tell the loss
        told_loss : (other : Loss) (came : List ℕ) (count : ℕ) → mark_of other ≡ Some mark
            → CountsLinkLoss f.since.faults link.faults other → ¬ (0 < mark.count)
            → TellsLoss f.job.parts f.used (f.handed ++ came) count other
            → Fetched f.job.parts f.used (f.handed ++ came) (plans.Lost other) []
        told_loss (losses.Link c) came count marks counts none tells_it =
            absurd (none (link_counted f.since.faults link.faults c mark marks counts))
        told_loss losses.NoMemory came count marks counts none tells_it = absurd (none-some mark marks)
        told_loss other came count marks counts none tells_it = tells_it

        some_lost : (id : ℕ) (mark' : Mark) → Contains t.events (Lost gid id mirror piece mark') → Step t before (Fetches f) link
        some_lost id mark' there =
            let its = facts.lost_op id mark' there in
            let e : operation.Lose f.claim mark moment ≡ operation.Lose id mark' its.0 = sym op ∙ its.1 in
            let ids : id ≡ f.claim = cc in
            let marks : mark' ≡ mark = cc in
            let here : Contains t.events (Lost gid f.claim mirror piece mark) =
            subst (λ (m : Mark). Contains t.events (Lost gid f.claim mirror piece m)) marks
            (subst (λ (c : ℕ). Contains t.events (Lost gid c mirror piece mark')) ids there) in
            let job = facts.lost_job f mark stands.held.of_grant here in
            let at = stands.held.at (λ opened. let no_open : gain.Lost loss mark ≡ gain.Open = sym is ∙ opened in cc) in
            let gained = subst (λ (g : Gain). IsGain tells f link g) is at.gain in
            let rest : TellsRest f.job f.used f.handed loss = gained.2 true_is in
            let fetched = told_loss loss rest.came rest.count gained.0 gained.1 (facts.uncounted f.claim mark here) rest.tells in
            let paid = paid_fetch laws tells true_is first.state.content meta uris mirror held among piece holds job.0 f.job
            f.since link f.used (f.handed ++ rest.came) (plans.Lost loss) (since_same f link since) job.1 told.used_is fetched in
            let next = lost_known_next laws tells true_is first.state.content meta uris mirror held among piece holds f link job.0
            job.1 at rest.came rest.none_whole (facts.ends f mark refl here) (paid.short loss refl) in
            let all = paid.paid in
            let both = differing_both f.handed rest.came (known f.job) in
            let base = based job.0 job.1 in (
              suc n,
              inr (subst UsesClaim (sym op) tt, n, refl, cost),
              due_pays (suc n) (omega (arith, all, both, base, next)),
            )

        lost_step : Step t before (Fetches f) link
        lost_step = ⊎_elim
            (λ (some : (e : Event) × Contains t.events e × (loses_by gid mirror piece e ≡ true)).
            let its = lost_is gid mirror piece some.0 some.2 in
            some_lost its.0 its.1 (subst (λ (e : Event). Contains t.events e) its.2 some.1))
            (λ (none : (e : Event) → Contains t.events e → loses_by gid mirror piece e ≡ false).
            (n, inl (none_lost none, cost), due_pays n few_now))
            (found_or_none (loses_by gid mirror piece) t.events)

      fetch_step : (worker : ℕ) (moment : Moment) (g : Gain) → f.gain ≡ g → (g ≡ gain.Starved → ⊥)
          → t.op ≡ fetch_op worker f moment g → Step t before (Fetches f) link
      fetch_step worker moment (gain.Ready run bytes last) is fed op = ready_step run bytes last moment is op
      fetch_step worker moment (gain.Lost loss mark) is fed op = lost_step loss mark moment is op
      fetch_step worker moment gain.Open is fed op = open_step moment _ op is
      fetch_step worker moment gain.Starved is fed op = absurd (fed refl)

    -- ---- a probe

    module _ (p : Probing) (stands : StandsBehind tells first turns (Probes p) link) (facts : TurnFacts turns (Probes p) link t)
        (n : ℕ) (cost : Costs before n) (few : n + used_at first ≤ used_at link) where
      missed_right : (mark : Mark) (moment : Moment) → t.op ≡ operation.Lose p.claim mark moment → IsRight t
      missed_right mark moment op = record {
        landed = λ claim run part bytes now at same there.
            let e : operation.Lose p.claim mark moment ≡ operation.Deliver claim run bytes now = sym op ∙ same in absurd cc;
        lost = λ id mark' there.
            let its = facts.lost_op id mark' there in
            let e : operation.Lose p.claim mark moment ≡ operation.Lose id mark' its.0 = sym op ∙ its.1 in
            let ids : id ≡ p.claim = cc in
            facts.no_probe p mark' stands.held
            (subst (λ (c : ℕ). Contains t.events (Lost gid c mirror piece mark')) ids there);
      }

      probe_step : (worker : ℕ) (moment : Moment) (end : ProbeEnd) → t.op ≡ probe_op worker p.claim moment end
          → Step t before (Probes p) link
      probe_step worker moment (probe_end.Told total) op =
          (n, inl (quiet_right (Probes p) facts (operation.Sized p.claim total moment) op (λ no_use. no_use), cost), few)
      probe_step worker moment (probe_end.Missed loss mark) op = (n, inl (missed_right mark moment op, cost), few)
      probe_step worker moment probe_end.Lacking op =
          (n, inl (quiet_right (Probes p) facts (operation.Next worker moment) op (λ no_use. no_use), cost), few)

    -- whatever is in hand
    pub turn_step : (worker : ℕ) (moment : Moment) (hand : Hand) → t.op ≡ due_op worker hand moment
        → StandsBehind tells first turns hand link → TurnFacts turns hand link t
        → ((f : Fetching) → hand ≡ Fetches f → f.gain ≡ gain.Starved → ⊥)
        → (n : ℕ) → Costs before n → HandPays n hand link → Step t before hand link
    turn_step worker moment Nothing op stands facts fed n cost few =
        (n, inl (quiet_right Nothing facts (operation.Next worker moment) op (λ no_use. no_use), cost), few)
    turn_step worker moment (Seals g sealed) op stands facts fed n cost few =
        (n, inl (quiet_right (Seals g sealed) facts (operation.Seal g sealed moment) op (λ no_use. no_use), cost), few)
    turn_step worker moment (Probes p) op stands facts fed n cost few =
        probe_step p stands facts n cost few worker moment p.end op
    turn_step worker moment (Fetches f) op stands facts fed n cost pays =
        fetch_step f stands facts n cost pays.0 (pays.1 (fed f refl)) worker moment f.gain refl (fed f refl) op
