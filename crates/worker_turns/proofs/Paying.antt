-- Each turn that doesn't end the work is paid for by what the hand costs, or by an event or byte.
use Rattle.std.proofs.Common.{◌≡◌, ◌≢◌, ◌≤◌, ◌+◌, ◌*◌, ◌&&◌, ℕ, Bool, true, false, IsTrue, List, length, refl, sym, ap, subst, ◌∙◌, ⊎_elim, arith}
use Rattle.dl_kinds.specs.declared.gid.Gid.{Gid}
use Rattle.dl_kinds.specs.declared.marks.Mark.{Mark}
use Rattle.dl_kinds.specs.declared.runs.Moment.{Moment}
use Rattle.dl_kinds.specs.declared.runs.Run.{Run}
use Rattle.machine_core.specs.declared.events.Event.{Event}
use Rattle.engine_turns.specs.ClaimRows.{DeliverRow, LoseRow, SizedRow}
use Rattle.engine_turns.specs.Phases.{TurnStart}
use Rattle.engine_turns.specs.RunTurns.{OperationRow}
use Rattle.engine_turns.specs.Standings.{RunStanding}
use Rattle.engine_turns.specs.declared.limits.TheConstants.{MAX_ALLOWANCE}
use Rattle.engine_turns.specs.declared.operations.Grant.TheVariants as grant
use Rattle.engine_turns.specs.declared.operations.Operation.{Operation}
use Rattle.engine_turns.specs.declared.operations.Operation.TheVariants as operation
use Rattle.engine_turns.specs.declared.operations.Said.{Said}
use Rattle.engine_turns.specs.declared.operations.Said.TheVariants as said
use Rattle.verify_piece.specs.Seals.{PieceBytes}
use Rattle.conn_worker.specs.Hands.{Fetching, Hand, Nothing, Fetches, Probes, Seals, LinkAt, Probing, allowing}
use Rattle.conn_worker.specs.Sound.{IsSoundAnswer}
use Rattle.conn_worker.specs.Table.{FollowsAnswer, FollowsFetch, IsStepOf, due_op, fetch_op, probe_op}
use Rattle.conn_worker.specs.declared.hands.Gain.{Gain}
use Rattle.conn_worker.specs.declared.hands.Gain.TheVariants.{Lost, Open, Ready, Starved}
use Rattle.conn_worker.specs.declared.hands.ProbeEnd.{ProbeEnd}
use Rattle.conn_worker.specs.declared.hands.ProbeEnd.TheVariants.{Told, Missed, Lacking}
use Rattle.worker_turns.proofs.Receiving.{received_over}
use Rattle.worker_turns.specs.TurnBounds.{CountsBlocks, IsSealTaken, is_hold}
use Rattle.worker_turns.proofs.Appending.{AppendsOrEnds, AppendsOrVoid, ComesOfMore, ComesOfNext, EndsBy, Hashes, kept_counts, lose_row, more_row, next_row, of_claim, seal_row, sized_row}
use Rattle.worker_turns.proofs.Costs.{IsMeasured, MeasuredBy, MeasuredHand, cost_few, cost_of, gain_cost, gain_measured}
use Rattle.worker_turns.proofs.Followed.{grant_followed}

-- one turn more, and what the hand costs behind it
abbrev pub Pays : (cost : ℕ) → List Event → (was now : ℕ) → (behind : ℕ) → Type 0
Pays cost events was now behind = 1 + behind + 8 * was ≤ cost + 8 * length events + 8 * now

-- ---- what is left in hand

void_fetch : (tells : Bool) (f : Fetching) (gain : Gain) (link : LinkAt) (hand' : Hand) (link' : LinkAt)
    → FollowsFetch tells f gain said.Void link hand' link' → hand' ≡ Nothing
void_fetch tells f (Ready run bytes last) link hand' link' is = is.0
void_fetch tells f (Lost loss mark) link hand' link' is = is.0
void_fetch tells f Open link hand' link' is = is.0
void_fetch tells f Starved link hand' link' is = is.0

pub void_leaves : (tells : Bool) (hand : Hand) (link : LinkAt) (hand' : Hand) (link' : LinkAt)
    → FollowsAnswer tells hand said.Void link hand' link' → hand' ≡ Nothing
void_leaves tells Nothing link hand' link' is = is.0
void_leaves tells (Fetches f) link hand' link' is = void_fetch tells f f.gain link hand' link' is
void_leaves tells (Probes p) link hand' link' is = is.0
void_leaves tells (Seals gid sealed) link hand' link' is = is.0

free_costs : (held : Bool) → 1 ≤ cost_of Nothing held
free_costs true = omega arith
free_costs false = omega arith

-- ---- one turn

module _ (tells : Bool) (told : IsTrue tells) (hand : Hand) (answer : Said) (events : List Event) (link : LinkAt)
    (hand' : Hand) (link' : LinkAt) (follows : FollowsAnswer tells hand answer link hand' link')
    (more : received_over link ≤ received_over link') (goes : EndsBy answer → ⊥) where
  abbrev Paid : ℕ → Type 0
  Paid cost = Pays cost events (received_over link) (received_over link') (cost_of hand' (is_hold answer))

  paid_by_event : (cost : ℕ) → 1 ≤ length events → Paid cost
  paid_by_event cost some = (let few = cost_few hand' (is_hold answer) in omega (arith, few, some, more))

  follows_as : (given : Said) → answer ≡ given → FollowsAnswer tells hand given link hand' link'
  follows_as given is = subst (λ (a : Said). FollowsAnswer tells hand a link hand' link') is follows

  paid_as_void : (cost : ℕ) → 3 ≤ cost → answer ≡ said.Void → Paid cost
  paid_as_void cost enough is =
      let left = void_leaves tells hand link hand' link' (follows_as said.Void is) in
      let two : cost_of hand' (is_hold answer) ≡ 2 =
      ap (λ (h : Hand). cost_of h (is_hold answer)) left ∙ ap (λ (a : Said). cost_of Nothing (is_hold a)) is in
      omega (arith, two, enough, more)

  paid_or_ends : (cost : ℕ) → AppendsOrEnds events answer → Paid cost
  paid_or_ends cost comes = ⊎_elim (λ some. paid_by_event cost some) (λ ends. absurd (goes ends)) comes

  -- a turn of a claim
  paid_or_void : (cost : ℕ) → 3 ≤ cost → AppendsOrVoid events answer → Paid cost
  paid_or_void cost enough comes =
      ⊎_elim (λ void. paid_as_void cost enough void) (λ some. paid_or_ends cost some) comes

  -- a turn that asked for work, and leaves nothing in hand where it is held up
  held_next : (held : Bool) (cost ms : ℕ) → cost_of Nothing held ≤ cost → held && is_hold answer ≡ false
      → answer ≡ said.Hold ms → hand' ≡ Nothing → Paid cost
  held_next true cost ms enough once is left =
      (let yes : is_hold answer ≡ true = ap is_hold is in let no : true ≡ false = sym yes ∙ once in cc)
  held_next false cost ms enough once is left =
      let one : cost_of hand' (is_hold answer) ≡ 1 =
      ap (λ (h : Hand). cost_of h (is_hold answer)) left ∙ ap (λ (a : Said). cost_of Nothing (is_hold a)) is in
      omega (arith, one, enough, more)

  hashed_next : (held : Bool) (cost : ℕ) → cost_of Nothing held ≤ cost → Hashes answer → Paid cost
  hashed_next held cost enough hashes =
      let given = grant_followed tells hand (grant.Hash hashes.0 hashes.1 hashes.2) link hand' link'
      (follows_as (said.Grant (grant.Hash hashes.0 hashes.1 hashes.2)) hashes.3) in
      let none : cost_of hand' (is_hold answer) ≡ 0 = ap (λ (h : Hand). cost_of h (is_hold answer)) given.0 in
      let one : 1 ≤ cost_of Nothing held = free_costs held in
      omega (arith, none, one, enough, more)

  paid_next : (held : Bool) (cost : ℕ) → cost_of Nothing held ≤ cost → held && is_hold answer ≡ false
      → answer ≢ said.Idle → ((ms : ℕ) → answer ≡ said.Hold ms → hand' ≡ Nothing) → ComesOfNext events answer → Paid
      cost
  paid_next held cost enough once busy left comes =
      ⊎_elim (λ idle. absurd (busy idle))
      (⊎_elim (λ holds. held_next held cost holds.0 enough once holds.1 (left holds.0 holds.1))
      (⊎_elim (λ hashes. hashed_next held cost enough hashes) (λ some. paid_or_ends cost some))) comes

-- ---- more bytes

-- a step brings a byte, or blocks, or a loss
step_paid : (tells : Bool) (told : IsTrue tells) (f g : Fetching) (bytes : ℕ) (gain : Gain) (link link' : LinkAt)
    (events : List Event) (cost : ℕ) → 4 ≤ cost → 1 ≤ bytes → received_over link ≤ received_over link'
    → IsMeasured tells f link → f.left ≡ 0 → IsStepOf tells (allowing f bytes) link' g → MeasuredBy tells g link' gain
    → Pays cost events (received_over link) (received_over link') (gain_cost gain false)
step_paid tells told f g bytes Open link link' events cost enough some more measured none step now =
    let was = measured.over told in
    let took = measured.exact told in
    let is = now.0.over told in
    let takes = now.0.exact told in
    let all = now.1 told in
    let granted : g.granted ≡ f.granted + bytes = ap (λ (x : Fetching). x.granted) step.same in
    let since : received_over g.since ≡ received_over f.since =
    ap (λ (x : Fetching). received_over x.since) step.same in
    omega (arith, enough, some, was, took, is, takes, all, granted, since, none)
step_paid tells told f g bytes gain link link' events cost enough some more measured none step now =
    omega (arith, enough, more)

more_enough : (held : Bool) → 4 ≤ gain_cost Open held
more_enough true = omega arith
more_enough false = omega arith

module _ (tells : Bool) (told : IsTrue tells) (f : Fetching) (opened : f.gain ≡ Open) (answer : Said)
    (events : List Event) (link : LinkAt) (hand' : Hand) (link' : LinkAt)
    (follows : FollowsAnswer tells (Fetches f) answer link hand' link')
    (more : received_over link ≤ received_over link') (goes : EndsBy answer → ⊥) where
  abbrev PaidMore : ℕ → Type 0
  PaidMore cost = Pays cost events (received_over link) (received_over link') (cost_of hand' (is_hold answer))

  open_follows : (given : Said) → answer ≡ given → FollowsAnswer tells (Fetches f) given link hand' link'
  open_follows given is = subst (λ (a : Said). FollowsAnswer tells (Fetches f) a link hand' link') is follows

  -- the fetch waits
  held_more : (held : Bool) (ms : ℕ) → held && is_hold answer ≡ false → answer ≡ said.Hold ms
      → PaidMore (gain_cost Open held)
  held_more true ms once is =
      (let yes : is_hold answer ≡ true = ap is_hold is in let no : true ≡ false = sym yes ∙ once in cc)
  held_more false ms once is =
      let leaves = subst (λ (g : Gain). FollowsFetch tells f g (said.Hold ms) link hand' link') opened
      (open_follows (said.Hold ms) is) in
      let four : cost_of hand' (is_hold answer) ≡ 4 =
      ap (λ (h : Hand). cost_of h (is_hold answer)) leaves.0
      ∙ (ap (λ (a : Said). gain_cost f.gain (is_hold a)) is ∙ ap (λ (g : Gain). gain_cost g true) opened) in
      omega (arith, four, more)

  allowed_more : (cost bytes : ℕ) → 4 ≤ cost → answer ≡ said.Allow bytes → IsSoundAnswer answer
      → IsMeasured tells f link → f.left ≡ 0 → PaidMore cost
  allowed_more cost bytes enough is sound measured none =
      let steps = subst (λ (g : Gain). FollowsFetch tells f g (said.Allow bytes) link hand' link') opened
      (open_follows (said.Allow bytes) is) in
      let g : Fetching = steps.0 in
      let P : Said → Type 0 = λ a. IsSoundAnswer a in
      let some : 1 ≤ bytes = subst P is sound in
      let by : cost_of hand' (is_hold answer) ≡ gain_cost g.gain false =
      ap (λ (h : Hand). cost_of h (is_hold answer)) steps.2 ∙ ap (λ (a : Said). gain_cost g.gain (is_hold a)) is in
      let paid = step_paid tells told f g bytes g.gain link link' events cost enough some more measured none steps.1
      (gain_measured tells g link' g.gain steps.1.at.carried steps.1.at.gain) in
      subst (λ n. Pays cost events (received_over link) (received_over link') n) (sym by) paid

  paid_more : (held : Bool) → held && is_hold answer ≡ false → IsSoundAnswer answer → IsMeasured tells f link
      → f.left ≡ 0 → ComesOfMore answer → PaidMore (gain_cost Open held)
  paid_more held once sound measured none comes =
      let enough = more_enough held in
      ⊎_elim (λ void. paid_as_void tells told (Fetches f) answer events link hand' link' follows more goes
      (gain_cost Open held) (omega (arith, enough)) void)
      (⊎_elim (λ holds. held_more held holds.0 once holds.1)
      (⊎_elim (λ allows. allowed_more (gain_cost Open held) allows.0 enough allows.1 sound measured none)
      (λ ends. absurd (goes ends)))) comes

-- ---- any turn

starved_leaves : (tells : Bool) (f : Fetching) (link : LinkAt) (hand' : Hand) (link' : LinkAt) (ms : ℕ) → f.gain ≡
    Starved
    → FollowsAnswer tells (Fetches f) (said.Hold ms) link hand' link' → hand' ≡ Nothing
starved_leaves tells f link hand' link' ms is follows =
    (subst (λ (g : Gain). FollowsFetch tells f g (said.Hold ms) link hand' link') is follows).0

free_few : (held : Bool) → cost_of Nothing held ≤ 3
free_few true = omega arith
free_few false = omega arith

-- What is asked of a turn, and its row.
pub record IsPlain (tells : Bool) (at : TurnStart) (s : RunStanding) (op : Operation) (answer : Said)
    (events : List Event) (held : Bool) (link link' : LinkAt) : Type 0 where
  pub told : IsTrue tells
  pub row : OperationRow at s op events answer
  pub goes : EndsBy answer → ⊥
  pub more : received_over link ≤ received_over link'
  pub sound : IsSoundAnswer answer
  pub counts : CountsBlocks op answer events
  pub taken : IsSealTaken op answer
  pub busy : answer ≢ said.Idle
  pub once : held && is_hold answer ≡ false

module _ (tells : Bool) (at : TurnStart) (s : RunStanding) (worker : ℕ) (now : Moment) (op : Operation) (answer : Said)
    (events : List Event) (held : Bool) (link : LinkAt) (hand' : Hand) (link' : LinkAt)
    (plain : IsPlain tells at s op answer events held link link') where
  abbrev PaidOf : Hand → Type 0
  PaidOf hand = Pays (cost_of hand held) events (received_over link) (received_over link') (cost_of hand' (is_hold
      answer))

  row_as : (due : Operation) → op ≡ due → OperationRow at s due events answer
  row_as due is = subst (λ (o : Operation). OperationRow at s o events answer) is plain.row

  deliver_paid : (f : Fetching) (run : Run) (bytes : List ℕ) (last : Bool)
      → op ≡ operation.Deliver f.claim run bytes now → FollowsAnswer tells (Fetches f) answer link hand' link'
      → Pays 3 events (received_over link) (received_over link') (cost_of hand' (is_hold answer))
  deliver_paid f run bytes last is follows =
      let counts : (c r : ℕ) → answer ≡ said.Kept c r → 1 ≤ length events =
      λ c r kept. subst (λ (a : Said). CountsBlocks (operation.Deliver f.claim run bytes now) a events) kept
      (subst (λ (o : Operation). CountsBlocks o answer events) is plain.counts) in
      paid_or_void tells plain.told (Fetches f) answer events link hand' link' follows plain.more plain.goes 3 (omega
      arith)
      (of_claim at s f.claim (DeliverRow at s run bytes) events answer
      (λ download c row. kept_counts at s run bytes download c events answer counts row)
      (row_as (operation.Deliver f.claim run bytes now) is))

  lose_paid : (hand : Hand) (claim : ℕ) (mark : Mark) → op ≡ operation.Lose claim mark now
      → FollowsAnswer tells hand answer link hand' link'
      → Pays 3 events (received_over link) (received_over link') (cost_of hand' (is_hold answer))
  lose_paid hand claim mark is follows =
      paid_or_void tells plain.told hand answer events link hand' link' follows plain.more plain.goes 3 (omega arith)
      (of_claim at s claim (LoseRow at s mark) events answer
      (λ download c row. lose_row at s mark download c events answer row)
      (row_as (operation.Lose claim mark now) is))

  sized_paid : (hand : Hand) (claim total : ℕ) → op ≡ operation.Sized claim total now
      → FollowsAnswer tells hand answer link hand' link'
      → Pays 3 events (received_over link) (received_over link') (cost_of hand' (is_hold answer))
  sized_paid hand claim total is follows =
      paid_or_void tells plain.told hand answer events link hand' link' follows plain.more plain.goes 3 (omega arith)
      (of_claim at s claim (SizedRow at s total) events answer
      (λ download c row. sized_row at s total download c events answer row)
      (row_as (operation.Sized claim total now) is))

  next_paid : (hand : Hand) (cost : ℕ) → cost_of Nothing held ≤ cost → op ≡ operation.Next worker now
      → ((ms : ℕ) → answer ≡ said.Hold ms → hand' ≡ Nothing) → FollowsAnswer tells hand answer link hand' link'
      → Pays cost events (received_over link) (received_over link') (cost_of hand' (is_hold answer))
  next_paid hand cost enough is left follows =
      paid_next tells plain.told hand answer events link hand' link' follows plain.more plain.goes held cost enough
      plain.once plain.busy left (next_row at s worker events answer (row_as (operation.Next worker now) is))

  fetch_paid : (f : Fetching) (gain : Gain) → f.gain ≡ gain → op ≡ fetch_op worker f now gain
      → FollowsAnswer tells (Fetches f) answer link hand' link' → MeasuredBy tells f link gain
      → Pays (gain_cost gain held) events (received_over link) (received_over link') (cost_of hand' (is_hold answer))
  fetch_paid f (Ready run bytes last) is due follows measured = deliver_paid f run bytes last due follows
  fetch_paid f (Lost loss mark) is due follows measured = lose_paid (Fetches f) f.claim mark due follows
  fetch_paid f Open is due follows measured =
      paid_more tells plain.told f is answer events link hand' link' follows plain.more plain.goes held plain.once
      plain.sound measured.0 (measured.1 plain.told)
      (more_row at s MAX_ALLOWANCE f.claim events answer (row_as (operation.More f.claim MAX_ALLOWANCE now) due))
  fetch_paid f Starved is due follows measured =
      next_paid (Fetches f) 3 (free_few held) due
      (λ ms held_up. starved_leaves tells f link hand' link' ms is
      (subst (λ (a : Said). FollowsAnswer tells (Fetches f) a link hand' link') held_up follows)) follows

  probe_paid : (p : Probing) (end : ProbeEnd) → op ≡ probe_op worker p.claim now end
      → FollowsAnswer tells (Probes p) answer link hand' link'
      → Pays 3 events (received_over link) (received_over link') (cost_of hand' (is_hold answer))
  probe_paid p (Told total) due follows = sized_paid (Probes p) p.claim total due follows
  probe_paid p (Missed loss mark) due follows = lose_paid (Probes p) p.claim mark due follows
  probe_paid p Lacking due follows =
      next_paid (Probes p) 3 (free_few held) due
      (λ ms held_up. (subst (λ (a : Said). FollowsAnswer tells (Probes p) a link hand' link') held_up follows).0)
      follows

  seal_paid : (gid : Gid) (sealed : PieceBytes) → op ≡ operation.Seal gid sealed now
      → FollowsAnswer tells (Seals gid sealed) answer link hand' link' → PaidOf (Seals gid sealed)
  seal_paid gid sealed is follows =
      paid_or_ends tells plain.told (Seals gid sealed) answer events link hand' link' follows plain.more plain.goes 0
      (seal_row at s gid sealed events answer
      (λ void. subst (λ (a : Said). IsSealTaken (operation.Seal gid sealed now) a) void
      (subst (λ (o : Operation). IsSealTaken o answer) is plain.taken))
      (row_as (operation.Seal gid sealed now) is))

  pub turn_paid : (hand : Hand) → op ≡ due_op worker hand now → FollowsAnswer tells hand answer link hand' link'
      → MeasuredHand tells hand link → PaidOf hand
  turn_paid Nothing due follows measured =
      next_paid Nothing (cost_of Nothing held) (omega arith) due
      (λ ms held_up. (subst (λ (a : Said). FollowsAnswer tells Nothing a link hand' link') held_up follows).0) follows
  turn_paid (Fetches f) due follows measured = fetch_paid f f.gain refl due follows measured
  turn_paid (Probes p) due follows measured = probe_paid p p.end due follows
  turn_paid (Seals gid sealed) due follows measured = seal_paid gid sealed due follows
