-- A link receives what is allowed.
use Rattle.std.proofs.Common.{◌≡◌, ◌⊎◌, inl, inr, ◌≤◌, ◌+◌, ◌∷◌, ℕ, zero, suc, Bool, true, false, IsTrue, List, [], Option, Some, None, refl, sym, ap, subst, ◌∙◌, arith, eq-eqb, if◌then◌else◌}
use Rattle.dl_kinds.specs.declared.gid.Gid.{Gid}
use Rattle.dl_kinds.specs.declared.runs.Moment.{Moment}
use Rattle.engine_turns.specs.Told.{RunTurn}
use Rattle.engine_turns.specs.declared.limits.TheConstants.{MAX_ALLOWANCE}
use Rattle.engine_turns.specs.declared.operations.Grant.{Grant}
use Rattle.engine_turns.specs.declared.operations.Grant.TheVariants as grant
use Rattle.engine_turns.specs.declared.operations.Operation.{Operation}
use Rattle.engine_turns.specs.declared.operations.Operation.TheVariants as operation
use Rattle.engine_turns.specs.declared.operations.Said.{Said}
use Rattle.engine_turns.specs.declared.operations.Said.TheVariants as said
use Rattle.link_source.specs.Exchanges.{Exchange}
use Rattle.reply_reader.specs.declared.loss.Loss.{Loss}
use Rattle.dl_kinds.specs.declared.marks.Mark.{Mark}
use Rattle.request_chain.specs.Chains.{received_by}
use Rattle.verify_piece.specs.Seals.{PieceBytes}
use Rattle.conn_worker.specs.Allowed.{IsUsedFor, LinksReceiveWhatIsAllowed, ReceivesAllowed, ReceivesAtMost, allowed_by, allowed_in}
use Rattle.conn_worker.specs.Brought.{EndsClaim}
use Rattle.conn_worker.specs.Facts.{HasUsed, IsFetchingAt}
use Rattle.conn_worker.specs.Hands.{Fetching, Hand, Nothing, Fetches, Probes, Seals, IsLeftAlone, LinkAt, Probing, WorkerAt, allowing, delivered, fresh}
use Rattle.conn_worker.specs.Sound.{NoGrant}
use Rattle.conn_worker.specs.Table.{FollowsAnswer, FollowsDelivery, FollowsFetch, FollowsGrant, FollowsKept, FollowsMore, HangsUp, LeavesFetch, LeavesNothing, StepsOn, due_op, end_behind, fetch_op, goes_on_by}
use Rattle.conn_worker.specs.Works.{EndsOrGoesOn, Works, turn_moment}
use Rattle.conn_worker.specs.declared.ends.WorkEnd.{WorkEnd}
use Rattle.conn_worker.specs.declared.hands.Gain.{Gain}
use Rattle.conn_worker.specs.declared.hands.Gain.TheVariants.{Lost, Open, Ready, Starved}

-- ---- answers that grant nothing

-- by what the answer of a turn leaves of the hand, without a grant
pub fetch_followed : (tells : Bool) (f : Fetching) (answer : Said) (link : LinkAt) (hand' : Hand) (link' : LinkAt)
    → NoGrant answer → FollowsAnswer tells (Fetches f) answer link hand' link'
    → FollowsFetch tells f f.gain answer link hand' link'
fetch_followed tells f (said.Grant granted) link hand' link' none is = absurd none
fetch_followed tells f answer link hand' link' none is = is

pub nothing_followed : (tells : Bool) (answer : Said) (link : LinkAt) (hand' : Hand) (link' : LinkAt)
    → NoGrant answer → FollowsAnswer tells Nothing answer link hand' link' → HangsUp tells link hand' link'
nothing_followed tells (said.Grant granted) link hand' link' none is = absurd none
nothing_followed tells answer link hand' link' none is = is

pub probe_followed : (tells : Bool) (p : Probing) (answer : Said) (link : LinkAt) (hand' : Hand) (link' : LinkAt)
    → NoGrant answer → FollowsAnswer tells (Probes p) answer link hand' link' → LeavesNothing link hand' link'
probe_followed tells p (said.Grant granted) link hand' link' none is = absurd none
probe_followed tells p answer link hand' link' none is = is

pub seal_followed : (tells : Bool) (gid : Gid) (sealed : PieceBytes) (answer : Said) (link : LinkAt) (hand' : Hand)
    (link' : LinkAt) → NoGrant answer → FollowsAnswer tells (Seals gid sealed) answer link hand' link'
    → LeavesNothing link hand' link'
seal_followed tells gid sealed (said.Grant granted) link hand' link' none is = absurd none
seal_followed tells gid sealed answer link hand' link' none is = is

-- ---- what a fetch in hand received

pub record IsSpending (tells : Bool) (f : Fetching) (link : LinkAt) : Type 0 where
  pub used_is : HasUsed tells f.since f.used link
  pub few : IsTrue tells → received_by f.used ≤ f.granted

abbrev pub IsSpendingHand : Bool → Hand → LinkAt → Type 0
IsSpendingHand tells (Fetches f) link = IsSpending tells f link
IsSpendingHand tells hand link = Unit {0}

-- the fetch goes on, and no more is granted than so
record CarriesOn (tells : Bool) (f : Fetching) (extra : ℕ) (g : Fetching) (link' : LinkAt) : Type 0 where
  claim : g.claim ≡ f.claim
  since : g.since ≡ f.since
  granted : g.granted ≤ f.granted + extra
  spending : IsSpending tells g link'

-- nothing is left in hand, and nothing was received
abbrev pub LeavesLink : Bool → LinkAt → Hand → LinkAt → Type 0
LeavesLink tells link hand' link' = (hand' ≡ Nothing) × IsLeftAlone tells link link'

pub stays_open : (tells : Bool) (link : LinkAt) (hand' : Hand) (link' : LinkAt) → LeavesNothing link hand' link'
    → LeavesLink tells link hand' link'
stays_open tells link hand' link' leaves = (leaves.0, inl leaves.1)

pub is_closed : (tells : Bool) (link : LinkAt) (hand' : Hand) (link' : LinkAt) → HangsUp tells link hand' link'
    → LeavesLink tells link hand' link'
is_closed tells link hand' link' hangs = (hangs.0, inr hangs.1)

-- .. or the fetch
abbrev LeavesOrCarries : Bool → Fetching → ℕ → LinkAt → Hand → LinkAt → Type 0
LeavesOrCarries tells f extra link hand' link' =
    LeavesLink tells link hand' link' ⊎ ((g : Fetching) × (hand' ≡ Fetches g) × CarriesOn tells f extra g link')

stepped_spending : (tells : Bool) (g : Fetching) (link : LinkAt) → IsFetchingAt tells g link → IsSpending tells g link
stepped_spending tells g link at = record {
  used_is = at.carried.used;
  few = λ t. let spent = at.carried.spent t in omega (arith, spent);
}

steps_carry : (tells : Bool) (f base : Fetching) (extra : ℕ) (link : LinkAt) (hand' : Hand) (link' : LinkAt)
    → base.claim ≡ f.claim → base.since ≡ f.since → base.granted ≤ f.granted + extra
    → StepsOn tells base hand' link' → LeavesOrCarries tells f extra link hand' link'
steps_carry tells f base extra link hand' link' claim since granted s =
    let g : Fetching = s.0 in
    let same = s.1.same in
    let more : g.granted ≡ base.granted = ap (λ (x : Fetching). x.granted) same in
    inr (
      g,
      s.2,
      record {
        claim = ap (λ (x : Fetching). x.claim) same ∙ claim;
        since = ap (λ (x : Fetching). x.since) same ∙ since;
        granted = omega (arith, more, granted);
        spending = stepped_spending tells g link' s.1.at;
      },
    )

-- the fetch is left as it is, but for what of it is delivered
waits_carry : (tells : Bool) (f g : Fetching) (extra : ℕ) (link : LinkAt) (hand' : Hand) (link' : LinkAt)
    → g.claim ≡ f.claim → g.since ≡ f.since → g.granted ≡ f.granted → g.used ≡ f.used → IsSpending tells f link
    → LeavesFetch g link hand' link' → LeavesOrCarries tells f extra link hand' link'
waits_carry tells f g extra link hand' link' claim since granted used spending leaves =
    inr (
      g,
      leaves.0,
      record {
        claim = claim;
        since = since;
        granted = omega (arith, granted);
        spending = subst (λ (l : LinkAt). IsSpending tells g l) (sym leaves.1) (record {
          used_is = subst (λ (l : LinkAt). HasUsed tells l g.used link) (sym since)
              (subst (λ u. HasUsed tells f.since u link) (sym used) spending.used_is);
          few = λ t. let few = spending.few t in
              let same : received_by g.used ≡ received_by f.used = ap received_by used in omega (arith, few, same, granted);
        });
      },
    )

kept_carries : (tells : Bool) (f d : Fetching) (left : ℕ) (last : Bool) (extra : ℕ) (link : LinkAt) (hand' : Hand)
    (link' : LinkAt) → d.claim ≡ f.claim → d.since ≡ f.since → d.granted ≡ f.granted → d.used ≡ f.used
    → d.left ≡ left → IsSpending tells f link → FollowsKept tells d last link hand' link'
    → LeavesOrCarries tells f extra link hand' link'
kept_carries tells f d left true extra link hand' link' claim since granted used is spending kept = inl (stays_open tells link hand' link' kept)
kept_carries tells f d zero false extra link hand' link' claim since granted used is spending kept =
    waits_carry tells f d extra link hand' link' claim since granted used spending
    (subst (λ n. goes_on_by tells d n link hand' link') is kept)
kept_carries tells f d (suc left) false extra link hand' link' claim since granted used is spending kept =
    steps_carry tells f d extra link hand' link' claim since (omega (arith, granted))
    (subst (λ n. goes_on_by tells d n link hand' link') is kept)

delivery_carries : (tells : Bool) (f d : Fetching) (last : Bool) (answer : Said) (extra : ℕ) (link : LinkAt)
    (hand' : Hand) (link' : LinkAt) → d.claim ≡ f.claim → d.since ≡ f.since → d.granted ≡ f.granted → d.used ≡ f.used
    → IsSpending tells f link → FollowsDelivery tells d last answer link hand' link'
    → LeavesOrCarries tells f extra link hand' link'
delivery_carries tells f d last (said.Kept counted repeated) extra link hand' link' claim since granted used spending is =
    kept_carries tells f d d.left last extra link hand' link' claim since granted used refl spending is
delivery_carries tells f d last answer extra link hand' link' claim since granted used spending is =
    inl (is_closed tells link hand' link' is)

allowed_all : (claim want : ℕ) (now : Moment) (op : Operation) (bytes : ℕ) → op ≡ operation.More claim want now
    → allowed_by claim op (said.Allow bytes) ≡ bytes
allowed_all claim want now op bytes is =
    subst (λ (o : Operation). allowed_by claim o (said.Allow bytes) ≡ bytes) (sym is)
    (subst (λ (b : Bool). (if b then bytes else 0) ≡ bytes) (sym (eq-eqb claim claim refl)) refl)

more_carries : (tells : Bool) (f : Fetching) (op : Operation) (now : Moment) (answer : Said) (link : LinkAt)
    (hand' : Hand) (link' : LinkAt) → op ≡ operation.More f.claim MAX_ALLOWANCE now → IsSpending tells f link
    → FollowsMore tells f answer link hand' link'
    → LeavesOrCarries tells f (allowed_by f.claim op answer) link hand' link'
more_carries tells f op now (said.Allow bytes) link hand' link' due spending is =
    let all = allowed_all f.claim MAX_ALLOWANCE now op bytes due in
    steps_carry tells f (allowing f bytes) (allowed_by f.claim op (said.Allow bytes)) link hand' link' refl refl
    (omega (arith, all)) is
more_carries tells f op now (said.Hold ms) link hand' link' due spending is =
    waits_carry tells f f (allowed_by f.claim op (said.Hold ms)) link hand' link' refl refl refl refl spending is
more_carries tells f op now answer link hand' link' due spending is = inl (is_closed tells link hand' link' is)

fetch_carries : (tells : Bool) (worker : ℕ) (f : Fetching) (gain : Gain) (op : Operation) (now : Moment) (answer : Said)
    (link : LinkAt) (hand' : Hand) (link' : LinkAt) → op ≡ fetch_op worker f now gain → IsSpending tells f link
    → FollowsFetch tells f gain answer link hand' link'
    → LeavesOrCarries tells f (allowed_by f.claim op answer) link hand' link'
fetch_carries tells worker f (Ready run bytes last) op now answer link hand' link' due spending is =
    delivery_carries tells f (delivered f run bytes) last answer (allowed_by f.claim op answer) link hand' link'
    refl refl refl refl spending is
fetch_carries tells worker f (Lost loss mark) op now answer link hand' link' due spending is =
    inl (stays_open tells link hand' link' is)
fetch_carries tells worker f Open op now answer link hand' link' due spending is =
    more_carries tells f op now answer link hand' link' due spending is
fetch_carries tells worker f Starved op now answer link hand' link' due spending is =
    inl (stays_open tells link hand' link' is)

-- ---- all turns

-- where a fetch is in hand, it receives no more than it was granted and these allow; and so it goes on behind it
abbrev IsUsedBy : Bool → Hand → LinkAt → (ℕ → ℕ) → (LinkAt → Type 0) → Type 0
IsUsedBy tells (Fetches f) link allowed Rest =
    (used : List Exchange) × (between : LinkAt)
    × ReceivesAtMost tells (f.granted + allowed f.claim) f.since used between × Rest between
IsUsedBy tells hand link allowed Rest = Rest link

-- what the answer of a turn leaves is used, and then what its turns behind it do
abbrev Behind : Bool → Said → List RunTurn → LinkAt → LinkAt → Type 0
Behind tells answer ts last link =
    (used : List Exchange) × (between : LinkAt) × IsUsedFor tells answer ts link used between
    × ReceivesAllowed tells ts between last

not_used : (tells : Bool) (answer : Said) (ts : List RunTurn) (last link link' : LinkAt) → NoGrant answer
    → IsLeftAlone tells link link' → ReceivesAllowed tells ts link' last → Behind tells answer ts last link
not_used tells (said.Grant granted) ts last link link' none alone rest = absurd none
not_used tells answer ts last link link' none alone rest = ([], link', (refl, alone), rest)

module _ (tells : Bool) (ts : List RunTurn) (last : LinkAt) where
  -- what turns do with what is in hand
  abbrev Goes : Hand → LinkAt → Type 0
  Goes hand link = IsSpendingHand tells hand link
      → IsUsedBy tells hand link (λ claim. allowed_in claim ts) (λ l. ReceivesAllowed tells ts l last)

  left_nothing : (hand' : Hand) (link' : LinkAt) → hand' ≡ Nothing → Goes hand' link'
      → ReceivesAllowed tells ts link' last
  left_nothing hand' link' left goes = (subst (λ (h : Hand). Goes h link') left goes) tt

  -- behind an answer that leaves nothing
  leaves_goes : (answer : Said) (link : LinkAt) (hand' : Hand) (link' : LinkAt) → NoGrant answer
      → LeavesLink tells link hand' link' → Goes hand' link' → Behind tells answer ts last link
  leaves_goes answer link hand' link' none leaves goes =
      not_used tells answer ts last link link' none leaves.1 (left_nothing hand' link' leaves.0 goes)

  fetch_goes : (hand' : Hand) (link' : LinkAt) (g : Fetching) → hand' ≡ Fetches g → IsSpending tells g link'
      → Goes hand' link' → (used : List Exchange) × (between : LinkAt)
      × ReceivesAtMost tells (g.granted + allowed_in g.claim ts) g.since used between
      × ReceivesAllowed tells ts between last
  fetch_goes hand' link' g is spending goes = (subst (λ (h : Hand). Goes h link') is goes) spending

  grant_goes : (granted : Grant) (link : LinkAt) (hand' : Hand) (link' : LinkAt)
      → FollowsGrant tells granted link hand' link' → Goes hand' link' → Behind tells (said.Grant granted) ts last link
  grant_goes (grant.Fetch granted) link hand' link' s goes =
      let g : Fetching = s.0 in
      let same = s.1.same in
      let r = fetch_goes hand' link' g s.2 (stepped_spending tells g link' s.1.at) goes in
      let allow : g.granted ≡ granted.allow = ap (λ (x : Fetching). x.granted) same in
      let claim : g.claim ≡ granted.claim = ap (λ (x : Fetching). x.claim) same in
      let since : g.since ≡ link = ap (λ (x : Fetching). x.since) same in (
        r.0,
        r.1,
        subst (λ (l : LinkAt). ReceivesAtMost tells (granted.allow + allowed_in granted.claim ts) l r.0 r.1) since
            (subst (λ n. ReceivesAtMost tells (granted.allow + allowed_in n ts) g.since r.0 r.1) claim
            (subst (λ n. ReceivesAtMost tells (n + allowed_in g.claim ts) g.since r.0 r.1) allow r.2)),
        r.3,
      )
  grant_goes (grant.Probe claim gid url) link hand' link' s goes =
      let since = s.1.since_is in (
        s.0.used,
        link',
        subst (λ (l : LinkAt). HasUsed tells l s.0.used link') since s.1.at.used,
        (subst (λ (h : Hand). Goes h link') s.2 goes) tt,
      )
  grant_goes (grant.Hash gid piece bytes) link hand' link' s goes = (
    [],
    link,
    (refl, inl refl),
    (subst (λ (l : LinkAt). Goes (Seals gid (record { piece = piece; bytes = bytes })) l) s.1
        (subst (λ (h : Hand). Goes h link') s.0 goes)) tt,
  )

  carries_goes : (f : Fetching) (op : Operation) (answer : Said) (link : LinkAt) (hand' : Hand) (link' : LinkAt)
      → NoGrant answer → IsSpending tells f link → Goes hand' link'
      → LeavesOrCarries tells f (allowed_by f.claim op answer) link hand' link'
      → (used : List Exchange) × (between : LinkAt)
      × ReceivesAtMost tells (f.granted + (allowed_by f.claim op answer + allowed_in f.claim ts)) f.since used between
      × Behind tells answer ts last between
  carries_goes f op answer link hand' link' none spending goes (inl leaves) = (
    f.used,
    link,
    record { used_is = spending.used_is; few = λ t. let few = spending.few t in omega (arith, few) },
    leaves_goes answer link hand' link' none leaves goes,
  )
  carries_goes f op answer link hand' link' none spending goes (inr c) =
      let g : Fetching = c.0 in
      let on = c.2 in
      let r = fetch_goes hand' link' g c.1 on.spending goes in
      let granted = on.granted in
      let same : allowed_in g.claim ts ≡ allowed_in f.claim ts = ap (λ n. allowed_in n ts) on.claim in (
        r.0,
        r.1,
        record {
          used_is = subst (λ (l : LinkAt). HasUsed tells l r.0 r.1) on.since r.2.used_is;
          few = λ t. let few = r.2.few t in omega (arith, few, granted, same);
        },
        not_used tells answer ts last r.1 r.1 none (inl refl) r.3,
      )

  -- one turn that grants nothing, and those behind it
  still_goes : (worker : ℕ) (op : Operation) (now : Moment) (answer : Said) (hand : Hand) (link : LinkAt)
      (hand' : Hand) (link' : LinkAt) → NoGrant answer → op ≡ due_op worker hand now
      → FollowsAnswer tells hand answer link hand' link' → IsSpendingHand tells hand link → Goes hand' link'
      → IsUsedBy tells hand link (λ claim. allowed_by claim op answer + allowed_in claim ts) (Behind tells answer ts last)
  still_goes worker op now answer Nothing link hand' link' none due follows spending goes =
      leaves_goes answer link hand' link' none
      (is_closed tells link hand' link' (nothing_followed tells answer link hand' link' none follows)) goes
  still_goes worker op now answer (Fetches f) link hand' link' none due follows spending goes =
      carries_goes f op answer link hand' link' none spending goes
      (fetch_carries tells worker f f.gain op now answer link hand' link' due spending
      (fetch_followed tells f answer link hand' link' none follows))
  still_goes worker op now answer (Probes p) link hand' link' none due follows spending goes =
      leaves_goes answer link hand' link' none
      (stays_open tells link hand' link' (probe_followed tells p answer link hand' link' none follows)) goes
  still_goes worker op now answer (Seals gid sealed) link hand' link' none due follows spending goes =
      leaves_goes answer link hand' link' none
      (stays_open tells link hand' link' (seal_followed tells gid sealed answer link hand' link' none follows)) goes

  -- one turn, and those behind it
  pub turn_goes : (worker : ℕ) (op : Operation) (now : Moment) (answer : Said) (hand : Hand) (link : LinkAt)
      (hand' : Hand) (link' : LinkAt) → op ≡ due_op worker hand now → FollowsAnswer tells hand answer link hand' link'
      → IsSpendingHand tells hand link → Goes hand' link'
      → IsUsedBy tells hand link (λ claim. allowed_by claim op answer + allowed_in claim ts) (Behind tells answer ts last)
  turn_goes worker op now (said.Grant granted) Nothing link hand' link' due follows spending goes =
      grant_goes granted link hand' link' follows goes
  turn_goes worker op now (said.Grant granted) (Fetches f) link hand' link' due follows spending goes = (
    f.used,
    link,
    record { used_is = spending.used_is; few = λ t. let few = spending.few t in omega (arith, few) },
    grant_goes granted link hand' link' follows goes,
  )
  turn_goes worker op now (said.Grant granted) (Probes p) link hand' link' due follows spending goes =
      grant_goes granted link hand' link' follows goes
  turn_goes worker op now (said.Grant granted) (Seals gid sealed) link hand' link' due follows spending goes =
      grant_goes granted link hand' link' follows goes
  turn_goes worker op now answer hand link hand' link' due follows spending goes =
      still_goes worker op now answer hand link hand' link' tt due follows spending goes

none_goes : (tells : Bool) (hand : Hand) (link : LinkAt) → Goes tells [] link hand link
none_goes tells Nothing link spending = refl
none_goes tells (Fetches f) link spending = (
  f.used,
  link,
  record { used_is = spending.used_is; few = λ t. let few = spending.few t in omega (arith, few) },
  refl,
)
none_goes tells (Probes p) link spending = refl
none_goes tells (Seals gid sealed) link spending = refl

-- behind a turn, whether it ended the work or not
goes_by : (tells : Bool) (worker : ℕ) (ts : List RunTurn) (m b : WorkerAt) (by end : Option WorkEnd)
    → (Works tells worker ts m b end → Goes tells ts b.link m.hand m.link)
    → EndsOrGoesOn by ((ts ≡ []) × (b ≡ m) × (end ≡ by)) (Works tells worker ts m b end)
    → Goes tells ts b.link m.hand m.link
goes_by tells worker ts m b None end on is = on is
goes_by tells worker ts m b (Some by) end on is =
    subst (λ l. Goes tells l b.link m.hand m.link) (sym is.0)
    (subst (λ (w : WorkerAt). Goes tells [] w.link m.hand m.link) (sym is.1) (none_goes tells m.hand m.link))

hand_goes : (tells : Bool) (ts : List RunTurn) (t : RunTurn) (last : LinkAt) (hand : Hand) (link : LinkAt)
    → IsUsedBy tells hand link (λ claim. allowed_by claim t.op t.answer.said + allowed_in claim ts)
    (Behind tells t.answer.said ts last)
    → IsUsedBy tells hand link (λ claim. allowed_in claim (t ∷ ts)) (λ l. ReceivesAllowed tells (t ∷ ts) l last)
hand_goes tells ts t last Nothing link is = is
hand_goes tells ts t last (Fetches f) link is = is
hand_goes tells ts t last (Probes p) link is = is
hand_goes tells ts t last (Seals gid sealed) link is = is

turns_go : (tells : Bool) (worker : ℕ) (ts : List RunTurn) (a b : WorkerAt) (end : Option WorkEnd)
    → Works tells worker ts a b end → Goes tells ts b.link a.hand a.link
turns_go tells worker [] a b end works =
    subst (λ (w : WorkerAt). Goes tells [] w.link a.hand a.link) (sym works.0) (none_goes tells a.hand a.link)
turns_go tells worker (t ∷ ts) a b end works =
    let m = works.1 in
    let does = works.2 in
    let goes = goes_by tells worker ts m b (end_behind t.answer.said m.hand) end
    (turns_go tells worker ts m b end) works.3 in
    λ spending. hand_goes tells ts t b.link a.hand a.link
    (turn_goes tells ts b.link worker t.op (turn_moment works.0 a.moment) t.answer.said a.hand a.link m.hand m.link
    does.op does.follows spending goes)

-- ---- behind a claim's end

-- a loss leaves nothing of its claim in hand
lost_goes : (tells : Bool) (ts : List RunTurn) (last : LinkAt) (f : Fetching) (loss : Loss) (mark : Mark) (answer : Said)
    (link : LinkAt) (hand' : Hand) (link' : LinkAt) → f.gain ≡ Lost loss mark
    → FollowsAnswer tells (Fetches f) answer link hand' link' → Goes tells ts last hand' link'
    → Behind tells answer ts last link
lost_goes tells ts last f loss mark (said.Grant granted) link hand' link' is follows goes =
    grant_goes tells ts last granted link hand' link' follows goes
lost_goes tells ts last f loss mark answer link hand' link' is follows goes =
    leaves_goes tells ts last answer link hand' link' tt
    (stays_open tells link hand' link' (subst (λ (g : Gain). FollowsFetch tells f g answer link hand' link') is
    (fetch_followed tells f answer link hand' link' tt follows))) goes

module _ (tells : Bool) (ts : List RunTurn) (last : LinkAt) (worker : ℕ) (op : Operation) (now : Moment) (ends : EndsClaim op)
    (answer : Said) (link : LinkAt) (hand' : Hand) (link' : LinkAt) (goes : Goes tells ts last hand' link') where
  ended_fetch : (f : Fetching) (gain : Gain) → f.gain ≡ gain → op ≡ fetch_op worker f now gain
      → FollowsAnswer tells (Fetches f) answer link hand' link' → Behind tells answer ts last link
  ended_fetch f (Ready run bytes end) is due follows = absurd (subst EndsClaim due ends)
  ended_fetch f (Lost loss mark) is due follows =
      lost_goes tells ts last f loss mark answer link hand' link' is follows goes
  ended_fetch f Open is due follows = absurd (subst EndsClaim due ends)
  ended_fetch f Starved is due follows = absurd (subst EndsClaim due ends)

  ended_hand : (hand : Hand) → op ≡ due_op worker hand now → FollowsAnswer tells hand answer link hand' link'
      → Behind tells answer ts last link
  ended_hand Nothing due follows = absurd (subst EndsClaim due ends)
  ended_hand (Fetches f) due follows = ended_fetch f f.gain refl due follows
  ended_hand (Probes p) due follows =
      turn_goes tells ts last worker op now answer (Probes p) link hand' link' due follows tt goes
  ended_hand (Seals gid sealed) due follows = absurd (subst EndsClaim due ends)

-- from a turn that ends its claim on
pub ended_goes : (tells : Bool) (worker : ℕ) (t : RunTurn) (ts : List RunTurn) (a b : WorkerAt) (end : Option WorkEnd)
    → Works tells worker (t ∷ ts) a b end → EndsClaim t.op → ReceivesAllowed tells (t ∷ ts) a.link b.link
ended_goes tells worker t ts a b end works ends =
    let m = works.1 in
    let does = works.2 in
    let goes = goes_by tells worker ts m b (end_behind t.answer.said m.hand) end
    (turns_go tells worker ts m b end) works.3 in
    ended_hand tells ts b.link worker t.op (turn_moment works.0 a.moment) ends t.answer.said a.link m.hand m.link goes a.hand
    does.op does.follows

pub receives_allowed : LinksReceiveWhatIsAllowed
receives_allowed tells worker turns link b end works = turns_go tells worker turns (fresh link) b end works tt
