-- What a worker has in hand in its turns was granted to it, and comes over its link since the grant.
use Rattle.std.proofs.Common.{◌≡◌, ◌⊎◌, ◌∷◌, ◌++◌, inl, inr, ℕ, zero, suc, Bool, true, false, IsTrue, List, [], length, Option, Some, None, refl, sym, ap, subst, ◌∙◌, arith, append_assoc}
use Rattle.std.specs.Prelude.{Contains}
use Rattle.std.proofs.lemmas.List.{append-nil}
use Rattle.std.proofs.lemmas.List.Elements.{Contains-append_left, Contains-append_right}
use Rattle.dl_kinds.specs.declared.gid.Gid.{Gid}
use Rattle.dl_kinds.specs.declared.marks.Mark.{Mark}
use Rattle.dl_kinds.specs.declared.runs.Moment.{Moment}
use Rattle.dl_kinds.specs.declared.runs.Run.{Run}
use Rattle.engine_turns.specs.Told.{RunTurn}
use Rattle.engine_turns.specs.declared.operations.FetchGrant.{FetchGrant}
use Rattle.engine_turns.specs.declared.operations.Grant.{Grant}
use Rattle.engine_turns.specs.declared.operations.Grant.TheVariants as grant
use Rattle.engine_turns.specs.declared.operations.Operation.{Operation}
use Rattle.engine_turns.specs.declared.operations.Operation.TheVariants as operation
use Rattle.engine_turns.specs.declared.operations.Said.{Said}
use Rattle.engine_turns.specs.declared.operations.Said.TheVariants as said
use Rattle.link_source.specs.Link.{LinkState}
use Rattle.reply_reader.specs.declared.loss.Loss.{Loss}
use Rattle.conn_worker.specs.Facts.{IsFetchingAt, IsProbingAt}
use Rattle.conn_worker.specs.Hands.{Fetching, Hand, Nothing, Fetches, Probes, Seals, IsLeftAlone, LinkAt, Probing, WorkerAt, allowing, begun_fetch, delivered, fresh}
use Rattle.conn_worker.specs.Sound.{NoGrant}
use Rattle.conn_worker.specs.Table.{FollowsAnswer, FollowsDelivery, FollowsFetch, FollowsGrant, FollowsKept, FollowsMore, LeavesFetch, StepsOn, due_op, end_behind, fetch_op, goes_on_by, probe_op}
use Rattle.conn_worker.specs.Works.{EndsOrGoesOn, Works, turn_moment}
use Rattle.conn_worker.specs.declared.ends.WorkEnd.{WorkEnd}
use Rattle.conn_worker.specs.declared.hands.Gain.{Gain}
use Rattle.conn_worker.specs.declared.hands.Gain.TheVariants.{Lost, Open, Ready, Starved}
use Rattle.conn_worker.specs.declared.hands.ProbeEnd.{ProbeEnd}
use Rattle.conn_worker.specs.declared.hands.ProbeEnd.TheVariants.{Told, Missed, Lacking}
use Rattle.conn_worker.proofs.Allowing.{LeavesLink, fetch_followed, is_closed, nothing_followed, probe_followed, seal_followed, stays_open}
use Rattle.served_runs.specs.Answering.{HasAnswered, WorkIsAnswered}
use Rattle.served_runs.proofs.Answered.{answered_by, answered_closed, answered_on, answered_same}

-- ---- what is in hand

-- one of these turns granted it
pub record GrantedBy (turns : List RunTurn) (granted : Grant) : Type 0 where
  pub turn : RunTurn
  pub there : Contains turns turn
  pub said_is : turn.answer.said ≡ said.Grant granted

granted_later : (turns : List RunTurn) (t : RunTurn) (granted : Grant) → GrantedBy turns granted
    → GrantedBy (turns ++ t ∷ []) granted
granted_later turns t granted by =
    record { turn = by.turn; there = Contains-append_left turns (t ∷ []) by.turn by.there; said_is = by.said_is }

granted_now : (turns : List RunTurn) (t : RunTurn) (granted : Grant) → t.answer.said ≡ said.Grant granted
    → GrantedBy (turns ++ t ∷ []) granted
granted_now turns t granted is =
    record { turn = t; there = Contains-append_right turns (t ∷ []) t (0, omega arith, refl); said_is = is }

module _ (tells : Bool) (first : LinkAt) where
  -- the mirrors answered from the first link on
  abbrev pub Reached : LinkAt → Type 0
  Reached link = IsTrue tells → HasAnswered first.state link.state

  pub record OfGrant (turns : List RunTurn) (f : Fetching) : Type 0 where
    pub granted : FetchGrant
    pub by : GrantedBy turns (grant.Fetch granted)
    pub claim : f.claim ≡ granted.claim
    pub job : f.job ≡ granted.job
    pub since : Reached f.since

  pub record HoldsFetch (turns : List RunTurn) (f : Fetching) (now : LinkAt) : Type 0 where
    pub of_grant : OfGrant turns f
    pub at : (f.gain ≡ Open → ⊥) → IsFetchingAt tells f now

  pub record HoldsProbe (turns : List RunTurn) (p : Probing) (now : LinkAt) : Type 0 where
    pub gid : Gid
    pub by : GrantedBy turns (grant.Probe p.claim gid p.url)
    pub since : Reached p.since
    pub at : IsProbingAt tells p now

  abbrev pub IsHeld : List RunTurn → Hand → LinkAt → Type 0
  IsHeld turns (Fetches f) now = HoldsFetch turns f now
  IsHeld turns (Probes p) now = HoldsProbe turns p now
  IsHeld turns hand now = Unit {0}

  -- a worker behind these turns of its own
  pub record StandsBehind (turns : List RunTurn) (hand : Hand) (now : LinkAt) : Type 0 where
    pub reached : Reached now
    pub held : IsHeld turns hand now

  -- ---- one turn more

  same_of : (turns : List RunTurn) (f g : Fetching) → OfGrant turns f → g.claim ≡ f.claim → g.job ≡ f.job
      → g.since ≡ f.since → OfGrant turns g
  same_of turns f g o claim job since = record {
    granted = o.granted;
    by = o.by;
    claim = claim ∙ o.claim;
    job = job ∙ o.job;
    since = subst Reached (sym since) o.since;
  }

  later_of : (turns : List RunTurn) (t : RunTurn) (f g : Fetching) → OfGrant turns f → g.claim ≡ f.claim → g.job ≡ f.job
      → g.since ≡ f.since → OfGrant (turns ++ t ∷ []) g
  later_of turns t f g o claim job since = record {
    granted = o.granted;
    by = granted_later turns t (grant.Fetch o.granted) o.by;
    claim = claim ∙ o.claim;
    job = job ∙ o.job;
    since = subst Reached (sym since) o.since;
  }

  steps_held : (turns : List RunTurn) (base : Fetching) (hand' : Hand) (link' : LinkAt) → OfGrant turns base
      → StepsOn tells base hand' link' → StandsBehind turns hand' link'
  steps_held turns base hand' link' o s =
      let g : Fetching = s.0 in
      let same = s.1.same in
      let of_g = same_of turns base g o (ap (λ (x : Fetching). x.claim) same) (ap (λ (x : Fetching). x.job) same)
      (ap (λ (x : Fetching). x.since) same) in
      subst (λ (h : Hand). StandsBehind turns h link') (sym s.2) (record {
        reached = λ t. answered_on first.state g.since.state link'.state (of_g.since t)
            (answered_by g.since.state link'.state (s.1.at.carried.used.answered t));
        held = record { of_grant = of_g; at = λ closed. s.1.at };
      })

  waits_held : (turns : List RunTurn) (base : Fetching) (now : LinkAt) (hand' : Hand) (link' : LinkAt)
      → base.gain ≡ Open → OfGrant turns base → Reached now → LeavesFetch base now hand' link'
      → StandsBehind turns hand' link'
  waits_held turns base now hand' link' opened o reached leaves =
      subst (λ (h : Hand). StandsBehind turns h link') (sym leaves.0) (record {
        reached = subst Reached (sym leaves.1) reached;
        held = record { of_grant = o; at = λ closed. absurd (closed opened) };
      })

  pub reached_alone : (now link' : LinkAt) → Reached now → IsLeftAlone tells now link' → Reached link'
  reached_alone now link' reached (inl same) = subst Reached (sym same) reached
  reached_alone now link' reached (inr hung) = λ told. subst (λ (s : LinkState). HasAnswered first.state s)
      (sym (hung.state told)) (answered_closed first.state now.state (reached told))

  pub nothing_held : (turns : List RunTurn) (now : LinkAt) (hand' : Hand) (link' : LinkAt) → Reached now
      → LeavesLink tells now hand' link' → StandsBehind turns hand' link'
  nothing_held turns now hand' link' reached leaves =
      subst (λ (h : Hand). StandsBehind turns h link') (sym leaves.0)
      (record { reached = reached_alone now link' reached leaves.1; held = tt })

  kept_held : (turns : List RunTurn) (d : Fetching) (left : ℕ) (last : Bool) (now : LinkAt) (hand' : Hand) (link' : LinkAt)
      → d.left ≡ left → d.gain ≡ Open → OfGrant turns d → Reached now → FollowsKept tells d last now hand' link'
      → StandsBehind turns hand' link'
  kept_held turns d left true now hand' link' is opened o reached kept =
      nothing_held turns now hand' link' reached (stays_open tells now hand' link' kept)
  kept_held turns d zero false now hand' link' is opened o reached kept =
      waits_held turns d now hand' link' opened o reached (subst (λ n. goes_on_by tells d n now hand' link') is kept)
  kept_held turns d (suc left) false now hand' link' is opened o reached kept =
      steps_held turns d hand' link' o (subst (λ n. goes_on_by tells d n now hand' link') is kept)

  delivery_held : (turns : List RunTurn) (d : Fetching) (last : Bool) (answer : Said) (now : LinkAt) (hand' : Hand)
      (link' : LinkAt) → d.gain ≡ Open → OfGrant turns d → Reached now → FollowsDelivery tells d last answer now hand' link'
      → StandsBehind turns hand' link'
  delivery_held turns d last (said.Kept counted repeated) now hand' link' opened o reached is =
      kept_held turns d d.left last now hand' link' refl opened o reached is
  delivery_held turns d last answer now hand' link' opened o reached is =
      nothing_held turns now hand' link' reached (is_closed tells now hand' link' is)

  more_held : (turns : List RunTurn) (f : Fetching) (answer : Said) (now : LinkAt) (hand' : Hand) (link' : LinkAt)
      → f.gain ≡ Open → OfGrant turns f → Reached now → FollowsMore tells f answer now hand' link'
      → StandsBehind turns hand' link'
  more_held turns f (said.Allow bytes) now hand' link' opened o reached is =
      steps_held turns (allowing f bytes) hand' link' (same_of turns f (allowing f bytes) o refl refl refl) is
  more_held turns f (said.Hold ms) now hand' link' opened o reached is =
      waits_held turns f now hand' link' opened o reached is
  more_held turns f answer now hand' link' opened o reached is =
      nothing_held turns now hand' link' reached (is_closed tells now hand' link' is)

  fetch_held : (turns : List RunTurn) (t : RunTurn) (f : Fetching) (gain : Gain) (now : LinkAt) (hand' : Hand)
      (link' : LinkAt) → f.gain ≡ gain → OfGrant turns f → Reached now
      → FollowsFetch tells f gain t.answer.said now hand' link' → StandsBehind (turns ++ t ∷ []) hand' link'
  fetch_held turns t f (Ready run bytes last) now hand' link' is o reached follows =
      delivery_held (turns ++ t ∷ []) (delivered f run bytes) last t.answer.said now hand' link' refl
      (later_of turns t f (delivered f run bytes) o refl refl refl) reached follows
  fetch_held turns t f (Lost loss mark) now hand' link' is o reached follows =
      nothing_held (turns ++ t ∷ []) now hand' link' reached (stays_open tells now hand' link' follows)
  fetch_held turns t f Open now hand' link' is o reached follows =
      more_held (turns ++ t ∷ []) f t.answer.said now hand' link' is (later_of turns t f f o refl refl refl) reached follows
  fetch_held turns t f Starved now hand' link' is o reached follows =
      nothing_held (turns ++ t ∷ []) now hand' link' reached (stays_open tells now hand' link' follows)

  pub grant_held : (turns : List RunTurn) (t : RunTurn) (granted : Grant) (now : LinkAt) (hand' : Hand) (link' : LinkAt)
      → t.answer.said ≡ said.Grant granted → Reached now → FollowsGrant tells granted now hand' link'
      → StandsBehind (turns ++ t ∷ []) hand' link'
  grant_held turns t (grant.Fetch granted) now hand' link' is reached follows =
      steps_held (turns ++ t ∷ []) (begun_fetch granted now) hand' link' (record {
        granted = granted;
        by = granted_now turns t (grant.Fetch granted) is;
        claim = refl;
        job = refl;
        since = reached;
      }) follows
  grant_held turns t (grant.Probe claim gid url) now hand' link' is reached follows =
      let p : Probing = follows.0 in
      let of_url = follows.1 in
      let same : said.Grant (grant.Probe claim gid url) ≡ said.Grant (grant.Probe p.claim gid p.url) =
      λ i. said.Grant (grant.Probe (sym of_url.claim_is i) gid (sym of_url.url_is i)) in
      let since : Reached p.since = subst Reached (sym of_url.since_is) reached in
      subst (λ (h : Hand). StandsBehind (turns ++ t ∷ []) h link') (sym follows.2) (record {
        reached = λ told. answered_on first.state p.since.state link'.state (since told)
            (answered_by p.since.state link'.state (of_url.at.used.answered told));
        held = record {
          gid = gid;
          by = granted_now turns t (grant.Probe p.claim gid p.url) (is ∙ same);
          since = since;
          at = of_url.at;
        };
      })
  grant_held turns t (grant.Hash gid piece bytes) now hand' link' is reached follows =
      subst (λ (h : Hand). StandsBehind (turns ++ t ∷ []) h link') (sym follows.0)
      (record { reached = subst Reached (sym follows.1) reached; held = tt })

  still_held : (turns : List RunTurn) (t : RunTurn) (hand : Hand) (now : LinkAt) (hand' : Hand) (link' : LinkAt)
      → NoGrant t.answer.said → FollowsAnswer tells hand t.answer.said now hand' link' → StandsBehind turns hand now
      → StandsBehind (turns ++ t ∷ []) hand' link'
  still_held turns t Nothing now hand' link' none follows s =
      nothing_held (turns ++ t ∷ []) now hand' link' s.reached
      (is_closed tells now hand' link' (nothing_followed tells t.answer.said now hand' link' none follows))
  still_held turns t (Fetches f) now hand' link' none follows s =
      fetch_held turns t f f.gain now hand' link' refl s.held.of_grant s.reached
      (fetch_followed tells f t.answer.said now hand' link' none follows)
  still_held turns t (Probes p) now hand' link' none follows s =
      nothing_held (turns ++ t ∷ []) now hand' link' s.reached
      (stays_open tells now hand' link' (probe_followed tells p t.answer.said now hand' link' none follows))
  still_held turns t (Seals gid sealed) now hand' link' none follows s =
      nothing_held (turns ++ t ∷ []) now hand' link' s.reached
      (stays_open tells now hand' link' (seal_followed tells gid sealed t.answer.said now hand' link' none follows))

  grant_followed : (hand : Hand) (granted : Grant) (now : LinkAt) (hand' : Hand) (link' : LinkAt)
      → FollowsAnswer tells hand (said.Grant granted) now hand' link' → FollowsGrant tells granted now hand' link'
  grant_followed Nothing granted now hand' link' is = is
  grant_followed (Fetches f) granted now hand' link' is = is
  grant_followed (Probes p) granted now hand' link' is = is
  grant_followed (Seals gid sealed) granted now hand' link' is = is

  turn_held : (turns : List RunTurn) (t : RunTurn) (answer : Said) (hand : Hand) (now : LinkAt) (hand' : Hand) (link' : LinkAt)
      → t.answer.said ≡ answer → FollowsAnswer tells hand t.answer.said now hand' link' → StandsBehind turns hand now
      → StandsBehind (turns ++ t ∷ []) hand' link'
  turn_held turns t (said.Grant granted) hand now hand' link' is follows s =
      grant_held turns t granted now hand' link' is s.reached
      (grant_followed hand granted now hand' link'
      (subst (λ (a : Said). FollowsAnswer tells hand a now hand' link') is follows))
  turn_held turns t answer hand now hand' link' is follows s =
      still_held turns t hand now hand' link' (let P : Said → Type 0 = λ a. NoGrant a in subst P (sym is) tt) follows s

  -- ---- all turns

  pub ended_or_on : (worker : ℕ) (ts : List RunTurn) (m b : WorkerAt) (by end : Option WorkEnd) → Reached m.link
      → (Works tells worker ts m b end → Reached b.link)
      → EndsOrGoesOn by ((ts ≡ []) × (b ≡ m) × (end ≡ by)) (Works tells worker ts m b end) → Reached b.link
  ended_or_on worker ts m b None end reached on is = on is
  ended_or_on worker ts m b (Some by) end reached on is =
      subst (λ (w : WorkerAt). Reached w.link) (sym is.1) reached

  pub work_reaches : (worker : ℕ) (past ts : List RunTurn) (a b : WorkerAt) (end : Option WorkEnd)
      → StandsBehind past a.hand a.link → Works tells worker ts a b end → Reached b.link
  work_reaches worker past [] a b end s works = subst (λ (w : WorkerAt). Reached w.link) (sym works.0) s.reached
  work_reaches worker past (t ∷ ts) a b end s works =
      let m = works.1 in
      let does = works.2 in
      let more = turn_held past t t.answer.said a.hand a.link m.hand m.link refl does.follows s in
      ended_or_on worker ts m b (end_behind t.answer.said m.hand) end more.reached
      (work_reaches worker (past ++ t ∷ []) ts m b end more) works.3

  -- the worker as it took a turn, and what it did from there on
  pub record TakesTurn (worker : ℕ) (turns : List RunTurn) (t : RunTurn) (behind : List RunTurn) (b : WorkerAt)
      (end : Option WorkEnd) : Type 0 where
    pub at : WorkerAt
    pub moment : Moment
    pub op : t.op ≡ due_op worker at.hand moment
    pub stands : StandsBehind turns at.hand at.link
    pub works : Works tells worker (t ∷ behind) at b end

  goes_by : (worker : ℕ) (ts : List RunTurn) (m b : WorkerAt) (by end : Option WorkEnd) → (ts ≡ [] → ⊥)
      → EndsOrGoesOn by ((ts ≡ []) × (b ≡ m) × (end ≡ by)) (Works tells worker ts m b end)
      → Works tells worker ts m b end
  goes_by worker ts m b None end some is = is
  goes_by worker ts m b (Some by) end some is = absurd (some is.0)

  not_last : (before : List RunTurn) (t : RunTurn) (behind : List RunTurn) → before ++ t ∷ behind ≡ [] → ⊥
  not_last [] t behind e = (let n = ap length e in omega (arith, n))
  not_last (u ∷ before) t behind e = (let n = ap length e in omega (arith, n))

  pub takes_turn : (worker : ℕ) (past before : List RunTurn) (t : RunTurn) (behind : List RunTurn) (a b : WorkerAt)
      (end : Option WorkEnd) → StandsBehind past a.hand a.link → Works tells worker (before ++ t ∷ behind) a b end
      → TakesTurn worker (past ++ before) t behind b end
  takes_turn worker past [] t behind a b end s works =
      subst (λ (ts : List RunTurn). TakesTurn worker ts t behind b end) (sym (append-nil past))
      (record { at = a; moment = turn_moment works.0 a.moment; op = works.2.op; stands = s; works = works })
  takes_turn worker past (u ∷ before) t behind a b end s works =
      let m = works.1 in
      let does = works.2 in
      let goes = goes_by worker (before ++ t ∷ behind) m b (end_behind u.answer.said m.hand) end
      (not_last before t behind) works.3 in
      subst (λ (ts : List RunTurn). TakesTurn worker ts t behind b end) (append_assoc past (u ∷ []) before)
      (takes_turn worker (past ++ u ∷ []) before t behind m b end
      (turn_held past u u.answer.said a.hand a.link m.hand m.link refl does.follows s) goes)

  pub stands_first : StandsBehind [] Nothing first
  stands_first = record { reached = λ told. answered_same first.state; held = tt }

  -- ---- what a turn brings

  -- the next blocks of a fetch in hand
  pub record TakesBlocks (turns : List RunTurn) (hand : Hand) (now : LinkAt) (claim : ℕ) (run : Run) (bytes : List ℕ)
      : Type 0 where
    pub reached : Reached now
    pub f : Fetching
    pub hand_is : hand ≡ Fetches f
    pub of_grant : OfGrant turns f
    pub claim_is : f.claim ≡ claim
    pub at : IsFetchingAt tells f now
    pub last : Bool
    pub gain : f.gain ≡ Ready run bytes last

  abbrev Brings : ℕ → Run → List ℕ → Operation → Type 0
  Brings claim run bytes (operation.Deliver id part came now) = (id ≡ claim) × (part ≡ run) × (came ≡ bytes)
  Brings claim run bytes op = ⊥

  blocks_of_fetch : (worker : ℕ) (turns : List RunTurn) (f : Fetching) (gain : Gain) (now : LinkAt) (moment : Moment)
      (claim : ℕ) (run : Run) (bytes : List ℕ) → f.gain ≡ gain → StandsBehind turns (Fetches f) now
      → Brings claim run bytes (fetch_op worker f moment gain) → TakesBlocks turns (Fetches f) now claim run bytes
  blocks_of_fetch worker turns f (Ready part came last) now moment claim run bytes is s brings = record {
    reached = s.reached;
    f = f;
    hand_is = refl;
    of_grant = s.held.of_grant;
    claim_is = brings.0;
    at = s.held.at (λ opened. let no : Ready part came last ≡ Open = sym is ∙ opened in cc);
    last = last;
    gain = is ∙ (λ i. Ready (brings.1 i) (brings.2 i) last);
  }
  blocks_of_fetch worker turns f (Lost loss mark) now moment claim run bytes is s brings = absurd brings
  blocks_of_fetch worker turns f Open now moment claim run bytes is s brings = absurd brings
  blocks_of_fetch worker turns f Starved now moment claim run bytes is s brings = absurd brings

  blocks_of_probe : {P : Type 0} (worker id : ℕ) (end : ProbeEnd) (moment : Moment) (claim : ℕ) (run : Run) (bytes : List ℕ)
      → Brings claim run bytes (probe_op worker id moment end) → P
  blocks_of_probe worker id (Told total) moment claim run bytes brings = absurd brings
  blocks_of_probe worker id (Missed loss mark) moment claim run bytes brings = absurd brings
  blocks_of_probe worker id Lacking moment claim run bytes brings = absurd brings

  blocks_of_hand : (worker : ℕ) (turns : List RunTurn) (hand : Hand) (now : LinkAt) (moment : Moment)
      (claim : ℕ) (run : Run) (bytes : List ℕ) → StandsBehind turns hand now
      → Brings claim run bytes (due_op worker hand moment) → TakesBlocks turns hand now claim run bytes
  blocks_of_hand worker turns Nothing now moment claim run bytes s brings = absurd brings
  blocks_of_hand worker turns (Fetches f) now moment claim run bytes s brings =
      blocks_of_fetch worker turns f f.gain now moment claim run bytes refl s brings
  blocks_of_hand worker turns (Probes p) now moment claim run bytes s brings =
      blocks_of_probe worker p.claim p.end moment claim run bytes brings
  blocks_of_hand worker turns (Seals gid sealed) now moment claim run bytes s brings = absurd brings

  pub takes_blocks : (worker : ℕ) (turns : List RunTurn) (t : RunTurn) (claim : ℕ) (run : Run) (bytes : List ℕ)
      (moment : Moment) (behind : List RunTurn) (b : WorkerAt) (end : Option WorkEnd)
      (takes : TakesTurn worker turns t behind b end) → t.op ≡ operation.Deliver claim run bytes moment
      → TakesBlocks turns takes.at.hand takes.at.link claim run bytes
  takes_blocks worker turns t claim run bytes moment behind b end takes is =
      blocks_of_hand worker turns takes.at.hand takes.at.link takes.moment claim run bytes takes.stands
      (subst (Brings claim run bytes) takes.op (subst (Brings claim run bytes) (sym is) (refl, refl, refl)))

  -- a loss of a fetch in hand, or of a probe
  pub record LosesFetch (turns : List RunTurn) (hand : Hand) (now : LinkAt) (claim : ℕ) (mark : Mark) : Type 0 where
    pub reached : Reached now
    pub f : Fetching
    pub hand_is : hand ≡ Fetches f
    pub of_grant : OfGrant turns f
    pub claim_is : f.claim ≡ claim
    pub at : IsFetchingAt tells f now
    pub loss : Loss
    pub gain : f.gain ≡ Lost loss mark

  pub record LosesProbe (turns : List RunTurn) (hand : Hand) (now : LinkAt) (claim : ℕ) (mark : Mark) : Type 0 where
    pub reached : Reached now
    pub p : Probing
    pub hand_is : hand ≡ Probes p
    pub holds : HoldsProbe turns p now
    pub claim_is : p.claim ≡ claim
    pub loss : Loss
    pub end : p.end ≡ Missed loss mark

  abbrev Fails : ℕ → Mark → Operation → Type 0
  Fails claim mark (operation.Lose id held now) = (id ≡ claim) × (held ≡ mark)
  Fails claim mark op = ⊥

  loss_of_fetch : (worker : ℕ) (turns : List RunTurn) (f : Fetching) (gain : Gain) (now : LinkAt) (moment : Moment)
      (claim : ℕ) (mark : Mark) → f.gain ≡ gain → StandsBehind turns (Fetches f) now
      → Fails claim mark (fetch_op worker f moment gain) → LosesFetch turns (Fetches f) now claim mark
  loss_of_fetch worker turns f (Ready part came last) now moment claim mark is s fails = absurd fails
  loss_of_fetch worker turns f (Lost loss held) now moment claim mark is s fails = record {
    reached = s.reached;
    f = f;
    hand_is = refl;
    of_grant = s.held.of_grant;
    claim_is = fails.0;
    at = s.held.at (λ opened. let no : Lost loss held ≡ Open = sym is ∙ opened in cc);
    loss = loss;
    gain = is ∙ (λ i. Lost loss (fails.1 i));
  }
  loss_of_fetch worker turns f Open now moment claim mark is s fails = absurd fails
  loss_of_fetch worker turns f Starved now moment claim mark is s fails = absurd fails

  loss_of_probe : (worker : ℕ) (turns : List RunTurn) (p : Probing) (end : ProbeEnd) (now : LinkAt) (moment : Moment)
      (claim : ℕ) (mark : Mark) → p.end ≡ end → StandsBehind turns (Probes p) now
      → Fails claim mark (probe_op worker p.claim moment end) → LosesProbe turns (Probes p) now claim mark
  loss_of_probe worker turns p (Told total) now moment claim mark is s fails = absurd fails
  loss_of_probe worker turns p (Missed loss held) now moment claim mark is s fails = record {
    reached = s.reached;
    p = p;
    hand_is = refl;
    holds = s.held;
    claim_is = fails.0;
    loss = loss;
    end = is ∙ (λ i. Missed loss (fails.1 i));
  }
  loss_of_probe worker turns p Lacking now moment claim mark is s fails = absurd fails

  loss_of_hand : (worker : ℕ) (turns : List RunTurn) (hand : Hand) (now : LinkAt) (moment : Moment) (claim : ℕ) (mark : Mark)
      → StandsBehind turns hand now → Fails claim mark (due_op worker hand moment)
      → LosesFetch turns hand now claim mark ⊎ LosesProbe turns hand now claim mark
  loss_of_hand worker turns Nothing now moment claim mark s fails = absurd fails
  loss_of_hand worker turns (Fetches f) now moment claim mark s fails =
      inl (loss_of_fetch worker turns f f.gain now moment claim mark refl s fails)
  loss_of_hand worker turns (Probes p) now moment claim mark s fails =
      inr (loss_of_probe worker turns p p.end now moment claim mark refl s fails)
  loss_of_hand worker turns (Seals gid sealed) now moment claim mark s fails = absurd fails

  pub loses_claim : (worker : ℕ) (turns : List RunTurn) (t : RunTurn) (claim : ℕ) (mark : Mark) (moment : Moment)
      (behind : List RunTurn) (b : WorkerAt) (end : Option WorkEnd) (takes : TakesTurn worker turns t behind b end)
      → t.op ≡ operation.Lose claim mark moment
      → LosesFetch turns takes.at.hand takes.at.link claim mark ⊎ LosesProbe turns takes.at.hand takes.at.link claim mark
  loses_claim worker turns t claim mark moment behind b end takes is =
      loss_of_hand worker turns takes.at.hand takes.at.link takes.moment claim mark takes.stands
      (subst (Fails claim mark) takes.op (subst (Fails claim mark) (sym is) (refl, refl)))

  -- a length that a probe in hand told
  pub record TellsLength (turns : List RunTurn) (hand : Hand) (now : LinkAt) (claim total : ℕ) : Type 0 where
    pub reached : Reached now
    pub p : Probing
    pub hand_is : hand ≡ Probes p
    pub holds : HoldsProbe turns p now
    pub claim_is : p.claim ≡ claim
    pub end : p.end ≡ Told total

  abbrev Sizes : ℕ → ℕ → Operation → Type 0
  Sizes claim total (operation.Sized id told now) = (id ≡ claim) × (told ≡ total)
  Sizes claim total op = ⊥

  length_of_fetch : {P : Type 0} (worker : ℕ) (f : Fetching) (gain : Gain) (moment : Moment) (claim total : ℕ)
      → Sizes claim total (fetch_op worker f moment gain) → P
  length_of_fetch worker f (Ready part came last) moment claim total sizes = absurd sizes
  length_of_fetch worker f (Lost loss held) moment claim total sizes = absurd sizes
  length_of_fetch worker f Open moment claim total sizes = absurd sizes
  length_of_fetch worker f Starved moment claim total sizes = absurd sizes

  length_of_probe : (worker : ℕ) (turns : List RunTurn) (p : Probing) (end : ProbeEnd) (now : LinkAt) (moment : Moment)
      (claim total : ℕ) → p.end ≡ end → StandsBehind turns (Probes p) now
      → Sizes claim total (probe_op worker p.claim moment end) → TellsLength turns (Probes p) now claim total
  length_of_probe worker turns p (Told told) now moment claim total is s sizes = record {
    reached = s.reached;
    p = p;
    hand_is = refl;
    holds = s.held;
    claim_is = sizes.0;
    end = is ∙ (λ i. Told (sizes.1 i));
  }
  length_of_probe worker turns p (Missed loss held) now moment claim total is s sizes = absurd sizes
  length_of_probe worker turns p Lacking now moment claim total is s sizes = absurd sizes

  length_of_hand : (worker : ℕ) (turns : List RunTurn) (hand : Hand) (now : LinkAt) (moment : Moment) (claim total : ℕ)
      → StandsBehind turns hand now → Sizes claim total (due_op worker hand moment) → TellsLength turns hand now claim total
  length_of_hand worker turns Nothing now moment claim total s sizes = absurd sizes
  length_of_hand worker turns (Fetches f) now moment claim total s sizes =
      length_of_fetch worker f f.gain moment claim total sizes
  length_of_hand worker turns (Probes p) now moment claim total s sizes =
      length_of_probe worker turns p p.end now moment claim total refl s sizes
  length_of_hand worker turns (Seals gid sealed) now moment claim total s sizes = absurd sizes

  pub tells_length : (worker : ℕ) (turns : List RunTurn) (t : RunTurn) (claim total : ℕ) (moment : Moment)
      (behind : List RunTurn) (b : WorkerAt) (end : Option WorkEnd) (takes : TakesTurn worker turns t behind b end)
      → t.op ≡ operation.Sized claim total moment → TellsLength turns takes.at.hand takes.at.link claim total
  tells_length worker turns t claim total moment behind b end takes is =
      length_of_hand worker turns takes.at.hand takes.at.link takes.moment claim total takes.stands
      (subst (Sizes claim total) takes.op (subst (Sizes claim total) (sym is) (refl, refl)))

pub work_is_answered : WorkIsAnswered
work_is_answered tells worker worked old new told is =
    subst (λ (l : LinkAt). HasAnswered old.state l.state) is.link_is
    (work_reaches tells old worker [] worked (fresh old) is.b is.end (stands_first tells old) is.works told)
