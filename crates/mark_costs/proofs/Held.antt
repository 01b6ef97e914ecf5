-- What a worker has in hand behind a turn.
use Rattle.std.proofs.Common.{◌≡◌, ◌∷◌, ◌++◌, ℕ, zero, suc, Bool, true, false, List, [], refl, sym, ap, subst, ◌∙◌, arith}
use Rattle.std.proofs.lemmas.List.Elements.{Contains-append_left, Contains-append_right}
use Rattle.engine_turns.specs.Told.{RunTurn}
use Rattle.engine_turns.specs.declared.operations.Grant.{Grant}
use Rattle.engine_turns.specs.declared.operations.Grant.TheVariants as grant
use Rattle.engine_turns.specs.declared.operations.Said.{Said}
use Rattle.engine_turns.specs.declared.operations.Said.TheVariants as said
use Rattle.conn_worker.specs.Hands.{Fetching, Hand, Nothing, Fetches, Probes, Seals, LinkAt, Probing, allowing, begun_fetch, delivered}
use Rattle.conn_worker.specs.Sound.{NoGrant}
use Rattle.conn_worker.specs.Table.{FollowsAnswer, FollowsDelivery, FollowsFetch, FollowsGrant, FollowsKept, FollowsMore, LeavesFetch, StepsOn, goes_on_by}
use Rattle.conn_worker.specs.declared.hands.Gain.{Gain}
use Rattle.conn_worker.specs.declared.hands.Gain.TheVariants.{Lost, Open, Ready, Starved}
use Rattle.conn_worker.proofs.Allowing.{LeavesLink, fetch_followed, is_closed, nothing_followed, probe_followed, seal_followed, stays_open}
use Rattle.served_runs.proofs.Working.{GrantedBy, OfGrant, Reached, StandsBehind, reached_alone}
use Rattle.served_runs.proofs.Answered.{answered_by, answered_on}

granted_later : (turns : List RunTurn) (t : RunTurn) (granted : Grant) → GrantedBy turns granted
    → GrantedBy (turns ++ t ∷ []) granted
granted_later turns t granted by =
    record { turn = by.turn; there = Contains-append_left turns (t ∷ []) by.turn by.there; said_is = by.said_is }

granted_now : (turns : List RunTurn) (t : RunTurn) (granted : Grant) → t.answer.said ≡ said.Grant granted
    → GrantedBy (turns ++ t ∷ []) granted
granted_now turns t granted is =
    record { turn = t; there = Contains-append_right turns (t ∷ []) t (0, omega arith, refl); said_is = is }

module _ (tells : Bool) (first : LinkAt) where
  -- ---- one turn more

  same_of : (turns : List RunTurn) (f g : Fetching) → OfGrant tells first turns f → g.claim ≡ f.claim → g.job ≡ f.job
      → g.since ≡ f.since → OfGrant tells first turns g
  same_of turns f g o claim job since = record {
    granted = o.granted;
    by = o.by;
    claim = claim ∙ o.claim;
    job = job ∙ o.job;
    since = subst (Reached tells first) (sym since) o.since;
  }

  later_of : (turns : List RunTurn) (t : RunTurn) (f g : Fetching) → OfGrant tells first turns f → g.claim ≡ f.claim → g.job ≡ f.job
      → g.since ≡ f.since → OfGrant tells first (turns ++ t ∷ []) g
  later_of turns t f g o claim job since = record {
    granted = o.granted;
    by = granted_later turns t (grant.Fetch o.granted) o.by;
    claim = claim ∙ o.claim;
    job = job ∙ o.job;
    since = subst (Reached tells first) (sym since) o.since;
  }

  steps_held : (turns : List RunTurn) (base : Fetching) (hand' : Hand) (link' : LinkAt) → OfGrant tells first turns base
      → StepsOn tells base hand' link' → StandsBehind tells first turns hand' link'
  steps_held turns base hand' link' o s =
      let g : Fetching = s.0 in
      let same = s.1.same in
      let of_g = same_of turns base g o (ap (λ (x : Fetching). x.claim) same) (ap (λ (x : Fetching). x.job) same)
      (ap (λ (x : Fetching). x.since) same) in
      subst (λ (h : Hand). StandsBehind tells first turns h link') (sym s.2) (record {
        reached = λ t. answered_on first.state g.since.state link'.state (of_g.since t)
            (answered_by g.since.state link'.state (s.1.at.carried.used.answered t));
        held = record { of_grant = of_g; at = λ closed. s.1.at };
      })

  waits_held : (turns : List RunTurn) (base : Fetching) (now : LinkAt) (hand' : Hand) (link' : LinkAt)
      → base.gain ≡ Open → OfGrant tells first turns base → (Reached tells first) now → LeavesFetch base now hand' link'
      → StandsBehind tells first turns hand' link'
  waits_held turns base now hand' link' opened o reached leaves =
      subst (λ (h : Hand). StandsBehind tells first turns h link') (sym leaves.0) (record {
        reached = subst (Reached tells first) (sym leaves.1) reached;
        held = record { of_grant = o; at = λ closed. absurd (closed opened) };
      })

  nothing_held : (turns : List RunTurn) (now : LinkAt) (hand' : Hand) (link' : LinkAt) → (Reached tells first) now
      → LeavesLink tells now hand' link' → StandsBehind tells first turns hand' link'
  nothing_held turns now hand' link' reached leaves =
      subst (λ (h : Hand). StandsBehind tells first turns h link') (sym leaves.0)
      (record { reached = reached_alone tells first now link' reached leaves.1; held = tt })

  kept_held : (turns : List RunTurn) (d : Fetching) (left : ℕ) (last : Bool) (now : LinkAt) (hand' : Hand) (link' : LinkAt)
      → d.left ≡ left → d.gain ≡ Open → OfGrant tells first turns d → (Reached tells first) now → FollowsKept tells d last now hand' link'
      → StandsBehind tells first turns hand' link'
  kept_held turns d left true now hand' link' is opened o reached kept =
      nothing_held turns now hand' link' reached (stays_open tells now hand' link' kept)
  kept_held turns d zero false now hand' link' is opened o reached kept =
      waits_held turns d now hand' link' opened o reached (subst (λ n. goes_on_by tells d n now hand' link') is kept)
  kept_held turns d (suc left) false now hand' link' is opened o reached kept =
      steps_held turns d hand' link' o (subst (λ n. goes_on_by tells d n now hand' link') is kept)

  delivery_held : (turns : List RunTurn) (d : Fetching) (last : Bool) (answer : Said) (now : LinkAt) (hand' : Hand)
      (link' : LinkAt) → d.gain ≡ Open → OfGrant tells first turns d → (Reached tells first) now → FollowsDelivery tells d last answer now hand' link'
      → StandsBehind tells first turns hand' link'
  delivery_held turns d last (said.Kept counted repeated) now hand' link' opened o reached is =
      kept_held turns d d.left last now hand' link' refl opened o reached is
  delivery_held turns d last answer now hand' link' opened o reached is =
      nothing_held turns now hand' link' reached (is_closed tells now hand' link' is)

  more_held : (turns : List RunTurn) (f : Fetching) (answer : Said) (now : LinkAt) (hand' : Hand) (link' : LinkAt)
      → f.gain ≡ Open → OfGrant tells first turns f → (Reached tells first) now → FollowsMore tells f answer now hand' link'
      → StandsBehind tells first turns hand' link'
  more_held turns f (said.Allow bytes) now hand' link' opened o reached is =
      steps_held turns (allowing f bytes) hand' link' (same_of turns f (allowing f bytes) o refl refl refl) is
  more_held turns f (said.Hold ms) now hand' link' opened o reached is =
      waits_held turns f now hand' link' opened o reached is
  more_held turns f answer now hand' link' opened o reached is =
      nothing_held turns now hand' link' reached (is_closed tells now hand' link' is)

  fetch_held : (turns : List RunTurn) (t : RunTurn) (f : Fetching) (gain : Gain) (now : LinkAt) (hand' : Hand)
      (link' : LinkAt) → f.gain ≡ gain → OfGrant tells first turns f → (Reached tells first) now
      → FollowsFetch tells f gain t.answer.said now hand' link' → StandsBehind tells first (turns ++ t ∷ []) hand' link'
  fetch_held turns t f (Ready run bytes last) now hand' link' is o reached follows =
      delivery_held (turns ++ t ∷ []) (delivered f run bytes) last t.answer.said now hand' link' refl
      (later_of turns t f (delivered f run bytes) o refl refl refl) reached follows
  fetch_held turns t f (Lost loss mark) now hand' link' is o reached follows =
      nothing_held (turns ++ t ∷ []) now hand' link' reached (stays_open tells now hand' link' follows)
  fetch_held turns t f Open now hand' link' is o reached follows =
      more_held (turns ++ t ∷ []) f t.answer.said now hand' link' is (later_of turns t f f o refl refl refl) reached follows
  fetch_held turns t f Starved now hand' link' is o reached follows =
      nothing_held (turns ++ t ∷ []) now hand' link' reached (stays_open tells now hand' link' follows)

  grant_held : (turns : List RunTurn) (t : RunTurn) (granted : Grant) (now : LinkAt) (hand' : Hand) (link' : LinkAt)
      → t.answer.said ≡ said.Grant granted → (Reached tells first) now → FollowsGrant tells granted now hand' link'
      → StandsBehind tells first (turns ++ t ∷ []) hand' link'
  grant_held turns t (grant.Fetch granted) now hand' link' is reached follows =
      steps_held (turns ++ t ∷ []) (begun_fetch granted now) hand' link' (record {
        granted = granted;
        by = granted_now turns t (grant.Fetch granted) is;
        claim = refl;
        job = refl;
        since = reached;
      }) follows
  grant_held turns t (grant.Probe claim gid url) now hand' link' is reached follows =
      let p : Probing = follows.0 in
      let of_url = follows.1 in
      let same : said.Grant (grant.Probe claim gid url) ≡ said.Grant (grant.Probe p.claim gid p.url) =
      λ i. said.Grant (grant.Probe (sym of_url.claim_is i) gid (sym of_url.url_is i)) in
      let since : (Reached tells first) p.since = subst (Reached tells first) (sym of_url.since_is) reached in
      subst (λ (h : Hand). StandsBehind tells first (turns ++ t ∷ []) h link') (sym follows.2) (record {
        reached = λ told. answered_on first.state p.since.state link'.state (since told)
            (answered_by p.since.state link'.state (of_url.at.used.answered told));
        held = record {
          gid = gid;
          by = granted_now turns t (grant.Probe p.claim gid p.url) (is ∙ same);
          since = since;
          at = of_url.at;
        };
      })
  grant_held turns t (grant.Hash gid piece bytes) now hand' link' is reached follows =
      subst (λ (h : Hand). StandsBehind tells first (turns ++ t ∷ []) h link') (sym follows.0)
      (record { reached = subst (Reached tells first) (sym follows.1) reached; held = tt })

  still_held : (turns : List RunTurn) (t : RunTurn) (hand : Hand) (now : LinkAt) (hand' : Hand) (link' : LinkAt)
      → NoGrant t.answer.said → FollowsAnswer tells hand t.answer.said now hand' link' → StandsBehind tells first turns hand now
      → StandsBehind tells first (turns ++ t ∷ []) hand' link'
  still_held turns t Nothing now hand' link' none follows s =
      nothing_held (turns ++ t ∷ []) now hand' link' s.reached
      (is_closed tells now hand' link' (nothing_followed tells t.answer.said now hand' link' none follows))
  still_held turns t (Fetches f) now hand' link' none follows s =
      fetch_held turns t f f.gain now hand' link' refl s.held.of_grant s.reached
      (fetch_followed tells f t.answer.said now hand' link' none follows)
  still_held turns t (Probes p) now hand' link' none follows s =
      nothing_held (turns ++ t ∷ []) now hand' link' s.reached
      (stays_open tells now hand' link' (probe_followed tells p t.answer.said now hand' link' none follows))
  still_held turns t (Seals gid sealed) now hand' link' none follows s =
      nothing_held (turns ++ t ∷ []) now hand' link' s.reached
      (stays_open tells now hand' link' (seal_followed tells gid sealed t.answer.said now hand' link' none follows))

  grant_followed : (hand : Hand) (granted : Grant) (now : LinkAt) (hand' : Hand) (link' : LinkAt)
      → FollowsAnswer tells hand (said.Grant granted) now hand' link' → FollowsGrant tells granted now hand' link'
  grant_followed Nothing granted now hand' link' is = is
  grant_followed (Fetches f) granted now hand' link' is = is
  grant_followed (Probes p) granted now hand' link' is = is
  grant_followed (Seals gid sealed) granted now hand' link' is = is

  pub turn_held : (turns : List RunTurn) (t : RunTurn) (answer : Said) (hand : Hand) (now : LinkAt) (hand' : Hand) (link' : LinkAt)
      → t.answer.said ≡ answer → FollowsAnswer tells hand t.answer.said now hand' link' → StandsBehind tells first turns hand now
      → StandsBehind tells first (turns ++ t ∷ []) hand' link'
  turn_held turns t (said.Grant granted) hand now hand' link' is follows s =
      grant_held turns t granted now hand' link' is s.reached
      (grant_followed hand granted now hand' link'
      (subst (λ (a : Said). FollowsAnswer tells hand a now hand' link') is follows))
  turn_held turns t answer hand now hand' link' is follows s =
      still_held turns t hand now hand' link' (let P : Said → Type 0 = λ a. NoGrant a in subst P (sym is) tt) follows s
