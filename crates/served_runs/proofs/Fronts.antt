-- What was delivered of a fetch is told by all that came of it, however its work goes on.
use Rattle.std.proofs.Common.{◌≡◌, ◌++◌, ℕ, zero, suc, Bool, true, false, IsTrue, List, [], ◌∷◌, Option, None, Some, refl, sym, ap, subst, ◌∙◌, append_assoc}
use Rattle.std.proofs.lemmas.Option.{none-some}
use Rattle.dl_kinds.specs.declared.marks.Mark.{Mark}
use Rattle.engine_turns.specs.Told.{RunTurn}
use Rattle.engine_turns.specs.declared.operations.Grant.{Grant}
use Rattle.engine_turns.specs.declared.operations.Said.{Said}
use Rattle.engine_turns.specs.declared.operations.Said.TheVariants as said
use Rattle.fetch_session.specs.Fetches.{IsFrontOfFetched}
use Rattle.link_source.specs.Exchanges.{Exchange}
use Rattle.memory_serving_laws.specs.Laws.{IsRightSoFar}
use Rattle.reply_reader.specs.Losses.{mark_of}
use Rattle.reply_reader.specs.declared.loss.Loss.{Loss}
use Rattle.reply_reader.specs.declared.loss.Loss.TheVariants as losses
use Rattle.part_fetches.specs.Fetched.{Fetched}
use Rattle.part_fetches.specs.Losses.{TellsLoss}
use Rattle.request_chain.specs.Plans.{FetchEnding, Open}
use Rattle.request_chain.specs.Plans as plans
use Rattle.span_map.specs.declared.jobs.Job.{Job}
use Rattle.span_map.specs.declared.jobs.JobPart.{JobPart}
use Rattle.conn_worker.specs.Facts.{HasUsed, IsFetchingAt, IsGain}
use Rattle.conn_worker.specs.Hands.{Fetching, Hand, Fetches, Probes, LinkAt, Probing, WorkerAt, allowing, delivered}
use Rattle.conn_worker.specs.Table.{FollowsAnswer, FollowsDelivery, FollowsFetch, FollowsGrant, FollowsKept, FollowsMore, LeavesFetch, StepsOn, end_behind, end_of_gain, end_of_hand, goes_on_by}
use Rattle.conn_worker.specs.Works.{EndsOrGoesOn, Works}
use Rattle.conn_worker.specs.declared.ends.WorkEnd.{WorkEnd}
use Rattle.conn_worker.specs.declared.ends.WorkEnd.TheVariants.{NoMemory}
use Rattle.conn_worker.specs.declared.hands.Gain.{Gain}
use Rattle.conn_worker.specs.declared.hands.Gain.TheVariants as gain
use Rattle.served_runs.specs.Answering.{HasAnswered}
use Rattle.served_runs.proofs.Answered.{answered_same}
use Rattle.conn_worker.proofs.Allowing.{LeavesLink, is_closed, stays_open}
use Rattle.served_runs.proofs.Working.{StandsBehind, ended_or_on, grant_held, nothing_held, work_reaches}

-- ---- a list and its front

pub record IsFront (all front : List ℕ) : Type 0 where
  pub rest : List ℕ
  pub is : all ≡ front ++ rest

-- what is delivered of a fetch, with the blocks that are ready
abbrev pub due_of : Gain → List ℕ → List ℕ
due_of (gain.Ready run bytes last) handed = handed ++ bytes
due_of other handed = handed

front_of_due : (all : List ℕ) (g : Gain) (handed : List ℕ) → IsFront all (due_of g handed) → IsFront all handed
front_of_due all (gain.Ready run bytes last) handed is =
    record { rest = bytes ++ is.rest; is = is.is ∙ append_assoc handed bytes is.rest }
front_of_due all (gain.Lost loss mark) handed is = is
front_of_due all gain.Open handed is = is
front_of_due all gain.Starved handed is = is

-- the exchanges that lost the rest tell what came
loss_front : (parts : List JobPart) (used : List Exchange) (handed came : List ℕ) (count : ℕ) (loss : Loss) (mark : Mark)
    → mark_of loss ≡ Some mark → TellsLoss parts used (handed ++ came) count loss → IsFrontOfFetched parts used handed
loss_front parts used handed came count (losses.Link faults) mark is tells =
    record { behind = came; ending = Open; fetched = tells.0 }
loss_front parts used handed came count losses.NoMemory mark is tells = absurd (none-some mark is)
loss_front parts used handed came count loss mark is tells =
    record { behind = came; ending = plans.Lost loss; fetched = tells }

module _ (tells : Bool) (told : IsTrue tells) where
  -- the exchanges of a fetch over its link tell what is delivered of it
  pub record IsToldOf (f : Fetching) (now : LinkAt) : Type 0 where
    pub used_is : HasUsed tells f.since f.used now
    pub front : IsFrontOfFetched f.job.parts f.used (due_of f.gain f.handed)

  told_by : (f : Fetching) (now : LinkAt) (g : Gain) → IsGain tells f now g → (g ≡ gain.Starved → ⊥)
      → IsFrontOfFetched f.job.parts f.used (due_of g f.handed)
  told_by f now (gain.Ready run bytes last) is some = is.1 told
  told_by f now (gain.Lost loss mark) is some =
      let rest = is.2 told in
      loss_front f.job.parts f.used f.handed rest.came rest.count loss mark is.0 rest.tells
  told_by f now gain.Open is some = is.2 told
  told_by f now gain.Starved is some = absurd (some refl)

  pub told_of : (f : Fetching) (now : LinkAt) → IsFetchingAt tells f now → (f.gain ≡ gain.Starved → ⊥) → IsToldOf f now
  told_of f now at some = record { used_is = at.carried.used; front = told_by f now f.gain at.gain some }

  -- ---- where nothing of it is left in hand

  module _ (worker : ℕ) (new : LinkAt) where
    -- the work goes on so from this turn's hand and link, and ends at the new link
    abbrev Goes : List RunTurn → WorkerAt → WorkerAt → Option WorkEnd → Option WorkEnd → Type 0
    Goes ts m b by end = EndsOrGoesOn by ((ts ≡ []) × (b ≡ m) × (end ≡ by)) (Works tells worker ts m b end)

    -- behind such a turn the mirrors answered up to the end
    let_go : (link : LinkAt) (ts : List RunTurn) (m b : WorkerAt) (by end : Option WorkEnd)
        → StandsBehind tells link [] m.hand m.link → Goes ts m b by end → b.link ≡ new → HasAnswered link.state new.state
    let_go link ts m b by end stands goes is =
        subst (λ (l : LinkAt). HasAnswered link.state l.state) is
        (ended_or_on tells link worker ts m b by end stands.reached
        (work_reaches tells link worker [] ts m b end stands) goes told)

    pub left_nothing : (link : LinkAt) (ts : List RunTurn) (m b : WorkerAt) (by end : Option WorkEnd)
        → LeavesLink tells link m.hand m.link → Goes ts m b by end → b.link ≡ new → HasAnswered link.state new.state
    left_nothing link ts m b by end leaves goes is =
        let_go link ts m b by end (nothing_held tells link [] link m.hand m.link (λ t. answered_same link.state) leaves) goes is

    pub granted_next : (link : LinkAt) (t : RunTurn) (granted : Grant) (ts : List RunTurn) (m b : WorkerAt)
        (by end : Option WorkEnd) → t.answer.said ≡ said.Grant granted → FollowsGrant tells granted link m.hand m.link
        → Goes ts m b by end → b.link ≡ new → HasAnswered link.state new.state
    granted_next link t granted ts m b by end said_is follows goes is =
        let held = grant_held tells link [] t granted link m.hand m.link said_is (λ told. answered_same link.state) follows in
        subst (λ (l : LinkAt). HasAnswered link.state l.state) is
        (ended_or_on tells link worker ts m b by end held.reached
        (work_reaches tells link worker (t ∷ []) ts m b end held) goes told)

    -- ---- a fetch that goes on

    module _ (job : Job) (since : LinkAt) (all : List ℕ)
        (right : (now : LinkAt) (used : List Exchange) (came : List ℕ) (ending : FetchEnding)
        → HasAnswered now.state new.state → HasUsed tells since used now → Fetched job.parts used came ending []
        → IsRightSoFar all came ending) where
      pub record IsOf (f : Fetching) (now : LinkAt) : Type 0 where
        pub job_is : f.job ≡ job
        pub since_is : f.since ≡ since
        pub is : IsToldOf f now

      -- where its work ends, or goes on with something else, what was delivered is at the front
      front_at : (f : Fetching) (now : LinkAt) → IsOf f now → HasAnswered now.state new.state
          → IsFront all (due_of f.gain f.handed)
      front_at f now of on =
          let front = of.is.front in
          let due = due_of f.gain f.handed in
          let r = right now f.used (due ++ front.behind) front.ending on
          (subst (λ (l : LinkAt). HasUsed tells l f.used now) of.since_is of.is.used_is)
          (subst (λ (j : Job). Fetched j.parts f.used (due ++ front.behind) front.ending []) of.job_is front.fetched) in
          record { rest = front.behind ++ r.behind; is = r.front ∙ append_assoc due front.behind r.behind }

      -- the turns behind a fetch in hand
      abbrev Behind : List RunTurn → WorkerAt → WorkerAt → Option WorkEnd → Type 0
      Behind ts m b end = (g : Fetching) → m.hand ≡ Fetches g → IsOf g m.link → Works tells worker ts m b end
          → IsFront all (due_of g.gain g.handed)

      -- it waits
      waits : (base : Fetching) (link : LinkAt) (ts : List RunTurn) (m b : WorkerAt) (end : Option WorkEnd)
          → base.gain ≡ gain.Open → IsOf base link → Behind ts m b end → LeavesFetch base link m.hand m.link
          → Goes ts m b (end_of_hand m.hand) end → IsFront all base.handed
      waits base link ts m b end opened of behind leaves goes =
          let none : end_of_hand m.hand ≡ None = ap end_of_hand leaves.0 ∙ ap end_of_gain opened in
          front_of_due all base.gain base.handed
          (behind base leaves.0 (subst (λ (l : LinkAt). IsOf base l) (sym leaves.1) of)
          (subst (λ (by : Option WorkEnd). Goes ts m b by end) none goes))

      -- .. or is carried on, unless memory was wanting
      steps_by : (g : Fetching) (ts : List RunTurn) (m b : WorkerAt) (end : Option WorkEnd) (gained : Gain) → g.gain ≡ gained
          → m.hand ≡ Fetches g → ((gained ≡ gain.Starved → ⊥) → IsOf g m.link) → Behind ts m b end
          → Goes ts m b (end_of_gain gained) end → (end ≡ Some NoMemory → ⊥) → IsFront all g.handed
      steps_by g ts m b end (gain.Ready run bytes last) is hand of behind goes some =
          front_of_due all g.gain g.handed (behind g hand (of (λ no. let e : gain.Ready run bytes last ≡ gain.Starved = no in cc)) goes)
      steps_by g ts m b end (gain.Lost loss mark) is hand of behind goes some =
          front_of_due all g.gain g.handed (behind g hand (of (λ no. let e : gain.Lost loss mark ≡ gain.Starved = no in cc)) goes)
      steps_by g ts m b end gain.Open is hand of behind goes some =
          front_of_due all g.gain g.handed (behind g hand (of (λ no. let e : gain.Open ≡ gain.Starved = no in cc)) goes)
      steps_by g ts m b end gain.Starved is hand of behind goes some = absurd (some goes.2)

      steps : (base : Fetching) (ts : List RunTurn) (m b : WorkerAt) (end : Option WorkEnd) → base.job ≡ job
          → base.since ≡ since → Behind ts m b end → StepsOn tells base m.hand m.link
          → Goes ts m b (end_of_hand m.hand) end → (end ≡ Some NoMemory → ⊥) → IsFront all base.handed
      steps base ts m b end job_is since_is behind s goes some =
          let g : Fetching = s.0 in
          let same = s.1.same in
          subst (λ (l : List ℕ). IsFront all l) (ap (λ (x : Fetching). x.handed) same)
          (steps_by g ts m b end g.gain refl s.2 (λ fed. record {
            job_is = ap (λ (x : Fetching). x.job) same ∙ job_is;
            since_is = ap (λ (x : Fetching). x.since) same ∙ since_is;
            is = told_of g m.link s.1.at fed;
          }) behind (subst (λ (by : Option WorkEnd). Goes ts m b by end) (ap end_of_hand s.2) goes) some)

      kept : (d : Fetching) (left : ℕ) (last : Bool) (link : LinkAt) (ts : List RunTurn) (m b : WorkerAt)
          (end : Option WorkEnd) → d.left ≡ left → d.gain ≡ gain.Open → IsOf d link → Behind ts m b end
          → FollowsKept tells d last link m.hand m.link → Goes ts m b (end_of_hand m.hand) end → b.link ≡ new
          → (end ≡ Some NoMemory → ⊥) → IsFront all d.handed
      kept d left true link ts m b end is opened of behind follows goes new_is some =
          front_of_due all d.gain d.handed (front_at d link of (left_nothing link ts m b (end_of_hand m.hand) end
          (stays_open tells link m.hand m.link follows) goes new_is))
      kept d zero false link ts m b end is opened of behind follows goes new_is some =
          waits d link ts m b end opened of behind (subst (λ n. goes_on_by tells d n link m.hand m.link) is follows) goes
      kept d (suc left) false link ts m b end is opened of behind follows goes new_is some =
          steps d ts m b end of.job_is of.since_is behind (subst (λ n. goes_on_by tells d n link m.hand m.link) is follows) goes
          some

      delivery : (d : Fetching) (last : Bool) (answer : Said) (link : LinkAt) (ts : List RunTurn) (m b : WorkerAt)
          (end : Option WorkEnd) → d.gain ≡ gain.Open → IsOf d link → Behind ts m b end
          → FollowsDelivery tells d last answer link m.hand m.link → Goes ts m b (end_behind answer m.hand) end → b.link ≡ new
          → (end ≡ Some NoMemory → ⊥) → IsFront all d.handed
      delivery d last (said.Kept counted repeated) link ts m b end opened of behind follows goes new_is some =
          kept d d.left last link ts m b end refl opened of behind follows goes new_is some
      delivery d last answer link ts m b end opened of behind follows goes new_is some =
          front_of_due all d.gain d.handed
          (front_at d link of (left_nothing link ts m b (end_behind answer m.hand) end
          (is_closed tells link m.hand m.link follows) goes new_is))

      more : (f : Fetching) (answer : Said) (link : LinkAt) (ts : List RunTurn) (m b : WorkerAt) (end : Option WorkEnd)
          → f.gain ≡ gain.Open → IsOf f link → Behind ts m b end → FollowsMore tells f answer link m.hand m.link
          → Goes ts m b (end_behind answer m.hand) end → b.link ≡ new → (end ≡ Some NoMemory → ⊥) → IsFront all f.handed
      more f (said.Allow bytes) link ts m b end opened of behind follows goes new_is some =
          steps (allowing f bytes) ts m b end of.job_is of.since_is behind follows goes some
      more f (said.Hold ms) link ts m b end opened of behind follows goes new_is some =
          waits f link ts m b end opened of behind follows goes
      more f answer link ts m b end opened of behind follows goes new_is some =
          front_of_due all f.gain f.handed
          (front_at f link of (left_nothing link ts m b (end_behind answer m.hand) end
          (is_closed tells link m.hand m.link follows) goes new_is))

      -- one turn
      fetch_by : (f : Fetching) (gained : Gain) (answer : Said) (link : LinkAt) (ts : List RunTurn) (m b : WorkerAt)
          (end : Option WorkEnd) → f.gain ≡ gained → IsOf f link → Behind ts m b end
          → FollowsFetch tells f gained answer link m.hand m.link → Goes ts m b (end_behind answer m.hand) end → b.link ≡ new
          → (end ≡ Some NoMemory → ⊥) → IsFront all (due_of gained f.handed)
      fetch_by f (gain.Ready run bytes last) answer link ts m b end is of behind follows goes new_is some =
          delivery (delivered f run bytes) last answer link ts m b end refl (record {
            job_is = of.job_is;
            since_is = of.since_is;
            is = record {
              used_is = of.is.used_is;
              front = subst (λ (g : Gain). IsFrontOfFetched f.job.parts f.used (due_of g f.handed)) is of.is.front;
            };
          }) behind follows goes new_is some
      fetch_by f (gain.Lost loss mark) answer link ts m b end is of behind follows goes new_is some =
          front_of_due all f.gain f.handed
          (front_at f link of (left_nothing link ts m b (end_behind answer m.hand) end
          (stays_open tells link m.hand m.link follows) goes new_is))
      fetch_by f gain.Open answer link ts m b end is of behind follows goes new_is some =
          more f answer link ts m b end is of behind follows goes new_is some
      fetch_by f gain.Starved answer link ts m b end is of behind follows goes new_is some =
          front_of_due all f.gain f.handed
          (front_at f link of (left_nothing link ts m b (end_behind answer m.hand) end
          (stays_open tells link m.hand m.link follows) goes new_is))

      turn_by : (f : Fetching) (t : RunTurn) (answer : Said) (link : LinkAt) (ts : List RunTurn) (m b : WorkerAt)
          (end : Option WorkEnd) → t.answer.said ≡ answer → IsOf f link → Behind ts m b end
          → FollowsAnswer tells (Fetches f) answer link m.hand m.link → Goes ts m b (end_behind answer m.hand) end
          → b.link ≡ new → (end ≡ Some NoMemory → ⊥) → IsFront all (due_of f.gain f.handed)
      turn_by f t (said.Grant granted) link ts m b end is of behind follows goes new_is some =
          front_at f link of (granted_next link t granted ts m b (end_behind (said.Grant granted) m.hand) end is follows goes new_is)
      turn_by f t answer link ts m b end is of behind follows goes new_is some =
          fetch_by f f.gain answer link ts m b end refl of behind follows goes new_is some

      -- all turns
      pub work_fronts : (ts : List RunTurn) (a b : WorkerAt) (end : Option WorkEnd) (f : Fetching) → a.hand ≡ Fetches f
          → IsOf f a.link → Works tells worker ts a b end → b.link ≡ new → (end ≡ Some NoMemory → ⊥)
          → IsFront all (due_of f.gain f.handed)
      work_fronts [] a b end f hand of works new_is some =
          front_at f a.link of
          (subst (λ (l : LinkAt). HasAnswered a.link.state l.state)
          (ap (λ (w : WorkerAt). w.link) (sym works.0) ∙ new_is) (answered_same a.link.state))
      work_fronts (t ∷ ts) a b end f hand of works new_is some =
          let m = works.1 in
          let follows = subst (λ (h : Hand). FollowsAnswer tells h t.answer.said a.link m.hand m.link) hand works.2.follows in
          turn_by f t t.answer.said a.link ts m b end refl of
          (λ g on of_g rest. work_fronts ts m b end g on of_g rest new_is some) follows works.3 new_is some

    -- ---- a loss

    -- behind a turn whose hand leaves nothing the mirrors answered up to the end
    pub lost_goes : (f : Fetching) (loss : Loss) (mark : Mark) (t : RunTurn) (answer : Said) (link : LinkAt) (ts : List RunTurn)
        (m b : WorkerAt) (by end : Option WorkEnd) → f.gain ≡ gain.Lost loss mark → t.answer.said ≡ answer
        → FollowsAnswer tells (Fetches f) answer link m.hand m.link → Goes ts m b by end → b.link ≡ new
        → HasAnswered link.state new.state
    lost_goes f loss mark t (said.Grant granted) link ts m b by end lost is follows goes new_is =
        granted_next link t granted ts m b by end is follows goes new_is
    lost_goes f loss mark t answer link ts m b by end lost is follows goes new_is =
        left_nothing link ts m b by end (stays_open tells link m.hand m.link
        (subst (λ (g : Gain). FollowsFetch tells f g answer link m.hand m.link) lost follows)) goes new_is

    pub missed_goes : (p : Probing) (t : RunTurn) (answer : Said) (link : LinkAt) (ts : List RunTurn) (m b : WorkerAt)
        (by end : Option WorkEnd) → t.answer.said ≡ answer → FollowsAnswer tells (Probes p) answer link m.hand m.link
        → Goes ts m b by end → b.link ≡ new → HasAnswered link.state new.state
    missed_goes p t (said.Grant granted) link ts m b by end is follows goes new_is =
        granted_next link t granted ts m b by end is follows goes new_is
    missed_goes p t answer link ts m b by end is follows goes new_is =
        left_nothing link ts m b by end (stays_open tells link m.hand m.link follows) goes new_is
