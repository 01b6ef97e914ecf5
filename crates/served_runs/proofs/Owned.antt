-- Turns of a worker's own, where the worker took them, and what they bring where the mirrors serve rightly.
use Rattle.std.proofs.Common.{◌≡◌, ◌⊎◌, ◌<◌, ◌++◌, ◌∷◌, append_assoc, ⊎_elim, inl, inr, ℕ, Bool, false, IsTrue, List, [], length, Option, Some, refl, sym, ap, subst, ◌∙◌}
use Rattle.std.specs.Prelude.{◌≢◌, Contains}
use Rattle.std.proofs.lemmas.List.Elements.{Contains-append_left}
use Rattle.conn_worker.specs.Facts.{HasUsed, IsGain}
use Rattle.conn_worker.specs.Hands.{Fetches, Hand, LinkAt, Probes, WorkerAt, fresh}
use Rattle.conn_worker.specs.Table.{FollowsAnswer, end_behind}
use Rattle.conn_worker.specs.Works.{Works}
use Rattle.conn_worker.specs.declared.ends.WorkEnd.{WorkEnd}
use Rattle.conn_worker.specs.declared.ends.WorkEnd.TheVariants.{NoMemory}
use Rattle.conn_worker.specs.declared.hands.Gain.{Gain}
use Rattle.conn_worker.specs.declared.hands.Gain.TheVariants as gain
use Rattle.dl_kinds.specs.declared.gid.Gid.{Gid}
use Rattle.dl_kinds.specs.declared.marks.Mark.{Mark}
use Rattle.dl_kinds.specs.declared.runs.Moment.{Moment}
use Rattle.dl_kinds.specs.declared.runs.Run.{Run}
use Rattle.engine_turns.specs.NextRows.{mirror_url}
use Rattle.engine_turns.specs.Told.{RunTurn}
use Rattle.engine_turns.specs.declared.operations.FetchGrant.{FetchGrant}
use Rattle.engine_turns.specs.declared.operations.Grant.TheVariants as grant
use Rattle.engine_turns.specs.declared.operations.Operation.TheVariants as operation
use Rattle.engine_turns.specs.declared.operations.Said.TheVariants as said
use Rattle.link_source.specs.Exchanges.{Exchange}
use Rattle.link_source.specs.Mirrors.{Content}
use Rattle.machine_core.specs.OwnParts.{PayloadLengths}
use Rattle.machine_core.specs.RunLegal.{is_listed}
use Rattle.machine_core.specs.Starts.{Subject}
use Rattle.memory_serving_laws.specs.Serving.{used_among}
use Rattle.mirror_payloads.specs.Faithful.{run_bytes}
use Rattle.option_set.specs.Values.{OptionValues}
use Rattle.span_map.specs.declared.jobs.Job.{Job}
use Rattle.run_lifecycle.proofs.Turns.{cut_at}
use Rattle.served_runs.specs.Answering.{HasAnswered, WorksOver}
use Rattle.served_runs.specs.ServingLaws.{ComesOfServing, IsChosenJob}
use Rattle.served_runs.specs.Serving.{HasNoBad, ServesAmong, ServesPayload, ServesRightly, ServesUnused}
use Rattle.served_runs.proofs.Answered.{StayRight, answered_on, answered_by, stay_between, stay_right}
use Rattle.served_runs.proofs.Fronts.{IsFront, due_of, lost_goes, missed_goes, told_of, work_fronts}
use Rattle.served_runs.proofs.Rightly.{ServingLaws, came_right, right_blocks, right_length, right_loss, right_probe}
use Rattle.served_runs.proofs.Working.{GrantedBy, LosesFetch, LosesProbe, TakesBlocks, TakesTurn, TellsLength, loses_claim, stands_first, takes_blocks, takes_turn, tells_length}

-- ---- a worker's own turn

-- the worker took it behind these of its own, all among the turns of the run
pub record OwnTurn (tells : Bool) (told : List RunTurn) (worker : ℕ) (old : LinkAt) (b : WorkerAt) (end : Option WorkEnd)
    (t : RunTurn) : Type 0 where
  pub before : List RunTurn
  pub behind : List RunTurn
  pub takes : TakesTurn tells old worker before t behind b end
  pub within : (u : RunTurn) → Contains before u → Contains told u

pub own_turn : (tells : Bool) (told : List RunTurn) (worker : ℕ) (worked : List RunTurn) (old new : LinkAt)
    (works : WorksOver tells worker worked old new) → ((u : RunTurn) → Contains worked u → Contains told u) → (t : RunTurn)
    → Contains worked t → OwnTurn tells told worker old works.b works.end t
own_turn tells told worker worked old new works among t there =
    let c = cut_at worked t there in
    let its = subst (λ (ts : List RunTurn). Works tells worker ts (fresh old) works.b works.end) c.cut works.works in
    record {
      before = c.front;
      behind = c.back;
      takes = takes_turn tells old worker [] c.front t c.back (fresh old) works.b works.end (stands_first tells old) its;
      within = λ u there. among u (subst (λ (ts : List RunTurn). Contains ts u) (sym c.cut)
          (Contains-append_left c.front (t ∷ c.back) u there));
    }

-- ---- what is right of it

module _ (before : List RunTurn) (subject : Subject) (options : OptionValues) (mirror : ℕ) (payload : List ℕ) where
  -- blocks of what was granted have the payload's bytes
  pub record RightBlocks (id : ℕ) (run : Run) (bytes : List ℕ) : Type 0 where
    pub granted : FetchGrant
    pub by : GrantedBy before (grant.Fetch granted)
    pub claim_is : granted.claim ≡ id
    pub right : (lengths : PayloadLengths) (whole : Run) → lengths.total ≡ length payload
        → IsChosenJob options lengths subject mirror whole granted.job → bytes ≡ run_bytes lengths payload run

  -- a loss of what was granted has a count
  pub record RightFetchLoss (id : ℕ) (mark : Mark) : Type 0 where
    pub granted : FetchGrant
    pub by : GrantedBy before (grant.Fetch granted)
    pub claim_is : granted.claim ≡ id
    pub right : (lengths : PayloadLengths) (whole : Run) → lengths.total ≡ length payload
        → IsChosenJob options lengths subject mirror whole granted.job → 0 < mark.count

  pub record RightProbeLoss (id : ℕ) (mark : Mark) : Type 0 where
    pub gid : Gid
    pub url : List ℕ
    pub by : GrantedBy before (grant.Probe id gid url)
    pub right : is_listed subject ≡ false → url ≡ mirror_url subject mirror → 0 < mark.count

pub record RightTurn (told : List RunTurn) (subject : Subject) (options : OptionValues) (mirror : ℕ)
    (payload : List ℕ) (t : RunTurn) : Type 0 where
  pub content : Content
  pub serves : ServesPayload content subject options mirror payload
  pub before : List RunTurn
  pub within : (u : RunTurn) → Contains before u → Contains told u
  pub blocks : (id : ℕ) (run : Run) (bytes : List ℕ) (now : Moment) → t.op ≡ operation.Deliver id run bytes now
      → RightBlocks before subject options mirror payload id run bytes
  pub losses : (id : ℕ) (mark : Mark) (now : Moment) → t.op ≡ operation.Lose id mark now
      → RightFetchLoss before subject options mirror payload id mark ⊎ RightProbeLoss before subject options mirror payload id mark

-- each probe that was granted under the number asks the mirror of the download
abbrev pub AsksAs : List RunTurn → Subject → ℕ → ℕ → Type 0
AsksAs told subject mirror id =
    (u : RunTurn) (asked : Gid × List ℕ) → Contains told u → u.answer.said ≡ said.Grant (grant.Probe id asked.0 asked.1)
    → asked.1 ≡ mirror_url subject mirror

-- ---- by what is known of the links

module _ (laws : ServingLaws) (tells : Bool) (true_is : IsTrue tells) (told : List RunTurn) (subject : Subject)
    (options : OptionValues) (mirror : ℕ) (payload : List ℕ) (t : RunTurn) (worker : ℕ) (worked : List RunTurn) (old new : LinkAt)
    (works : WorksOver tells worker worked old new) (own : OwnTurn tells told worker old works.b works.end t)
    (serves : ServesAmong old.state.content subject options mirror payload) where
  abbrev at : WorkerAt
  at = own.takes.at

  abbrev IsRight : LinkAt → Type 0
  IsRight link = StayRight serves.among old.state.content link.state.content

  turn_of : ((id : ℕ) (run : Run) (bytes : List ℕ)
      (b : TakesBlocks tells old own.before at.hand at.link id run bytes) (lengths : PayloadLengths) (whole : Run)
      → lengths.total ≡ length payload → IsChosenJob options lengths subject mirror whole b.f.job
      → IsFront (run_bytes lengths payload whole) (b.f.handed ++ bytes))
      → ((id : ℕ) (mark : Mark) (l : LosesFetch tells old own.before at.hand at.link id mark)
      → IsRight l.f.since × IsRight at.link)
      → ((id : ℕ) (mark : Mark) (l : LosesProbe tells old own.before at.hand at.link id mark)
      → IsRight l.p.since × IsRight at.link)
      → RightTurn told subject options mirror payload t
  turn_of fronts fetches probes = record {
    content = old.state.content;
    serves = serves.serves;
    before = own.before;
    within = own.within;
    blocks = λ id run bytes now op.
        let b = takes_blocks tells old worker own.before t id run bytes now own.behind works.b works.end own.takes op in
        record {
          granted = b.of_grant.granted;
          by = b.of_grant.by;
          claim_is = sym b.of_grant.claim ∙ b.claim_is;
          right = λ lengths whole total is.
              let its = subst (λ (j : Job). IsChosenJob options lengths subject mirror whole j) (sym b.of_grant.job) is in
              let front = fronts id run bytes b lengths whole total its in
              right_blocks tells old subject options mirror payload own.before at.hand at.link id run bytes b lengths whole its
              front.rest front.is;
        };
    losses = λ id mark now op. ⊎_elim
        (λ (l : LosesFetch tells old own.before at.hand at.link id mark). inl (record {
          granted = l.of_grant.granted;
          by = l.of_grant.by;
          claim_is = sym l.of_grant.claim ∙ l.claim_is;
          right = λ lengths whole total is.
              let known = fetches id mark l in
              right_loss laws tells true_is old subject options mirror payload serves own.before at.hand at.link id mark l lengths
              total whole (subst (λ (j : Job). IsChosenJob options lengths subject mirror whole j) (sym l.of_grant.job) is)
              known.0 known.1;
        }))
        (λ (l : LosesProbe tells old own.before at.hand at.link id mark). inr (record {
          gid = l.holds.gid;
          url = l.p.url;
          by = subst (λ (n : ℕ). GrantedBy own.before (grant.Probe n l.holds.gid l.p.url)) l.claim_is l.holds.by;
          right = λ unlisted url_is.
              let known = probes id mark l in
              right_probe laws tells true_is old subject options mirror payload unlisted serves own.before at.hand at.link id mark l
              url_is known.0 known.1;
        }))
        (loses_claim tells old worker own.before t id mark now own.behind works.b works.end own.takes op);
  }

  -- a length that a probe told
  length_of : is_listed subject ≡ false → (id total : ℕ) (now : Moment) → t.op ≡ operation.Sized id total now
      → ((l : TellsLength tells old own.before at.hand at.link id total) → IsRight l.p.since × IsRight at.link)
      → AsksAs told subject mirror id → total ≡ length payload
  length_of unlisted id total now op known asks =
      let l = tells_length tells old worker own.before t id total now own.behind works.b works.end own.takes op in
      let by = l.holds.by in
      let is = known l in
      right_length laws tells true_is old subject options mirror payload unlisted serves own.before at.hand at.link id total l
      (asks by.turn (l.holds.gid, l.p.url) (own.within by.turn by.there)
      (by.said_is ∙ ap (λ (n : ℕ). said.Grant (grant.Probe n l.holds.gid l.p.url)) l.claim_is)) is.0 is.1

  -- ---- no bad answer is left

  none_left : HasNoBad old.state.content serves.among → (link : LinkAt) → HasAnswered old.state link.state → IsRight link
  none_left none_bad link has = stay_right laws.keep laws.none serves.among old.state link.state none_bad has

  pub right_by_none : HasNoBad old.state.content serves.among → RightTurn told subject options mirror payload t
  right_by_none none_bad = turn_of
      (λ id run bytes b lengths whole total is.
      let front = (subst (λ (g : Gain). IsGain tells b.f at.link g) b.gain b.at.gain).1 true_is in
      let r = came_right laws tells true_is old subject options mirror payload serves lengths whole b.f.job b.f.since at.link b.f.used
      ((b.f.handed ++ bytes) ++ front.behind) front.ending total is (none_left none_bad b.f.since (b.of_grant.since true_is))
      (none_left none_bad at.link (b.reached true_is)) b.at.carried.used front.fetched in
      record { rest = front.behind ++ r.behind; is = r.front ∙ append_assoc (b.f.handed ++ bytes) front.behind r.behind })
      (λ id mark l. (none_left none_bad l.f.since (l.of_grant.since true_is), none_left none_bad at.link (l.reached true_is)))
      (λ id mark l. (none_left none_bad l.p.since (l.holds.since true_is), none_left none_bad at.link (l.reached true_is)))

  pub length_by_none : HasNoBad old.state.content serves.among → is_listed subject ≡ false → (id total : ℕ) (now : Moment)
      → t.op ≡ operation.Sized id total now → AsksAs told subject mirror id → total ≡ length payload
  length_by_none none_bad unlisted id total now op asks = length_of unlisted id total now op
      (λ l. (none_left none_bad l.p.since (l.holds.since true_is), none_left none_bad at.link (l.reached true_is))) asks

  -- ---- none was used

  module _ (unused : used_among serves.among new.state.content ≡ used_among serves.among old.state.content)
      (some : works.end ≢ Some NoMemory) where
    between : (link : LinkAt) → HasAnswered old.state link.state → HasAnswered link.state new.state → IsRight link
    between link from to = stay_between laws.keep serves.among old.state link.state new.state from to unused

    -- at a grant, and at the link as it is now
    both : (since now : LinkAt) (used : List Exchange) → HasAnswered old.state since.state → HasUsed tells since used now
        → HasAnswered now.state new.state → IsRight since × IsRight now
    both since now used from has to =
        let meanwhile = answered_by since.state now.state (has.answered true_is) in (
          between since from (answered_on since.state now.state new.state meanwhile to),
          between now (answered_on old.state since.state now.state from meanwhile) to,
        )

    -- the turn, and those behind it
    follows : (hand : Hand) → at.hand ≡ hand
        → FollowsAnswer tells hand t.answer.said at.link own.takes.works.1.hand own.takes.works.1.link
    follows hand is = subst
        (λ (h : Hand). FollowsAnswer tells h t.answer.said at.link own.takes.works.1.hand own.takes.works.1.link) is
        own.takes.works.2.follows

    pub right_by_unused : RightTurn told subject options mirror payload t
    right_by_unused = turn_of
        (λ id run bytes b lengths whole total is.
        let fed : b.f.gain ≡ gain.Starved → ⊥ =
        λ no. (let e : gain.Ready run bytes b.last ≡ gain.Starved = sym b.gain ∙ no in cc) in
        let front = work_fronts tells true_is worker new b.f.job b.f.since (run_bytes lengths payload whole)
        (λ now used came ending to has fetched.
        let known = both b.f.since now used (b.of_grant.since true_is) has to in
        came_right laws tells true_is old subject options mirror payload serves lengths whole b.f.job b.f.since now used came ending total
        is known.0 known.1 has fetched)
        (t ∷ own.behind) at works.b works.end b.f b.hand_is
        (record { job_is = refl; since_is = refl; is = told_of tells true_is b.f at.link b.at fed }) own.takes.works works.link_is
        some in
        subst (λ (g : Gain). IsFront (run_bytes lengths payload whole) (due_of g b.f.handed)) b.gain front)
        (λ id mark l.
        both l.f.since at.link l.f.used (l.of_grant.since true_is) l.at.carried.used
        (lost_goes tells true_is worker new l.f l.loss mark t t.answer.said at.link own.behind own.takes.works.1 works.b
        (end_behind t.answer.said own.takes.works.1.hand) works.end l.gain refl (follows (Fetches l.f) l.hand_is)
        own.takes.works.3 works.link_is))
        (λ id mark l.
        both l.p.since at.link l.p.used (l.holds.since true_is) l.holds.at.used
        (missed_goes tells true_is worker new l.p t t.answer.said at.link own.behind own.takes.works.1 works.b
        (end_behind t.answer.said own.takes.works.1.hand) works.end refl (follows (Probes l.p) l.hand_is) own.takes.works.3
        works.link_is))

    pub length_by_unused : is_listed subject ≡ false → (id total : ℕ) (now : Moment)
        → t.op ≡ operation.Sized id total now → AsksAs told subject mirror id → total ≡ length payload
    length_by_unused unlisted id total now op asks = length_of unlisted id total now op
        (λ l. both l.p.since at.link l.p.used (l.holds.since true_is) l.holds.at.used
        (missed_goes tells true_is worker new l.p t t.answer.said at.link own.behind own.takes.works.1 works.b
        (end_behind t.answer.said own.takes.works.1.hand) works.end refl (follows (Probes l.p) l.hand_is) own.takes.works.3
        works.link_is)) asks

-- ---- the whole

pub length_turn : ServingLaws → (tells : Bool) → IsTrue tells → (told : List RunTurn) (subject : Subject)
    (options : OptionValues) (mirror : ℕ) (payload : List ℕ) (t : RunTurn) → ComesOfServing tells told subject options mirror payload t → is_listed subject ≡ false
    → (id total : ℕ) (now : Moment) → t.op ≡ operation.Sized id total now → AsksAs told subject mirror id
    → total ≡ length payload
length_turn laws tells true_is told subject options mirror payload t by unlisted id total now op asks =
    let own = own_turn tells told by.worker by.worked by.old by.new by.works by.among t by.there in
    ⊎_elim
    (λ (rightly : ServesRightly by.old.state.content subject options mirror payload).
    length_by_none laws tells true_is told subject options mirror payload t by.worker by.worked by.old by.new by.works own rightly.of
    rightly.none_bad unlisted id total now op asks)
    (λ (unused : ServesUnused by.old.state.content by.new.state.content subject options mirror payload
    × (by.works.end ≢ Some NoMemory)).
    length_by_unused laws tells true_is told subject options mirror payload t by.worker by.worked by.old by.new by.works own unused.0.of
    unused.0.unused unused.1 unlisted id total now op asks) by.serves

pub right_turn : ServingLaws → (tells : Bool) → IsTrue tells → (told : List RunTurn) (subject : Subject)
    (options : OptionValues) (mirror : ℕ) (payload : List ℕ) (t : RunTurn) → ComesOfServing tells told subject options mirror payload t
    → RightTurn told subject options mirror payload t
right_turn laws tells true_is told subject options mirror payload t by =
    let own = own_turn tells told by.worker by.worked by.old by.new by.works by.among t by.there in
    ⊎_elim
    (λ (rightly : ServesRightly by.old.state.content subject options mirror payload).
    right_by_none laws tells true_is told subject options mirror payload t by.worker by.worked by.old by.new by.works own rightly.of
    rightly.none_bad)
    (λ (unused : ServesUnused by.old.state.content by.new.state.content subject options mirror payload
    × (by.works.end ≢ Some NoMemory)).
    right_by_unused laws tells true_is told subject options mirror payload t by.worker by.worked by.old by.new by.works own unused.0.of
    unused.0.unused unused.1) by.serves
