-- Over all turns of a worker that takes them alone.
use Rattle.std.proofs.Common.{◌≡◌, ◌≢◌, ◌⊎◌, inl, ◌≤◌, ◌∷◌, ℕ, Bool, List, [], length, Option, Some, None, refl, sym, ap, subst, ◌∙◌, ⊎_elim}
use Rattle.std.proofs.lemmas.List.Elements.{All-cons, All-nil}
use Rattle.std.specs.Option.{option_or}
use Rattle.dl_kinds.specs.declared.claims.Claim.{Claim}
use Rattle.dl_kinds.specs.declared.runs.Moment.{Moment}
use Rattle.dl_kinds.specs.declared.runs.Run.{Run}
use Rattle.dl_history.specs.StandingClaims.{standing_claims}
use Rattle.dl_history.proofs.Members.{Has}
use Rattle.machine_core.specs.OwnParts.{own_of}
use Rattle.machine_core.specs.RunLegal.{IsLegal, LengthsStay}
use Rattle.machine_core.specs.Starts.{RunStart}
use Rattle.machine_core.specs.declared.events.Event.{Event}
use Rattle.engine_turns.specs.ClaimRows.{DeliverRow}
use Rattle.engine_turns.specs.Phases.{TurnStart}
use Rattle.engine_turns.specs.RunTurns.{MayComeAfter, OperationRow, turn_start}
use Rattle.engine_turns.specs.Standings.{AnswersUnlessStarved, OfClaim, RunStanding, standing_after}
use Rattle.engine_turns.specs.Told.{RunTurn, history_of}
use Rattle.engine_turns.specs.declared.operations.Operation.{Operation}
use Rattle.engine_turns.specs.declared.operations.Operation.TheVariants as operation
use Rattle.engine_turns.specs.declared.operations.Said.{Said}
use Rattle.engine_turns.specs.declared.operations.Said.TheVariants as said
use Rattle.engine_turns.specs.declared.outcome.Outcome.{Outcome}
use Rattle.engine_turns.specs.declared.outcome.Outcome.TheVariants.{Went, Over, Starved}
use Rattle.conn_worker.specs.Ends.{end_of_said}
use Rattle.conn_worker.specs.Facts.{IsGain}
use Rattle.conn_worker.specs.Hands.{Fetching, Hand, Nothing, Fetches, Probes, Seals, LinkAt, Probing, WorkerAt, fresh}
use Rattle.conn_worker.specs.Table.{due_op, end_behind, end_of_gain, end_of_hand, end_of_probe, fetch_op, probe_op}
use Rattle.conn_worker.specs.Works.{Does, EndsOrGoesOn, Works, turn_moment}
use Rattle.conn_worker.specs.declared.ends.WorkEnd.{WorkEnd}
use Rattle.conn_worker.specs.declared.ends.WorkEnd.TheVariants as end
use Rattle.conn_worker.specs.declared.hands.Gain.{Gain}
use Rattle.conn_worker.specs.declared.hands.Gain.TheVariants.{Lost, Open, Ready, Starved as StarvedGain}
use Rattle.conn_worker.specs.declared.hands.ProbeEnd.{ProbeEnd}
use Rattle.conn_worker.specs.declared.hands.ProbeEnd.TheVariants.{Told, Missed, Lacking}
use Rattle.offered_work.proofs.Histories.{legal_before}
use Rattle.worker_turns.specs.Alone.{AsksAlone, LoneWorkersClaimOnce, NoClaimStands, turns_behind}
use Rattle.worker_turns.specs.TurnBounds.{ComeAfter, CountsBlocks, DeliveriesCount, EachBehind}
use Rattle.worker_turns.proofs.Appending.{EndsBy, answered}
use Rattle.worker_turns.proofs.Counting.{no_end}
use Rattle.worker_turns.proofs.Standing.{NothingStands}
use Rattle.worker_turns.proofs.Tracked.{FetchTracks, Tracks, turn_tracks}
use Rattle.worker_turns.proofs.Tracking.{FetchStands, at_home, delivery_counts, no_home}

-- ---- claims that stand

none_has : (cs : List Claim) → ((c : Claim) → Has cs c → ⊥) → cs ≡ []
none_has [] none = refl
none_has (c ∷ cs) none = absurd (none c (inl refl))

pub stands_none : (start : RunStart) (past : List Event) → NothingStands start past → NoClaimStands start past
stands_none start past nothing gid = none_has (standing_claims (own_of start past gid)) (λ c there. nothing gid c there)

pub none_stands : (start : RunStart) (past : List Event) → NoClaimStands start past → NothingStands start past
none_stands start past none gid c there = subst (λ (cs : List Claim). Has cs c) (none gid) there

-- ---- one turn

counts_kept : (claim : ℕ) (run : Run) (bytes : List ℕ) (now : Moment) (answer : Said) (events : List Event)
    → ((c r : ℕ) → answer ≡ said.Kept c r → 1 ≤ length events)
    → CountsBlocks (operation.Deliver claim run bytes now) answer events
counts_kept claim run bytes now (said.Kept c r) events counts = counts c r refl
counts_kept claim run bytes now answer events counts = tt

counts_ended : (op : Operation) (answer : Said) (events : List Event) → EndsBy answer → CountsBlocks op answer events
counts_ended (operation.Deliver claim run bytes now) (said.Kept c r) events ends = absurd (let no_way = ends.1 in cc)
counts_ended op answer events ends = tt

fed_by : (usual answer : Said) (outcome : Outcome) (c r : ℕ) → answer ≡ said.Kept c r
    → AnswersUnlessStarved usual outcome answer → outcome ≢ Starved
fed_by usual answer Went c r kept is = λ e. let no_way : Went ≡ Starved = e in cc
fed_by usual answer Over c r kept is = λ e. let no_way : Over ≡ Starved = e in cc
fed_by usual answer Starved c r kept is = absurd (let no_way : said.Kept c r ≡ said.NoMemory = sym kept ∙ is in cc)

module _ (tells : Bool) (at : TurnStart) (s : RunStanding) (answer : Said) (events : List Event) (link : LinkAt) where
  kept_home : (f : Fetching) (run : Run) (bytes : List ℕ) (last : Bool) → f.gain ≡ Ready run bytes last
      → FetchTracks tells at.start s.past f link → OfClaim at s f.claim (DeliverRow at s run bytes) events answer
      → (c r : ℕ) → answer ≡ said.Kept c r → 1 ≤ length events
  kept_home f run bytes last is track row c r kept =
      let closed : f.gain ≡ Open → ⊥ = λ opened. let no_way : Ready run bytes last ≡ Open = sym is ∙ opened in cc in
      let ready = subst (λ (g : Gain). IsGain tells f link g) is (track.at closed).gain in
      ⊎_elim (λ away. absurd (let no_way : said.Kept c r ≡ said.Void = sym kept ∙ away.1.1 in cc))
      (λ of. ⊎_elim (λ none. absurd (no_home at.start s.past f.claim of.0 of.1 none of.2))
      (λ (fs : FetchStands at.start s.past f).
      let fetch = at_home at.start s.past f fs.gid fs.claim of.0 of.1 fs.is of.2 in
      ⊎_elim
      (λ all. delivery_counts at at.start s.past f run bytes last ready.0 of.0.gid of.1 fetch of.0 refl all.1.runs
      events
      all.1.outcome (fed_by _ answer all.1.outcome c r kept all.1.answer) all.1.open_runs all.1.is)
      (λ void. absurd (let no_way : said.Kept c r ≡ said.Void = sym kept ∙ void.1.1 in cc)) of.3) track.stands) row

  module _ (worker : ℕ) (now : Moment) (op : Operation) (row : OperationRow at s op events answer) where
    not_delivery : (due : Operation) → op ≡ due → CountsBlocks due answer events → CountsBlocks op answer events
    not_delivery due is counts = subst (λ (o : Operation). CountsBlocks o answer events) (sym is) counts

    fetch_counts : (f : Fetching) (gain : Gain) → f.gain ≡ gain → op ≡ fetch_op worker f now gain
        → FetchTracks tells at.start s.past f link → CountsBlocks op answer events
    fetch_counts f (Ready run bytes last) is due track =
        not_delivery (operation.Deliver f.claim run bytes now) due
        (counts_kept f.claim run bytes now answer events
        (λ c r kept. kept_home f run bytes last is track
        (subst (λ (o : Operation). OperationRow at s o events answer) due row) c r kept))
    fetch_counts f (Lost loss mark) is due track = not_delivery (operation.Lose f.claim mark now) due tt
    fetch_counts f Open is due track = not_delivery (operation.More f.claim _ now) due tt
    fetch_counts f StarvedGain is due track = not_delivery (operation.Next worker now) due tt

    probe_counts : (p : Probing) (end : ProbeEnd) → op ≡ probe_op worker p.claim now end → CountsBlocks op answer events
    probe_counts p (Told total) due = not_delivery (operation.Sized p.claim total now) due tt
    probe_counts p (Missed loss mark) due = not_delivery (operation.Lose p.claim mark now) due tt
    probe_counts p Lacking due = not_delivery (operation.Next worker now) due tt

    turn_counts : (hand : Hand) → op ≡ due_op worker hand now → Tracks tells at.start s.past hand link
        → CountsBlocks op answer events
    turn_counts Nothing due tracks = not_delivery (operation.Next worker now) due tt
    turn_counts (Fetches f) due tracks = fetch_counts f f.gain refl due tracks
    turn_counts (Probes p) due tracks = probe_counts p p.end due
    turn_counts (Seals gid sealed) due tracks = not_delivery (operation.Seal gid sealed now) due tt

-- ---- where work is asked for

module _ (start : RunStart) (earlier : List RunTurn) (worker : ℕ) (now : Moment) where
  fetch_asks : (f : Fetching) (gain : Gain) → gain ≢ StarvedGain → AsksAlone start earlier (fetch_op worker f now gain)
  fetch_asks f (Ready run bytes last) fed = tt
  fetch_asks f (Lost loss mark) fed = tt
  fetch_asks f Open fed = tt
  fetch_asks f StarvedGain fed = absurd (fed refl)

  probe_asks : (claim : ℕ) (end : ProbeEnd) → end ≢ Lacking → AsksAlone start earlier (probe_op worker claim now end)
  probe_asks claim (Told total) fed = tt
  probe_asks claim (Missed loss mark) fed = tt
  probe_asks claim Lacking fed = absurd (fed refl)

  turn_asks : (tells : Bool) (hand : Hand) (link : LinkAt) → end_of_hand hand ≡ None
      → Tracks tells start (history_of earlier) hand link → AsksAlone start earlier (due_op worker hand now)
  turn_asks tells Nothing link fed tracks = stands_none start (history_of earlier) tracks
  turn_asks tells (Fetches f) link fed tracks =
      fetch_asks f f.gain (λ starved. let no_way : Some end.NoMemory ≡ None = sym (ap end_of_gain starved) ∙ fed in cc)
  turn_asks tells (Probes p) link fed tracks =
      probe_asks p.claim p.end (λ starved. let no_way : Some end.NoMemory ≡ None = sym (ap end_of_probe starved) ∙ fed
      in cc)
  turn_asks tells (Seals gid sealed) link fed tracks = tt

-- ---- all turns

pub or_none : (a b : Option WorkEnd) → None ≡ option_or a b → b ≡ None
or_none None b none = sym none
or_none (Some x) b none = absurd cc

pub legal_behind : (start : RunStart) (turns earlier : List RunTurn) → IsLegal start (history_of (turns_behind turns
    earlier))
    → IsLegal start (history_of earlier)
legal_behind start [] earlier legal = legal
legal_behind start (t ∷ ts) earlier legal =
    legal_before start (history_of earlier) t.events (legal_behind start ts (t ∷ earlier) legal)

module _ (stay : LengthsStay) (start : RunStart) (worker : ℕ) (tells : Bool) where
  -- what is so of each turn
  abbrev IsAloneAt : List RunTurn → RunTurn → Type 0
  IsAloneAt earlier t = CountsBlocks t.op t.answer.said t.events × AsksAlone start earlier t.op

  row_there : (earlier : List RunTurn) (t : RunTurn) → MayComeAfter start earlier t
      → EndsBy t.answer.said
      ⊎ OperationRow (turn_start start earlier t) (standing_after start earlier) t.op t.events t.answer.said
  row_there earlier t may = answered _ _ t.op t.events t.answer.said _ _ _ may.answered

  alone_here : (earlier : List RunTurn) (t : RunTurn) (told : ℕ) (a m : WorkerAt) → MayComeAfter start earlier t
      → Does tells worker told t a m → end_of_hand a.hand ≡ None → Tracks tells start (history_of earlier) a.hand a.link
      → IsAloneAt earlier t
  alone_here earlier t told a m may does fed tracks = (
    ⊎_elim (λ ends. counts_ended t.op t.answer.said t.events ends)
        (λ row. turn_counts tells (turn_start start earlier t) (standing_after start earlier) t.answer.said t.events
        a.link
        worker (turn_moment told a.moment) t.op row a.hand does.op tracks) (row_there earlier t may),
    subst (λ (o : Operation). AsksAlone start earlier o) (sym does.op)
        (turn_asks start earlier worker (turn_moment told a.moment) tells a.hand a.link fed tracks),
  )

  goes_alone : (ts earlier : List RunTurn) (t : RunTurn) (told : ℕ) (a m b : WorkerAt) (end by : Option WorkEnd)
      → by ≡ end_behind t.answer.said m.hand → MayComeAfter start earlier t → Does tells worker told t a m
      → IsLegal start (history_of (t ∷ earlier)) → end_of_hand a.hand ≡ None
      → Tracks tells start (history_of earlier) a.hand a.link
      → (end_of_hand m.hand ≡ None → Tracks tells start (history_of (t ∷ earlier)) m.hand m.link
      → Works tells worker ts m b end → EachBehind IsAloneAt (t ∷ earlier) ts)
      → EndsOrGoesOn by ((ts ≡ []) × (b ≡ m) × (end ≡ by)) (Works tells worker ts m b end)
      → EachBehind IsAloneAt (t ∷ earlier) ts
  goes_alone ts earlier t told a m b end (Some by) is may does legal fed tracks goes ended =
      subst (λ (us : List RunTurn). EachBehind IsAloneAt (t ∷ earlier) us) (sym ended.0) tt
  goes_alone ts earlier t told a m b end None is may does legal fed tracks goes works =
      let on = no_end t.answer.said m.hand is in
      goes (or_none (end_of_said t.answer.said) (end_of_hand m.hand) is)
      (turn_tracks tells (turn_start start earlier t) (standing_after start earlier) t.answer.said t.events m.hand
      m.link on
      legal stay worker (turn_moment told a.moment) t.op
      (⊎_elim (λ ends. absurd (on ends)) (λ row. row) (row_there earlier t may)) a.link a.hand fed does.op does.follows
      tracks) works

  pub alone_on : (ts earlier : List RunTurn) (a b : WorkerAt) (end : Option WorkEnd) → ComeAfter start earlier ts
      → Works tells worker ts a b end → IsLegal start (history_of (turns_behind ts earlier)) → end_of_hand a.hand ≡ None
      → Tracks tells start (history_of earlier) a.hand a.link → EachBehind IsAloneAt earlier ts
  alone_on [] earlier a b end come works legal fed tracks = tt
  alone_on (t ∷ ts) earlier a b end come works legal fed tracks = (
    alone_here earlier t works.0 a works.1 come.0 works.2 fed tracks,
    goes_alone ts earlier t works.0 a works.1 b end (end_behind t.answer.said works.1.hand) refl come.0 works.2
        (legal_behind start ts (t ∷ earlier) legal) fed tracks
        (λ fed_now now rest. alone_on ts (t ∷ earlier) works.1 b end come.1 rest legal fed_now now) works.3,
  )

counts_each : (start : RunStart) (earlier ts : List RunTurn) → EachBehind (λ before t.
    CountsBlocks t.op t.answer.said t.events × AsksAlone start before t.op) earlier ts → DeliveriesCount ts
counts_each start earlier [] each = All-nil (λ (t : RunTurn). CountsBlocks t.op t.answer.said t.events)
counts_each start earlier (t ∷ ts) each =
    All-cons (λ (u : RunTurn). CountsBlocks u.op u.answer.said u.events) t ts each.0.0
    (counts_each start (t ∷ earlier) ts each.1)

asks_each : (start : RunStart) (earlier ts : List RunTurn) → EachBehind (λ before t.
    CountsBlocks t.op t.answer.said t.events × AsksAlone start before t.op) earlier ts
    → EachBehind (λ before t. AsksAlone start before t.op) earlier ts
asks_each start earlier [] each = tt
asks_each start earlier (t ∷ ts) each = (each.0.1, asks_each start (t ∷ earlier) ts each.1)

pub lone_workers : LengthsStay → LoneWorkersClaimOnce
lone_workers stay start earlier worker turns link now behind alone =
    let each = alone_on stay start worker behind.over.tells turns earlier (fresh link) behind.over.b behind.over.end
    behind.come
    behind.over.works
    alone.legal refl
    (none_stands start (history_of earlier) alone.none) in
    record { counts = counts_each start earlier turns each; asks = asks_each start earlier turns each }
