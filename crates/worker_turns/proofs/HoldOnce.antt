-- A worker that works alone isn't held up twice in a row.
use Rattle.std.proofs.Common.{◌≡◌, ◌≢◌, ◌⊎◌, inl, inr, ◌≤◌, ◌+◌, ◌-◌, ◌*◌, ◌^◌, ◌∷◌, ℕ, suc, max, min, Bool, true, false, List, [], length, Option, Some, None, refl, sym, ap, subst, ◌∙◌, ⊎_elim, arith}
use Rattle.std.specs.Prelude.{◌&&◌}
use Rattle.dl_kinds.specs.declared.claims.Claim.{Claim}
use Rattle.dl_kinds.specs.declared.gid.Gid.{Gid}
use Rattle.dl_kinds.specs.declared.runs.Moment.{Moment}
use Rattle.dl_clock.specs.declared.clock.TheConstants.{LATEST_MOMENT}
use Rattle.dl_history.proofs.Bools.{not_true}
use Rattle.machine_core.specs.RunLegal.{IsLegal, LengthsStay}
use Rattle.machine_core.specs.RunSteps.{AccountsMatchRuns}
use Rattle.machine_core.specs.Starts.{RunStart}
use Rattle.machine_core.specs.declared.events.Event.{Event}
use Rattle.machine_core.specs.declared.offers.Offered.TheVariants as offered
use Rattle.engine_turns.specs.NextRows.{offers_in}
use Rattle.engine_turns.specs.RunTurns.{MayComeAfter, OperationRow, turn_start}
use Rattle.engine_turns.specs.Standings.{standing_after}
use Rattle.engine_turns.specs.Told.{RunTurn, history_of, latest_moment, moment_of_operation}
use Rattle.engine_turns.specs.TurnLaws.{HandedAreActive}
use Rattle.engine_turns.specs.declared.limits.TheConstants.{MAX_ALLOWANCE}
use Rattle.engine_turns.specs.declared.operations.Operation.{Operation}
use Rattle.engine_turns.specs.declared.operations.Operation.TheVariants as operation
use Rattle.engine_turns.specs.declared.operations.Said.{Said}
use Rattle.engine_turns.specs.declared.operations.Said.TheVariants as said
use Rattle.conn_worker.specs.Ends.{end_of_said, moment_behind, pause_of}
use Rattle.conn_worker.specs.Hands.{Fetching, Hand, Nothing, Fetches, Probes, Seals, Probing, WorkerAt, fresh}
use Rattle.conn_worker.specs.Table.{FollowsAnswer, FollowsFetch, due_op, end_behind, end_of_gain, end_of_hand, end_of_probe, fetch_op, probe_op}
use Rattle.conn_worker.specs.Works.{Does, EndsOrGoesOn, Works, turn_moment}
use Rattle.conn_worker.specs.declared.ends.WorkEnd.{WorkEnd}
use Rattle.conn_worker.specs.declared.ends.WorkEnd.TheVariants as end
use Rattle.conn_worker.specs.declared.hands.Gain.{Gain}
use Rattle.conn_worker.specs.declared.hands.Gain.TheVariants.{Lost, Open, Ready, Starved}
use Rattle.conn_worker.specs.declared.hands.ProbeEnd.{ProbeEnd}
use Rattle.conn_worker.specs.declared.hands.ProbeEnd.TheVariants.{Told, Missed, Lacking}
use Rattle.worker_turns.specs.Alone.{LoneWorkersHoldOnce, turns_behind}
use Rattle.worker_turns.specs.TurnBounds.{ComeAfter, HoldsOnce, is_hold}
use Rattle.worker_turns.proofs.Appending.{EndsBy, answered}
use Rattle.worker_turns.proofs.Counting.{no_end}
use Rattle.worker_turns.proofs.Holds.{HeldMore, bar_more, bar_next, deliver_unheld, lose_unheld, more_held, more_small, next_held, next_small, seal_unheld, sized_unheld}
use Rattle.worker_turns.proofs.Lone.{legal_behind, none_stands, or_none, stands_none}
use Rattle.worker_turns.proofs.Standing.{NothingStands, OnlyStands}
use Rattle.worker_turns.proofs.Tracked.{Tracks, turn_tracks}
use Rattle.worker_turns.proofs.Tracking.{FetchStands}

-- ---- moments

gain_moment : (worker : ℕ) (f : Fetching) (now : Moment) (gain : Gain) → moment_of_operation (fetch_op worker f now
    gain) ≡ now.0
gain_moment worker f now (Ready run bytes last) = refl
gain_moment worker f now (Lost loss mark) = refl
gain_moment worker f now Open = refl
gain_moment worker f now Starved = refl

end_moment : (worker claim : ℕ) (now : Moment) (end : ProbeEnd) → moment_of_operation (probe_op worker claim now end) ≡
    now.0
end_moment worker claim now (Told total) = refl
end_moment worker claim now (Missed loss mark) = refl
end_moment worker claim now Lacking = refl

due_moment : (worker : ℕ) (hand : Hand) (now : Moment) → moment_of_operation (due_op worker hand now) ≡ now.0
due_moment worker Nothing now = refl
due_moment worker (Fetches f) now = gain_moment worker f now f.gain
due_moment worker (Probes p) now = end_moment worker p.claim now p.end
due_moment worker (Seals gid sealed) now = refl

behind_more : (n : ℕ) (pause : Option ℕ) → n ≤ 2 ^ 64 - 1 → n ≤ moment_behind n pause
behind_more n None within = omega arith
behind_more n (Some ms) within = omega (arith, within)

pause_few : (n : ℕ) (answer : Said) → ((ms : ℕ) → answer ≡ said.Hold ms → ms ≤ 1000)
    → moment_behind n (pause_of answer) ≤ n + 1000
pause_few n (said.Hold ms) few = (let small = few ms refl in omega (arith, small))
pause_few n said.Idle few = omega arith
pause_few n answer few = omega arith

pub hold_of : (answer : Said) → is_hold answer ≡ true → (ms : ℕ) × (answer ≡ said.Hold ms)
hold_of (said.Hold ms) is = (ms, refl)
hold_of answer is = absurd cc

-- ---- a turn that is held up

module _ (start : RunStart) (worker : ℕ) (tells : Bool) where
  -- a worker with nothing in hand is, or one that asked for more bytes
  record HeldNext (earlier : List RunTurn) (t : RunTurn) (told : ℕ) (a m : WorkerAt) (ms : ℕ) : Type 0 where
    hand_is : a.hand ≡ Nothing
    op_is : t.op ≡ operation.Next worker (turn_moment told a.moment)
    none : t.events ≡ []
    held : offers_in (turn_start start earlier t) (standing_after start earlier) (offered.Held ms)
    left : m.hand ≡ Nothing

  record HeldFetch (earlier : List RunTurn) (t : RunTurn) (told : ℕ) (a m : WorkerAt) (ms : ℕ) : Type 0 where
    f : Fetching
    hand_is : a.hand ≡ Fetches f
    more : HeldMore (turn_start start earlier t) (standing_after start earlier) f.claim t.events ms
    left : m.hand ≡ Fetches f

  module _ (earlier : List RunTurn) (t : RunTurn) (told : ℕ) (a m : WorkerAt) (ms : ℕ) (held : t.answer.said ≡
      said.Hold ms)
      (does : Does tells worker told t a m)
      (row : OperationRow (turn_start start earlier t) (standing_after start earlier) t.op t.events t.answer.said) where
    abbrev IsHeldUp : Type 0
    IsHeldUp = HeldNext earlier t told a m ms ⊎ HeldFetch earlier t told a m ms

    row_as : (due : Operation) → t.op ≡ due
        → OperationRow (turn_start start earlier t) (standing_after start earlier) due t.events t.answer.said
    row_as due is =
        subst (λ (o : Operation). OperationRow (turn_start start earlier t) (standing_after start earlier) o t.events
        t.answer.said)
        is row

    follows_held : (hand : Hand) → a.hand ≡ hand → FollowsAnswer tells hand (said.Hold ms) a.link m.hand m.link
    follows_held hand is =
        subst (λ (s : Said). FollowsAnswer tells hand s a.link m.hand m.link) held
        (subst (λ (h : Hand). FollowsAnswer tells h t.answer.said a.link m.hand m.link) is does.follows)

    fetch_held : (f : Fetching) (gain : Gain) → f.gain ≡ gain → gain ≢ Starved → a.hand ≡ Fetches f
        → t.op ≡ fetch_op worker f (turn_moment told a.moment) gain → IsHeldUp
    fetch_held f (Ready run bytes last) is fed hand due =
        absurd (deliver_unheld (turn_start start earlier t) (standing_after start earlier) f.claim run bytes t.events
        t.answer.said ms held (row_as (operation.Deliver f.claim run bytes (turn_moment told a.moment)) due))
    fetch_held f (Lost loss mark) is fed hand due =
        absurd (lose_unheld (turn_start start earlier t) (standing_after start earlier) f.claim mark t.events
        t.answer.said ms held (row_as (operation.Lose f.claim mark (turn_moment told a.moment)) due))
    fetch_held f Open is fed hand due =
        inr (record {
          f = f;
          hand_is = hand;
          more = more_held (turn_start start earlier t) (standing_after start earlier) f.claim t.events t.answer.said
              ms held
              (row_as (operation.More f.claim MAX_ALLOWANCE (turn_moment told a.moment)) due);
          left = (subst (λ (g : Gain). FollowsFetch tells f g (said.Hold ms) a.link m.hand m.link) is
              (follows_held (Fetches f) hand)).0;
        })
    fetch_held f Starved is fed hand due = absurd (fed refl)

    probe_held : (p : Probing) (end : ProbeEnd) → end ≢ Lacking
        → t.op ≡ probe_op worker p.claim (turn_moment told a.moment) end → ⊥
    probe_held p (Told total) fed due =
        sized_unheld (turn_start start earlier t) (standing_after start earlier) p.claim total t.events t.answer.said
        ms held
        (row_as (operation.Sized p.claim total (turn_moment told a.moment)) due)
    probe_held p (Missed loss mark) fed due =
        lose_unheld (turn_start start earlier t) (standing_after start earlier) p.claim mark t.events t.answer.said ms
        held
        (row_as (operation.Lose p.claim mark (turn_moment told a.moment)) due)
    probe_held p Lacking fed due = fed refl

    held_by : (hand : Hand) → a.hand ≡ hand → end_of_hand hand ≡ None
        → t.op ≡ due_op worker hand (turn_moment told a.moment) → IsHeldUp
    held_by Nothing is fed due =
        let both = next_held (turn_start start earlier t) (standing_after start earlier) worker t.events t.answer.said
        ms held
        (row_as (operation.Next worker (turn_moment told a.moment)) due) in
        inl (record {
          hand_is = is;
          op_is = due;
          none = both.0;
          held = both.1;
          left = (follows_held Nothing is).0;
        })
    held_by (Fetches f) is fed due =
        fetch_held f f.gain refl (λ starved. let no_way : Some end.NoMemory ≡ None = sym (ap end_of_gain starved) ∙ fed
        in cc)
        is due
    held_by (Probes p) is fed due =
        absurd (probe_held p p.end
        (λ starved. let no_way : Some end.NoMemory ≡ None = sym (ap end_of_probe starved) ∙ fed in cc) due)
    held_by (Seals gid sealed) is fed due =
        absurd (seal_unheld (turn_start start earlier t) (standing_after start earlier) gid sealed t.events
        t.answer.said ms
        held (row_as (operation.Seal gid sealed (turn_moment told a.moment)) due))

    held_small : IsHeldUp → ms ≤ 1000
    held_small (inl next) = next_small (turn_start start earlier t) (standing_after start earlier) ms next.held
    held_small (inr fetch) =
        more_small (turn_start start earlier t) (standing_after start earlier) fetch.f.claim t.events ms fetch.more

  row_there : (earlier : List RunTurn) (t : RunTurn) → MayComeAfter start earlier t
      → EndsBy t.answer.said
      ⊎ OperationRow (turn_start start earlier t) (standing_after start earlier) t.op t.events t.answer.said
  row_there earlier t may = answered _ _ t.op t.events t.answer.said _ _ _ may.answered

  held_up : (earlier : List RunTurn) (t : RunTurn) (told : ℕ) (a m : WorkerAt) (ms : ℕ) → t.answer.said ≡ said.Hold ms
      → Does tells worker told t a m → MayComeAfter start earlier t → end_of_hand a.hand ≡ None
      → (HeldNext earlier t told a m ms ⊎ HeldFetch earlier t told a m ms) × (ms ≤ 1000)
  held_up earlier t told a m ms held does may fed =
      let row = ⊎_elim
      (λ ends. absurd (let some : end_of_said (said.Hold ms) ≡ Some ends.0 = ap end_of_said (sym held) ∙ ends.1 in
      let no_way : None ≡ Some ends.0 = some in cc))
      (λ row. row) (row_there earlier t may) in
      let by = held_by earlier t told a m ms held does row a.hand refl fed does.op in
      (by, held_small earlier t told a m ms held does row by)

  -- ---- two turns in a row

  only_of : (past : List Event) (f : Fetching) → NothingStands start past ⊎ FetchStands start past f
      → NothingStands start past ⊎ ((gid : Gid) × (claim : Claim) × OnlyStands start past gid claim)
  only_of past f (inl nothing) = inl nothing
  only_of past f (inr fs) = inr (fs.gid, fs.claim, fs.is.only)

  module _ (matches : AccountsMatchRuns) (active : HandedAreActive) (earlier : List RunTurn) (t t' : RunTurn)
      (told told' : ℕ) (a m m' : WorkerAt) (ms n : ℕ) (held : t.answer.said ≡ said.Hold ms) (does : Does tells worker
      told t a m)
      (does' : Does tells worker told' t' m m') (legal : IsLegal start (history_of earlier))
      (tracks : Tracks tells start (history_of earlier) a.hand a.link) (past : latest_moment earlier ≤ a.moment)
      (room : max told a.moment + 1000 ≤ 2 ^ 64 - 1) (small : ms ≤ 1000) where
    later : (turn_start start earlier t).now.0 + ms ≤ (turn_start start (t ∷ earlier) t').now.0
    later =
        let was : moment_of_operation t.op ≡ max told a.moment =
        ap moment_of_operation does.op ∙ due_moment worker a.hand (turn_moment told a.moment) in
        let now : moment_of_operation t'.op ≡ max told' m.moment =
        ap moment_of_operation does'.op ∙ due_moment worker m.hand (turn_moment told' m.moment) in
        let between : m.moment ≡ min (max told a.moment + ms) (2 ^ 64 - 1) =
        does.moment ∙ ap (λ (s : Said). moment_behind (max told a.moment) (pause_of s)) held in
        omega (arith, was, now, between, past, room, small)

    next_bars : HeldNext earlier t told a m ms → HeldNext (t ∷ earlier) t' told' m m' n → ⊥
    next_bars was now =
        let nothing = subst (λ (h : Hand). Tracks tells start (history_of earlier) h a.link) was.hand_is tracks in
        bar_next start earlier t t' ms held was.none active worker (turn_moment told a.moment) was.op_is matches legal
        (stands_none start (history_of earlier) nothing) n was.held now.held later

    fetch_bars : HeldFetch earlier t told a m ms → HeldFetch (t ∷ earlier) t' told' m m' n → ⊥
    fetch_bars was now =
        let track = subst (λ (h : Hand). Tracks tells start (history_of earlier) h a.link) was.hand_is tracks in
        let both : Fetches now.f ≡ Fetches was.f = sym now.hand_is ∙ was.left in
        let same : now.f ≡ was.f = cc in
        bar_more start earlier t t' ms held was.more.none was.f.claim n was.more
        (subst (λ (f : Fetching). HeldMore (turn_start start (t ∷ earlier) t') (standing_after start (t ∷ earlier))
        f.claim
        t'.events n) same now.more)
        (only_of (history_of earlier) was.f track.stands) later

    bars : HeldNext earlier t told a m ms ⊎ HeldFetch earlier t told a m ms
        → HeldNext (t ∷ earlier) t' told' m m' n ⊎ HeldFetch (t ∷ earlier) t' told' m m' n → ⊥
    bars (inl was) (inl now) = next_bars was now
    bars (inl was) (inr now) = (let no_way : Nothing ≡ Fetches now.f = sym was.left ∙ now.hand_is in cc)
    bars (inr was) (inl now) = (let no_way : Fetches was.f ≡ Nothing = sym was.left ∙ now.hand_is in cc)
    bars (inr was) (inr now) = fetch_bars was now

  -- ---- all turns

  -- the turn that is due won't be held up
  abbrev IsBarred : List RunTurn → WorkerAt → Type 0
  IsBarred earlier a =
      (t : RunTurn) (told : ℕ) (m : WorkerAt) (n : ℕ) → MayComeAfter start earlier t → Does tells worker told t a m
      → t.answer.said ≡ said.Hold n → ⊥

  first_once : (held : Bool) (earlier : List RunTurn) (t : RunTurn) (told : ℕ) (a m : WorkerAt)
      → (held ≡ true → IsBarred earlier a) → MayComeAfter start earlier t → Does tells worker told t a m
      → held && is_hold t.answer.said ≡ false
  first_once false earlier t told a m bar may does = refl
  first_once true earlier t told a m bar may does =
      not_true (is_hold t.answer.said) (λ yes.
      let hold = hold_of t.answer.said yes in bar refl t told m hold.0 may does hold.1)

  -- what is known of the worker, with so many turns to come
  record IsTimely (earlier : List RunTurn) (a : WorkerAt) (turns : ℕ) : Type 0 where
    fed : end_of_hand a.hand ≡ None
    tracks : Tracks tells start (history_of earlier) a.hand a.link
    past : latest_moment earlier ≤ a.moment
    room : a.moment + 1000 * turns ≤ 2 ^ 63
    clock_room : LATEST_MOMENT + 1000 * turns ≤ 2 ^ 63

  module _ (stay : LengthsStay) (matches : AccountsMatchRuns) (active : HandedAreActive) where
    timely_on : (earlier : List RunTurn) (t : RunTurn) (told : ℕ) (a m : WorkerAt) (turns : ℕ) → None ≡ end_behind
        t.answer.said m.hand
        → MayComeAfter start earlier t → Does tells worker told t a m → IsLegal start (history_of (t ∷ earlier))
        → IsTimely earlier a (suc turns) → IsTimely (t ∷ earlier) m turns
    timely_on earlier t told a m turns none may does legal timely =
        let on = no_end t.answer.said m.hand none in
        let was : moment_of_operation t.op ≡ max told a.moment =
        ap moment_of_operation does.op ∙ due_moment worker a.hand (turn_moment told a.moment) in
        let past = timely.past in
        let room = timely.room in
        let clock_room = timely.clock_room in
        let told_is = does.told_is in
        let between = does.moment in
        let more = behind_more (max told a.moment) (pause_of t.answer.said) (omega (arith, room, clock_room, told_is))
        in
        let few = pause_few (max told a.moment) t.answer.said
        (λ ms held. (held_up earlier t told a m ms held does may timely.fed).1) in
        record {
          fed = or_none (end_of_said t.answer.said) (end_of_hand m.hand) none;
          tracks = turn_tracks tells (turn_start start earlier t) (standing_after start earlier) t.answer.said t.events
              m.hand m.link on legal stay worker (turn_moment told a.moment) t.op
              (⊎_elim (λ ends. absurd (on ends)) (λ row. row) (row_there earlier t may)) a.link a.hand timely.fed
              does.op
              does.follows timely.tracks;
          past = omega (arith, was, past, between, more);
          room = omega (arith, room, clock_room, told_is, between, few);
          clock_room = omega (arith, clock_room);
        }

    -- a turn that is held up bars the next one
    barred : (earlier : List RunTurn) (t : RunTurn) (told : ℕ) (a m : WorkerAt) (turns : ℕ)
        → None ≡ end_behind t.answer.said m.hand → MayComeAfter start earlier t → Does tells worker told t a m
        → IsLegal start (history_of earlier) → IsTimely earlier a (suc turns) → is_hold t.answer.said ≡ true
        → IsBarred (t ∷ earlier) m
    barred earlier t told a m turns none may does legal timely holds = λ t' told' m' n may' does' held'.
        let hold = hold_of t.answer.said holds in
        let fed = or_none (end_of_said t.answer.said) (end_of_hand m.hand) none in
        let was = held_up earlier t told a m hold.0 hold.1 does may timely.fed in
        let now = held_up (t ∷ earlier) t' told' m m' n held' does' may' fed in
        let room = timely.room in
        let clock_room = timely.clock_room in
        let told_is = does.told_is in
        bars matches active earlier t t' told told' a m m' hold.0 n hold.1 does does' legal timely.tracks timely.past
        (omega (arith, room, clock_room, told_is)) was.1 was.0 now.0

    holds_behind : (ts earlier : List RunTurn) (t : RunTurn) (told : ℕ) (a m b : WorkerAt) (end by : Option WorkEnd)
        → by ≡ end_behind t.answer.said m.hand → MayComeAfter start earlier t → Does tells worker told t a m
        → IsLegal start (history_of (t ∷ earlier)) → IsLegal start (history_of earlier)
        → IsTimely earlier a (suc (length ts))
        → (IsTimely (t ∷ earlier) m (length ts) → (is_hold t.answer.said ≡ true → IsBarred (t ∷ earlier) m)
        → Works tells worker ts m b end → HoldsOnce (is_hold t.answer.said) ts)
        → EndsOrGoesOn by ((ts ≡ []) × (b ≡ m) × (end ≡ by)) (Works tells worker ts m b end)
        → HoldsOnce (is_hold t.answer.said) ts
    holds_behind ts earlier t told a m b end (Some by) is may does legal before timely goes ended =
        subst (λ (us : List RunTurn). HoldsOnce (is_hold t.answer.said) us) (sym ended.0) tt
    holds_behind ts earlier t told a m b end None is may does legal before timely goes works =
        goes (timely_on earlier t told a m (length ts) is may does legal timely)
        (barred earlier t told a m (length ts) is may does before timely) works

    holds_once : (ts earlier : List RunTurn) (held : Bool) (a b : WorkerAt) (end : Option WorkEnd)
        → ComeAfter start earlier ts → Works tells worker ts a b end
        → IsLegal start (history_of (turns_behind ts earlier)) → IsTimely earlier a (length ts)
        → (held ≡ true → IsBarred earlier a) → HoldsOnce held ts
    holds_once [] earlier held a b end come works legal timely bar = tt
    holds_once (t ∷ ts) earlier held a b end come works legal timely bar = (
      first_once held earlier t works.0 a works.1 bar come.0 works.2,
      holds_behind ts earlier t works.0 a works.1 b end (end_behind t.answer.said works.1.hand) refl come.0 works.2
          (legal_behind start ts (t ∷ earlier) legal) (legal_behind start (t ∷ ts) earlier legal) timely
          (λ now bar_now rest. holds_once ts (t ∷ earlier) (is_hold t.answer.said) works.1 b end come.1 rest legal now
          bar_now) works.3,
    )

pub lone_workers_hold_once : LengthsStay → AccountsMatchRuns → HandedAreActive → LoneWorkersHoldOnce
lone_workers_hold_once stay matches active start earlier worker turns link now behind alone early =
    let first = early.early in let few = early.few in
    holds_once start worker behind.over.tells stay matches active turns earlier false (fresh link) behind.over.b
    behind.over.end behind.come
    behind.over.works
    alone.legal
    (record {
      fed = refl;
      tracks = none_stands start (history_of earlier) alone.none;
      past = omega (arith, first);
      room = omega (arith, few);
      clock_room = omega (arith, few);
    })
    (λ yes. absurd (let no_way : false ≡ true = yes in cc))
