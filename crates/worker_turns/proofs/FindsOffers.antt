-- The worker of a run over one link finds something to do in all of its turns.
use Rattle.std.proofs.Common.{◌≡◌, inl, inr, ◌∷◌, ◌++◌, ◌∙◌, ℕ, Bool, true, List, [], Option, Some, None, refl, sym, ap, subst}
use Rattle.dl_disk.specs.State.{DiskState}
use Rattle.dl_kinds.specs.declared.runs.Moment.{Moment}
use Rattle.engine_turns.specs.RunTurns.{MayComeAfter}
use Rattle.engine_turns.specs.Told.{AllTurns, RunTurn, history_of}
use Rattle.machine_core.specs.RunLegal.{IsLegal}
use Rattle.machine_core.specs.Starts.{RunStart}
use Rattle.offered_work.specs.WorkedTurns.{ActiveHaveOffers, IsWorkedBehind, IsWorkedRun, IsWorkedTurn, is_call, is_of_worker}
use Rattle.conn_worker.specs.Hands.{Fetching, Hand, Nothing, Fetches, Probes, Seals, WorkerAt, fresh}
use Rattle.conn_worker.specs.Ends.{end_of_said}
use Rattle.conn_worker.specs.Table.{due_op, end_behind, fetch_op, probe_op}
use Rattle.conn_worker.specs.Works.{Does, EndsOrGoesOn, Works, turn_moment}
use Rattle.conn_worker.specs.declared.ends.WorkEnd.{WorkEnd}
use Rattle.conn_worker.specs.declared.ends.WorkEnd.TheVariants as work_end
use Rattle.conn_worker.specs.declared.hands.Gain.{Gain}
use Rattle.conn_worker.specs.declared.hands.Gain.TheVariants.{Lost, Open, Ready, Starved}
use Rattle.conn_worker.specs.declared.hands.ProbeEnd.{ProbeEnd}
use Rattle.conn_worker.specs.declared.hands.ProbeEnd.TheVariants.{Told, Missed, Lacking}
use Rattle.worker_turns.specs.Alone.{turns_behind}
use Rattle.worker_turns.specs.Leisure.{IsWorkable, LeisureIsActive, SoloRunsFindOffers, SoloTurnsAreFew}
use Rattle.worker_turns.specs.Offering.{AlwaysOffers, SoloRunsAreBusy, TurnsFindOffers}
use Rattle.worker_turns.specs.Reads.{IsFirstCall, SoloTurnsAreBounded}
use Rattle.worker_turns.specs.TurnBounds.{ComeAfter, EachBehind}
use Rattle.worker_turns.proofs.Counting.{no_end}
use Rattle.worker_turns.proofs.Lone.{legal_behind}
use Rattle.worker_turns.proofs.Solo.{all_behind, behind_append, come_behind}

-- ---- a worker's turns

fetch_works : (worker : ℕ) (f : Fetching) (now : Moment) (gain : Gain)
    → is_of_worker (fetch_op worker f now gain) ≡ true
fetch_works worker f now (Ready run bytes last) = refl
fetch_works worker f now (Lost loss mark) = refl
fetch_works worker f now Open = refl
fetch_works worker f now Starved = refl

probe_works : (worker claim : ℕ) (now : Moment) (end : ProbeEnd) → is_of_worker (probe_op worker claim now end) ≡ true
probe_works worker claim now (Told total) = refl
probe_works worker claim now (Missed loss mark) = refl
probe_works worker claim now Lacking = refl

due_works : (worker : ℕ) (hand : Hand) (now : Moment) → is_of_worker (due_op worker hand now) ≡ true
due_works worker Nothing now = refl
due_works worker (Fetches f) now = fetch_works worker f now f.gain
due_works worker (Probes p) now = probe_works worker p.claim now p.end
due_works worker (Seals gid sealed) now = refl

first_works : (earlier : List RunTurn) → IsFirstCall earlier → AllTurns IsWorkedBehind earlier
first_works earlier (inl none) = subst (λ (told : List RunTurn). AllTurns IsWorkedBehind told) (sym none) tt
first_works earlier (inr first) =
    subst (λ (told : List RunTurn). AllTurns IsWorkedBehind told) (sym first.2)
    (inr (refl, ap is_call first.3), tt)

-- ---- all turns

module _ (offers : ActiveHaveOffers) (active : LeisureIsActive) (start : RunStart) (doorless : start.doors ≡ 0) where
  finds_here : (earlier : List RunTurn) → IsWorkedRun start earlier → IsWorkable start (history_of earlier)
      → AlwaysOffers start (history_of earlier)
  finds_here earlier worked may leisure now never =
      let some = active start (history_of earlier) doorless may.room leisure in
      offers start earlier worked (record { none = leisure.none; opened = leisure.opened }) may.fetched some.0 some.1
      now (λ offer is. never some.0 some.1 offer is)

  module _ (tells : Bool) (worker : ℕ) where
    finds_behind : (ts earlier : List RunTurn) (t : RunTurn) (told : ℕ) (a m b : WorkerAt) (end by : Option WorkEnd)
        → by ≡ end_behind t.answer.said m.hand → Does tells worker told t a m
        → (IsWorkedTurn t → Works tells worker ts m b end → TurnsFindOffers start (t ∷ earlier) ts)
        → EndsOrGoesOn by ((ts ≡ []) × (b ≡ m) × (end ≡ by)) (Works tells worker ts m b end)
        → TurnsFindOffers start (t ∷ earlier) ts
    finds_behind ts earlier t told a m b end (Some by) is does goes ended =
        subst (λ (us : List RunTurn). TurnsFindOffers start (t ∷ earlier) us) (sym ended.0) tt
    finds_behind ts earlier t told a m b end None is does goes works =
        goes (record {
          op = ap is_of_worker does.op ∙ due_works worker a.hand (turn_moment told a.moment);
          fed = λ starved. no_end t.answer.said m.hand is (work_end.NoMemory, ap end_of_said starved);
        }) works

    finds_on : (ts earlier : List RunTurn) (a b : WorkerAt) (end : Option WorkEnd) → ComeAfter start earlier ts
        → Works tells worker ts a b end → IsLegal start (history_of (turns_behind ts earlier))
        → AllTurns (MayComeAfter start) earlier → AllTurns IsWorkedBehind earlier
        → EachBehind (λ before t. IsWorkable start (history_of before)) earlier ts
        → TurnsFindOffers start earlier ts
    finds_on [] earlier a b end come works legal ties worked may = tt
    finds_on (t ∷ ts) earlier a b end come works legal ties worked may = (
      finds_here earlier
          (record { legal = legal_behind start (t ∷ ts) earlier legal; ties = ties; worked = worked }) may.0,
      finds_behind ts earlier t works.0 a works.1 b end (end_behind t.answer.said works.1.hand) refl works.2
          (λ its rest. finds_on ts (t ∷ earlier) works.1 b end come.1 rest legal (come.0, ties) (inl its, worked) may.1)
          works.3,
    )

pub solo_finds : ActiveHaveOffers → LeisureIsActive → {D : Type 0} (state : D → DiskState) → SoloRunsFindOffers state
solo_finds offers active state start earlier worker turns later link now disk solo may =
    let over = solo.over in
    let ties = all_behind (MayComeAfter start) (turns ++ later) earlier solo.run.ties in
    let legal = legal_behind start later (turns_behind turns earlier)
    (subst (λ (told : List RunTurn). IsLegal start (history_of told)) (behind_append turns later earlier)
    solo.run.legal) in
    finds_on offers active start may.doorless over.tells worker turns earlier (fresh link) over.b over.end
    (come_behind start turns later earlier solo.run.ties) over.works legal ties (first_works earlier solo.first)
    may.each

pub solo_turns_few : {D : Type 0} (state : D → DiskState) → SoloRunsFindOffers state → SoloRunsAreBusy state
    → SoloTurnsAreBounded state → SoloTurnsAreFew state
solo_turns_few state finds busy bounded start earlier worker turns later link now disk solo may =
    bounded start earlier worker turns later link now disk solo
    ((busy start earlier worker turns later link now disk solo).busy
    (finds start earlier worker turns later link now disk solo may))
