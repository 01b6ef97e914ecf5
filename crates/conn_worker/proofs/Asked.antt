-- The clock is asked once for each turn.
use Rattle.std.proofs.Common.{◌≡◌, ℕ, max, Bool, List, [], ◌∷◌, ◌++◌, refl, sym, ap, subst, ◌∙◌}
use Rattle.dl_clock.specs.declared.clock.Clock.{Ghosts as ClockSays}
use Rattle.dl_kinds.specs.declared.runs.Moment.{Moment}
use Rattle.engine_turns.specs.Told.{RunTurn, moment_of_operation}
use Rattle.conn_worker.specs.Clocks.{ClockAt, ReadsClockFor, ReadsClockForEach, ReadsClockOnce, clock_at}
use Rattle.conn_worker.specs.Ends.{moment_behind, pause_of}
use Rattle.conn_worker.specs.Hands.{Fetching, Hand, Nothing, Fetches, Probes, Seals, LinkAt, WorkerAt}
use Rattle.conn_worker.specs.Holding.{StandsAs}
use Rattle.conn_worker.specs.Table.{due_op, fetch_op, probe_op}
use Rattle.conn_worker.specs.Works.{Does}
use Rattle.conn_worker.specs.declared.hands.Gain.{Gain}
use Rattle.conn_worker.specs.declared.hands.Gain.TheVariants.{Ready, Lost, Open, Starved}
use Rattle.conn_worker.specs.declared.hands.ProbeEnd.{ProbeEnd}
use Rattle.conn_worker.specs.declared.hands.ProbeEnd.TheVariants.{Told, Missed, Lacking}
use Rattle.conn_worker.specs.declared.state.WorkState.{WorkState}

-- ---- a turn is of the moment by which it is due

fetch_moment : (worker : ℕ) (f : Fetching) (now : Moment) (gain : Gain)
    → moment_of_operation (fetch_op worker f now gain) ≡ now.0
fetch_moment worker f now (Ready run bytes last) = refl
fetch_moment worker f now (Lost loss mark) = refl
fetch_moment worker f now Open = refl
fetch_moment worker f now Starved = refl

probe_moment : (worker claim : ℕ) (now : Moment) (end : ProbeEnd)
    → moment_of_operation (probe_op worker claim now end) ≡ now.0
probe_moment worker claim now (Told total) = refl
probe_moment worker claim now (Missed loss mark) = refl
probe_moment worker claim now Lacking = refl

due_moment : (worker : ℕ) (hand : Hand) (now : Moment) → moment_of_operation (due_op worker hand now) ≡ now.0
due_moment worker Nothing now = refl
due_moment worker (Fetches f) now = fetch_moment worker f now f.gain
due_moment worker (Probes p) now = probe_moment worker p.claim now p.end
due_moment worker (Seals gid sealed) now = refl

-- ---- one turn

pub asked_for : {K : Type 0} → (says : ClockSays K) (tells : Bool) (worker told : ℕ) (t : RunTurn) (old new : WorkState)
    (link link' : LinkAt) (a b : WorkerAt) (from to : K) → Does tells worker told t a b → StandsAs tells old link a
    → StandsAs tells new link' b → ReadsClockOnce says from told (pause_of t.answer.said) to
    → ReadsClockFor says told t (clock_at old.moment.0 from) (clock_at new.moment.0 to)
asked_for says tells worker told t old new link link' a b from to does was is asked =
    let moment : max told a.moment ≡ max told old.moment.0 = ap (λ (n : ℕ). max told n) was.moment_is in record {
      asked = asked;
      moment_is = ap moment_of_operation does.op ∙ (due_moment worker a.hand _ ∙ moment);
      moment = sym is.moment_is
          ∙ (does.moment ∙ ap (λ (n : ℕ). moment_behind n (pause_of t.answer.said)) moment);
    }

-- ---- one turn more

pub asked_more : {K : Type 0} → (says : ClockSays K) (ts : List RunTurn) (t : RunTurn) (told : ℕ) (a b c : ClockAt K)
    → ReadsClockForEach says ts a b → ReadsClockFor says told t b c → ReadsClockForEach says (ts ++ t ∷ []) a c
asked_more {K} says [] t told a b c asked more =
    (told, c, subst (λ (at : ClockAt K). ReadsClockFor says told t at c) asked more, refl)
asked_more {K} says (u ∷ ts) t told a b c asked more =
    (asked.0, asked.1, asked.2, asked_more says ts t told asked.1 b c asked.3 more)
