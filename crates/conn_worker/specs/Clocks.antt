-- How the clock of a worker is asked: once for each turn.
use Rattle.std.specs.Prelude.{◌≡◌, ℕ, max, List, [], ◌∷◌, Option, Some, None}
use Rattle.dl_clock.specs.declared.clock.Clock.{Ghosts as ClockSays}
use Rattle.engine_turns.specs.Told.{RunTurn, moment_of_operation}
use Rattle.conn_worker.specs.Ends.{moment_behind, pause_of}

abbrev pub PausesBy : {K : Type 0} → ClockSays K → K → Option ℕ → K → Type 0
PausesBy {K} says old None new = new ≡ old
PausesBy {K} says old (Some ms) new = says.pauses old ms new

-- it was asked once, and then paused so long
abbrev pub ReadsClockOnce : {K : Type 0} → ClockSays K → K → ℕ → Option ℕ → K → Type 0
ReadsClockOnce {K} says old told pause new = (asked : K) × says.reads old told asked × PausesBy says asked pause new

-- a clock, and the moment of the worker that asks it
pub record ClockAt (K : Type 0) : Type 0 where
  pub moment : ℕ
  pub clock : K

abbrev pub clock_at : {K : Type 0} → ℕ → K → ClockAt K
clock_at {K} moment clock = record { moment = moment; clock = clock }

module _ {K : Type 0} (says : ClockSays K) where
  -- The clock was asked once for this turn, and then paused as its answer asks. The turn's moment is what was told, or the
  -- worker's own where that is later, and the worker's goes on from there by the pause.
  pub record ReadsClockFor (told : ℕ) (t : RunTurn) (a b : ClockAt K) : Type 0 where
    pub asked : ReadsClockOnce says a.clock told (pause_of t.answer.said) b.clock
    pub moment_is : moment_of_operation t.op ≡ max told a.moment
    pub moment : b.moment ≡ moment_behind (max told a.moment) (pause_of t.answer.said)

  -- it was asked so for each of these turns, in order, and for nothing else
  abbrev pub ReadsClockForEach : List RunTurn → ClockAt K → ClockAt K → Type 0
  ReadsClockForEach [] a b = b ≡ a
  ReadsClockForEach (t ∷ ts) a b =
      (told : ℕ) × (m : ClockAt K) × ReadsClockFor told t a m × ReadsClockForEach ts m b
