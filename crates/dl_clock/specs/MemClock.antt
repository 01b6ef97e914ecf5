-- A clock in memory.
use Rattle.std.specs.Prelude.{ℕ, ◌+◌, min}
use Rattle.dl_clock.specs.declared.clock.TheConstants.{LATEST_MOMENT}

-- The moment that it tells next, and how far it goes on each time it is asked.
pub record ClockState : Type 0 where
  pub moment : ℕ
  pub step : ℕ

-- .. so many milliseconds later, up to the latest moment
abbrev pub gone_on : ClockState → ℕ → ClockState
gone_on clock ms = record clock { moment = min (clock.moment + ms) LATEST_MOMENT }
