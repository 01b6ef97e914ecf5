-- The buckets of a run from one turn to the next.
use Rattle.std.specs.Prelude.{◌≡◌, ◌<◌, ℕ, Bool, true, false, Option, Some, List, [], ◌∷◌, ◌++◌, if◌then◌else◌, length, map, nat_lt, slice_get, slice_index_or, slice_set}
use Rattle.machine_core.specs.Starts.{Download, RunStart}
use Rattle.machine_core.specs.declared.calls.Call.{Call}
use Rattle.machine_core.specs.declared.calls.Call.TheVariants as call
use Rattle.machine_core.specs.declared.events.Event.{Event}
use Rattle.rate_limits.specs.Shared.{RunLevels, own_level}
use Rattle.rate_tokens.specs.Level.{Level, full_level}
use Rattle.engine_turns.specs.Levels.{Spending, downloads_of, level_on, overall_rate, own_rate, own_spending, with_new_rate}

-- each bucket has the rate that the options give
pub record HasRates (start : RunStart) (past : List Event) (levels : RunLevels) : Type 0 where
  pub many : length levels.own ≡ length (downloads_of start past)
  pub overall : levels.overall.rate ≡ overall_rate start past
  pub own : (place : ℕ) (download : Download) → slice_get (downloads_of start past) place ≡ Some download
      → (own_level levels place).rate ≡ own_rate start past download

-- from one history to another: those of downloads that were there go on, and a download that comes has a full one
abbrev pub own_levels_on : RunStart → (past after : List Event) → Option Spending → ℕ → List Download → List Level
    → List Level
own_levels_on start past after spent now [] levels = []
own_levels_on start past after spent now (d ∷ ds) [] =
    full_level (own_rate start after d) now ∷ own_levels_on start past after spent now ds []
own_levels_on start past after spent now (d ∷ ds) (level ∷ levels) =
    level_on (own_spending d.gid spent) (own_rate start past d) (own_rate start after d) now level
    ∷ own_levels_on start past after spent now ds levels

pub record LevelsGoOn (start : RunStart) (past after : List Event) (spent : Option Spending) (now : ℕ)
    (old new : RunLevels) : Type 0 where
  pub overall : new.overall ≡ level_on spent (overall_rate start past) (overall_rate start after) now old.overall
  pub own : new.own ≡ own_levels_on start past after spent now (downloads_of start after) old.own

-- the buckets that are there have the rates of these downloads
abbrev pub HaveRates : RunStart → List Event → List Download → List Level → Type 0
HaveRates start past ds levels = (place : ℕ) (d : Download) → slice_get ds place ≡ Some d → place < length levels
    → (slice_index_or levels place (full_level 0 0)).rate ≡ own_rate start past d

-- ---- once the options changed

-- a call that changes the options of a download
abbrev pub changes_options : Call → Bool
changes_options (call.ChangeOption key options) = true
changes_options other = false

-- a bucket takes the rate, unless it has it
abbrev pub followed : (rate now : ℕ) → Level → Level
followed rate now level = with_new_rate level.rate rate now level

-- each takes its own, in order, and those that come are full
abbrev pub all_followed : (rates : List ℕ) → ℕ → List Level → List Level
all_followed [] now levels = levels
all_followed (rate ∷ rates) now [] = full_level rate now ∷ all_followed rates now []
all_followed (rate ∷ rates) now (level ∷ levels) = followed rate now level ∷ all_followed rates now levels

-- the one at a place takes the rate, and the next one is full
abbrev pub followed_at : (place rate now : ℕ) → List Level → List Level
followed_at place rate now levels =
    if nat_lt place (length levels)
    then slice_set levels place (followed rate now (slice_index_or levels place (full_level 0 0)))
    else levels ++ full_level rate now ∷ []

-- the rates that the options of the downloads give
abbrev pub own_rates : RunStart → List Event → List ℕ
own_rates start past = map (own_rate start past) (downloads_of start past)

pub record FollowOptions (start : RunStart) (past : List Event) (now : ℕ) (old new : RunLevels) : Type 0 where
  pub overall : new.overall ≡ followed (overall_rate start past) now old.overall
  pub own : new.own ≡ all_followed (own_rates start past) now old.own
