-- What contracts see of a bucket, and what its calls make of that.
use Rattle.std.specs.Prelude.{◌≡◌, ℕ, ◌-◌, ◌==◌, ◌^◌, ◌<◌, ◌≤◌, max, if◌then◌else◌, List, [], ◌∷◌}
use Rattle.std.specs.Int.{div_ceil}
use Rattle.rate_tokens.specs.declared.bucket.Take.{Take}
use Rattle.rate_tokens.specs.Calls.{BucketCall, capacity_of, refilled, credit_of, answer_of, left_by, moment_of, rate_after, moment_after, held_after, credit_at, answer_at}

-- its rate, the moment that it has come to, and the thousandths of a byte that it holds
pub record Level : Type 0 where
  pub rate : ℕ
  pub moment : ℕ
  pub held : ℕ

-- what a bucket may hold at its rate
pub record IsLevel (rate held : ℕ) : Type 0 where
  pub few : rate < 2 ^ 32
  pub within : held ≤ capacity_of rate

-- a new bucket is full
abbrev pub full_level : ℕ → ℕ → Level
full_level rate now = record { rate = rate; moment = now; held = capacity_of rate }

-- what it holds at a moment
abbrev pub held_in : Level → ℕ → ℕ
held_in level now = refilled level.rate level.held (now - level.moment)

-- its credit then, in whole bytes
abbrev pub credit_in : Level → ℕ → ℕ
credit_in level now = credit_of level.rate (held_in level now)

-- in how many milliseconds it has a byte: in none, where it has one
abbrev pub wait_in : Level → ℕ → ℕ
wait_in level now = if credit_in level now == 0 then div_ceil (1000 - held_in level now) level.rate else 0

-- what it answers to a take then
abbrev pub answer_in : Level → ℕ → ℕ → Take
answer_in level want now = answer_of level.rate (held_in level now) want

-- the rate that a call leaves
abbrev pub rate_by : BucketCall → ℕ → ℕ
rate_by call rate = rate_after rate (call ∷ [])

-- what a call leaves of it
abbrev pub level_by : BucketCall → Level → Level
level_by call level =
    record {
      rate = rate_by call level.rate;
      moment = max level.moment (moment_of call);
      held = left_by call level.rate (held_in level (moment_of call));
    }

-- ---- over a list of calls, the newest first

-- a bucket that was made with the rate `first` at the moment `begun`, after these calls
abbrev pub level_after : ℕ → ℕ → List BucketCall → Level
level_after first begun [] = full_level first begun
level_after first begun (call ∷ earlier) = level_by call (level_after first begun earlier)

-- what is told by the list of calls is what is told by the level
pub record LevelTells (first begun : ℕ) (calls : List BucketCall) (level : Level) : Type 0 where
  pub rate : level.rate ≡ rate_after first calls
  pub moment : level.moment ≡ moment_after begun calls
  pub held : level.held ≡ held_after first begun calls
  pub credit : (now : ℕ) → credit_in level now ≡ credit_at first begun calls now
  pub answer : (want now : ℕ) → answer_in level want now ≡ answer_at first begun calls want now

abbrev pub LevelsFollowCalls : Type 0
LevelsFollowCalls = (first begun : ℕ) (calls : List BucketCall) → LevelTells first begun calls (level_after first begun calls)
