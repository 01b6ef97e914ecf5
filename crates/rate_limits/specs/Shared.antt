-- What the buckets of a run hold, and what its calls make of that. A download's bucket has its place in the order of adding.
use Rattle.std.specs.Prelude.{◌==◌, ℕ, min, max, if◌then◌else◌, List, slice_index_or, slice_set}
use Rattle.rate_tokens.specs.Calls.{BucketCall, Taken}
use Rattle.rate_tokens.specs.Level.{Level, credit_in, full_level, level_by, wait_in}
use Rattle.rate_tokens.specs.declared.bucket.Take.{Take}
use Rattle.rate_tokens.specs.declared.bucket.Take.TheVariants.{Go, Hold}

pub record RunLevels : Type 0 where
  pub overall : Level
  pub own : List Level  -- one for each download, in the order of adding
  pub room : ℕ  -- for so many more

-- the level of a download's bucket
abbrev pub own_level : RunLevels → ℕ → Level
own_level levels place = slice_index_or levels.own place (full_level 0 0)

-- the lesser credit decides ..
abbrev pub lesser_credit : RunLevels → ℕ → ℕ → ℕ
lesser_credit levels place now = min (credit_in levels.overall now) (credit_in (own_level levels place) now)

-- .. and the longer wait
abbrev pub longer_wait : RunLevels → ℕ → ℕ → ℕ
longer_wait levels place now = max (wait_in levels.overall now) (wait_in (own_level levels place) now)

-- a call of the overall bucket
abbrev pub overall_by : BucketCall → RunLevels → RunLevels
overall_by call levels = record levels { overall = level_by call levels.overall }

-- a call of a download's
abbrev pub own_by : ℕ → BucketCall → RunLevels → RunLevels
own_by place call levels =
    record levels { own = slice_set levels.own place (level_by call (own_level levels place)) }

-- as many of the wanted bytes as both have credit for and, where these are none, how long until both have
abbrev pub shared_answer : RunLevels → ℕ → ℕ → ℕ → Take
shared_answer levels place want now =
    let bytes = min want (lesser_credit levels place now) in
    if bytes == 0 then Hold (longer_wait levels place now) else Go bytes

-- both buckets let these bytes go, and neither where it holds
abbrev pub levels_taken : ℕ → ℕ → Take → RunLevels → RunLevels
levels_taken place now (Hold wait) levels = levels
levels_taken place now (Go bytes) levels = own_by place (Taken bytes now) (overall_by (Taken bytes now) levels)
