-- What a token bucket holds and lets go, over the list of its calls with the newest first. Moments are in milliseconds
-- and rates in bytes a second. Credit is in thousandths of a byte, of which a millisecond adds as many as the rate.
use Rattle.std.specs.Prelude.{◌==◌, ℕ, ◌+◌, ◌-◌, ◌*◌, ◌/◌, ◌^◌, min, max, if◌then◌else◌, List, [], ◌∷◌}
use Rattle.std.specs.Int.{div_ceil}
use Rattle.rate_tokens.specs.declared.bucket.Take.{Take}
use Rattle.rate_tokens.specs.declared.bucket.Take.TheVariants.{Go, Hold}

-- a call that changes a bucket, with its moment: a take of at most so many bytes, or a new rate
pub data BucketCall : Type 0 where
  Taken : (want now : ℕ) → BucketCall
  RateSet : (rate now : ℕ) → BucketCall

abbrev pub moment_of : BucketCall → ℕ
moment_of (Taken want now) = now
moment_of (RateSet rate now) = now

-- the most that a bucket holds
abbrev pub capacity_of : ℕ → ℕ
capacity_of rate = 1000 * max rate 16384

-- what it holds once so many milliseconds have passed
abbrev pub refilled : ℕ → ℕ → ℕ → ℕ
refilled rate held passed = min (capacity_of rate) (held + rate * passed)

-- its credit in whole bytes. A rate of 0 limits nothing
abbrev pub credit_of : ℕ → ℕ → ℕ
credit_of rate held = if rate == 0 then 2 ^ 64 - 1 else held / 1000

-- what it answers to a take: as many of the wanted bytes as it has credit for or, where these are none, in how many
-- milliseconds it has a byte
abbrev pub answer_of : ℕ → ℕ → ℕ → Take
answer_of rate held want =
    let bytes = min want (credit_of rate held) in
    if bytes == 0 then Hold (div_ceil (1000 - held) rate) else Go bytes

-- the bytes that an answer lets go
abbrev pub granted_bytes : Take → ℕ
granted_bytes (Go bytes) = bytes
granted_bytes (Hold milliseconds) = 0

-- what a call leaves of what was held at its moment. A new rate adds nothing, but a limit where there was none starts full
abbrev pub left_by : BucketCall → ℕ → ℕ → ℕ
left_by (Taken want now) rate held = if rate == 0 then held else held - 1000 * granted_bytes (answer_of rate held want)
left_by (RateSet new now) rate held = if rate == 0 then capacity_of new else min (capacity_of new) held

-- The calls are those of a bucket that was made with the rate `first` at the moment `begun`. Its rate after them: the last
-- one that was set
abbrev pub rate_after : ℕ → List BucketCall → ℕ
rate_after first [] = first
rate_after first (Taken want now ∷ earlier) = rate_after first earlier
rate_after first (RateSet rate now ∷ earlier) = rate

-- the moment that it has come to: a call with an earlier moment counts as at this one
abbrev pub moment_after : ℕ → List BucketCall → ℕ
moment_after begun [] = begun
moment_after begun (call ∷ earlier) = max (moment_after begun earlier) (moment_of call)

-- what it holds after them: a new bucket is full
abbrev pub held_after : ℕ → ℕ → List BucketCall → ℕ
held_after first begun [] = capacity_of first
held_after first begun (call ∷ earlier) =
    let rate = rate_after first earlier in
    left_by call rate (refilled rate (held_after first begun earlier) (moment_of call - moment_after begun earlier))

-- what it holds at a moment after them
abbrev pub held_at : ℕ → ℕ → List BucketCall → ℕ → ℕ
held_at first begun calls now =
    refilled (rate_after first calls) (held_after first begun calls) (now - moment_after begun calls)

-- its credit then, in whole bytes
abbrev pub credit_at : ℕ → ℕ → List BucketCall → ℕ → ℕ
credit_at first begun calls now = credit_of (rate_after first calls) (held_at first begun calls now)

-- what it answers to a take then
abbrev pub answer_at : ℕ → ℕ → List BucketCall → ℕ → ℕ → Take
answer_at first begun calls want now = answer_of (rate_after first calls) (held_at first begun calls now) want

-- none may go
abbrev pub IsHold : Take → Type 0
IsHold (Go bytes) = ⊥
IsHold (Hold milliseconds) = Unit {0}

-- this holds of the bytes that may go
abbrev pub IfGo : Take → (ℕ → Type 0) → Type 0
IfGo (Go bytes) P = P bytes
IfGo (Hold milliseconds) P = Unit {0}

-- this holds of the time to wait
abbrev pub IfHold : Take → (ℕ → Type 0) → Type 0
IfHold (Go bytes) P = Unit {0}
IfHold (Hold milliseconds) P = P milliseconds
