-- How much a bucket lets go in a time, and when it lets go again.
use Rattle.std.specs.Prelude.{◌≡◌, ℕ, ◌+◌, ◌*◌, ◌-◌, ◌/◌, ◌<◌, ◌≤◌, ◌&&◌, nat_le, max, if◌then◌else◌, List, [], ◌∷◌, ◌++◌, All}
use Rattle.rate_tokens.specs.declared.bucket.Take.TheVariants.{Hold}
use Rattle.rate_tokens.specs.Calls.{BucketCall, Taken, RateSet, granted_bytes, rate_after, moment_after, held_at, answer_at, credit_at}

-- the bytes that a call lets go after the earlier ones
abbrev pub gone_by : ℕ → ℕ → BucketCall → List BucketCall → ℕ
gone_by first begun (Taken want now) earlier = granted_bytes (answer_at first begun earlier want now)
gone_by first begun (RateSet rate now) earlier = 0

-- the bytes that the calls of `stretch`, which come after those `before`, let go from moment u to moment v. A call counts
-- at the moment that the bucket has come to with it
abbrev pub gone_between : ℕ → ℕ → List BucketCall → List BucketCall → ℕ → ℕ → ℕ
gone_between first begun before [] u v = 0
gone_between first begun before (call ∷ stretch) u v =
    let moment = moment_after begun (call ∷ stretch ++ before) in
    (if nat_le u moment && nat_le moment v then gone_by first begun call (stretch ++ before) else 0)
    + gone_between first begun before stretch u v

-- a call that leaves the rate at r
abbrev pub KeepsRate : ℕ → BucketCall → Type 0
KeepsRate r (Taken want now) = Unit {0}
KeepsRate r (RateSet rate now) = rate ≡ r

-- where the rate is r, and not 0, for a stretch of calls, no more goes from moment u to moment v than the capacity and what
-- r gives in that time
abbrev pub RateIsKept : Type 0
RateIsKept =
    (first begun r u v : ℕ) (before stretch : List BucketCall) → 0 < r → rate_after first before ≡ r
    → All (KeepsRate r) stretch
    → gone_between first begun before stretch u v ≤ max r 16384 + r * (v - u) / 1000

-- after a take that has to wait, the bucket has a byte that long after its last moment ..
abbrev pub WaitIsEnough : Type 0
WaitIsEnough =
    (first begun want now wait moment : ℕ) (earlier : List BucketCall) → 1 ≤ want
    → answer_at first begun earlier want now ≡ Hold wait
    → moment_after begun (Taken want now ∷ earlier) + wait ≤ moment
    → 1 ≤ credit_at first begun (Taken want now ∷ earlier) moment

-- .. and none before
abbrev pub WaitIsLeast : Type 0
WaitIsLeast =
    (first begun want now wait moment : ℕ) (earlier : List BucketCall) → 1 ≤ want
    → answer_at first begun earlier want now ≡ Hold wait
    → moment < moment_after begun (Taken want now ∷ earlier) + wait
    → credit_at first begun (Taken want now ∷ earlier) moment ≡ 0

-- such a take changes nothing of what is held at a later moment
abbrev pub WaitTakesNothing : Type 0
WaitTakesNothing =
    (first begun want now wait moment : ℕ) (earlier : List BucketCall)
    → answer_at first begun earlier want now ≡ Hold wait → now ≤ moment
    → held_at first begun (Taken want now ∷ earlier) moment ≡ held_at first begun earlier moment
