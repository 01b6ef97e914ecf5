-- What a level tells is what the list of calls tells.
use Rattle.std.proofs.Common.{◌≡◌, ℕ, List, [], ◌∷◌, refl}
use Rattle.rate_tokens.specs.Calls.{BucketCall, Taken, RateSet, rate_after, moment_after, held_after}
use Rattle.rate_tokens.specs.Level.{LevelTells, level_after}

record Same (first begun : ℕ) (calls : List BucketCall) : Type 0 where
  rate : (level_after first begun calls).rate ≡ rate_after first calls
  moment : (level_after first begun calls).moment ≡ moment_after begun calls
  held : (level_after first begun calls).held ≡ held_after first begun calls

same : (first begun : ℕ) (calls : List BucketCall) → Same first begun calls
same first begun [] = record { rate = refl; moment = refl; held = refl }
same first begun (Taken want now ∷ earlier) =
    let before = same first begun earlier in
    record {
      rate = before.rate;
      moment = rw before.moment refl;
      held = rw (before.rate, before.moment, before.held) refl;
    }
same first begun (RateSet rate now ∷ earlier) =
    let before = same first begun earlier in
    record {
      rate = refl;
      moment = rw before.moment refl;
      held = rw (before.rate, before.moment, before.held) refl;
    }

pub levels_follow : (first begun : ℕ) (calls : List BucketCall)
    → LevelTells first begun calls (level_after first begun calls)
levels_follow first begun calls =
    let is = same first begun calls in
    record {
      rate = is.rate;
      moment = is.moment;
      held = is.held;
      credit = λ now. rw (is.rate, is.moment, is.held) refl;
      answer = λ want now. rw (is.rate, is.moment, is.held) refl;
    }
