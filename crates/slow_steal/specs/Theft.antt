-- Which claim is stolen of, and what is taken.
use Rattle.std.specs.Prelude.{◌≡◌, ◌⊎◌, ℕ, ◌+◌, ◌-◌, ◌*◌, ◌/◌, ◌<◌, ◌≤◌, true, List, All, Contains}
use Rattle.dl_kinds.specs.declared.claims.ClaimView.{ClaimView}
use Rattle.dl_kinds.specs.declared.runs.Run.{Run}
use Rattle.slow_steal.specs.declared.theft.Steal.{Steal}

-- there is something to take: the claim is able, and its own run has at least two blocks
pub record MayLose (claim : ClaimView) : Type 0 where
  pub able : claim.able ≡ true
  pub two : 2 ≤ claim.own.count

-- A claim's slowness is its unlanded blocks times the time since its grant, over its landed blocks and one more.
-- Slownesses
-- are compared as fractions are: each numerator times the other's denominator
abbrev pub cross_weight : ℕ → ClaimView → ClaimView → ℕ
cross_weight now claim other = claim.unlanded * (now - claim.since.0) * (other.landed + 1)

abbrev pub IsSlower : ℕ → ClaimView → ClaimView → Type 0
IsSlower now claim other = cross_weight now other claim < cross_weight now claim other

abbrev pub IsAsSlow : ℕ → ClaimView → ClaimView → Type 0
IsAsSlow now claim other = cross_weight now claim other ≡ cross_weight now other claim

-- a claim is stolen of before another: where it is slower, or as slow with a lower number
abbrev pub IsStolenBefore : ℕ → ClaimView → ClaimView → Type 0
IsStolenBefore now claim other = IsSlower now claim other ⊎ (IsAsSlow now claim other × (claim.id < other.id))

-- the victim: the slowest of the claims that may lose blocks, and of equally slow ones one with the lowest number
pub record IsVictim (now : ℕ) (claims : List ClaimView) (claim : ClaimView) : Type 0 where
  pub listed : Contains claims claim
  pub may : MayLose claim
  pub slowest : All
      (λ other. MayLose other → IsSlower now claim other ⊎ (IsAsSlow now claim other × (claim.id ≤ other.id)))
      claims

-- the last half of the blocks, the smaller one where their number is odd
abbrev pub later_half : Run → Run
later_half run = record { first = run.first + (run.count - run.count / 2); count = run.count / 2 }

-- what is taken: the later half of the victim's own run
pub record IsSteal (now : ℕ) (claims : List ClaimView) (steal : Steal) : Type 0 where
  pub claim : ClaimView
  pub is : IsVictim now claims claim
  pub victim : steal.victim ≡ claim.id
  pub run : steal.run ≡ later_half claim.own
