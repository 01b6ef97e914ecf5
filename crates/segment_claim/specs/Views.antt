-- How far claims are, and which of their blocks may be stolen.
use Rattle.std.specs.Prelude.{◌≡◌, ◌↔◌, ◌⊎◌, ℕ, ◌+◌, ◌-◌, ◌<◌, ◌≤◌, ◌&&◌, not, Bool, true, false, IsTrue, count_by, slice_index_or}
use Rattle.std.specs.List.{list_any}
use Rattle.dl_kinds.specs.declared.claims.Claim.{Claim}
use Rattle.dl_kinds.specs.declared.claims.ClaimView.{ClaimView}
use Rattle.dl_kinds.specs.declared.runs.Run.{Run}
use Rattle.dl_kinds.specs.Lists.{part_at}
use Rattle.piece_table.specs.Changes.{is_in}
use Rattle.slow_steal.specs.Theft.{later_half}
use Rattle.segment_claim.specs.Free.{IsMirrorFor, is_open_at, piece_at}
use Rattle.segment_claim.specs.Open.{has_number}
use Rattle.segment_claim.specs.Situation.{Situation}

-- a standing claim but this one is to bring the block
abbrev pub is_of_others : Situation → ℕ → ℕ → Bool
is_of_others s id block = list_any (λ other. not (has_number id other) && is_open_at s block other) s.standing

-- a claim's own block: it is open in it, and in no other standing claim
abbrev pub is_own : Situation → Claim → ℕ → Bool
is_own s claim block = is_open_at s block claim && not (is_of_others s claim.id block)

-- a run of own blocks
abbrev pub IsOwnBlocks : Situation → Claim → Run → Type 0
IsOwnBlocks s claim run = (block : ℕ) → is_in block run ≡ true → is_own s claim block ≡ true

-- A claim's own run: the longest run of its own blocks, and of equally long ones the last. Without an own block it is
-- the
-- empty run at the claim's front
pub record IsOwnRun (s : Situation) (claim : Claim) (run : Run) : Type 0 where
  pub own : IsOwnBlocks s claim run
  pub longest : (other : Run) → 1 ≤ other.count → IsOwnBlocks s claim other
      → (other.count < run.count) ⊎ ((other.count ≡ run.count) × (other.first ≤ run.first))
  pub empty : run.count ≡ 0 → run.first ≡ claim.run.first

-- none of the pieces of the run is sole
abbrev pub IsWithoutSole : Situation → Run → Type 0
IsWithoutSole s run =
    (piece : ℕ) → piece_at s run.first ≤ piece → piece ≤ piece_at s (run.first + run.count - 1)
    → slice_index_or s.sole piece false ≡ false

-- A claim is able to lose blocks: none of its pieces is sole, its own run has at least two blocks, and a mirror is
-- found
-- for the later half of that
pub record IsAble (s : Situation) (claim : Claim) (own : Run) : Type 0 where
  pub whole : IsWithoutSole s claim.run
  pub two : 2 ≤ own.count
  pub mirror : ℕ
  pub found : IsMirrorFor s (later_half own) mirror

-- how many blocks of the claim's run are landed
abbrev pub landed_of : Situation → Claim → ℕ
landed_of s claim = count_by (λ is. is) (part_at s.landed claim.run.first claim.run.count)

-- what is seen of a claim
pub record IsViewOf (s : Situation) (claim : Claim) (view : ClaimView) : Type 0 where
  pub id : view.id ≡ claim.id
  pub since : view.since ≡ claim.since
  pub landed : view.landed ≡ landed_of s claim
  pub unlanded : view.landed + view.unlanded ≡ claim.run.count
  pub own : IsOwnRun s claim view.own
  pub able : IsTrue view.able ↔ IsAble s claim view.own
