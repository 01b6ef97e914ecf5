-- What is kept, when claims go and pieces are cleared.
use Rattle.std.proofs.Common.{◌≡◌, ℕ, zero, suc, ◌<◌, Bool, List, [], length, get_or, replicate, set, refl, sym, ap, ◌∙◌, inl, inr, arith}
use Rattle.std.proofs.Math.Nat.{sub-zero}
use Rattle.std.specs.Prelude.{◌⊎◌, filter}
use Rattle.std.proofs.lemmas.List.{set-get_or}
use Rattle.std.proofs.lemmas.List.Elements.{All-filter}
use Rattle.std.proofs.lemmas.List.Kept.{AllPairs-filter}
use Rattle.std.proofs.lemmas.List.Sums.{count_by-le-length, length-filter}
use Rattle.dl_kinds.specs.Plan.{blocks_of}
use Rattle.dl_kinds.specs.declared.claims.Claim.{Claim}
use Rattle.segment_claim.specs.Kept.{KeepsClaims, closed_of}
use Rattle.segment_claim.specs.Sound.{IsNewer, IsWithinBlocks}

-- some of the claims go
pub kept_filtered : (total piece_len : ℕ) (standing : List Claim) (closed : List ℕ) (next : ℕ) (stays : Claim → Bool)
    → KeepsClaims total piece_len standing closed next → KeepsClaims total piece_len (filter stays standing) closed next
kept_filtered total piece_len standing closed next stays kept = record {
  plan = kept.plan;
  within = All-filter stays (IsWithinBlocks (blocks_of total piece_len)) standing kept.within;
  newer = AllPairs-filter IsNewer stays standing kept.newer;
  below = All-filter stays (λ (claim : Claim). claim.id < next) standing kept.below;
  few = let h = kept.few in omega (arith, length-filter stays standing, count_by-le-length stays standing);
  past = kept.past;
  bounded = kept.bounded;
  pieces = kept.pieces;
}

-- where a piece has the number already that it would get
write_same : (xs : List ℕ) (i v : ℕ) → get_or xs i v ≡ v → set xs i v ≡ xs
write_same xs i v is = ap (set xs i) (sym is) ∙ set-get_or xs i v

zeros : (n i : ℕ) → let z : ℕ = 0 in get_or (replicate n z) i z ≡ z
zeros zero i = refl
zeros (suc n) zero = refl
zeros (suc n) (suc i) = zeros n i

-- a clearing before the first claim changes nothing
pub nothing_closed : (pieces piece next : ℕ) (closed : List ℕ)
    → (length closed ≡ pieces) ⊎ ((closed ≡ []) × (next ≡ 0)) → length closed ≡ 0 → piece < pieces
    → set (closed_of pieces closed) piece next ≡ closed_of pieces closed
nothing_closed pieces piece next closed kept none known = elim kept [
  | inl full ↦ absurd (omega arith)
  | inr bare ↦ rw (bare.0, bare.1, sub-zero) (write_same (replicate pieces 0) piece 0 (zeros pieces piece))
]
