-- The choices that are found.
use Rattle.std.proofs.Common.{◌≡◌, ℕ, ◌+◌, ◌-◌, ◌<◌, ◌≤◌, length, None, refl, sym, subst, inl, inr, arith}
use Rattle.std.proofs.lemmas.Bool.{cases_lt}
use Rattle.dl_kinds.specs.Plan.{IsPlan, blocks_of}
use Rattle.dl_kinds.specs.declared.runs.Run.{Run}
use Rattle.segment_claim.proofs.Alike.{for_one}
use Rattle.segment_claim.specs.Free.{IsFreeClaim, IsGrantable, IsPreferred, claim_cut, piece_at}
use Rattle.segment_claim.specs.Situation.{Situation, host_loads, mirror_count}
use Rattle.claim_choices.proofs.Extremes.{IsGreatest, IsLeast, greatest_of, least_of}
use Rattle.claim_choices.proofs.Mirrors.{candidate_is, choice_is_found}
use Rattle.claim_choices.proofs.Stretches.{stretch_found, stretch_within}
use Rattle.claim_choices.specs.Found.{BlockChoicesAreFound, FreeClaimsAreFound, ProbeMirrorsAreFound}

-- a stretch of so many blocks may be granted
record HasCount (s : Situation) (n : ℕ) : Type 0 where
  run : Run
  mirror : ℕ
  grantable : IsGrantable s run mirror
  is : run.count ≡ n

-- .. and one that begins there
record HasFirst (s : Situation) (count n : ℕ) : Type 0 where
  run : Run
  mirror : ℕ
  grantable : IsGrantable s run mirror
  count_is : run.count ≡ count
  is : run.first ≡ n

-- the lowest of the longest is preferred
lowest_is_preferred : (s : Situation) (count first : ℕ) → IsGreatest (HasCount s) count
    → (lowest : IsLeast (HasFirst s count) first)
    → (other : Run) (chosen : ℕ) → IsGrantable s other chosen → IsPreferred lowest.is.run other
lowest_is_preferred s count first longest lowest other chosen grantable =
    let count_is = lowest.is.count_is in
    let first_is = lowest.is.is in
    let few = longest.most other.count
    (record { run = other; mirror = chosen; grantable = grantable; is = refl }) in
    elim (cases_lt other.count count) [
      | inl fewer ↦ inl (omega arith)
      | inr more ↦
          let same : other.count ≡ count = omega arith in
          let low = lowest.least other.first (record {
            run = other;
            mirror = chosen;
            grantable = grantable;
            count_is = same;
            is = refl;
          }) in
          inr (omega arith, omega arith)
    ]

-- where a stretch may be granted there is a free claim
free_claim_of : (s : Situation) (run : Run) (mirror : ℕ) → IsPlan s.total s.piece_len → IsGrantable s run mirror
    → ¬ ((claimed : Run) (of : ℕ) → ¬ IsFreeClaim s claimed of)
free_claim_of s run mirror plan grantable none =
    greatest_of (HasCount s) (blocks_of s.total s.piece_len) run.count
    (λ n has. subst (λ (m : ℕ). m ≤ blocks_of s.total s.piece_len) has.is
    (stretch_within s has.run plan has.grantable.stretch))
    (record { run = run; mirror = mirror; grantable = grantable; is = refl })
    (λ count longest.
    least_of (HasFirst s count) longest.is.run.first (record {
      run = longest.is.run;
      mirror = longest.is.mirror;
      grantable = longest.is.grantable;
      count_is = longest.is.is;
      is = refl;
    })
    (λ first lowest. none (claim_cut s lowest.is.run) lowest.is.mirror (record {
      stretch = lowest.is.run;
      grantable = lowest.is.grantable;
      preferred = lowest_is_preferred s count first longest lowest;
      cut = refl;
    })))

pub free_claims_are_found : FreeClaimsAreFound
free_claims_are_found s block work none =
    stretch_found s block work (λ run found.
    choice_is_found (mirror_count s) s.max_tries s.marks (piece_at s run.first) (piece_at s (run.first + run.count - 1))
    (host_loads s) s.per_host work.mirror
    (candidate_is s (piece_at s run.first) (piece_at s (run.first + run.count - 1)) work.mirror work.none work.hosts
    work.known found.eligible)
    (λ best chosen.
    free_claim_of s run best work.plan (record { stretch = found.stretch; chosen = chosen }) none))

pub block_choices_are_found : BlockChoicesAreFound
block_choices_are_found s block now work none =
    free_claims_are_found s block work (λ run mirror free.
    none (record { run = run; mirror = mirror; victim = None }) (record {
      few = subst (λ standing. length standing < s.split) (sym work.none) work.claims;
      blocks = inl (record { free = free; stolen_of_none = refl });
    }))

pub probe_mirrors_are_found : ProbeMirrorsAreFound
probe_mirrors_are_found s mirror left =
    choice_is_found (mirror_count s) s.max_tries s.marks 0 0 (host_loads s) s.per_host mirror
    (candidate_is s 0 0 mirror left.none left.hosts left.known ((for_one s.max_tries mirror 0 s.marks).1 left.eligible))
