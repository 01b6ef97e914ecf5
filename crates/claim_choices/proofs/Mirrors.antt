-- Of the mirrors that may be chosen, one goes before all others.
use Rattle.std.proofs.Common.{◌≡◌, ℕ, zero, suc, ◌<◌, ◌≤◌, List, [], ◌∷◌, map, count_by, refl, sym, ◌∙◌, subst, inl, inr, arith}
use Rattle.std.specs.Prelude.{◌⊎◌, slice_index}
use Rattle.std.proofs.lemmas.Bool.{cases_eq, cases_lt}
use Rattle.dl_kinds.specs.declared.claims.Claim.{Claim}
use Rattle.mirror_blame.specs.Choice.{GoesBefore, IsCandidate, IsChoice}
use Rattle.mirror_blame.specs.Marks.{IsEligibleForAll, total_marks}
use Rattle.mirror_blame.specs.declared.blame.Blame.{Blame}
use Rattle.segment_claim.specs.Situation.{Situation, host_loads, is_on, loads_of, mirror_count}
use Rattle.claim_choices.proofs.Extremes.{IsLeast, least_of}

-- it goes before each other
pub record IsFirst (Able : ℕ → Type 0) (total load : ℕ → ℕ) (mirror : ℕ) : Type 0 where
  pub able : Able mirror
  pub before : (other : ℕ) → Able other → (other ≡ mirror) ⊎ GoesBefore total load mirror other

module _ (Able : ℕ → Type 0) (total load : ℕ → ℕ) where
  -- an able mirror has this total; one of those has this load; and of those this is one
  record HasTotal (n : ℕ) : Type 0 where
    mirror : ℕ
    able : Able mirror
    is : total mirror ≡ n

  record HasLoad (t n : ℕ) : Type 0 where
    mirror : ℕ
    able : Able mirror
    total_is : total mirror ≡ t
    is : load mirror ≡ n

  record IsLast (t l n : ℕ) : Type 0 where
    able : Able n
    total_is : total n ≡ t
    load_is : load n ≡ l

  first_is : (t l mirror : ℕ) → IsLeast HasTotal t → IsLeast (HasLoad t) l → IsLeast (IsLast t l) mirror
      → IsFirst Able total load mirror
  first_is t l mirror fewest lightest lowest = record {
    able = lowest.is.able;
    before = λ other able.
        let total_is = lowest.is.total_is in
        let load_is = lowest.is.load_is in
        let no_fewer = fewest.least (total other) (record { mirror = other; able = able; is = refl }) in
        elim (cases_lt t (total other)) [
          | inl more ↦ inr (inl (omega arith))
          | inr no_more ↦
              let same : t ≡ total other = omega arith in
              let no_lighter =
              lightest.least (load other) (record { mirror = other; able = able; total_is = sym same; is = refl }) in
              elim (cases_lt l (load other)) [
                | inl heavier ↦ inr (inr (inl (total_is ∙ same, omega arith)))
                | inr no_heavier ↦
                    let alike : l ≡ load other = omega arith in
                    let no_lower =
                    lowest.least other (record { able = able; total_is = sym same; load_is = sym alike }) in
                    elim (cases_eq other mirror) [
                      | inl is ↦ inl is
                      | inr differs ↦ inr (inr (inr (total_is ∙ same, load_is ∙ alike, omega arith)))
                    ]
              ]
        ];
  }

  pub first_of : (mirror : ℕ) → Able mirror → ¬ ((best : ℕ) → ¬ IsFirst Able total load best)
  first_of mirror able none =
      least_of HasTotal (total mirror) (record { mirror = mirror; able = able; is = refl }) (λ t fewest.
      least_of (HasLoad t) (load fewest.is.mirror) (record {
        mirror = fewest.is.mirror;
        able = fewest.is.able;
        total_is = fewest.is.is;
        is = refl;
      }) (λ l lightest.
      least_of (IsLast t l) lightest.is.mirror (record {
        able = lightest.is.able;
        total_is = lightest.is.total_is;
        load_is = lightest.is.is;
      }) (λ best lowest. none best (first_is t l best fewest lightest lowest))))

-- where there is a candidate, one is chosen
pub choice_is_found : (mirrors max_tries : ℕ) (marks : List Blame) (first last : ℕ) (standing : List ℕ)
    (limit mirror : ℕ) → IsCandidate mirrors max_tries marks first last standing limit mirror
    → ¬ ((best : ℕ) → ¬ IsChoice mirrors max_tries marks first last standing limit best)
choice_is_found mirrors max_tries marks first last standing limit mirror is none =
    first_of (IsCandidate mirrors max_tries marks first last standing limit) (total_marks max_tries marks)
    (slice_index standing) mirror is
    (λ best found. none best (record { candidate = found.able; before = found.before }))

-- no claim stands on a host
no_loads : (f : ℕ → ℕ) (hosts : List ℕ) (mirror : ℕ) → ((host : ℕ) → f host ≡ 0)
    → slice_index (map f hosts) mirror ≡ 0
no_loads f [] mirror is = refl
no_loads f (host ∷ hosts) zero is = is host
no_loads f (host ∷ hosts) (suc mirror) is = no_loads f hosts mirror is

pub unloaded : (s : Situation) (mirror : ℕ) → s.standing ≡ [] → slice_index (host_loads s) mirror ≡ 0
unloaded s mirror none =
    subst (λ (standing : List Claim). slice_index (loads_of s.hosts standing) mirror ≡ 0) (sym none)
    (no_loads (λ host. count_by (is_on s.hosts host) []) s.hosts mirror (λ host. refl))

-- a mirror with a try left for each piece is a candidate where no claim stands
pub candidate_is : (s : Situation) (first last mirror : ℕ) → s.standing ≡ [] → 1 ≤ s.per_host
    → mirror < mirror_count s → IsEligibleForAll s.max_tries s.marks mirror first last
    → IsCandidate (mirror_count s) s.max_tries s.marks first last (host_loads s) s.per_host mirror
candidate_is s first last mirror none some known eligible = record {
  known = known;
  eligible = eligible;
  free = let free = unloaded s mirror none in omega (arith, free);
}
