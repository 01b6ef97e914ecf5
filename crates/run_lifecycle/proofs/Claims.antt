-- A claim that stands came in the history, and no two claims have one number.
use Rattle.std.proofs.Common.{◌≡◌, ◌⊎◌, ◌<◌, inl, inr, ⊎_elim, ℕ, Bool, true, false, if◌then◌else◌, List, [], ◌∷◌, None, filter, refl, sym, ap, ◌∙◌, subst, arith}
use Rattle.std.specs.Prelude.{Contains}
use Rattle.std.specs.List.{filter_map}
use Rattle.std.proofs.lemmas.Bool.{eqb-true}
use Rattle.std.proofs.lemmas.List.Elements.{All-contains, Contains-append_cases, Contains-append_right, Contains-push_cases}
use Rattle.dl_history.specs.OwnEvents.{OwnEvent, Opens, Grants, Lands, Settles, Clears, Loses, Sizes, Saves, Checks, Halts}
use Rattle.dl_history.specs.StandingClaims.{claim_in, granted_claims, is_standing, standing_claims}
use Rattle.dl_kinds.specs.declared.claims.Claim.{Claim}
use Rattle.dl_kinds.specs.declared.gid.Gid.{Gid}
use Rattle.machine_core.specs.OwnParts.{halted_where, halts_by, own_of}
use Rattle.machine_core.specs.Replays.{is_same_gid}
use Rattle.machine_core.specs.RunLegal.{IsLegal, MayFollow, claim_of_event}
use Rattle.machine_core.specs.Starts.{RunStart}
use Rattle.machine_core.specs.declared.events.Event.{Event}
use Rattle.machine_core.specs.declared.events.Event.TheVariants.{Called, Opened, Sized, Claimed, Landed, Settled, Cleared, Lost, Checked, Saved, Ended, Left, Stopped}
use Rattle.run_lifecycle.proofs.Turns.{none_there}

-- ---- members of lists

-- the first element, or one behind it
pub first_or_later : {A : Type 0} (x : A) (xs : List A) (y : A) → Contains (x ∷ xs) y → (x ≡ y) ⊎ Contains xs y
first_or_later x xs y there = ⊎_elim
    (λ (here : Contains (x ∷ []) y).
    ⊎_elim (λ (none : Contains [] y). none_there y none) (λ (same : x ≡ y). inl same) (Contains-push_cases [] x y here))
    (λ (later : Contains xs y). inr later) (Contains-append_cases (x ∷ []) xs y there)

pub later_there : {A : Type 0} (x : A) (xs : List A) (y : A) → Contains xs y → Contains (x ∷ xs) y
later_there x xs y there = Contains-append_right (x ∷ []) xs y there

filtered_there : {A : Type 0} (test : A → Bool) (xs : List A) (y : A) → Contains (filter test xs) y → Contains xs y
filtered_there test [] y there = none_there y there
filtered_there test (x ∷ xs) y there = by (test x) there (filtered_there test xs y)
  where
    by : (passes : Bool) → Contains (if passes then x ∷ filter test xs else filter test xs) y
        → (Contains (filter test xs) y → Contains xs y) → Contains (x ∷ xs) y
    by true there rest = ⊎_elim (λ (same : x ≡ y). (0, omega arith, same)) (λ later. later_there x xs y (rest later))
        (first_or_later x (filter test xs) y there)
    by false there rest = later_there x xs y (rest there)

-- ---- a claim that was granted

granted_where : (same : Bool) (x : OwnEvent) (own : List OwnEvent) (claim : Claim) → claim_in x ≡ None
    → Contains (granted_claims (if same then x ∷ own else own)) claim → Contains (granted_claims own) claim
granted_where true x own claim none there =
    subst (λ (cs : List Claim). Contains cs claim) (skips x none) there
  where
    skips : (e : OwnEvent) → claim_in e ≡ None → granted_claims (e ∷ own) ≡ granted_claims own
    skips (Opens verified blocks now) none = refl
    skips (Grants granted) none = absurd cc
    skips (Lands id mirror run) none = refl
    skips (Settles piece right giver) none = refl
    skips (Clears piece) none = refl
    skips (Loses id mirror piece mark) none = refl
    skips (Sizes id total) none = refl
    skips (Saves now) none = refl
    skips (Checks right) none = refl
    skips (Halts ends) none = refl
granted_where false x own claim none there = there

granted_halted : (halts : Bool) (own : List OwnEvent) (claim : Claim)
    → Contains (granted_claims (halted_where halts own)) claim
    → Contains (granted_claims own) claim
granted_halted true own claim there = there
granted_halted false own claim there = there

module _ (start : RunStart) (gid : Gid) (claim : Claim) where
  claims_here : (past : List Event) (other : Gid) (granted : Claim) (own : List OwnEvent) (same : Bool)
      → is_same_gid gid other ≡ same → Contains (granted_claims (if same then Grants granted ∷ own else own)) claim
      → (Contains (granted_claims own) claim → Contains past (Claimed gid claim))
      → Contains (Claimed other granted ∷ past) (Claimed gid claim)
  claims_here past other granted own true same there before =
      let gids : other ≡ gid = ap (λ (n : ℕ). record { 0 = n }) (eqb-true other.0 gid.0 same) in
      ⊎_elim (λ (is : granted ≡ claim). (0, omega arith, λ i. Claimed (gids i) (is i)))
      (λ later. later_there (Claimed other granted) past (Claimed gid claim) (before later))
      (first_or_later granted (granted_claims own) claim there)
  claims_here past other granted own false same there before =
      later_there (Claimed other granted) past (Claimed gid claim) (before there)

  claimed_there : (past : List Event) → Contains (granted_claims (own_of start past gid)) claim
      → Contains past (Claimed gid claim)
  claimed_there [] there = none_there claim there
  claimed_there (Called session asked now ∷ past) there =
      later_there (Called session asked now) past (Claimed gid claim)
      (claimed_there past
      (granted_halted (halts_by start past (Called session asked now) asked gid)
      (own_of start past gid) claim there))
  claimed_there (Opened other verified blocks now ∷ past) there =
      later_there (Opened other verified blocks now) past (Claimed gid claim) (claimed_there past
      (granted_where (is_same_gid gid other) (Opens verified blocks now) (own_of start past gid) claim refl there))
  claimed_there (Sized other id total ∷ past) there =
      later_there (Sized other id total) past (Claimed gid claim) (claimed_there past
      (granted_where (is_same_gid gid other) (Sizes id total) (own_of start past gid) claim refl there))
  claimed_there (Claimed other granted ∷ past) there =
      claims_here past other granted (own_of start past gid) (is_same_gid gid other) refl there (claimed_there past)
  claimed_there (Landed other id mirror run now ∷ past) there =
      later_there (Landed other id mirror run now) past (Claimed gid claim) (claimed_there past
      (granted_where (is_same_gid gid other) (Lands id mirror run) (own_of start past gid) claim refl there))
  claimed_there (Settled other piece right giver ∷ past) there =
      later_there (Settled other piece right giver) past (Claimed gid claim) (claimed_there past
      (granted_where (is_same_gid gid other) (Settles piece right giver) (own_of start past gid) claim refl there))
  claimed_there (Cleared other piece ∷ past) there =
      later_there (Cleared other piece) past (Claimed gid claim) (claimed_there past
      (granted_where (is_same_gid gid other) (Clears piece) (own_of start past gid) claim refl there))
  claimed_there (Lost other id mirror piece mark ∷ past) there =
      later_there (Lost other id mirror piece mark) past (Claimed gid claim) (claimed_there past
      (granted_where (is_same_gid gid other) (Loses id mirror piece mark) (own_of start past gid) claim refl there))
  claimed_there (Checked other right ∷ past) there =
      later_there (Checked other right) past (Claimed gid claim) (claimed_there past
      (granted_where (is_same_gid gid other) (Checks right) (own_of start past gid) claim refl there))
  claimed_there (Saved other now ∷ past) there =
      later_there (Saved other now) past (Claimed gid claim) (claimed_there past
      (granted_where (is_same_gid gid other) (Saves now) (own_of start past gid) claim refl there))
  claimed_there (Ended other how ∷ past) there =
      later_there (Ended other how) past (Claimed gid claim) (claimed_there past
      (granted_where (is_same_gid gid other) (Halts true) (own_of start past gid) claim refl there))
  claimed_there (Left ∷ past) there = later_there Left past (Claimed gid claim) (claimed_there past there)
  claimed_there (Stopped ∷ past) there = later_there Stopped past (Claimed gid claim) (claimed_there past there)

  -- a claim that stands came
  pub standing_came : (past : List Event) → Contains (standing_claims (own_of start past gid)) claim
      → Contains past (Claimed gid claim)
  standing_came past there =
      claimed_there past
      (filtered_there (is_standing (own_of start past gid)) (granted_claims (own_of start past gid)) claim there)

-- ---- numbers

-- the number of a claim that came is among all
number_there : (past : List Event) (gid : Gid) (claim : Claim) → Contains past (Claimed gid claim)
    → Contains (filter_map claim_of_event past) claim.id
number_there [] gid claim there = none_there (Claimed gid claim) there
number_there (e ∷ past) gid claim there = ⊎_elim
    (λ (is : e ≡ Claimed gid claim).
    subst (λ (x : Event). Contains (filter_map claim_of_event (x ∷ past)) claim.id) (sym is) (0, omega arith, refl))
    (λ later. by e (number_there past gid claim later)) (first_or_later e past (Claimed gid claim) there)
  where
    by : (x : Event) → Contains (filter_map claim_of_event past) claim.id
        → Contains (filter_map claim_of_event (x ∷ past)) claim.id
    by (Claimed other granted) rest = later_there granted.id (filter_map claim_of_event past) claim.id rest
    by x rest = rest

pub record IsSameClaim (one other : Gid) (claim twin : Claim) : Type 0 where
  pub gids : one ≡ other
  pub claims : claim ≡ twin

-- a new claim has a number above those before it
newer_number : {P : Type 0} (start : RunStart) (past : List Event) (e : Event) (one other : Gid) (claim twin : Claim)
    → MayFollow start past e → e ≡ Claimed one claim → Contains past (Claimed other twin) → claim.id ≡ twin.id → P
newer_number start past e one other claim twin may is there same =
    let made = subst (MayFollow start past) is may in
    let below : twin.id < claim.id =
    All-contains (λ (n : ℕ). n < claim.id) (filter_map claim_of_event past) twin.id made.fresh
    (number_there past other twin there) in
    absurd (omega (arith, below, same))

pub claims_one : (start : RunStart) (past : List Event) (one other : Gid) (claim twin : Claim) → IsLegal start past
    → Contains past (Claimed one claim) → Contains past (Claimed other twin) → claim.id ≡ twin.id
    → IsSameClaim one other claim twin
claims_one start [] one other claim twin legal there also same = none_there (Claimed one claim) there
claims_one start (e ∷ past) one other claim twin legal there also same = ⊎_elim
    (λ (is : e ≡ Claimed one claim). ⊎_elim
    (λ (its : e ≡ Claimed other twin).
    let both : Claimed one claim ≡ Claimed other twin = sym is ∙ its in
    record { gids = cc; claims = cc })
    (λ later. newer_number start past e one other claim twin legal.1 is later same)
    (first_or_later e past (Claimed other twin) also))
    (λ earlier. ⊎_elim
    (λ (its : e ≡ Claimed other twin). newer_number start past e other one twin claim legal.1 its earlier (sym same))
    (λ later. claims_one start past one other claim twin legal.0 earlier later same)
    (first_or_later e past (Claimed other twin) also)) (first_or_later e past (Claimed one claim) there)
