-- The part of an orderly run that is one download's: its claims are taken one after the other, none behind a pause, and its
-- saves have news.
use Rattle.std.proofs.Common.{◌≡◌, ℕ, suc, ◌≤◌, ◌<◌, Bool, true, false, cond, List, [], ◌∷◌, length, refl, sym, ap, ◌∙◌, subst, inl, inr, ⊎_elim, arith}
use Rattle.std.specs.Prelude.{◌||◌, filter}
use Rattle.dl_kinds.specs.declared.claims.Claim.{Claim}
use Rattle.dl_history.proofs.Ends.{standing_after_grant, stood_before_landing, stood_before_loss, stood_before_sizing}
use Rattle.dl_history.proofs.Members.{Has, has_all, in_filter}
use Rattle.dl_history.specs.OwnEvents.{Checks, Clears, Grants, Halts, Lands, Loses, Opens, OwnEvent, Saves, Settles, Sizes}
use Rattle.dl_history.specs.OwnLegal.{IsNewClaim, LegalOwn}
use Rattle.dl_history.specs.PayloadParts.{is_ended, is_ending}
use Rattle.dl_history.specs.StandingClaims.{granted_claims, is_standing, standing_claims}
use Rattle.work_bounds.proofs.Tallies.{counted_so, tally}
use Rattle.work_bounds.specs.OneAtATime.{HasOneClaim}
use Rattle.work_bounds.specs.SavesDue.{SavesHaveNews, has_news}
use Rattle.work_bounds.specs.WorkLimits.{is_halt, pauses_in}

-- what is so of each event of the download
abbrev pub IsOrderlyOwn : List OwnEvent → OwnEvent → Type 0
IsOrderlyOwn before (Grants claim) = (standing_claims before ≡ []) × (tally is_halt before ≡ 0)
IsOrderlyOwn before (Saves now) = has_news before ≡ true
IsOrderlyOwn before e = Unit {0}

abbrev pub OrderlyOwn : List OwnEvent → Type 0
OrderlyOwn [] = Unit {0}
OrderlyOwn (e ∷ before) = OrderlyOwn before × IsOrderlyOwn before e

-- ---- saves and pauses

pub orderly_saves : (own : List OwnEvent) → OrderlyOwn own → SavesHaveNews own
orderly_saves [] is = tt
orderly_saves (Saves now ∷ before) is = (orderly_saves before is.0, is.1)
orderly_saves (Opens v b n ∷ before) is = orderly_saves before is.0
orderly_saves (Grants c ∷ before) is = orderly_saves before is.0
orderly_saves (Lands i m r ∷ before) is = orderly_saves before is.0
orderly_saves (Settles p r g ∷ before) is = orderly_saves before is.0
orderly_saves (Clears p ∷ before) is = orderly_saves before is.0
orderly_saves (Loses i m p k ∷ before) is = orderly_saves before is.0
orderly_saves (Sizes i t ∷ before) is = orderly_saves before is.0
orderly_saves (Checks r ∷ before) is = orderly_saves before is.0
orderly_saves (Halts e ∷ before) is = orderly_saves before is.0

-- ---- claims

-- no more pass where all that pass did before
fewer_cases : {A : Type 0} (x : A) (xs ys : List A) (a b : Bool) → (a ≡ true → b ≡ true) → length xs ≤ length ys
    → length (cond a (x ∷ xs) xs) ≤ length (cond b (x ∷ ys) ys)
fewer_cases x xs ys true true more fewer = omega (arith, fewer)
fewer_cases x xs ys true false more fewer = absurd (let e : false ≡ true = more refl in cc)
fewer_cases x xs ys false true more fewer = omega (arith, fewer)
fewer_cases x xs ys false false more fewer = fewer

fewer : {A : Type 0} (p q : A → Bool) (xs : List A) → ((x : A) → p x ≡ true → q x ≡ true)
    → length (filter p xs) ≤ length (filter q xs)
fewer p q [] more = omega arith
fewer p q (x ∷ xs) more =
    fewer_cases x (filter p xs) (filter q xs) (p x) (q x) (more x) (fewer p q xs more)

none_passes : {A : Type 0} (p : A → Bool) (xs : List A) → ((x : A) → Has xs x → p x ≡ true → ⊥) → filter p xs ≡ []
none_passes p [] none = refl
none_passes p (x ∷ xs) none =
    by (p x) refl (none x (inl refl)) (none_passes p xs (λ y there. none y (inr there)))
  where
    by : (b : Bool) → p x ≡ b → (p x ≡ true → ⊥) → filter p xs ≡ [] → cond b (x ∷ filter p xs) (filter p xs) ≡ []
    by true is never rest = absurd (never is)
    by false is never rest = rest

-- the claims before the newest event that is no grant
one_before : (e : OwnEvent) (own : List OwnEvent) → granted_claims (e ∷ own) ≡ granted_claims own
    → ((c : Claim) → is_standing (e ∷ own) c ≡ true → is_standing own c ≡ true)
    → length (standing_claims own) ≤ 1 → length (standing_claims (e ∷ own)) ≤ 1
one_before e own same stood one =
    let less : length (filter (is_standing (e ∷ own)) (granted_claims own)) ≤ length (standing_claims own) =
    fewer (is_standing (e ∷ own)) (is_standing own) (granted_claims own) stood in
    subst (λ (cs : List Claim). length (filter (is_standing (e ∷ own)) cs) ≤ 1) (sym same) (omega (arith, less, one))

one_granted : (own : List OwnEvent) (claim : Claim) → IsNewClaim own claim → standing_claims own ≡ []
    → length (standing_claims (Grants claim ∷ own)) ≤ 1
one_granted own claim new none =
    let rest : filter (is_standing (Grants claim ∷ own)) (granted_claims own) ≡ [] =
    none_passes (is_standing (Grants claim ∷ own)) (granted_claims own) (λ c there stands.
    let less : c.id < claim.id = has_all (λ (x : Claim). x.id < claim.id) (granted_claims own) c new there in
    let stood : is_standing own c ≡ true =
    sym (standing_after_grant own claim c (λ same. omega (arith, less, same))) ∙ stands in
    subst (λ (cs : List Claim). Has cs c) none
    (in_filter (is_standing own) (granted_claims own) c there stood)) in
    by (is_standing (Grants claim ∷ own) claim) rest
  where
    by : (b : Bool) → filter (is_standing (Grants claim ∷ own)) (granted_claims own) ≡ []
        → length (cond b (claim ∷ filter (is_standing (Grants claim ∷ own)) (granted_claims own))
        (filter (is_standing (Grants claim ∷ own)) (granted_claims own))) ≤ 1
    by true none_left = let n : length (filter (is_standing (Grants claim ∷ own)) (granted_claims own)) ≡ 0 = ap length none_left in omega (arith, n)
    by false none_left = let n : length (filter (is_standing (Grants claim ∷ own)) (granted_claims own)) ≡ 0 = ap length none_left in omega (arith, n)

halted_none : (ends : Bool) (own : List OwnEvent) (c : Claim) → is_standing (Halts ends ∷ own) c ≡ true
    → is_standing own c ≡ true
halted_none ends own c stands = absurd cc

-- at most one stands then
one_stands : (total len : ℕ) (own : List OwnEvent) → LegalOwn total len own → OrderlyOwn own
    → length (standing_claims own) ≤ 1
one_stands total len [] legal is = omega arith
one_stands total len (Grants claim ∷ own) legal is =
    one_granted own claim (⊎_elim (λ probe. probe.fresh) (λ blocks. blocks.fresh) legal.1) is.1.0
one_stands total len (Lands i m r ∷ own) legal is =
    one_before (Lands i m r) own refl (λ c. stood_before_landing own i m r c) (one_stands total len own legal.0 is.0)
one_stands total len (Loses i m p k ∷ own) legal is =
    one_before (Loses i m p k) own refl (λ c. stood_before_loss own i m p k c) (one_stands total len own legal.0 is.0)
one_stands total len (Sizes i t ∷ own) legal is =
    one_before (Sizes i t) own refl (λ c. stood_before_sizing own i t c) (one_stands total len own legal.0 is.0)
one_stands total len (Halts e ∷ own) legal is =
    one_before (Halts e) own refl (halted_none e own) (one_stands total len own legal.0 is.0)
one_stands total len (Opens v b n ∷ own) legal is =
    one_before (Opens v b n) own refl (λ c stands. stands) (one_stands total len own legal.0 is.0)
one_stands total len (Settles p r g ∷ own) legal is =
    one_before (Settles p r g) own refl (λ c stands. stands) (one_stands total len own legal.0 is.0)
one_stands total len (Clears p ∷ own) legal is =
    one_before (Clears p) own refl (λ c stands. stands) (one_stands total len own legal.0 is.0)
one_stands total len (Saves n ∷ own) legal is =
    one_before (Saves n) own refl (λ c stands. stands) (one_stands total len own legal.0 is.0)
one_stands total len (Checks r ∷ own) legal is =
    one_before (Checks r) own refl (λ c stands. stands) (one_stands total len own legal.0 is.0)

pub orderly_one : (total len : ℕ) (own : List OwnEvent) → LegalOwn total len own → OrderlyOwn own → HasOneClaim own
orderly_one total len [] legal is = tt
orderly_one total len (e ∷ own) legal is =
    (orderly_one total len own legal.0 is.0, one_stands total len (e ∷ own) legal is)

-- no claim comes behind a pause
pub orderly_pauses : (own : List OwnEvent) → OrderlyOwn own → pauses_in own ≡ 0
orderly_pauses [] is = refl
orderly_pauses (Grants c ∷ before) is = counted_so is_halt before ∙ is.1.1
orderly_pauses (Opens v b n ∷ before) is = orderly_pauses before is.0
orderly_pauses (Lands i m r ∷ before) is = orderly_pauses before is.0
orderly_pauses (Settles p r g ∷ before) is = orderly_pauses before is.0
orderly_pauses (Clears p ∷ before) is = orderly_pauses before is.0
orderly_pauses (Loses i m p k ∷ before) is = orderly_pauses before is.0
orderly_pauses (Sizes i t ∷ before) is = orderly_pauses before is.0
orderly_pauses (Saves n ∷ before) is = orderly_pauses before is.0
orderly_pauses (Checks r ∷ before) is = orderly_pauses before is.0
orderly_pauses (Halts e ∷ before) is = orderly_pauses before is.0

-- ---- ends

abbrev pub one : Bool → ℕ
one b = cond b 1 0

ended_cases : (t : Bool) (n : ℕ) (ended : Bool) → (t ≡ true → ended ≡ false) → n ≤ one ended
    → cond t (suc n) n ≤ one (t || ended)
ended_cases true n ended first few = let none : one ended ≡ 0 = ap one (first refl) in omega (arith, none, few)
ended_cases false n ended first few = few

-- a download ends once
pub ends_once : (total len : ℕ) (own : List OwnEvent) → LegalOwn total len own → tally is_ending own ≤ one (is_ended own)
ends_once total len [] legal = omega arith
ends_once total len (Halts ends ∷ own) legal =
    ended_cases ends (tally is_ending own) (is_ended own) legal.1 (ends_once total len own legal.0)
ends_once total len (Opens v b n ∷ own) legal = ends_once total len own legal.0
ends_once total len (Grants c ∷ own) legal = ends_once total len own legal.0
ends_once total len (Lands i m r ∷ own) legal = ends_once total len own legal.0
ends_once total len (Settles p r g ∷ own) legal = ends_once total len own legal.0
ends_once total len (Clears p ∷ own) legal = ends_once total len own legal.0
ends_once total len (Loses i m p k ∷ own) legal = ends_once total len own legal.0
ends_once total len (Sizes i t ∷ own) legal = ends_once total len own legal.0
ends_once total len (Saves n ∷ own) legal = ends_once total len own legal.0
ends_once total len (Checks r ∷ own) legal = ends_once total len own legal.0
