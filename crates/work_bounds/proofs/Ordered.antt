-- A legal history of a download whose claims are taken one after the other, each of a mirror that has a try left.
use Rattle.std.proofs.Common.{◌≡◌, ◌⊎◌, ℕ, ◌<◌, ◌≤◌, Bool, true, List, [], ◌∷◌, length, refl, sym, ap, ◌∙◌, subst, inl, inr, ⊎_elim, arith}
use Rattle.dl_kinds.specs.Plan.{IsPlan, piece_of}
use Rattle.dl_kinds.specs.declared.claims.Claim.{Claim}
use Rattle.dl_kinds.specs.declared.marks.Mark.{Mark}
use Rattle.dl_kinds.specs.declared.runs.Run.{Run}
use Rattle.piece_table.specs.Changes.{is_in}
use Rattle.mirror_blame.specs.Marks.{is_of}
use Rattle.dl_history.proofs.Bools.{or_right}
use Rattle.dl_history.proofs.Ends.{standing_after_grant, stood_before_landing, stood_before_loss, stood_before_sizing}
use Rattle.dl_history.proofs.Facts.{grant_facts}
use Rattle.dl_history.proofs.Members.{Has, has_all, has_filter, has_from, in_filter}
use Rattle.dl_history.proofs.Table.{lost_not_standing}
use Rattle.dl_history.specs.OwnEvents.{Grants, Halts, Lands, Loses, OwnEvent, Sizes}
use Rattle.dl_history.specs.OwnLegal.{LegalOwn, MayBeLost, MayLand}
use Rattle.dl_history.specs.PayloadParts.{blames_in, is_opened, is_opening}
use Rattle.dl_history.specs.StandingClaims.{granted_claims, is_probe, is_standing, standing_claims}
use Rattle.work_bounds.proofs.Tallies.{tally}
use Rattle.work_bounds.specs.OneAtATime.{HasOneClaim}

-- ---- marks

-- the marks of a mirror for a piece
abbrev pub marks : List OwnEvent → ℕ → ℕ → ℕ
marks own m p = tally (is_of m p) (blames_in own)

-- the claim's mirror has a try left for each of its pieces; a probe's for the first one
pub record HasTries (len mirrors tries : ℕ) (own : List OwnEvent) (claim : Claim) : Type 0 where
  pub known : claim.mirror < mirrors
  pub blocks : (b : ℕ) → is_in b claim.run ≡ true → marks own claim.mirror (piece_of len b) < tries
  pub probe : is_probe claim ≡ true → marks own claim.mirror 0 < tries

-- .. as it is granted
abbrev pub GrantHasTries : (len mirrors tries : ℕ) → List OwnEvent → OwnEvent → Type 0
GrantHasTries len mirrors tries before (Grants claim) = HasTries len mirrors tries before claim
GrantHasTries len mirrors tries before e = Unit {0}

-- .. each claim
abbrev pub GrantsHaveTries : (len mirrors tries : ℕ) → List OwnEvent → Type 0
GrantsHaveTries len mirrors tries [] = Unit {0}
GrantsHaveTries len mirrors tries (e ∷ before) =
    GrantsHaveTries len mirrors tries before × GrantHasTries len mirrors tries before e

-- ---- the history

pub record Ordered (total len mirrors tries : ℕ) (own : List OwnEvent) : Type 0 where
  pub legal : LegalOwn total len own
  pub grants : GrantsHaveTries len mirrors tries own
  pub one : HasOneClaim own
  pub plan : is_opened own ≡ true → IsPlan total len

pub earlier : (total len mirrors tries : ℕ) (e : OwnEvent) (own : List OwnEvent)
    → Ordered total len mirrors tries (e ∷ own) → Ordered total len mirrors tries own
earlier total len mirrors tries e own o =
    record {
      legal = o.legal.0;
      grants = o.grants.0;
      one = o.one.0;
      plan = λ opened. o.plan (or_right (is_opening e) (is_opened own) opened);
    }

-- ---- claims that stand

pub few_before : (own : List OwnEvent) → HasOneClaim own → length (standing_claims own) ≤ 1
few_before [] one = omega arith
few_before (e ∷ before) one = one.1

two_of : {A : Type 0} (xs : List A) (x y : A) → length xs ≤ 1 → Has xs x → Has xs y → x ≡ y
two_of [] x y few hx hy = absurd hx
two_of (z ∷ []) x y few (inl is) (inl at) = sym is ∙ at
two_of (z ∷ []) x y few (inl is) (inr h) = absurd h
two_of (z ∷ []) x y few (inr h) hy = absurd h
two_of (z ∷ w ∷ zs) x y few hx hy = absurd (omega arith)

-- one claim stands at most
pub only_one : (own : List OwnEvent) (g h : Claim) → HasOneClaim own → Has (standing_claims own) g
    → Has (standing_claims own) h → g ≡ h
only_one own g h one hg hh = two_of (standing_claims own) g h (few_before own one) hg hh

-- what stands after an event that grants nothing stood before
pub stood : (own : List OwnEvent) (e : OwnEvent) → granted_claims (e ∷ own) ≡ granted_claims own
    → ((g : Claim) → is_standing (e ∷ own) g ≡ true → is_standing own g ≡ true)
    → (g : Claim) → Has (standing_claims (e ∷ own)) g → Has (standing_claims own) g
stood own e same was g has =
    let there = has_filter (is_standing (e ∷ own)) (granted_claims (e ∷ own)) g has in
    in_filter (is_standing own) (granted_claims own) g
    (subst (λ (xs : List Claim). Has xs g) same there.0) (was g there.1)

pub stood_lands : (own : List OwnEvent) (c m : ℕ) (run : Run) (g : Claim)
    → Has (standing_claims (Lands c m run ∷ own)) g → Has (standing_claims own) g
stood_lands own c m run = stood own (Lands c m run) refl (stood_before_landing own c m run)

pub stood_loses : (own : List OwnEvent) (c m p : ℕ) (mark : Mark) (g : Claim)
    → Has (standing_claims (Loses c m p mark ∷ own)) g → Has (standing_claims own) g
stood_loses own c m p mark = stood own (Loses c m p mark) refl (stood_before_loss own c m p mark)

pub stood_sizes : (own : List OwnEvent) (c told : ℕ) (g : Claim)
    → Has (standing_claims (Sizes c told ∷ own)) g → Has (standing_claims own) g
stood_sizes own c told = stood own (Sizes c told) refl (stood_before_sizing own c told)

pub none_halted : (own : List OwnEvent) (ends : Bool) (g : Claim) → Has (standing_claims (Halts ends ∷ own)) g → ⊥
none_halted own ends g has =
    let there = has_filter (is_standing (Halts ends ∷ own)) (granted_claims own) g has in
    absurd (let bad = there.1 in cc)

-- the claim that a landing or a loss is of
pub lander : (own : List OwnEvent) (c m : ℕ) (run : Run) (may : MayLand own c m run)
    → Has (standing_claims own) may.claim
lander own c m run may = has_from (standing_claims own) may.claim may.stands.0 may.stands.1 may.stands.2

pub loser : (len : ℕ) (own : List OwnEvent) (c m p : ℕ) (may : MayBeLost len own c m p)
    → Has (standing_claims own) may.claim
loser len own c m p may = has_from (standing_claims own) may.claim may.stands.0 may.stands.1 may.stands.2

-- after a loss none stands
pub none_lost : (len : ℕ) (own : List OwnEvent) (c m p : ℕ) (mark : Mark) → HasOneClaim own
    → MayBeLost len own c m p → (g : Claim) → Has (standing_claims (Loses c m p mark ∷ own)) g → ⊥
none_lost len own c m p mark one may g has =
    let there = has_filter (is_standing (Loses c m p mark ∷ own)) (granted_claims own) g has in
    let same : may.claim ≡ g = only_one own may.claim g one (loser len own c m p may) (stood_loses own c m p mark g has)
    in
    lost_not_standing own c m p mark g (sym may.id_is ∙ ap (λ (x : Claim). x.id) same) there.1

-- a claim that stands after a grant is the new one, or an older one
pub new_or_old : (total len : ℕ) (own : List OwnEvent) (cl : Claim) → LegalOwn total len (Grants cl ∷ own) → (g : Claim)
    → Has (standing_claims (Grants cl ∷ own)) g → (cl ≡ g) ⊎ Has (standing_claims own) g
new_or_old total len own cl legal g has =
    let there = has_filter (is_standing (Grants cl ∷ own)) (cl ∷ granted_claims own) g has in
    ⊎_elim
    (λ (new : cl ≡ g). inl new)
    (λ (old : Has (granted_claims own) g).
    let less : g.id < cl.id = has_all (λ (x : Claim). x.id < cl.id) (granted_claims own) g
    (grant_facts total len own cl legal.1).fresh old in
    inr (in_filter (is_standing own) (granted_claims own) g old
    (sym (standing_after_grant own cl g (λ e. absurd (omega (arith, e)))) ∙ there.1)))
    there.0
