-- The claims of sole pieces in a legal history.
use Rattle.std.proofs.Common.{◌≡◌, ◌≢◌, ◌⊎◌, ℕ, zero, suc, ◌+◌, ◌<◌, ◌≤◌, Bool, true, false, cond, eqb, Option, Some, None, List, [], ◌∷◌, refl, sym, ap, ◌∙◌, subst, inl, inr, ⊎_elim, arith}
use Rattle.std.specs.Prelude.{◌&&◌, ◌==◌, not, nat_lt, nat_le, find}
use Rattle.std.specs.Option.{is_some}
use Rattle.std.specs.List.{list_any, list_all, range_with_len}
use Rattle.std.proofs.lemmas.Bool.{eqb-true, cases_eq}
use Rattle.std.proofs.lemmas.Bool.Decides.{nat_tests}
use Rattle.dl_kinds.specs.declared.runs.Run.{Run}
use Rattle.piece_table.specs.Changes.{is_in}
use Rattle.dl_kinds.specs.declared.claims.Claim.{Claim}
use Rattle.dl_history.proofs.Bools.{and_both, and_left, and_right, not_true, or_cases, or_left, or_right, true_not_false}
use Rattle.dl_history.proofs.Early.{below_end, probe_early}
use Rattle.dl_history.proofs.Ends.{has_come, has_ended, has_more}
use Rattle.dl_history.proofs.Facts.{facts, grant_facts, no_landing_yet}
use Rattle.dl_history.proofs.Members.{Has, any_has, has_all}
use Rattle.dl_history.specs.OwnEvents.{Checks, Clears, Grants, Halts, Lands, Loses, Opens, OwnEvent, Saves, Settles, Sizes}
use Rattle.dl_history.specs.OwnLegal.{LegalOwn}
use Rattle.dl_history.specs.PayloadParts.{is_opened}
use Rattle.dl_history.specs.StandingClaims.{blocks_in, first_open_since, granted_claims, grants_claim, has_given_all, is_open_since, is_probe, is_standing, lands_block, lands_block_by, since}

-- ---- numbers of a run

in_range : (from n b : ℕ) → Has (range_with_len from n) b → (from ≤ b) × (b < from + n)
in_range from zero b h = absurd h
in_range from (suc n) b (inl is) = (omega (arith, is), omega (arith, is))
in_range from (suc n) b (inr h) = let r = in_range (from + 1) n b h in (omega (arith, r.0), omega (arith, r.1))

pub in_run : (run : Run) (b : ℕ) → Has (blocks_in run) b → is_in b run ≡ true
in_run run b h = let r = in_range run.first run.count b h in let p : nat_le run.first b ≡ true =
    grind (arith, nat_tests) in let q : nat_lt b (run.first + run.count) ≡ true = grind (arith, nat_tests) in
    and_both (nat_le run.first b) (nat_lt b (run.first + run.count)) p q

all_cases : {A : Type 0} (p : A → Bool) (y : A) (ys : List A) → p y ≡ true → list_all p ys ≡ true
    → (p y && list_all p ys) ≡ true
all_cases p y ys a b = and_both (p y) (list_all p ys) a b

pub each_all : {A : Type 0} (p : A → Bool) (xs : List A) → ((x : A) → Has xs x → p x ≡ true) → list_all p xs ≡ true
each_all p [] each = refl
each_all p (y ∷ ys) each = all_cases p y ys (each y (inl refl)) (each_all p ys (λ x h. each x (inr h)))

pub all_each : {A : Type 0} (p : A → Bool) (xs : List A) (x : A) → list_all p xs ≡ true → Has xs x → p x ≡ true
all_each p [] x all h = absurd h
all_each p (y ∷ ys) x all (inl is) = ap p (sym is) ∙ and_left (p y) (list_all p ys) all
all_each p (y ∷ ys) x all (inr h) = all_each p ys x (and_right (p y) (list_all p ys) all) h

found_cases : (p : ℕ → Bool) (y : ℕ) (ys : List ℕ) (t : Bool) → p y ≡ t
    → ((b : ℕ) → find p ys ≡ Some b → Has ys b × (p b ≡ true))
    → (b : ℕ) → cond t (Some y) (find p ys) ≡ Some b → ((y ≡ b) ⊎ Has ys b) × (p b ≡ true)
found_cases p y ys true is rest b h = let same : y ≡ b = cc in (inl same, ap p (sym same) ∙ is)
found_cases p y ys false is rest b h = let r = rest b h in (inr r.0, r.1)

pub found : (p : ℕ → Bool) (xs : List ℕ) (b : ℕ) → find p xs ≡ Some b → Has xs b × (p b ≡ true)
found p [] b h = absurd cc
found p (y ∷ ys) b h = found_cases p y ys (p y) refl (found p ys) b h

unfound_cases : (p : ℕ → Bool) (y : ℕ) (ys : List ℕ) (t : Bool) → p y ≡ t
    → (is_some (find p ys) ≡ false → (x : ℕ) → Has ys x → p x ≡ false)
    → is_some (cond t (Some y) (find p ys)) ≡ false → (x : ℕ) → (y ≡ x) ⊎ Has ys x → p x ≡ false
unfound_cases p y ys true is rest none x h = absurd cc
unfound_cases p y ys false is rest none x (inl same) = ap p (sym same) ∙ is
unfound_cases p y ys false is rest none x (inr h) = rest none x h

pub unfound : (p : ℕ → Bool) (xs : List ℕ) → is_some (find p xs) ≡ false → (x : ℕ) → Has xs x → p x ≡ false
unfound p [] none x h = absurd h
unfound p (y ∷ ys) none x h = unfound_cases p y ys (p y) refl (unfound p ys) none x h

pub some_of : {A : Type 0} (o : Option A) → is_some o ≡ true → (x : A) × (o ≡ Some x)
some_of None h = absurd cc
some_of (Some x) h = (x, refl)

-- ---- a claim that stands has an open block, and is known by its number

pub first_block : (own : List OwnEvent) (g : Claim) → is_probe g ≡ false → is_standing own g ≡ true → (b : ℕ)
    × (first_open_since own g ≡ Some b)
first_block own g real s =
    let more = and_right (not (has_ended own g)) (has_more own g) s in
    some_of (first_open_since own g)
    (or_cases (is_probe g) (is_some (first_open_since own g)) more (λ is. true_not_false (is_probe g) is real)
    (λ is. is))

pub open_block : (own : List OwnEvent) (g : Claim) → is_probe g ≡ false → is_standing own g ≡ true → (b : ℕ)
    × (is_open_since own g b ≡ true)
open_block own g real s =
    let o = first_block own g real s in
    (o.0, (found (is_open_since own g) (blocks_in g.run) o.0 o.1).1)

-- a claim that stands once the download is opened is no probe
pub real_claim : (total len : ℕ) (own : List OwnEvent) (g : Claim) → LegalOwn total len own → is_opened own ≡ true
    → Has (granted_claims own) g
    → is_standing own g ≡ true → is_probe g ≡ false
real_claim total len own g legal opened has s =
    not_true (is_probe g) (λ is. true_not_false (is_opened own) opened (probe_early total len own legal g has s is))

pub apart : (total len : ℕ) (own : List OwnEvent) → LegalOwn total len own → (g h : Claim)
    → Has (granted_claims own) g → Has (granted_claims own) h → g.id ≡ h.id → g ≡ h
apart total len [] legal g h hg hh is = absurd hg
apart total len (Opens verified blocks now ∷ own) legal g h hg hh is = apart total len own legal.0 g h hg hh is
apart total len (Grants cl ∷ own) legal g h hg hh is =
    let older : (x : Claim) → Has (granted_claims own) x
    → x.id < cl.id = λ x has. has_all (λ (y : Claim). y.id < cl.id) (granted_claims own) x
    (grant_facts total len own cl legal.1).fresh has in
    ⊎_elim
    (λ (gn : cl ≡ g).
    ⊎_elim
    (λ (hn : cl ≡ h). sym gn ∙ hn)
    (λ (ho : Has (granted_claims own) h). absurd
    (let o = older h ho in let e : cl.id ≡ g.id = ap (λ (x : Claim). x.id) gn in omega (arith, is)))
    hh)
    (λ (go : Has (granted_claims own) g).
    ⊎_elim
    (λ (hn : cl ≡ h). absurd
    (let o = older g go in let e : cl.id ≡ h.id = ap (λ (x : Claim). x.id) hn in omega (arith, is)))
    (λ (ho : Has (granted_claims own) h). apart total len own legal.0 g h go ho is)
    hh)
    hg
apart total len (Lands c m run ∷ own) legal g h hg hh is = apart total len own legal.0 g h hg hh is
apart total len (Settles p right giver ∷ own) legal g h hg hh is = apart total len own legal.0 g h hg hh is
apart total len (Clears p ∷ own) legal g h hg hh is = apart total len own legal.0 g h hg hh is
apart total len (Loses c m p mark ∷ own) legal g h hg hh is = apart total len own legal.0 g h hg hh is
apart total len (Sizes c told ∷ own) legal g h hg hh is = apart total len own legal.0 g h hg hh is
apart total len (Saves now ∷ own) legal g h hg hh is = apart total len own legal.0 g h hg hh is
apart total len (Checks right ∷ own) legal g h hg hh is = apart total len own legal.0 g h hg hh is
apart total len (Halts ends ∷ own) legal g h hg hh is = apart total len own legal.0 g h hg hh is

since_cases : (c b : ℕ) (e : OwnEvent) (own : List OwnEvent) (t : Bool) → grants_claim c e ≡ t
    → (t ≡ true → list_any (lands_block_by c b) own ≡ true → ⊥)
    → (list_any (lands_block_by c b) own ≡ true → list_any (lands_block b) (since (grants_claim c) own) ≡ true)
    → list_any (lands_block_by c b) own ≡ true
    → list_any (lands_block b) (cond t [] (e ∷ since (grants_claim c) own)) ≡ true
since_cases c b e own true is never rest h = absurd (never refl h)
since_cases c b e own false is never rest h =
    or_right (lands_block b e) (list_any (lands_block b) (since (grants_claim c) own)) (rest h)

-- a claim's landings came since its grant
pub since_grant : (total len : ℕ) (own : List OwnEvent) → LegalOwn total len own → (c b : ℕ)
    → list_any (lands_block_by c b) own ≡ true → list_any (lands_block b) (since (grants_claim c) own) ≡ true
since_grant total len [] legal c b h = h
since_grant total len (Opens verified blocks now ∷ own) legal c b h = since_grant total len own legal.0 c b h
since_grant total len (Grants cl ∷ own) legal c b h =
    since_cases c b (Grants cl) own (eqb cl.id c) refl
    (λ is by. let less = no_landing_yet total len own cl c b (facts total len own legal.0)
    (grant_facts total len own cl legal.1) by in let e : cl.id ≡ c = eqb-true cl.id c is in absurd (omega arith))
    (since_grant total len own legal.0 c b) h
since_grant total len (Lands c0 m run ∷ own) legal c b h =
    or_cases (eqb c0 c && is_in b run) (list_any (lands_block_by c b) own) h
    (λ here. or_left (is_in b run) (list_any (lands_block b) (since (grants_claim c) own))
    (and_right (eqb c0 c) (is_in b run) here))
    (λ old. or_right (is_in b run) (list_any (lands_block b) (since (grants_claim c) own))
    (since_grant total len own legal.0 c b old))
since_grant total len (Settles p right giver ∷ own) legal c b h = since_grant total len own legal.0 c b h
since_grant total len (Clears p ∷ own) legal c b h = since_grant total len own legal.0 c b h
since_grant total len (Loses c0 m p mark ∷ own) legal c b h = since_grant total len own legal.0 c b h
since_grant total len (Sizes c0 told ∷ own) legal c b h = since_grant total len own legal.0 c b h
since_grant total len (Saves now ∷ own) legal c b h = since_grant total len own legal.0 c b h
since_grant total len (Checks right ∷ own) legal c b h = since_grant total len own legal.0 c b h
since_grant total len (Halts ends ∷ own) legal c b h = since_grant total len own legal.0 c b h

in_list : (from n b : ℕ) → from ≤ b → b < from + n → Has (range_with_len from n) b
in_list from zero b low high = absurd (omega arith)
in_list from (suc n) b low high =
    ⊎_elim
    (λ (is : from ≡ b). inl is)
    (λ (other : from ≢ b). inr (in_list (from + 1) n b (omega arith) (omega arith)))
    (cases_eq from b)

pub run_has : (run : Run) (b : ℕ) → is_in b run ≡ true → Has (blocks_in run) b
run_has run b inside =
    let from = and_left (nat_le run.first b) (nat_lt b (run.first + run.count)) inside in
    let low : run.first ≤ b = grind (arith, nat_tests) in
    in_list run.first run.count b low (below_end b run inside)

-- a claim with an open block hasn't given its whole run
pub not_whole : (total len : ℕ) (own : List OwnEvent) → LegalOwn total len own → (g : Claim) (b : ℕ)
    → Has (granted_claims own) g
    → is_open_since own g b ≡ true → has_given_all own g.id ≡ true → ⊥
not_whole total len own legal g b has opened whole =
    let r = any_has
    (λ (x : Claim). x.id == g.id && list_all (λ b'. list_any (lands_block_by g.id b') own) (blocks_in x.run))
    (granted_claims own) whole in
    let same : r.0 ≡ g = apart total len own legal r.0 g r.1 has
    (eqb-true r.0.id g.id (and_left (r.0.id == g.id) _ r.2)) in
    let all : list_all (λ b'. list_any (lands_block_by g.id b') own) (blocks_in g.run) ≡ true =
    subst (λ (x : Claim). list_all (λ b'. list_any (lands_block_by g.id b') own) (blocks_in x.run) ≡ true) same
    (and_right (r.0.id == g.id) _ r.2) in
    let there = run_has g.run b (and_left (is_in b g.run) (not (has_come own g b)) opened) in
    let came = since_grant total len own legal g.id b
    (all_each (λ b'. list_any (lands_block_by g.id b') own) (blocks_in g.run) b all there) in
    let open_so = and_right (is_in b g.run) (not (has_come own g b)) opened in
    true_not_false (has_come own g b) came (let e = open_so in not_true (has_come own g b) (λ t. absurd cc))
