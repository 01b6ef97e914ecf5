-- Which landings count, as claims begin and end.
use Rattle.std.proofs.Common.{◌≡◌, ◌≢◌, ℕ, Bool, true, false, cond, eqb, List, [], ◌∷◌, refl, sym, ap, ◌∙◌, ⊎_elim}
use Rattle.std.specs.Prelude.{◌&&◌, ◌||◌, ◌==◌, not}
use Rattle.std.specs.List.{list_any, list_all}
use Rattle.std.proofs.lemmas.Bool.{cases_eq, ne_eqb, eq-eqb}
use Rattle.dl_kinds.specs.declared.runs.Run.{Run}
use Rattle.piece_table.specs.Changes.{is_in, is_present, Source, Absent, From}
use Rattle.dl_kinds.specs.declared.claims.Claim.{Claim}
use Rattle.dl_history.proofs.Bools.{or_cases, or_left, or_right}
use Rattle.dl_history.proofs.Ends.{stood_before_landing, stood_before_sizing}
use Rattle.dl_history.proofs.Members.{Has, any_has, has_any, has_filter, in_filter}
use Rattle.dl_history.specs.OwnEvents.{Checks, Clears, Grants, Halts, Lands, Loses, Opens, OwnEvent, Saves, Settles, Sizes}
use Rattle.dl_history.specs.PayloadParts.{is_alive, is_sole_in, source_by}
use Rattle.dl_history.specs.StandingClaims.{blocks_in, granted_claims, has_given_all, is_standing, lands_block_by, standing_claims, stands_in}

clears_cases : (e : Bool) (x y : Source) → (is_present x ≡ true → is_present y ≡ true)
    → is_present (cond e Absent x) ≡ true → is_present (cond e Absent y) ≡ true
clears_cases true x y more h = h
clears_cases false x y more h = more h

lands_cases : (t s v w m : Bool) (n : ℕ) (x y : Source) → (t ≡ true → v ≡ true → w ≡ true)
    → (is_present x ≡ true → is_present y ≡ true)
    → is_present (cond (t && (not s || v)) (From n) x) ≡ true
    → is_present (cond (t && (not s || w)) (From n) y) ≡ true
lands_cases false s v w m n x y keep more h = more h
lands_cases true false v w m n x y keep more h = refl
lands_cases true true true w m n x y keep more h = rw (keep refl refl) refl
lands_cases true true false true m n x y keep more h = refl
lands_cases true true false false m n x y keep more h = more h

-- where fewer claims count, fewer blocks are landed
pub fewer : (own : List OwnEvent) (few many : ℕ → Bool) (p b : ℕ)
    → ((c : ℕ) → list_any (lands_block_by c b) own ≡ true → few c ≡ true → many c ≡ true)
    → is_present (source_by few p b own) ≡ true → is_present (source_by many p b own) ≡ true
fewer [] few many p b keep h = h
fewer (Opens verified blocks now ∷ before) few many p b keep h = h
fewer (Grants claim ∷ before) few many p b keep h = fewer before few many p b keep h
fewer (Lands id mirror run ∷ before) few many p b keep h =
    lands_cases (is_in b run) (is_sole_in before p) (few id) (many id) true mirror (source_by few p b before)
    (source_by many p b before)
    (λ here counts. keep id
    (or_left (eqb id id && is_in b run) (list_any (lands_block_by id b) before)
    (rw (eq-eqb id id refl, here) refl)) counts)
    (fewer before few many p b
    (λ c by. keep c (or_right (eqb id c && is_in b run) (list_any (lands_block_by c b) before) by))) h
fewer (Settles piece right giver ∷ before) few many p b keep h = fewer before few many p b keep h
fewer (Clears piece ∷ before) few many p b keep h =
    clears_cases (eqb piece p) (source_by few p b before) (source_by many p b before) (fewer before few many p b keep)
    h
fewer (Loses id mirror piece mark ∷ before) few many p b keep h = fewer before few many p b keep h
fewer (Sizes id total ∷ before) few many p b keep h = fewer before few many p b keep h
fewer (Saves now ∷ before) few many p b keep h = fewer before few many p b keep h
fewer (Checks right ∷ before) few many p b keep h = fewer before few many p b keep h
fewer (Halts ends ∷ before) few many p b keep h = fewer before few many p b keep h

-- ---- claims that stand

pub stands_as : (own : List OwnEvent) (c : ℕ) → stands_in own c ≡ true → (g : Claim) × Has (granted_claims own) g
    × (is_standing own g ≡ true) × ((g.id == c) ≡ true)
stands_as own c h =
    let r = any_has (λ (g : Claim). g.id == c) (standing_claims own) h in
    let f = has_filter (is_standing own) (granted_claims own) r.0 r.1 in
    (r.0, f.0, f.1, r.2)

pub stands_by : (own : List OwnEvent) (c : ℕ) (g : Claim) → Has (granted_claims own) g → is_standing own g ≡ true
    → (g.id == c) ≡ true → stands_in own c ≡ true
stands_by own c g has standing is = has_any (λ (x : Claim). x.id == c) _ g
    (in_filter (is_standing own) (granted_claims own) g has standing) is

whole_other : (own : List OwnEvent) (c c0 m : ℕ) (run : Run) → c0 ≢ c
    → has_given_all (Lands c0 m run ∷ own) c ≡ has_given_all own c
whole_other own c c0 m run apart =
    ap (λ (e : Bool). list_any
    (λ (g : Claim). g.id == c && list_all (λ b. (e && is_in b run) || list_any (lands_block_by c b) own)
    (blocks_in g.run)) (granted_claims own)) (ne_eqb c0 c apart)

-- a claim that counts after a landing counted before it
pub alive_before_landing : (own : List OwnEvent) (c0 m : ℕ) (run : Run) → stands_in own c0 ≡ true → (c : ℕ)
    → is_alive (Lands c0 m run ∷ own) c ≡ true → is_alive own c ≡ true
alive_before_landing own c0 m run stood c alive =
    ⊎_elim
    (λ (same : c0 ≡ c). or_left (stands_in own c) (has_given_all own c) (ap (stands_in own) (sym same) ∙ stood))
    (λ (apart : c0 ≢ c).
    or_cases (stands_in (Lands c0 m run ∷ own) c) (has_given_all (Lands c0 m run ∷ own) c) alive
    (λ s. let r = stands_as (Lands c0 m run ∷ own) c s in
    or_left (stands_in own c) (has_given_all own c)
    (stands_by own c r.0 r.1 (stood_before_landing own c0 m run r.0 r.2) r.3))
    (λ w. or_right (stands_in own c) (has_given_all own c) (sym (whole_other own c c0 m run apart) ∙ w)))
    (cases_eq c0 c)

pub alive_before_sizing : (own : List OwnEvent) (c told c' : ℕ) → is_alive (Sizes c told ∷ own) c' ≡ true
    → is_alive own c' ≡ true
alive_before_sizing own c told c' alive =
    or_cases (stands_in (Sizes c told ∷ own) c') (has_given_all own c') alive
    (λ s. let r = stands_as (Sizes c told ∷ own) c' s in
    or_left (stands_in own c') (has_given_all own c')
    (stands_by own c' r.0 r.1 (stood_before_sizing own c told r.0 r.2) r.3))
    (or_right (stands_in own c') (has_given_all own c'))
