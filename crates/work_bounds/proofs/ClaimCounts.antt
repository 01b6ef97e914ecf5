-- How many claims there are, and how each ends.
use Rattle.std.proofs.Common.{◌≡◌, ◌≢◌, ◌⊎◌, ℕ, suc, ◌+◌, ◌*◌, ◌<◌, ◌≤◌, max, Bool, true, false, cond, Option, Some, None, List, [], ◌∷◌, length, refl, sym, ap, ◌∙◌, subst, inl, inr, ⊎_elim, arith}
use Rattle.std.specs.Prelude.{◌||◌, ◌==◌, not}
use Rattle.std.specs.List.{list_any}
use Rattle.std.specs.Option.{is_some}
use Rattle.std.proofs.lemmas.Bool.{eq-eqb, ne_eqb}
use Rattle.dl_kinds.specs.Plan.{blocks_of, pieces_of}
use Rattle.dl_kinds.specs.declared.claims.Claim.{Claim}
use Rattle.piece_table.specs.Changes.{is_in}
use Rattle.piece_table.specs.declared.giver.Giver.TheVariants.{Nobody, One, Mixed}
use Rattle.dl_history.proofs.Bools.{and_both, or_left, or_right, true_not_false}
use Rattle.dl_history.proofs.Early.{first_in, not_false, probe_early}
use Rattle.dl_history.proofs.Ends.{has_ended, has_more, standing_after_grant}
use Rattle.dl_history.proofs.Facts.{grant_facts}
use Rattle.dl_history.proofs.Idle.{told_idle}
use Rattle.dl_history.proofs.Members.{Has, has_all, has_filter, has_from, in_filter}
use Rattle.dl_history.proofs.Sole.{run_has, unfound}
use Rattle.dl_history.proofs.Whole.{since_new}
use Rattle.dl_history.specs.OwnEvents.{Checks, Clears, Grants, Halts, Lands, Loses, Opens, OwnEvent, Saves, Settles, Sizes}
use Rattle.dl_history.specs.OwnLegal.{LegalOwn, MayClaim, MayProbe, MaySize}
use Rattle.dl_history.specs.PayloadParts.{blames_in, told_total}
use Rattle.dl_history.specs.StandingClaims.{blocks_in, ends_claim, first_open_since, granted_claims, grants_claim, is_open_since, is_probe, is_standing, lands_block, since, standing_claims}
use Rattle.work_bounds.proofs.Landings.{few_landings_in_all, is_landing}
use Rattle.work_bounds.proofs.MarkSums.{few_marks}
use Rattle.work_bounds.proofs.Ordered.{Ordered, earlier, few_before, lander, loser, only_one}
use Rattle.work_bounds.proofs.Pauses.{halts, pauses, pauses_few, rests}
use Rattle.work_bounds.proofs.Tallies.{tally}
use Rattle.work_bounds.specs.BoundLaws.{StandsOrEnded, brings_or_ends}
use Rattle.work_bounds.specs.OneAtATime.{HasOneClaim}

abbrev pub is_loss : OwnEvent → Bool
is_loss (Loses id mirror piece mark) = true
is_loss e = false

abbrev pub is_sizing : OwnEvent → Bool
is_sizing (Sizes id total) = true
is_sizing e = false

-- ---- a new claim stands

has_long : {A : Type 0} (xs : List A) (x : A) → Has xs x → 1 ≤ length xs
has_long [] x has = absurd has
has_long (y ∷ ys) x has = omega arith

none_long : {A : Type 0} (xs : List A) → ((x : A) → Has xs x → ⊥) → length xs ≡ 0
none_long [] none = refl
none_long (y ∷ ys) none = absurd (none y (inl refl))

unended : (own : List OwnEvent) (cl : Claim) → has_ended (Grants cl ∷ own) cl ≡ false
unended own cl =
    ap (λ (t : Bool). list_any (ends_claim cl.id) (cond t [] (Grants cl ∷ since (grants_claim cl.id) own)))
    (eq-eqb cl.id cl.id refl)

first_opened : (own : List OwnEvent) (cl : Claim) → 1 ≤ cl.run.count
    → is_some (first_open_since (Grants cl ∷ own) cl) ≡ true
first_opened own cl some =
    let inside = first_in cl.run some in
    let opened : is_open_since (Grants cl ∷ own) cl cl.run.first ≡ true =
    and_both (is_in cl.run.first cl.run)
    (not (list_any (lands_block cl.run.first) (since (grants_claim cl.id) (Grants cl ∷ own)))) inside
    (ap not (since_new own cl cl.run.first)) in
    not_false (is_some (first_open_since (Grants cl ∷ own) cl))
    (λ none. true_not_false (is_open_since (Grants cl ∷ own) cl cl.run.first) opened
    (unfound (is_open_since (Grants cl ∷ own) cl) (blocks_in cl.run) none cl.run.first
    (run_has cl.run cl.run.first inside)))

pub new_stands : (total len : ℕ) (own : List OwnEvent) (cl : Claim) → MayProbe own cl ⊎ MayClaim total len own cl
    → is_standing (Grants cl ∷ own) cl ≡ true
new_stands total len own cl may =
    and_both (not (has_ended (Grants cl ∷ own) cl)) (has_more (Grants cl ∷ own) cl) (ap not (unended own cl))
    (⊎_elim
    (λ (probe : MayProbe own cl).
    or_left (is_probe cl) (is_some (first_open_since (Grants cl ∷ own) cl)) (eq-eqb cl.run.count 0 probe.count))
    (λ (claim : MayClaim total len own cl).
    or_right (is_probe cl) (is_some (first_open_since (Grants cl ∷ own) cl)) (first_opened own cl claim.some))
    may)

older_apart : (total len : ℕ) (own : List OwnEvent) (cl g : Claim) → LegalOwn total len (Grants cl ∷ own)
    → Has (granted_claims own) g → cl.id ≢ g.id
older_apart total len own cl g legal has is =
    let less : g.id < cl.id = has_all (λ (x : Claim). x.id < cl.id) (granted_claims own) g
    (grant_facts total len own cl legal.1).fresh has in
    absurd (omega (arith, is))

-- where one is granted, none stood
none_stood : (total len mirrors tries : ℕ) (own : List OwnEvent) (cl : Claim)
    → Ordered total len mirrors tries (Grants cl ∷ own) → (g : Claim) → Has (standing_claims own) g → ⊥
none_stood total len mirrors tries own cl o g has =
    let there = has_filter (is_standing own) (granted_claims own) g has in
    let apart = older_apart total len own cl g o.legal there.0 in
    let still : Has (standing_claims (Grants cl ∷ own)) g =
    in_filter (is_standing (Grants cl ∷ own)) (cl ∷ granted_claims own) g (inr there.0)
    (standing_after_grant own cl g apart ∙ there.1) in
    let new : Has (standing_claims (Grants cl ∷ own)) cl =
    in_filter (is_standing (Grants cl ∷ own)) (cl ∷ granted_claims own) cl (inl refl)
    (new_stands total len own cl o.legal.1) in
    apart (ap (λ (x : Claim). x.id) (only_one (Grants cl ∷ own) cl g o.one new still))

-- ---- how many claims

-- what a claim may have ended by
abbrev ends_count : List OwnEvent → ℕ
ends_count own = tally is_landing own + tally is_loss own + tally is_sizing own

abbrev claim_room : List OwnEvent → ℕ
claim_room own = ends_count own + pauses own + cond (rests own) 1 (length (standing_claims own))

grant_more : (t : Bool) (g a k h x y : ℕ) → k + cond t 1 0 ≤ h → x ≡ 0 → 1 ≤ y → g ≤ a + k + cond t 1 x
    → suc g ≤ a + h + y
grant_more true g a k h x y le none some few = omega arith
grant_more false g a k h x y le none some few = omega arith

end_more : (t : Bool) (g a k x y : ℕ) → x ≤ 1 → g ≤ a + k + cond t 1 x → g ≤ suc a + k + cond t 1 y
end_more true g a k x y small few = omega arith
end_more false g a k x y small few = omega arith

halt_more : (t : Bool) (g a k x : ℕ) → x ≤ 1 → g ≤ a + k + cond t 1 x → g ≤ a + k + 1
halt_more true g a k x small few = omega arith
halt_more false g a k x small few = omega arith

claims_fit : (total len mirrors tries : ℕ) (own : List OwnEvent) → Ordered total len mirrors tries own
    → length (granted_claims own) ≤ claim_room own
claims_fit total len mirrors tries [] o = omega arith
claims_fit total len mirrors tries (Opens verified blocks now ∷ own) o =
    claims_fit total len mirrors tries own (earlier total len mirrors tries (Opens verified blocks now) own o)
claims_fit total len mirrors tries (Grants cl ∷ own) o =
    let f = claims_fit total len mirrors tries own (earlier total len mirrors tries (Grants cl) own o) in
    let none = none_long (standing_claims own) (none_stood total len mirrors tries own cl o) in
    let some = has_long (standing_claims (Grants cl ∷ own)) cl
    (in_filter (is_standing (Grants cl ∷ own)) (cl ∷ granted_claims own) cl (inl refl)
    (new_stands total len own cl o.legal.1)) in
    grant_more (rests own) (length (granted_claims own)) (ends_count own) (pauses own) (halts own)
    (length (standing_claims own)) (length (standing_claims (Grants cl ∷ own))) (pauses_few own) none some f
claims_fit total len mirrors tries (Lands c m run ∷ own) o =
    let f = claims_fit total len mirrors tries own (earlier total len mirrors tries (Lands c m run) own o) in
    let e = end_more (rests own) (length (granted_claims own)) (ends_count own) (pauses own) (length
    (standing_claims own))
    (length (standing_claims (Lands c m run ∷ own))) (few_before own o.one.0) f in
    omega arith
claims_fit total len mirrors tries (Settles q right giver ∷ own) o =
    claims_fit total len mirrors tries own (earlier total len mirrors tries (Settles q right giver) own o)
claims_fit total len mirrors tries (Clears q ∷ own) o =
    claims_fit total len mirrors tries own (earlier total len mirrors tries (Clears q) own o)
claims_fit total len mirrors tries (Loses c m q mark ∷ own) o =
    let f = claims_fit total len mirrors tries own (earlier total len mirrors tries (Loses c m q mark) own o) in
    let e = end_more (rests own) (length (granted_claims own)) (ends_count own) (pauses own) (length
    (standing_claims own))
    (length (standing_claims (Loses c m q mark ∷ own))) (few_before own o.one.0) f in
    omega arith
claims_fit total len mirrors tries (Sizes c told ∷ own) o =
    let f = claims_fit total len mirrors tries own (earlier total len mirrors tries (Sizes c told) own o) in
    let e = end_more (rests own) (length (granted_claims own)) (ends_count own) (pauses own) (length
    (standing_claims own))
    (length (standing_claims (Sizes c told ∷ own))) (few_before own o.one.0) f in
    omega arith
claims_fit total len mirrors tries (Saves now ∷ own) o =
    claims_fit total len mirrors tries own (earlier total len mirrors tries (Saves now) own o)
claims_fit total len mirrors tries (Checks right ∷ own) o =
    claims_fit total len mirrors tries own (earlier total len mirrors tries (Checks right) own o)
claims_fit total len mirrors tries (Halts ends ∷ own) o =
    halt_more (rests own) (length (granted_claims own)) (ends_count own) (pauses own) (length (standing_claims own))
    (few_before own o.one.0)
    (claims_fit total len mirrors tries own (earlier total len mirrors tries (Halts ends) own o))

-- ---- one probe tells the length

some_so : {A : Type 0} (o : Option A) → is_some o ≡ true → (x : A) × (o ≡ Some x)
some_so None h = absurd cc
some_so (Some x) h = (x, refl)

told_cases : (t : Bool) (n : ℕ) → (t ≡ true → ⊥) → n ≤ cond t 1 0 → suc n ≤ 1
told_cases true n never le = absurd (never refl)
told_cases false n never le = omega arith

told_twice : (total len : ℕ) (own : List OwnEvent) (c : ℕ) → LegalOwn total len own → MaySize own c
    → is_some (told_total own) ≡ true → ⊥
told_twice total len own c legal may told =
    let stands = has_from (standing_claims own) may.claim may.stands.0 may.stands.1 may.stands.2 in
    let there = has_filter (is_standing own) (granted_claims own) may.claim stands in
    let un = probe_early total len own legal may.claim there.0 there.1 may.probe in
    let t = some_so (told_total own) told in
    subst (λ (xs : List Claim). Has xs may.claim) (told_idle total len own t.0 legal un t.1) stands

pub told_once : (total len : ℕ) (own : List OwnEvent) → LegalOwn total len own
    → tally is_sizing own ≤ cond (is_some (told_total own)) 1 0
told_once total len [] legal = omega arith
told_once total len (Opens verified blocks now ∷ own) legal = told_once total len own legal.0
told_once total len (Grants cl ∷ own) legal = told_once total len own legal.0
told_once total len (Lands c m run ∷ own) legal = told_once total len own legal.0
told_once total len (Settles q right giver ∷ own) legal = told_once total len own legal.0
told_once total len (Clears q ∷ own) legal = told_once total len own legal.0
told_once total len (Loses c m q mark ∷ own) legal = told_once total len own legal.0
told_once total len (Sizes c told ∷ own) legal =
    told_cases (is_some (told_total own)) (tally is_sizing own) (told_twice total len own c legal.0 legal.1)
    (told_once total len own legal.0)
told_once total len (Saves now ∷ own) legal = told_once total len own legal.0
told_once total len (Checks right ∷ own) legal = told_once total len own legal.0
told_once total len (Halts ends ∷ own) legal = told_once total len own legal.0

pub one_bit : (t : Bool) → cond t 1 0 ≤ 1
one_bit true = omega arith
one_bit false = omega arith

-- ---- each loss is a mark

pub lost_marks : (own : List OwnEvent) → tally is_loss own ≤ length (blames_in own)
lost_marks [] = omega arith
lost_marks (Opens verified blocks now ∷ own) = lost_marks own
lost_marks (Grants cl ∷ own) = lost_marks own
lost_marks (Lands c m run ∷ own) = lost_marks own
lost_marks (Settles q true giver ∷ own) = lost_marks own
lost_marks (Settles q false Nobody ∷ own) = lost_marks own
lost_marks (Settles q false (One n) ∷ own) = let l = lost_marks own in omega arith
lost_marks (Settles q false Mixed ∷ own) = lost_marks own
lost_marks (Clears q ∷ own) = lost_marks own
lost_marks (Loses c m q mark ∷ own) = let l = lost_marks own in omega arith
lost_marks (Sizes c told ∷ own) = lost_marks own
lost_marks (Saves now ∷ own) = lost_marks own
lost_marks (Checks right ∷ own) = lost_marks own
lost_marks (Halts ends ∷ own) = lost_marks own

rest_bit : (t : Bool) (x : ℕ) → x ≤ 1 → cond t 1 x ≤ 1
rest_bit true x small = omega arith
rest_bit false x small = small

-- the claims, by the landings and losses
pub claims_by_ends : (total len mirrors tries : ℕ) (own : List OwnEvent) → Ordered total len mirrors tries own
    → length (granted_claims own) ≤ tally is_landing own + tally is_loss own + 2 + pauses own
claims_by_ends total len mirrors tries own o =
    let f = claims_fit total len mirrors tries own o in
    let r = rest_bit (rests own) (length (standing_claims own)) (few_before own o.one) in
    let s = told_once total len own o.legal in
    let b = one_bit (is_some (told_total own)) in
    omega arith

pub few_claims : (total len mirrors tries : ℕ) (own : List OwnEvent) → Ordered total len mirrors tries own
    → length (granted_claims own)
    ≤ blocks_of total len * (mirrors * tries + 2 + pauses own) + max (pieces_of total len) 1 * (mirrors * tries) + 2
    + pauses own
few_claims total len mirrors tries own o =
    let c = claims_by_ends total len mirrors tries own o in
    let l = few_landings_in_all total len mirrors tries own o in
    let m = few_marks total len mirrors tries own o in
    let s = lost_marks own in
    omega arith

-- ---- how each ends

-- what came since the grant, and what comes
since_more : (own : List OwnEvent) (e : OwnEvent) (g : Claim) → grants_claim g.id e ≡ false
    → list_any (brings_or_ends g.id) (since (grants_claim g.id) (e ∷ own))
    ≡ (brings_or_ends g.id e || list_any (brings_or_ends g.id) (since (grants_claim g.id) own))
since_more own e g other =
    ap (λ (t : Bool). list_any (brings_or_ends g.id) (cond t [] (e ∷ since (grants_claim g.id) own))) other

-- an event that ends no claim
keeps_end : (own : List OwnEvent) (e : OwnEvent) (g : Claim) → grants_claim g.id e ≡ false
    → (is_standing own g ≡ true → is_standing (e ∷ own) g ≡ true) → StandsOrEnded own g → StandsOrEnded (e ∷ own) g
keeps_end own e g other stands (inl is) = inl (stands is)
keeps_end own e g other stands (inr ended) =
    inr (since_more own e g other
    ∙ or_right (brings_or_ends g.id e) (list_any (brings_or_ends g.id) (since (grants_claim g.id) own)) ended)

-- .. and one that ends each that stood
ends_each : (own : List OwnEvent) (e : OwnEvent) (g : Claim) → grants_claim g.id e ≡ false
    → (is_standing own g ≡ true → brings_or_ends g.id e ≡ true) → StandsOrEnded own g → StandsOrEnded (e ∷ own) g
ends_each own e g other ends (inl is) =
    inr (since_more own e g other
    ∙ or_left (brings_or_ends g.id e) (list_any (brings_or_ends g.id) (since (grants_claim g.id) own)) (ends is))
ends_each own e g other ends (inr ended) =
    inr (since_more own e g other
    ∙ or_right (brings_or_ends g.id e) (list_any (brings_or_ends g.id) (since (grants_claim g.id) own)) ended)

-- the claim that stands is the one that the event names
named : (own : List OwnEvent) (c : ℕ) (claim g : Claim) → HasOneClaim own → Has (standing_claims own) claim
    → claim.id ≡ c → Has (granted_claims own) g → is_standing own g ≡ true → (c == g.id) ≡ true
named own c claim g one stands id has is =
    eq-eqb c g.id
    (sym id ∙ ap (λ (x : Claim). x.id) (only_one own claim g one stands (in_filter (is_standing own)
    (granted_claims own) g has is)))

pub claims_end : (total len mirrors tries : ℕ) (own : List OwnEvent) → Ordered total len mirrors tries own → (g : Claim)
    → Has (granted_claims own) g → StandsOrEnded own g
claims_end total len mirrors tries [] o g has = absurd has
claims_end total len mirrors tries (Opens verified blocks now ∷ own) o g has =
    keeps_end own (Opens verified blocks now) g refl (λ s. s)
    (claims_end total len mirrors tries own (earlier total len mirrors tries (Opens verified blocks now) own o) g has)
claims_end total len mirrors tries (Grants cl ∷ own) o g has =
    ⊎_elim
    (λ (new : cl ≡ g). inl (subst (λ (x : Claim). is_standing (Grants cl ∷ own) x ≡ true) new
    (new_stands total len own cl o.legal.1)))
    (λ (old : Has (granted_claims own) g).
    let apart = older_apart total len own cl g o.legal old in
    keeps_end own (Grants cl) g (ne_eqb cl.id g.id apart) (λ s. standing_after_grant own cl g apart ∙ s)
    (claims_end total len mirrors tries own (earlier total len mirrors tries (Grants cl) own o) g old))
    has
claims_end total len mirrors tries (Lands c m run ∷ own) o g has =
    let may = o.legal.1 in
    ends_each own (Lands c m run) g refl
    (λ s. named own c may.claim g o.one.0 (lander own c m run may) may.id_is has s)
    (claims_end total len mirrors tries own (earlier total len mirrors tries (Lands c m run) own o) g has)
claims_end total len mirrors tries (Settles q right giver ∷ own) o g has =
    keeps_end own (Settles q right giver) g refl (λ s. s)
    (claims_end total len mirrors tries own (earlier total len mirrors tries (Settles q right giver) own o) g has)
claims_end total len mirrors tries (Clears q ∷ own) o g has =
    keeps_end own (Clears q) g refl (λ s. s)
    (claims_end total len mirrors tries own (earlier total len mirrors tries (Clears q) own o) g has)
claims_end total len mirrors tries (Loses c m q mark ∷ own) o g has =
    let may = o.legal.1 in
    ends_each own (Loses c m q mark) g refl
    (λ s. named own c may.claim g o.one.0 (loser len own c m q may) may.id_is has s)
    (claims_end total len mirrors tries own (earlier total len mirrors tries (Loses c m q mark) own o) g has)
claims_end total len mirrors tries (Sizes c told ∷ own) o g has =
    let may = o.legal.1 in
    ends_each own (Sizes c told) g refl
    (λ s. named own c may.claim g o.one.0
    (has_from (standing_claims own) may.claim may.stands.0 may.stands.1 may.stands.2) may.id_is has s)
    (claims_end total len mirrors tries own (earlier total len mirrors tries (Sizes c told) own o) g has)
claims_end total len mirrors tries (Saves now ∷ own) o g has =
    keeps_end own (Saves now) g refl (λ s. s)
    (claims_end total len mirrors tries own (earlier total len mirrors tries (Saves now) own o) g has)
claims_end total len mirrors tries (Checks right ∷ own) o g has =
    keeps_end own (Checks right) g refl (λ s. s)
    (claims_end total len mirrors tries own (earlier total len mirrors tries (Checks right) own o) g has)
claims_end total len mirrors tries (Halts ends ∷ own) o g has =
    ends_each own (Halts ends) g refl (λ s. refl)
    (claims_end total len mirrors tries own (earlier total len mirrors tries (Halts ends) own o) g has)
