-- Landings in sole pieces: each is by the one claim, and they count while it stands or once it is whole.
use Rattle.std.proofs.Common.{◌≡◌, ◌≢◌, ℕ, ◌<◌, Bool, true, false, cond, eqb, List, [], ◌∷◌, refl, sym, ap, ◌∙◌, subst, ⊎_elim, arith}
use Rattle.std.specs.Prelude.{◌&&◌, ◌||◌, ◌==◌, not}
use Rattle.std.specs.Option.{is_some}
use Rattle.std.specs.List.{list_any, list_all}
use Rattle.std.proofs.lemmas.Bool.{ne_eqb, eq-eqb, eqb-true}
use Rattle.dl_kinds.specs.Plan.{piece_of, blocks_of}
use Rattle.dl_kinds.specs.declared.runs.Run.{Run}
use Rattle.piece_table.specs.Changes.{is_in}
use Rattle.piece_table.specs.declared.giver.Giver.{Giver}
use Rattle.dl_kinds.specs.declared.claims.Claim.{Claim}
use Rattle.dl_history.proofs.Alive.{stands_by}
use Rattle.dl_history.proofs.Bools.{and_both, and_left, and_right, or_cases, or_left, or_right, shut_came, true_not_false}
use Rattle.dl_history.proofs.Early.{below_end, early, probe_shut}
use Rattle.dl_history.proofs.Ends.{has_come, has_ended, has_more, open_after_grant, open_before, standing_after_grant, stood_before_landing, stood_before_loss, stood_before_sizing}
use Rattle.dl_history.proofs.Facts.{Facts, facts, grant_facts, no_landing_yet}
use Rattle.dl_history.proofs.Members.{Has, has_all, has_any, has_filter, has_from}
use Rattle.dl_history.proofs.Sole.{apart, each_all, in_run, unfound}
use Rattle.dl_history.specs.OwnEvents.{Checks, Clears, Grants, Halts, Lands, Loses, Opens, OwnEvent, Saves, Settles, Sizes}
use Rattle.dl_history.specs.OwnLegal.{LegalOwn, MayLand, MaySettle}
use Rattle.dl_history.specs.PayloadParts.{is_alive, is_landed_in, is_mixed, is_opened, is_sole_in}
use Rattle.dl_history.specs.StandingClaims.{blocks_in, first_open_since, granted_claims, grants_claim, has_given_all, is_open_since, is_probe, is_standing, lands_block, lands_block_by, since, standing_claims, stands_in}

-- the grant that a landing is of
pub granted_there : (own : List OwnEvent) (c m : ℕ) (run : Run) (may : MayLand own c m run)
    → Has (granted_claims own) may.claim × (is_standing own may.claim ≡ true)
granted_there own c m run may = has_filter (is_standing own) (granted_claims own) may.claim
    (has_from (standing_claims own) may.claim may.stands.0 may.stands.1 may.stands.2)

pub sole_before_verdict : (total len : ℕ) (own : List OwnEvent) (p : ℕ) (right : Bool) (giver : Giver)
    → Facts total len own → MaySettle total len own p giver
    → (g : Claim) (b : ℕ) → Has (granted_claims own) g → is_standing own g ≡ true → is_open_since own g b ≡ true
    → is_sole_in (Settles p right giver ∷ own) (piece_of len b) ≡ true → is_sole_in own (piece_of len b) ≡ true
sole_before_verdict total len own p right giver f may g b hg sg og is =
    or_cases (eqb p (piece_of len b) && not right && is_mixed giver) (is_sole_in own (piece_of len b)) is
    (λ new.
    let here : p ≡ piece_of len b =
    eqb-true p (piece_of len b)
    (and_left (eqb p (piece_of len b)) (not right)
    (and_left (eqb p (piece_of len b) && not right) (is_mixed giver) new)) in
    let inside : b < blocks_of total len = let w = f.within g hg in let e =
    below_end b g.run (and_left (is_in b g.run) _ og) in omega arith in
    true_not_false (is_landed_in len own b) (may.full b inside (sym here)) (f.unlanded g b hg sg og))
    (λ old. old)

pub since_new : (own : List OwnEvent) (cl : Claim) (b : ℕ)
    → list_any (lands_block b) (since (grants_claim cl.id) (Grants cl ∷ own)) ≡ false
since_new own cl b =
    ap (λ (e : Bool). list_any (lands_block b) (cond e [] (Grants cl ∷ since (grants_claim cl.id) own)))
    (eq-eqb cl.id cl.id refl)

pub since_old : (own : List OwnEvent) (cl : Claim) (b c' : ℕ) → cl.id ≢ c'
    → list_any (lands_block b) (since (grants_claim c') (Grants cl ∷ own)) ≡ list_any (lands_block b)
    (since (grants_claim c') own)
since_old own cl b c' other =
    ap (λ (e : Bool). list_any (lands_block b) (cond e [] (Grants cl ∷ since (grants_claim c') own)))
    (ne_eqb cl.id c' other)

-- no block is open in a claim before the opening
pub early_shut : {P : Type 0} (total len : ℕ) (own : List OwnEvent) (g : Claim) (b : ℕ) → LegalOwn total len own
    → is_opened own ≡ false
    → Has (granted_claims own) g → is_open_since own g b ≡ true → P
early_shut total len own g b legal un has opened =
    absurd (probe_shut g b ((early total len own legal un).probes g has)
    (and_left (is_in b g.run) (not (has_come own g b)) opened))

-- what came of the run of a sole piece's claim since its grant, it gave itself
pub itself : (total len : ℕ) (own : List OwnEvent) → LegalOwn total len own → (g : Claim) (b b' : ℕ)
    → Has (granted_claims own) g → is_standing own g ≡ true → is_open_since own g b ≡ true
    → is_sole_in own (piece_of len b) ≡ true → is_in b' g.run ≡ true
    → list_any (lands_block b') (since (grants_claim g.id) own) ≡ true
    → list_any (lands_block_by g.id b') own ≡ true
itself total len [] legal g b b' hg sg og is inside came = absurd hg
itself total len (Opens verified blocks now ∷ own) legal g b b' hg sg og is inside came =
    early_shut total len own g b legal.0 legal.1.first hg og
itself total len (Grants cl ∷ own) legal g b b' hg sg og is inside came =
    ⊎_elim
    (λ (gn : cl ≡ g).
    true_not_false (list_any (lands_block b') (since (grants_claim cl.id) (Grants cl ∷ own)))
    (subst (λ (x : Claim). list_any (lands_block b') (since (grants_claim x.id) (Grants cl ∷ own)) ≡ true)
    (sym gn) came) (since_new own cl b'))
    (λ (go : Has (granted_claims own) g).
    let older : cl.id ≢ g.id = λ e. let o : g.id < cl.id = has_all (λ (y : Claim). y.id < cl.id) (granted_claims own)
    g (grant_facts total len own cl legal.1).fresh go in absurd (omega (arith, e)) in
    itself total len own legal.0 g b b' go (sym (standing_after_grant own cl g older) ∙ sg)
    (sym (open_after_grant own cl g b older) ∙ og) is inside
    (sym (since_old own cl b' g.id older) ∙ came))
    hg
itself total len (Lands c m run ∷ own) legal g b b' hg sg og is inside came =
    let f = facts total len own legal.0 in
    let may = legal.1 in
    let there = granted_there own c m run may in
    let sg' = stood_before_landing own c m run g sg in
    let og' = open_before own c m run g b og in
    or_cases (is_in b' run) (list_any (lands_block b') (since (grants_claim g.id) own)) came
    (λ now.
    let same : piece_of len b' ≡ piece_of len b = f.only g b b' hg sg' og' is inside in
    let who : g.id ≡ may.claim.id = f.unique g may.claim b b' hg there.0 sg' there.1 og' (may.open_in b' now) is
    (sym same) in
    or_left (eqb c g.id && is_in b' run) (list_any (lands_block_by g.id b') own)
    (and_both (eqb c g.id) (is_in b' run) (eq-eqb c g.id (sym (who ∙ may.id_is))) now))
    (λ old. or_right (eqb c g.id && is_in b' run) (list_any (lands_block_by g.id b') own)
    (itself total len own legal.0 g b b' hg sg' og' is inside old))
itself total len (Settles p right giver ∷ own) legal g b b' hg sg og is inside came =
    itself total len own legal.0 g b b' hg sg og
    (sole_before_verdict total len own p right giver (facts total len own legal.0) legal.1 g b hg sg og is) inside
    came
itself total len (Clears p ∷ own) legal g b b' hg sg og is inside came =
    itself total len own legal.0 g b b' hg sg og is inside came
itself total len (Loses c m p mark ∷ own) legal g b b' hg sg og is inside came =
    itself total len own legal.0 g b b' hg (stood_before_loss own c m p mark g sg) og is inside came
itself total len (Sizes c told ∷ own) legal g b b' hg sg og is inside came =
    itself total len own legal.0 g b b' hg (stood_before_sizing own c told g sg) og is inside came
itself total len (Saves now ∷ own) legal g b b' hg sg og is inside came =
    itself total len own legal.0 g b b' hg sg og is inside came
itself total len (Checks right ∷ own) legal g b b' hg sg og is inside came =
    itself total len own legal.0 g b b' hg sg og is inside came
itself total len (Halts ends ∷ own) legal g b b' hg sg og is inside came = absurd cc

-- a sole piece's claim that lands_block its last open block is whole then
pub ends_whole : (total len : ℕ) (own : List OwnEvent) (c m : ℕ) (run : Run) → LegalOwn total len own
    → MayLand own c m run → (g : Claim) (b : ℕ) → Has (granted_claims own) g → is_standing own g ≡ true
    → is_open_since own g b ≡ true → is_sole_in own (piece_of len b) ≡ true
    → is_some (first_open_since (Lands c m run ∷ own) g) ≡ false → has_given_all (Lands c m run ∷ own) g.id ≡ true
ends_whole total len own c m run legal may g b hg sg og is none =
    let f = facts total len own legal in
    let there = granted_there own c m run may in
    has_any (λ (x : Claim). x.id == g.id && list_all (λ x'. list_any (lands_block_by g.id x') (Lands c m run ∷ own))
    (blocks_in x.run)) (granted_claims own) g hg
    (and_both (g.id == g.id)
    (list_all (λ x. list_any (lands_block_by g.id x) (Lands c m run ∷ own)) (blocks_in g.run))
    (eq-eqb g.id g.id refl)
    (each_all (λ x. list_any (lands_block_by g.id x) (Lands c m run ∷ own)) (blocks_in g.run)
    (λ x hx.
    let inside : is_in x g.run ≡ true = in_run g.run x hx in
    let shut : is_open_since (Lands c m run ∷ own) g x ≡ false = unfound (is_open_since (Lands c m run ∷ own) g)
    (blocks_in g.run) none x hx in
    let came : (is_in x run || list_any (lands_block x) (since (grants_claim g.id) own)) ≡ true =
    shut_came (is_in x g.run) (is_in x run || list_any (lands_block x) (since (grants_claim g.id) own)) inside
    shut in
    or_cases (is_in x run) (list_any (lands_block x) (since (grants_claim g.id) own)) came
    (λ now.
    let same : piece_of len x ≡ piece_of len b = f.only g b x hg sg og is inside in
    let who : g.id ≡ may.claim.id = f.unique g may.claim b x hg there.0 sg there.1 og (may.open_in x now) is
    (sym same) in
    or_left (eqb c g.id && is_in x run) (list_any (lands_block_by g.id x) own)
    (and_both (eqb c g.id) (is_in x run) (eq-eqb c g.id (sym (who ∙ may.id_is))) now))
    (λ old. or_right (eqb c g.id && is_in x run) (list_any (lands_block_by g.id x) own)
    (itself total len own legal g b x hg sg og is inside old)))))

-- .. so it counts after the landing as before
pub alive_after_landing : (total len : ℕ) (own : List OwnEvent) (c m : ℕ) (run : Run) → LegalOwn total len own
    → MayLand own c m run → (g : Claim) (b : ℕ) → Has (granted_claims own) g → is_standing own g ≡ true
    → is_open_since own g b ≡ true → is_sole_in own (piece_of len b) ≡ true → (t : Bool)
    → is_some (first_open_since (Lands c m run ∷ own) g) ≡ t → is_alive (Lands c m run ∷ own) g.id ≡ true
alive_after_landing total len own c m run legal may g b hg sg og is true some =
    or_left (stands_in (Lands c m run ∷ own) g.id) (has_given_all (Lands c m run ∷ own) g.id)
    (stands_by (Lands c m run ∷ own) g.id g hg
    (and_both (not (has_ended own g)) (has_more (Lands c m run ∷ own) g)
    (and_left (not (has_ended own g)) (has_more own g) sg)
    (or_right (is_probe g) (is_some (first_open_since (Lands c m run ∷ own) g)) some))
    (eq-eqb g.id g.id refl))
alive_after_landing total len own c m run legal may g b hg sg og is false none =
    or_right (stands_in (Lands c m run ∷ own) g.id) (has_given_all (Lands c m run ∷ own) g.id)
    (ends_whole total len own c m run legal may g b hg sg og is none)

-- ---- landings that came while their piece was sole

abbrev pub sole_lands : ℕ → ℕ → ℕ → List OwnEvent → Bool
sole_lands p b c [] = false
sole_lands p b c (Opens verified blocks now ∷ before) = false
sole_lands p b c (Grants claim ∷ before) = sole_lands p b c before
sole_lands p b c (Lands id mirror run ∷ before) = (id == c && is_in b run && is_sole_in before p)
    || sole_lands p b c before
sole_lands p b c (Settles piece right giver ∷ before) = sole_lands p b c before
sole_lands p b c (Clears piece ∷ before) = sole_lands p b c before
sole_lands p b c (Loses id mirror piece mark ∷ before) = sole_lands p b c before
sole_lands p b c (Sizes id total ∷ before) = sole_lands p b c before
sole_lands p b c (Saves now ∷ before) = sole_lands p b c before
sole_lands p b c (Checks right ∷ before) = sole_lands p b c before
sole_lands p b c (Halts ends ∷ before) = sole_lands p b c before

pub sole_then : (p b c : ℕ) (own : List OwnEvent) → sole_lands p b c own ≡ true → is_sole_in own p ≡ true
sole_then p b c [] h = absurd cc
sole_then p b c (Opens verified blocks now ∷ before) h = absurd cc
sole_then p b c (Grants claim ∷ before) h = sole_then p b c before h
sole_then p b c (Lands id mirror run ∷ before) h =
    or_cases (id == c && is_in b run && is_sole_in before p) (sole_lands p b c before) h
    (λ now. and_right (id == c && is_in b run) (is_sole_in before p) now) (sole_then p b c before)
sole_then p b c (Settles piece right giver ∷ before) h = or_right (eqb piece p && not right && is_mixed giver)
    (is_sole_in before p) (sole_then p b c before h)
sole_then p b c (Clears piece ∷ before) h = sole_then p b c before h
sole_then p b c (Loses id mirror piece mark ∷ before) h = sole_then p b c before h
sole_then p b c (Sizes id total ∷ before) h = sole_then p b c before h
sole_then p b c (Saves now ∷ before) h = sole_then p b c before h
sole_then p b c (Checks right ∷ before) h = sole_then p b c before h
sole_then p b c (Halts ends ∷ before) h = sole_then p b c before h

pub sole_by : (p b c : ℕ) (own : List OwnEvent) → sole_lands p b c own ≡ true
    → list_any (lands_block_by c b) own ≡ true
sole_by p b c [] h = absurd cc
sole_by p b c (Opens verified blocks now ∷ before) h = absurd cc
sole_by p b c (Grants claim ∷ before) h = sole_by p b c before h
sole_by p b c (Lands id mirror run ∷ before) h =
    or_cases (id == c && is_in b run && is_sole_in before p) (sole_lands p b c before) h
    (λ now. or_left (id == c && is_in b run) (list_any (lands_block_by c b) before)
    (and_left (id == c && is_in b run) (is_sole_in before p) now))
    (λ old. or_right (id == c && is_in b run) (list_any (lands_block_by c b) before) (sole_by p b c before old))
sole_by p b c (Settles piece right giver ∷ before) h = sole_by p b c before h
sole_by p b c (Clears piece ∷ before) h = sole_by p b c before h
sole_by p b c (Loses id mirror piece mark ∷ before) h = sole_by p b c before h
sole_by p b c (Sizes id total ∷ before) h = sole_by p b c before h
sole_by p b c (Saves now ∷ before) h = sole_by p b c before h
sole_by p b c (Checks right ∷ before) h = sole_by p b c before h
sole_by p b c (Halts ends ∷ before) h = sole_by p b c before h

-- a claim that stands and gave a block while its piece was sole is of that piece alone
pub solely : (total len : ℕ) (own : List OwnEvent) → LegalOwn total len own → (g : Claim) (b x : ℕ)
    → Has (granted_claims own) g → is_standing own g ≡ true
    → sole_lands (piece_of len b) b g.id own ≡ true → is_in x g.run ≡ true → piece_of len x ≡ piece_of len b
solely total len [] legal g b x hg sg h inside = absurd hg
solely total len (Opens verified blocks now ∷ own) legal g b x hg sg h inside = absurd cc
solely total len (Grants cl ∷ own) legal g b x hg sg h inside =
    ⊎_elim
    (λ (gn : cl ≡ g).
    let by = sole_by (piece_of len b) b g.id own h in
    let less = no_landing_yet total len own cl g.id b (facts total len own legal.0)
    (grant_facts total len own cl legal.1) by in
    let e : cl.id ≡ g.id = ap (λ (y : Claim). y.id) gn in absurd (omega arith))
    (λ (go : Has (granted_claims own) g).
    let older : cl.id ≢ g.id = λ e. let o : g.id < cl.id = has_all (λ (y : Claim). y.id < cl.id) (granted_claims own)
    g (grant_facts total len own cl legal.1).fresh go in absurd (omega (arith, e)) in
    solely total len own legal.0 g b x go (sym (standing_after_grant own cl g older) ∙ sg) h inside)
    hg
solely total len (Lands c m run ∷ own) legal g b x hg sg h inside =
    let f = facts total len own legal.0 in
    let may = legal.1 in
    let there = granted_there own c m run may in
    let sg' = stood_before_landing own c m run g sg in
    or_cases (c == g.id && is_in b run && is_sole_in own (piece_of len b)) (sole_lands (piece_of len b) b g.id own) h
    (λ now.
    let is = and_right (c == g.id && is_in b run) (is_sole_in own (piece_of len b)) now in
    let inb =
    and_right (c == g.id) (is_in b run)
    (and_left (c == g.id && is_in b run) (is_sole_in own (piece_of len b)) now) in
    let who : c ≡ g.id =
    eqb-true c g.id
    (and_left (c == g.id) (is_in b run)
    (and_left (c == g.id && is_in b run) (is_sole_in own (piece_of len b)) now)) in
    let same : may.claim ≡ g = apart total len own legal.0 may.claim g there.0 hg (may.id_is ∙ who) in
    let og : is_open_since own g b ≡ true = subst (λ (y : Claim). is_open_since own y b ≡ true) same
    (may.open_in b inb) in
    f.only g b x hg sg' og is inside)
    (λ old. solely total len own legal.0 g b x hg sg' old inside)
solely total len (Settles p right giver ∷ own) legal g b x hg sg h inside =
    solely total len own legal.0 g b x hg sg h inside
solely total len (Clears p ∷ own) legal g b x hg sg h inside = solely total len own legal.0 g b x hg sg h inside
solely total len (Loses c m p mark ∷ own) legal g b x hg sg h inside = solely total len own legal.0 g b x hg
    (stood_before_loss own c m p mark g sg) h inside
solely total len (Sizes c told ∷ own) legal g b x hg sg h inside = solely total len own legal.0 g b x hg
    (stood_before_sizing own c told g sg) h inside
solely total len (Saves now ∷ own) legal g b x hg sg h inside = solely total len own legal.0 g b x hg sg h inside
solely total len (Checks right ∷ own) legal g b x hg sg h inside = solely total len own legal.0 g b x hg sg h inside
solely total len (Halts ends ∷ own) legal g b x hg sg h inside = absurd cc
