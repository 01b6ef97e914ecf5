-- Once a probe told the length, and until the download is opened, none of its claims stands.
use Rattle.std.proofs.Common.{◌≡◌, ℕ, ◌<◌, true, false, eqb, Some, None, List, [], ◌∷◌, sym, ap, ◌∙◌, subst, ⊎_elim, arith}
use Rattle.std.specs.Prelude.{not, ◌||◌}
use Rattle.std.proofs.lemmas.Bool.{eq-eqb}
use Rattle.dl_kinds.specs.declared.claims.Claim.{Claim}
use Rattle.dl_history.proofs.Bools.{and_left, not_not, not_true, or_left, true_not_false}
use Rattle.dl_history.proofs.Ends.{has_ended, has_more, standing_after_grant, stood_before_loss, stood_before_sizing}
use Rattle.dl_history.proofs.Follows.{none_stand}
use Rattle.dl_history.proofs.Members.{Has, has_all, has_filter, has_from, in_filter}
use Rattle.dl_history.proofs.Unopened.{cleared_opened, landed_opened}
use Rattle.dl_history.specs.OwnEvents.{Checks, Clears, Grants, Halts, Lands, Loses, Opens, OwnEvent, Saves, Settles, Sizes}
use Rattle.dl_history.specs.OwnLegal.{LegalOwn, MayClaim, MayProbe}
use Rattle.dl_history.specs.PayloadParts.{is_opened, told_total}
use Rattle.dl_history.specs.StandingClaims.{granted_claims, is_standing, standing_claims}

-- a claim that stood before the event
stood_alike : (own own' : List OwnEvent) → ((g : Claim) → is_standing own' g ≡ true → is_standing own g ≡ true)
    → ((g h : Claim) → Has (granted_claims own) g → Has (granted_claims own) h → is_standing own g ≡ true
    → is_standing own h ≡ true → g.id ≡ h.id)
    → (g h : Claim) → Has (granted_claims own) g → Has (granted_claims own) h → is_standing own' g ≡ true
    → is_standing own' h ≡ true → g.id ≡ h.id
stood_alike own own' stood rest g h hg hh sg sh = rest g h hg hh (stood g sg) (stood h sh)

none_has : {P : Type 0} (own : List OwnEvent) (g : Claim) → standing_claims own ≡ [] → Has (granted_claims own) g
    → is_standing own g ≡ true → P
none_has own g none hg sg =
    absurd (subst (λ (xs : List Claim). Has xs g) none (in_filter (is_standing own) (granted_claims own) g hg sg))

-- before the opening one claim at most stands
pub lone : (total len : ℕ) (own : List OwnEvent) → LegalOwn total len own → is_opened own ≡ false → (g h : Claim)
    → Has (granted_claims own) g
    → Has (granted_claims own) h → is_standing own g ≡ true → is_standing own h ≡ true → g.id ≡ h.id
lone total len [] legal un g h hg hh sg sh = absurd hg
lone total len (Opens verified blocks now ∷ own) legal un g h hg hh sg sh = absurd cc
lone total len (Grants cl ∷ own) legal un g h hg hh sg sh =
    ⊎_elim
    (λ (may : MayProbe own cl).
    let older : (x : Claim) → Has (granted_claims own) x → is_standing (Grants cl ∷ own) x ≡ true → ⊥ =
    λ x hx sx.
    let less : x.id < cl.id = has_all (λ (y : Claim). y.id < cl.id) (granted_claims own) x may.fresh hx in
    none_has own x may.alone hx (sym (standing_after_grant own cl x (λ e. absurd (omega (arith, e)))) ∙ sx) in
    ⊎_elim
    (λ (gn : cl ≡ g).
    ⊎_elim
    (λ (hn : cl ≡ h). sym (ap (λ (x : Claim). x.id) gn) ∙ ap (λ (x : Claim). x.id) hn)
    (λ (ho : Has (granted_claims own) h). absurd (older h ho sh))
    hh)
    (λ (go : Has (granted_claims own) g). absurd (older g go sg))
    hg)
    (λ (may : MayClaim total len own cl). true_not_false (is_opened own) may.opened un)
    legal.1
lone total len (Lands c m run ∷ own) legal un g h hg hh sg sh =
    true_not_false (is_opened own) (landed_opened total len own c m run legal.0 legal.1) un
lone total len (Settles p right giver ∷ own) legal un g h hg hh sg sh =
    true_not_false (is_opened own) legal.1.opened un
lone total len (Clears p ∷ own) legal un g h hg hh sg sh =
    true_not_false (is_opened own) (cleared_opened total len own p legal.0 legal.1) un
lone total len (Loses c m p mark ∷ own) legal un g h hg hh sg sh =
    stood_alike own (Loses c m p mark ∷ own) (stood_before_loss own c m p mark) (lone total len own legal.0 un) g h hg
    hh sg sh
lone total len (Sizes c told ∷ own) legal un g h hg hh sg sh =
    stood_alike own (Sizes c told ∷ own) (stood_before_sizing own c told) (lone total len own legal.0 un) g h hg hh sg
    sh
lone total len (Saves now ∷ own) legal un g h hg hh sg sh = true_not_false (is_opened own) legal.1.opened un
lone total len (Checks right ∷ own) legal un g h hg hh sg sh = true_not_false (is_opened own) legal.1.opened un
lone total len (Halts ends ∷ own) legal un g h hg hh sg sh = absurd cc

-- the probe that tells the length stands no more
sized_ends : (own : List OwnEvent) (c told : ℕ) (g : Claim) → c ≡ g.id → is_standing (Sizes c told ∷ own) g ≡ true → ⊥
sized_ends own c told g is s =
    let n = and_left (not (eqb c g.id || has_ended own g)) (has_more own g) s in
    true_not_false (eqb c g.id || has_ended own g) (or_left (eqb c g.id) (has_ended own g) (eq-eqb c g.id is))
    (not_not n)

pub told_shut : (total len : ℕ) (own : List OwnEvent) (t : ℕ) → LegalOwn total len own → is_opened own ≡ false
    → told_total own ≡ Some t
    → (g : Claim) → Has (granted_claims own) g → is_standing own g ≡ true → ⊥
told_shut total len [] t legal un told g hg sg = hg
told_shut total len (Opens verified blocks now ∷ own) t legal un told g hg sg = absurd cc
told_shut total len (Grants cl ∷ own) t legal un told g hg sg =
    ⊎_elim
    (λ (may : MayProbe own cl). absurd (let e : None ≡ Some t = sym may.untold ∙ told in cc))
    (λ (may : MayClaim total len own cl). true_not_false (is_opened own) may.opened un)
    legal.1
told_shut total len (Lands c m run ∷ own) t legal un told g hg sg =
    true_not_false (is_opened own) (landed_opened total len own c m run legal.0 legal.1) un
told_shut total len (Settles p right giver ∷ own) t legal un told g hg sg =
    true_not_false (is_opened own) legal.1.opened un
told_shut total len (Clears p ∷ own) t legal un told g hg sg =
    true_not_false (is_opened own) (cleared_opened total len own p legal.0 legal.1) un
told_shut total len (Loses c m p mark ∷ own) t legal un told g hg sg =
    told_shut total len own t legal.0 un told g hg (stood_before_loss own c m p mark g sg)
told_shut total len (Sizes c n ∷ own) t legal un told g hg sg =
    let may = legal.1 in
    let there = has_filter (is_standing own) (granted_claims own) may.claim
    (has_from (standing_claims own) may.claim may.stands.0 may.stands.1 may.stands.2) in
    let same = lone total len own legal.0 un may.claim g there.0 hg there.1 (stood_before_sizing own c n g sg) in
    sized_ends own c n g (sym may.id_is ∙ same) sg
told_shut total len (Saves now ∷ own) t legal un told g hg sg = true_not_false (is_opened own) legal.1.opened un
told_shut total len (Checks right ∷ own) t legal un told g hg sg = true_not_false (is_opened own) legal.1.opened un
told_shut total len (Halts ends ∷ own) t legal un told g hg sg = absurd cc

pub told_idle : (total len : ℕ) (own : List OwnEvent) (t : ℕ) → LegalOwn total len own → is_opened own ≡ false
    → told_total own ≡ Some t
    → standing_claims own ≡ []
told_idle total len own t legal un told =
    none_stand (granted_claims own) (is_standing own)
    (λ g h. not_true (is_standing own g) (told_shut total len own t legal un told g h))
