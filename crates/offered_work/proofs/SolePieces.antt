-- A sole piece of which some blocks are landed and others aren't is being brought: a claim stands.
use Rattle.std.proofs.Common.{◌≡◌, ◌≢◌, ℕ, ◌<◌, Bool, true, false, cond, List, [], ◌∷◌, get_or, refl, sym, ap, ◌∙◌, subst, inl, inr, ⊎_elim, arith}
use Rattle.std.specs.Prelude.{◌&&◌, ◌||◌, ◌==◌, not, nat_le}
use Rattle.std.specs.Option.{is_some}
use Rattle.std.proofs.lemmas.Bool.{cases_eq, eq-eqb, eqb-true}
use Rattle.dl_kinds.specs.Plan.{IsPlan, blocks_of, piece_of}
use Rattle.dl_kinds.specs.declared.claims.Claim.{Claim}
use Rattle.dl_kinds.specs.declared.marks.Mark.{Mark}
use Rattle.dl_kinds.specs.declared.runs.Run.{Run}
use Rattle.piece_table.specs.Changes.{Absent, is_in, is_present}
use Rattle.dl_history.proofs.Bools.{and_both, and_left, and_right, not_true, or_cases, or_later, or_right, true_not_false}
use Rattle.dl_history.proofs.Early.{not_false, opened_by_sole}
use Rattle.dl_history.proofs.Ends.{has_come, has_ended, has_more, open_after_grant, standing_after_grant}
use Rattle.dl_history.proofs.Facts.{facts, grant_facts}
use Rattle.dl_history.proofs.Members.{Has, has_all, in_filter}
use Rattle.dl_history.proofs.Sole.{apart, first_block, found, real_claim, run_has, unfound}
use Rattle.dl_history.proofs.Table.{Gone, Hits, gone_by_loss, gone_cases, halt_same, lost_block, sized_early, standing_after_loss, table_says}
use Rattle.dl_history.proofs.Whole.{granted_there}
use Rattle.dl_history.proofs.Wrong.{landed_claims, landed_clears, landed_lands, landed_loses}
use Rattle.dl_history.specs.AccountLaws.{AccountsMatchEvents}
use Rattle.dl_history.specs.Accounts.{Account, account_of, is_still_open}
use Rattle.dl_history.specs.OwnEvents.{Checks, Clears, Grants, Halts, Lands, Loses, Opens, OwnEvent, Saves, Settles, Sizes}
use Rattle.dl_history.specs.OwnLegal.{LegalOwn}
use Rattle.dl_history.specs.PayloadParts.{is_landed_in, is_mixed, is_opened, is_sole_in, source_in}
use Rattle.dl_history.specs.StandingClaims.{blocks_in, first_open_since, granted_claims, is_open_since, is_standing, standing_claims}

-- the block is open in a claim that stands
abbrev pub IsBrought : List OwnEvent → ℕ → Type 0
IsBrought own b =
    (g : Claim) × Has (granted_claims own) g × (is_standing own g ≡ true) × (is_open_since own g b ≡ true)

sole_at : (own : List OwnEvent) (p q : ℕ) → p ≡ q → is_sole_in own q ≡ true → is_sole_in own p ≡ true
sole_at own p q same is = ap (is_sole_in own) same ∙ is

-- a claim with an open block behind a landing stands on
lands_on : (own : List OwnEvent) (c m : ℕ) (run : Run) (g : Claim) (b : ℕ) → is_in b run ≡ false
    → Has (granted_claims own) g → is_standing own g ≡ true → is_open_since own g b ≡ true
    → IsBrought (Lands c m run ∷ own) b
lands_on own c m run g b out hg sg og =
    let still : is_open_since (Lands c m run ∷ own) g b ≡ true =
    ap (λ (t : Bool). is_in b g.run && not (t || has_come own g b)) out ∙ og in
    let there = run_has g.run b (and_left (is_in b g.run) (not (has_come own g b)) og) in
    let some : is_some (first_open_since (Lands c m run ∷ own) g) ≡ true =
    not_false (is_some (first_open_since (Lands c m run ∷ own) g))
    (λ none. true_not_false (is_open_since (Lands c m run ∷ own) g b) still
    (unfound (is_open_since (Lands c m run ∷ own) g) (blocks_in g.run) none b there)) in (
      g,
      hg,
      and_both (not (has_ended own g)) (has_more (Lands c m run ∷ own) g)
          (and_left (not (has_ended own g)) (has_more own g) sg)
          (or_right (g.run.count == 0) (is_some (first_open_since (Lands c m run ∷ own) g)) some),
      still,
    )

three_last : (i l n : Bool) → (i && not l && n) ≡ true → n ≡ true
three_last i l n h = and_right (i && not l) n h

three_all : (i l n : Bool) → i ≡ true → l ≡ false → n ≡ true → (i && not l && n) ≡ true
three_all i l n is un h = and_both (i && not l) n (and_both i (not l) is (ap not un)) h

-- where one block of a piece is open in a claim that stands, so is each other that isn't landed
open_too : AccountsMatchEvents → (total len : ℕ) (own : List OwnEvent) → IsPlan total len → LegalOwn total len own
    → is_opened own ≡ true → (g : Claim) (b b' : ℕ) → Has (granted_claims own) g → is_standing own g ≡ true
    → is_open_since own g b ≡ true → piece_of len b ≡ piece_of len b' → b' < blocks_of total len
    → is_in b' g.run ≡ true → is_landed_in len own b' ≡ false → is_open_since own g b' ≡ true
open_too matches total len own plan legal opened g b b' hg sg og same below' inside un =
    let k : Account = account_of total len own in
    let m = matches total len own (λ o. plan) legal in
    let each = has_all (λ (c : Claim). (x : ℕ) → is_still_open k c x ≡ is_open_since own c x) (standing_claims own) g
    m.claims.open_blocks (in_filter (is_standing own) (granted_claims own) g hg sg) in
    let closed = three_last (is_in b g.run) (get_or k.progress.landed b false)
    (nat_le (get_or k.closed (piece_of k.progress.piece_len b) 0) g.id) (each b ∙ og) in
    let len_is = (m.rows opened).piece_len_is in
    let at : piece_of k.progress.piece_len b ≡ piece_of k.progress.piece_len b' =
    subst (λ (n : ℕ). piece_of n b ≡ piece_of n b') (sym len_is) same in
    sym (each b')
    ∙ three_all (is_in b' g.run) (get_or k.progress.landed b' false)
    (nat_le (get_or k.closed (piece_of k.progress.piece_len b') 0) g.id) inside (m.blocks b' below' ∙ un)
    (subst (λ (p : ℕ). nat_le (get_or k.closed p 0) g.id ≡ true) at closed)

halt_landed : (total len : ℕ) (own : List OwnEvent) (ends : Bool) → LegalOwn total len own → (b : ℕ)
    → b < blocks_of total len → ((k : Claim) → Has (standing_claims own) k → Hits len own b k → ⊥)
    → Gone len own b (standing_claims own)
    → is_landed_in len (Halts ends ∷ own) b ≡ is_landed_in len own b
halt_landed total len own ends legal b below none (inl h) = absurd (none h.0 h.1 h.2)
halt_landed total len own ends legal b below none (inr h) =
    ap is_present
    (sym (halt_same total len own ends legal b below (table_says total len own legal b below) (inr h))
    ∙ (h.1 ∙ table_says total len own legal b below))

halt_gone : (total len : ℕ) (own : List OwnEvent) (ends : Bool) → LegalOwn total len own → (b : ℕ)
    → b < blocks_of total len → is_landed_in len (Halts ends ∷ own) b ≡ true → Gone len own b (standing_claims own)
    → (k : Claim) → Has (standing_claims own) k → Hits len own b k → ⊥
halt_gone total len own ends legal b below landed (inr h) k there hits = h.0 k there hits
halt_gone total len own ends legal b below landed (inl h) k there hits =
    true_not_false (is_landed_in len (Halts ends ∷ own) b) landed
    (ap is_present
    (sym (halt_same total len own ends legal b below (table_says total len own legal b below) (inl h)) ∙ h.3))

module _ (matches : AccountsMatchEvents) (total len : ℕ) (plan : IsPlan total len) (b b' : ℕ)
    (below : b < blocks_of total len) (below' : b' < blocks_of total len) (same : piece_of len b ≡ piece_of len b')
  where
    abbrev Brings : List OwnEvent → Type 0
    Brings own = is_sole_in own (piece_of len b') ≡ true → is_landed_in len own b ≡ true
        → is_landed_in len own b' ≡ false → IsBrought own b'

    brings_landing : (c m : ℕ) (run : Run) (own : List OwnEvent) → LegalOwn total len (Lands c m run ∷ own) → Brings own
        → Brings (Lands c m run ∷ own)
    brings_landing c m run own legal rest sole landed un =
        let un_both : (is_in b' run || is_landed_in len own b') ≡ false =
        sym (landed_lands total len own c m run legal b' below') ∙ un in
        let un_before = or_later (is_in b' run) (is_landed_in len own b') un_both in
        let out : is_in b' run ≡ false = not_true (is_in b' run) (λ is.
        true_not_false (is_landed_in len (Lands c m run ∷ own) b')
        (landed_lands total len own c m run legal b' below'
        ∙ ap (λ (t : Bool). t || is_landed_in len own b') is) un) in
        or_cases (is_in b run) (is_landed_in len own b)
        (sym (landed_lands total len own c m run legal b below) ∙ landed)
        (λ now.
        let may = legal.1 in
        let f = facts total len own legal.0 in
        let there = granted_there own c m run may in
        let og = may.open_in b now in
        let sole_b = sole_at own (piece_of len b) (piece_of len b') same sole in
        let inside = f.covers may.claim b b' there.0 there.1 og sole_b below' (sym same) in
        lands_on own c m run may.claim b' out there.0 there.1
        (open_too matches total len own plan legal.0 (opened_by_sole total len own (piece_of len b') legal.0 sole)
        may.claim b b' there.0 there.1 og same below' inside un_before))
        (λ old. let r = rest sole old un_before in lands_on own c m run r.0 b' out r.1 r.2 r.3)

    brings_loss : (c m q : ℕ) (mark : Mark) (own : List OwnEvent) → LegalOwn total len (Loses c m q mark ∷ own)
        → Brings own → Brings (Loses c m q mark ∷ own)
    brings_loss c m q mark own legal rest sole landed un =
        let never : is_sole_in own q ≡ true → piece_of len b ≡ q → ⊥ = λ is at.
        true_not_false (is_landed_in len (Loses c m q mark ∷ own) b) landed
        (ap is_present (gone_by_loss total len own c m q mark legal.0 legal.1 b below is at)) in
        let r = rest sole (sym (landed_loses total len own c m q mark legal b never) ∙ landed)
        (sym (landed_loses total len own c m q mark legal b' (λ is at. never is (same ∙ at))) ∙ un) in
        let g : Claim = r.0 in
        let other : c ≢ g.id = λ is.
        let f = facts total len own legal.0 in
        let may = legal.1 in
        let lb = lost_block total len own c m q legal.0 may
        (opened_by_sole total len own (piece_of len b') legal.0 sole) in
        let its : may.claim ≡ g = apart total len own legal.0 may.claim g lb.there r.1 (may.id_is ∙ is) in
        let inside : is_in lb.block g.run ≡ true =
        subst (λ (x : Claim). is_in lb.block x.run ≡ true) its
        (and_left (is_in lb.block may.claim.run) (not (has_come own may.claim lb.block)) lb.opened) in
        let at : piece_of len lb.block ≡ piece_of len b' = f.only g b' lb.block r.1 r.2 r.3 sole inside in
        let here : piece_of len b' ≡ q = sym at ∙ lb.piece_is in
        never (sole_at own q (piece_of len b') (sym here) sole) (same ∙ here) in
        (g, r.1, standing_after_loss own c m q mark g other ∙ r.2, r.3)

    brings_halt : (ends : Bool) (own : List OwnEvent) → LegalOwn total len (Halts ends ∷ own) → Brings own
        → Brings (Halts ends ∷ own)
    brings_halt ends own legal rest sole landed un =
        let none = halt_gone total len own ends legal.0 b below landed (gone_cases len own b (standing_claims own)) in
        let none' : (k : Claim) → Has (standing_claims own) k → Hits len own b' k → ⊥ =
        λ k there hits. none k there (hits.0, hits.1, hits.2, same ∙ hits.3) in
        let r = rest sole
        (sym (halt_landed total len own ends legal.0 b below none (gone_cases len own b (standing_claims own))) ∙ landed)
        (sym (halt_landed total len own ends legal.0 b' below' none' (gone_cases len own b' (standing_claims own)))
        ∙ un) in
        let g : Claim = r.0 in
        let f = facts total len own legal.0 in
        let first = first_block own g (real_claim total len own g legal.0
        (opened_by_sole total len own (piece_of len b') legal.0 sole) r.1 r.2) r.2 in
        let o = found (is_open_since own g) (blocks_in g.run) first.0 first.1 in
        let at : piece_of len first.0 ≡ piece_of len b' =
        f.only g b' first.0 r.1 r.2 r.3 sole (and_left (is_in first.0 g.run) (not (has_come own g first.0)) o.1) in
        absurd (none' g (in_filter (is_standing own) (granted_claims own) g r.1 r.2) (
          first.0,
          first.1,
          sole_at own (piece_of len first.0) (piece_of len b') at sole,
          sym {a = piece_of len first.0} at,
        ))

    pub brings : (own : List OwnEvent) → LegalOwn total len own → Brings own
    brings [] legal sole landed un = true_not_false false sole refl
    brings (Opens verified blocks now ∷ own) legal sole landed un =
        true_not_false (is_opened own) (opened_by_sole total len own (piece_of len b') legal.0 sole) legal.1.first
    brings (Grants cl ∷ own) legal sole landed un =
        let r = brings own legal.0 sole (sym (landed_claims total len own cl legal b below) ∙ landed)
        (sym (landed_claims total len own cl legal b' below') ∙ un) in
        let g : Claim = r.0 in
        let older : cl.id ≢ g.id = λ e.
        let o : g.id < cl.id = has_all (λ (y : Claim). y.id < cl.id) (granted_claims own) g
        (grant_facts total len own cl legal.1).fresh r.1 in absurd (omega (arith, e)) in
        (g, inr r.1, standing_after_grant own cl g older ∙ r.2, open_after_grant own cl g b' older ∙ r.3)
    brings (Lands c m run ∷ own) legal sole landed un =
        brings_landing c m run own legal (brings own legal.0) sole landed un
    brings (Settles q right giver ∷ own) legal sole landed un =
        or_cases (q == piece_of len b' && not right && is_mixed giver) (is_sole_in own (piece_of len b')) sole
        (λ now.
        let at = eqb-true q (piece_of len b') (and_left (q == piece_of len b') (not right)
        (and_left (q == piece_of len b' && not right) (is_mixed giver) now)) in
        true_not_false (is_landed_in len own b') (legal.1.full b' below' (sym at)) un)
        (λ old. brings own legal.0 old landed un)
    brings (Clears q ∷ own) legal sole landed un =
        ⊎_elim
        (λ (is : q ≡ piece_of len b).
        true_not_false (is_landed_in len (Clears q ∷ own) b) landed
        (ap (λ (e : Bool). is_present (cond e Absent (source_in len own b))) (eq-eqb q (piece_of len b) is)))
        (λ (other : q ≢ piece_of len b).
        brings own legal.0 sole (sym (landed_clears len own q b other) ∙ landed)
        (sym (landed_clears len own q b' (λ e. other (e ∙ sym same))) ∙ un))
        (cases_eq q (piece_of len b))
    brings (Loses c m q mark ∷ own) legal sole landed un =
        brings_loss c m q mark own legal (brings own legal.0) sole landed un
    brings (Sizes c told ∷ own) legal sole landed un =
        true_not_false (is_opened own) (opened_by_sole total len own (piece_of len b') legal.0 sole)
        (sized_early total len own c legal.0 legal.1)
    brings (Saves now ∷ own) legal sole landed un = brings own legal.0 sole landed un
    brings (Checks right ∷ own) legal sole landed un = brings own legal.0 sole landed un
    brings (Halts ends ∷ own) legal sole landed un =
        brings_halt ends own legal (brings own legal.0) sole landed un

    -- where no claim stands, a sole piece with a block that isn't landed has none that is
    pub none_landed : (own : List OwnEvent) → LegalOwn total len own → standing_claims own ≡ []
        → is_sole_in own (piece_of len b') ≡ true → is_landed_in len own b' ≡ false → is_landed_in len own b ≡ false
    none_landed own legal none sole un =
        not_true (is_landed_in len own b) (λ landed.
        let r = brings own legal sole landed un in
        subst (λ (cs : List Claim). Has cs r.0) none
        (in_filter (is_standing own) (granted_claims own) r.0 r.1 r.2))
