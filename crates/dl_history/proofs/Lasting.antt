-- What lasts in a legal history: full pieces, listed blocks, and that no save lists a sole piece that isn't full.
use Rattle.std.proofs.Common.{◌≡◌, ◌≢◌, ◌⊎◌, ℕ, ◌<◌, Bool, true, false, eqb, List, [], ◌∷◌, refl, sym, ap, ◌∙◌, subst, inl, inr, ⊎_elim, arith}
use Rattle.std.specs.Prelude.{◌&&◌, ◌||◌, not}
use Rattle.std.specs.List.{filter_map}
use Rattle.std.proofs.lemmas.Bool.{cases_eq, ne_eqb, eq-eqb, eqb-true}
use Rattle.dl_kinds.specs.Plan.{piece_of, blocks_of, IsPlan}
use Rattle.dl_kinds.specs.declared.claims.Claim.{Claim}
use Rattle.piece_table.specs.Changes.{is_present, is_wrong_last, is_in, source_of}
use Rattle.piece_table.specs.declared.giver.Giver.{Giver}
use Rattle.dl_history.proofs.Below.{Below, get_or-row_by, piece_below}
use Rattle.dl_history.proofs.Bools.{and_both, and_left, and_right, not_true, or_cases, or_later, or_left, or_right, true_not_false}
use Rattle.dl_history.proofs.Early.{below_end, early, not_false, opened_by_sole}
use Rattle.dl_history.proofs.Ends.{has_come}
use Rattle.dl_history.proofs.Facts.{facts}
use Rattle.dl_history.proofs.Members.{Has, has_filter}
use Rattle.dl_history.proofs.Sole.{found}
use Rattle.dl_history.proofs.Table.{Gone, Hits, gone_cases, halt_same, lost_block, table_says}
use Rattle.dl_history.proofs.TableChanges.{blocks_at_start, changes_of, gone, table_source}
use Rattle.dl_history.proofs.Unopened.{loss_sole}
use Rattle.dl_history.proofs.Wrong.{clear_unverified, halts_wrong, landed_claims, landed_clears, landed_lands, landed_loses, landed_sizes, verified_full}
use Rattle.dl_history.specs.HistoryLaws.{FindsWrong, IsFullIn}
use Rattle.dl_history.specs.Listings.{ListsNone, is_block_listed, last_listing, listing_in}
use Rattle.dl_history.specs.OwnEvents.{Checks, Clears, Grants, Halts, Lands, Loses, Opens, OwnEvent, Saves, Settles, Sizes}
use Rattle.dl_history.specs.OwnLegal.{IsLossOf, IsWrongLast, LegalOwn, MayClear}
use Rattle.dl_history.specs.PayloadParts.{finding_on, is_alive, is_landed_in, is_mixed, is_opened, is_sole_in, is_verified_in, is_wrong_in}
use Rattle.dl_history.specs.StandingClaims.{blocks_in, granted_claims, is_open_since, is_standing, standing_claims}

-- ---- full pieces

unopened_bare : {P : Type 0} (total len : ℕ) (own : List OwnEvent) (b : ℕ) → LegalOwn total len own
    → is_opened own ≡ false
    → is_landed_in len own b ≡ true → P
unopened_bare total len own b legal un landed =
    true_not_false (is_landed_in len own b) landed
    (ap is_present ((early total len own legal un).absent (is_alive own) (piece_of len b) b))

pub full_stays : (total len : ℕ) (own : List OwnEvent) (e : OwnEvent) (p : ℕ) → LegalOwn total len (e ∷ own)
    → e ≢ Clears p
    → IsFullIn total len own p → IsFullIn total len (e ∷ own) p
full_stays total len own (Opens verified blocks now) p legal other full b below here =
    unopened_bare total len own b legal.0 legal.1.first (full b below here)
full_stays total len own (Grants cl) p legal other full b below here = landed_claims total len own cl legal b below
    ∙ full b below here
full_stays total len own (Lands c m run) p legal other full b below here =
    landed_lands total len own c m run legal b below
    ∙ or_right (is_in b run) (is_landed_in len own b) (full b below here)
full_stays total len own (Settles q right giver) p legal other full b below here = full b below here
full_stays total len own (Clears q) p legal other full b below here =
    landed_clears len own q b (λ is. other (ap Clears (is ∙ here))) ∙ full b below here
full_stays total len own (Loses c m q mark) p legal other full b below here =
    landed_loses total len own c m q mark legal b
    (λ is at.
    let lb = lost_block total len own c m q legal.0 legal.1 (opened_by_sole total len own q legal.0 is) in
    true_not_false (is_landed_in len own lb.block) (full lb.block lb.below (lb.piece_is ∙ (sym at ∙ here)))
    lb.unlanded)
    ∙ full b below here
full_stays total len own (Sizes c told) p legal other full b below here = landed_sizes total len own c told legal b
    ∙ full b below here
full_stays total len own (Saves now) p legal other full b below here = full b below here
full_stays total len own (Checks right) p legal other full b below here = full b below here
full_stays total len own (Halts ends) p legal other full b below here =
    halts_wrong total len own ends p legal.0 b below here full (gone_cases len own b (standing_claims own))

-- ---- listed blocks

-- a block's piece allows it to be listed
abbrev pub may_list : List OwnEvent → ℕ → Bool
may_list own p = is_verified_in own p || not (is_sole_in own p) && not (is_wrong_in own p)

listed_landed : (len : ℕ) (own : List OwnEvent) (b : ℕ) → is_block_listed len own b ≡ true
    → is_landed_in len own b ≡ true
listed_landed len own b h = and_left (is_landed_in len own b) (may_list own (piece_of len b)) h

listed_may : (len : ℕ) (own : List OwnEvent) (b : ℕ) → is_block_listed len own b ≡ true
    → may_list own (piece_of len b) ≡ true
listed_may len own b h = and_right (is_landed_in len own b) (may_list own (piece_of len b)) h

-- a listed piece that is sole or was found wrong is verified
listed_verified : (v s w : Bool) → (v || not s && not w) ≡ true → (s ≡ true) ⊎ (w ≡ true) → v ≡ true
listed_verified true s w h either = refl
listed_verified false s w h (inl is) = absurd (let e = rw is at h in cc)
listed_verified false true w h (inr is) = absurd cc
listed_verified false false w h (inr is) = absurd (let e = rw is at h in cc)

wrong_other : (t right : Bool) (q p : ℕ) (own : List OwnEvent) (giver : Giver) → eqb q p ≡ t → t ≡ false
    → filter_map (finding_on p) (Settles q right giver ∷ own) ≡ filter_map (finding_on p) own
wrong_other true right q p own giver is never = absurd cc
wrong_other false right q p own giver is never = rw is refl

wrong_now : (right : Bool) (q p : ℕ) (own : List OwnEvent) (giver : Giver) → eqb q p ≡ true
    → filter_map (finding_on p) (Settles q right giver ∷ own) ≡ right ∷ filter_map (finding_on p) own
wrong_now right q p own giver is = rw is refl

pub wrong_is : (len p : ℕ) (own : List OwnEvent) → IsWrongLast len p own → is_wrong_in own p ≡ true
wrong_is len p [] w = absurd w
wrong_is len p (Opens verified blocks now ∷ own) w = absurd w
wrong_is len p (Grants cl ∷ own) w = wrong_is len p own w
wrong_is len p (Lands c m run ∷ own) w = wrong_is len p own w.1
wrong_is len p (Settles q right giver ∷ own) w =
    ⊎_elim
    (λ (now : (q ≡ p) × (right ≡ false)). ap is_wrong_last (wrong_now right q p own giver (eq-eqb q p now.0))
    ∙ ap not now.1)
    (λ (old : (q ≢ p) × IsWrongLast len p own).
    ap is_wrong_last (wrong_other (eqb q p) right q p own giver refl (ne_eqb q p old.0)) ∙ wrong_is len p own old.1)
    w
wrong_is len p (Clears q ∷ own) w = wrong_is len p own w.1
wrong_is len p (Loses c m q mark ∷ own) w = wrong_is len p own w
wrong_is len p (Sizes c told ∷ own) w = wrong_is len p own w
wrong_is len p (Saves now ∷ own) w = wrong_is len p own w
wrong_is len p (Checks right ∷ own) w = wrong_is len p own w
wrong_is len p (Halts ends ∷ own) w = wrong_is len p own w

-- where a claim ends in a sole piece, no block of the piece is listed
sole_not_listed : {P : Type 0} (laws : Below) (total len : ℕ) (own : List OwnEvent) (b x : ℕ) → IsPlan total len
    → LegalOwn total len own
    → b < blocks_of total len → is_block_listed len own b ≡ true → is_sole_in own (piece_of len b) ≡ true
    → x < blocks_of total len → piece_of len x ≡ piece_of len b → is_landed_in len own x ≡ false → P
sole_not_listed laws total len own b x plan legal below listed sole inside same unlanded =
    let v = listed_verified (is_verified_in own (piece_of len b)) (is_sole_in own (piece_of len b))
    (is_wrong_in own (piece_of len b))
    (listed_may len own b listed) (inl sole) in
    true_not_false (is_landed_in len own x)
    (verified_full laws total len own (piece_of len b) plan legal (piece_below laws total len b plan below) v x inside
    same) unlanded

settled_other : (len : ℕ) (own : List OwnEvent) (q : ℕ) (right : Bool) (giver : Giver) (p : ℕ) → eqb q p ≡ false
    → may_list (Settles q right giver ∷ own) p ≡ may_list own p
settled_other len own q right giver p never =
    rw (
      wrong_other (eqb q p) right q p own giver refl never,
      never,
    ) refl

-- the block at which a claim ends is open, so it isn't landed
gone_unlanded : (total len : ℕ) (own : List OwnEvent) (b : ℕ) (g : Claim) → LegalOwn total len own
    → Has (standing_claims own) g
    → (h : Hits len own b g) → (h.0 < blocks_of total len) × (is_landed_in len own h.0 ≡ false)
gone_unlanded total len own b g legal has h =
    let f = facts total len own legal in
    let there = has_filter (is_standing own) (granted_claims own) g has in
    let o = found (is_open_since own g) (blocks_in g.run) h.0 h.1 in
    let inside : h.0 < blocks_of total len =
    let w = f.within g there.0 in
    let e = below_end h.0 g.run (and_left (is_in h.0 g.run) (not (has_come own g h.0)) o.1) in
    omega arith in
    (inside, f.unlanded g h.0 there.0 there.1 o.1)

-- where no claim ends at its piece, a block is as before
halts_even : (total len : ℕ) (own : List OwnEvent) (ends : Bool) (b : ℕ) → LegalOwn total len own
    → b < blocks_of total len
    → ((g : Claim) → Has (standing_claims own) g → Hits len own b g → ⊥)
    × (source_of len (blocks_at_start own) (gone len own (standing_claims own) (changes_of len own)) b ≡ table_source
    len own b)
    → is_landed_in len (Halts ends ∷ own) b ≡ is_landed_in len own b
halts_even total len own ends b legal below h =
    ap is_present (sym (halt_same total len own ends legal b below (table_says total len own legal b below) (inr h))
    ∙ (h.1 ∙ table_says total len own legal b below))

halts_listed : (laws : Below) (total len : ℕ) (own : List OwnEvent) (ends : Bool) (b : ℕ) → IsPlan total len
    → LegalOwn total len own
    → b < blocks_of total len → is_block_listed len own b ≡ true → Gone len own b (standing_claims own)
    → is_landed_in len (Halts ends ∷ own) b ≡ true
halts_listed laws total len own ends b plan legal below listed (inl h) =
    let u = gone_unlanded total len own b h.0 legal h.1 h.2 in
    sole_not_listed laws total len own b h.2.0 plan legal below listed
    (subst (λ (n : ℕ). is_sole_in own n ≡ true) (sym h.2.3) h.2.2)
    u.0 (sym h.2.3) u.1
halts_listed laws total len own ends b plan legal below listed (inr h) =
    halts_even total len own ends b legal below h ∙ listed_landed len own b listed

pub listed_stays : (laws : Below) (total len : ℕ) (own : List OwnEvent) (e : OwnEvent) (b : ℕ) → IsPlan total len
    → LegalOwn total len (e ∷ own) → b < blocks_of total len → (FindsWrong (piece_of len b) e → ⊥)
    → is_block_listed len own b ≡ true → is_block_listed len (e ∷ own) b ≡ true
listed_stays laws total len own (Opens verified blocks now) b plan legal below fine listed =
    unopened_bare total len own b legal.0 legal.1.first (listed_landed len own b listed)
listed_stays laws total len own (Grants cl) b plan legal below fine listed =
    and_both (is_landed_in len (Grants cl ∷ own) b) (may_list own (piece_of len b))
    (landed_claims total len own cl legal b below ∙ listed_landed len own b listed) (listed_may len own b listed)
listed_stays laws total len own (Lands c m run) b plan legal below fine listed =
    and_both (is_landed_in len (Lands c m run ∷ own) b) (may_list own (piece_of len b))
    (landed_lands total len own c m run legal b below
    ∙ or_right (is_in b run) (is_landed_in len own b) (listed_landed len own b listed))
    (listed_may len own b listed)
listed_stays laws total len own (Settles q right giver) b plan legal below fine listed =
    and_both (is_landed_in len own b) (may_list (Settles q right giver ∷ own) (piece_of len b))
    (listed_landed len own b listed)
    (⊎_elim
    (λ (here : q ≡ piece_of len b).
    let sure : right ≡ true = not_false right (λ wrong. fine (here, wrong)) in
    or_left (is_verified_in (Settles q right giver ∷ own) (piece_of len b)) _
    (or_left (eqb q (piece_of len b) && right) (is_verified_in own (piece_of len b))
    (and_both (eqb q (piece_of len b)) right (eq-eqb q (piece_of len b) here) sure)))
    (λ (other : q ≢ piece_of len b).
    settled_other len own q right giver (piece_of len b) (ne_eqb q (piece_of len b) other)
    ∙ listed_may len own b listed)
    (cases_eq q (piece_of len b)))
listed_stays laws total len own (Clears q) b plan legal below fine listed =
    ⊎_elim
    (λ (here : q ≡ piece_of len b).
    let may : MayClear total len own (piece_of len b) = subst (λ (n : ℕ). MayClear total len own n) here legal.1 in
    true_not_false (is_verified_in own (piece_of len b))
    (listed_verified (is_verified_in own (piece_of len b)) (is_sole_in own (piece_of len b))
    (is_wrong_in own (piece_of len b))
    (listed_may len own b listed)
    (⊎_elim
    (λ (loss : IsLossOf (piece_of len b) own). inl (loss_sole (piece_of len b) own loss))
    (λ (wrong : IsWrongLast len (piece_of len b) own). inr (wrong_is len (piece_of len b) own wrong))
    may.cause))
    (clear_unverified laws total len own (piece_of len b) plan legal.0 may))
    (λ (other : q ≢ piece_of len b).
    and_both (is_landed_in len (Clears q ∷ own) b) (may_list own (piece_of len b))
    (landed_clears len own q b other ∙ listed_landed len own b listed) (listed_may len own b listed))
    (cases_eq q (piece_of len b))
listed_stays laws total len own (Loses c m q mark) b plan legal below fine listed =
    and_both (is_landed_in len (Loses c m q mark ∷ own) b) (may_list own (piece_of len b))
    (landed_loses total len own c m q mark legal b
    (λ is at.
    let lb = lost_block total len own c m q legal.0 legal.1 (opened_by_sole total len own q legal.0 is) in
    sole_not_listed laws total len own b lb.block plan legal.0 below listed
    (subst (λ (n : ℕ). is_sole_in own n ≡ true) (sym at) is)
    lb.below (lb.piece_is ∙ sym at) lb.unlanded)
    ∙ listed_landed len own b listed)
    (listed_may len own b listed)
listed_stays laws total len own (Sizes c told) b plan legal below fine listed =
    and_both (is_landed_in len (Sizes c told ∷ own) b) (may_list own (piece_of len b))
    (landed_sizes total len own c told legal b ∙ listed_landed len own b listed) (listed_may len own b listed)
listed_stays laws total len own (Saves now) b plan legal below fine listed = listed
listed_stays laws total len own (Checks right) b plan legal below fine listed = listed
listed_stays laws total len own (Halts ends) b plan legal below fine listed =
    and_both (is_landed_in len (Halts ends ∷ own) b) (may_list own (piece_of len b))
    (halts_listed laws total len own ends b plan legal.0 below listed (gone_cases len own b (standing_claims own)))
    (listed_may len own b listed)

-- ---- sole pieces

halts_back : (total len : ℕ) (own : List OwnEvent) (ends : Bool) (b : ℕ) → LegalOwn total len own
    → b < blocks_of total len
    → Gone len own b (standing_claims own) → is_landed_in len (Halts ends ∷ own) b ≡ false
    → (x : ℕ) × (x < blocks_of total len) × (piece_of len x ≡ piece_of len b) × (is_landed_in len own x ≡ false)
halts_back total len own ends b legal below (inl h) none =
    let u = gone_unlanded total len own b h.0 legal h.1 h.2 in (h.2.0, u.0, sym h.2.3, u.1)
halts_back total len own ends b legal below (inr h) none =
    (b, below, refl, sym (halts_even total len own ends b legal below h) ∙ none)

listed_none : (laws : Below) (total len : ℕ) (own : List OwnEvent) (p x : ℕ) → IsPlan total len
    → LegalOwn total len own
    → is_sole_in own p ≡ true → x < blocks_of total len → piece_of len x ≡ p → is_landed_in len own x ≡ false
    → ListsNone total len (listing_in total len own) p
listed_none laws total len own p x plan legal sole inside here unlanded b below same =
    get_or-row_by (is_block_listed len own) (blocks_of total len) b false below
    ∙ not_true (is_block_listed len own b)
    (λ listed. sole_not_listed laws total len own b x plan legal below listed
    (subst (λ (n : ℕ). is_sole_in own n ≡ true) (sym same) sole)
    inside (here ∙ sym same) unlanded)

pub sole_unlisted : (laws : Below) (total len : ℕ) (own : List OwnEvent) (p x : ℕ) → IsPlan total len
    → LegalOwn total len own
    → is_sole_in own p ≡ true → x < blocks_of total len → piece_of len x ≡ p → is_landed_in len own x ≡ false
    → ListsNone total len (last_listing total len own) p
sole_unlisted laws total len [] p x plan legal sole inside here unlanded = absurd cc
sole_unlisted laws total len (Opens verified blocks now ∷ own) p x plan legal sole inside here unlanded =
    true_not_false (is_sole_in own p) sole ((early total len own legal.0 legal.1.first).sole p)
sole_unlisted laws total len (Grants cl ∷ own) p x plan legal sole inside here unlanded =
    sole_unlisted laws total len own p x plan legal.0 sole inside here
    (sym (landed_claims total len own cl legal x inside) ∙ unlanded)
sole_unlisted laws total len (Lands c m run ∷ own) p x plan legal sole inside here unlanded =
    sole_unlisted laws total len own p x plan legal.0 sole inside here
    (or_later (is_in x run) (is_landed_in len own x)
    (sym (landed_lands total len own c m run legal x inside) ∙ unlanded))
sole_unlisted laws total len (Settles q right giver ∷ own) p x plan legal sole inside here unlanded =
    or_cases (eqb q p && not right && is_mixed giver) (is_sole_in own p) sole
    (λ new.
    let same : q ≡ p =
    eqb-true q p (and_left (eqb q p) (not right) (and_left (eqb q p && not right) (is_mixed giver) new)) in
    true_not_false (is_landed_in len own x) (legal.1.full x inside (here ∙ sym same)) unlanded)
    (λ old. sole_unlisted laws total len own p x plan legal.0 old inside here unlanded)
sole_unlisted laws total len (Clears q ∷ own) p x plan legal sole inside here unlanded =
    ⊎_elim
    (λ (same : q ≡ p). subst (λ (n : ℕ). ListsNone total len (last_listing total len own) n) same legal.1.unlisted)
    (λ (other : q ≢ p).
    sole_unlisted laws total len own p x plan legal.0 sole inside here
    (sym (landed_clears len own q x (λ e. other (e ∙ here))) ∙ unlanded))
    (cases_eq q p)
sole_unlisted laws total len (Loses c m q mark ∷ own) p x plan legal sole inside here unlanded =
    ⊎_elim
    (λ (same : q ≡ p).
    let is : is_sole_in own q ≡ true = subst (λ (n : ℕ). is_sole_in own n ≡ true) (sym same) sole in
    let lb = lost_block total len own c m q legal.0 legal.1 (opened_by_sole total len own q legal.0 is) in
    sole_unlisted laws total len own p lb.block plan legal.0 sole lb.below (lb.piece_is ∙ same) lb.unlanded)
    (λ (other : q ≢ p).
    sole_unlisted laws total len own p x plan legal.0 sole inside here
    (sym (landed_loses total len own c m q mark legal x (λ is at. other (sym at ∙ here))) ∙ unlanded))
    (cases_eq q p)
sole_unlisted laws total len (Sizes c told ∷ own) p x plan legal sole inside here unlanded =
    sole_unlisted laws total len own p x plan legal.0 sole inside here
    (sym (landed_sizes total len own c told legal x) ∙ unlanded)
sole_unlisted laws total len (Saves now ∷ own) p x plan legal sole inside here unlanded =
    listed_none laws total len own p x plan legal.0 sole inside here unlanded
sole_unlisted laws total len (Checks right ∷ own) p x plan legal sole inside here unlanded =
    sole_unlisted laws total len own p x plan legal.0 sole inside here unlanded
sole_unlisted laws total len (Halts ends ∷ own) p x plan legal sole inside here unlanded =
    let u = halts_back total len own ends x legal.0 inside (gone_cases len own x (standing_claims own)) unlanded in
    sole_unlisted laws total len own p u.0 plan legal.0 sole u.1 (u.2 ∙ here) u.3
