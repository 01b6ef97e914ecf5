-- A piece that was found wrong stays full until it is cleared; a sole piece has no open block once its claim is lost.
use Rattle.std.proofs.Common.{◌≡◌, ◌≢◌, ◌⊎◌, ℕ, ◌+◌, ◌<◌, Bool, true, false, cond, eqb, Some, List, [], ◌∷◌, refl, sym, ap, ◌∙◌, subst, inl, inr, ⊎_elim, arith}
use Rattle.std.specs.Prelude.{◌&&◌, ◌||◌}
use Rattle.std.proofs.lemmas.Bool.{cases_eq, ne_eqb, eqb-true}
use Rattle.dl_kinds.specs.Plan.{piece_of, blocks_of, IsPlan}
use Rattle.dl_kinds.specs.declared.runs.Run.{Run}
use Rattle.dl_kinds.specs.declared.marks.Mark.{Mark}
use Rattle.piece_table.specs.Changes.{is_in, is_present, Source, Absent, Unknown, From, given}
use Rattle.dl_kinds.specs.declared.claims.Claim.{Claim}
use Rattle.std.specs.Prelude.{◌*◌, slice_get}
use Rattle.std.proofs.Common.{get_or}
use Rattle.std.proofs.lemmas.Nat.{div-add-mod'}
use Rattle.std.proofs.lemmas.Option.{slice_get-get_or}
use Rattle.dl_kinds.specs.Plan.{pieces_of, place_of, full_blocks, blocks_of_piece}
use Rattle.piece_table.specs.Progress.{IsStart}
use Rattle.dl_history.proofs.Below.{Below, get_or-part, length-part, part_fits}
use Rattle.dl_history.proofs.Bools.{and_left, not_true, or_cases, or_right, true_not_false}
use Rattle.dl_history.proofs.Early.{below_end, early, opened_by_sole, opened_by_verified}
use Rattle.dl_history.proofs.Ends.{stood_before_loss}
use Rattle.dl_history.proofs.Facts.{facts}
use Rattle.dl_history.proofs.Members.{Has, has_filter}
use Rattle.dl_history.proofs.Sole.{found}
use Rattle.dl_history.proofs.Table.{Gone, gone_by_loss, gone_cases, halt_same, kept_by_loss, lost_block, lost_not_standing, sizes_same, table_says}
use Rattle.dl_history.proofs.TableChanges.{table_source}
use Rattle.dl_history.specs.OwnEvents.{Checks, Clears, Grants, Halts, Lands, Loses, Opens, OwnEvent, Saves, Settles, Sizes}
use Rattle.dl_history.specs.OwnLegal.{IsLossOf, IsWrongLast, LegalOwn, MayClear, MayBeLost}
use Rattle.dl_history.specs.PayloadParts.{is_landed_in, is_sole_in, is_verified_in, source_in}
use Rattle.dl_history.specs.StandingClaims.{blocks_in, granted_claims, is_open_since, is_standing, standing_claims}

given_or : (t : Bool) (m : ℕ) (x : Source) → is_present (cond t (given x m) x) ≡ (t || is_present x)
given_or true m Absent = refl
given_or true m Unknown = refl
given_or true m (From n) = refl
given_or false m x = refl

-- once a sole piece's claim is lost, no other claim has an open block in it
pub loss_shut : (total len : ℕ) (own : List OwnEvent) (c m p : ℕ) (mark : Mark) → LegalOwn total len own
    → MayBeLost len own c m p → (g : Claim) (b : ℕ) → Has (granted_claims own) g
    → is_standing (Loses c m p mark ∷ own) g ≡ true → is_sole_in own p ≡ true → piece_of len b ≡ p
    → is_open_since own g b ≡ true → ⊥
loss_shut total len own c m p mark legal may g b hg sg is here og =
    let f = facts total len own legal in
    let lb = lost_block total len own c m p legal may (opened_by_sole total len own p legal is) in
    let who : may.claim.id ≡ g.id = f.unique may.claim g lb.block b lb.there hg lb.standing
    (stood_before_loss own c m p mark g sg) lb.opened og
    (subst (λ (q : ℕ). is_sole_in own q ≡ true) (sym lb.piece_is) is) (lb.piece_is ∙ sym here) in
    lost_not_standing own c m p mark g (sym may.id_is ∙ who) sg

pub halts_wrong : (total len : ℕ) (own : List OwnEvent) (ends : Bool) (p : ℕ) → LegalOwn total len own → (b : ℕ)
    → b < blocks_of total len → piece_of len b ≡ p
    → ((x : ℕ) → x < blocks_of total len → piece_of len x ≡ p → is_landed_in len own x ≡ true)
    → Gone len own b (standing_claims own) → is_landed_in len (Halts ends ∷ own) b ≡ true
halts_wrong total len own ends p legal b below here full (inl h) =
    let f = facts total len own legal in
    let there = has_filter (is_standing own) (granted_claims own) h.0 h.1 in
    let o = found (is_open_since own h.0) (blocks_in h.0.run) h.2.0 h.2.1 in
    let inside : h.2.0 < blocks_of total len = let x = f.within h.0 there.0 in let e =
    below_end h.2.0 h.0.run (and_left (is_in h.2.0 h.0.run) _ o.1) in omega arith in
    true_not_false (is_landed_in len own h.2.0) (full h.2.0 inside (sym h.2.3 ∙ here))
    (f.unlanded h.0 h.2.0 there.0 there.1 o.1)
halts_wrong total len own ends p legal b below here full (inr h) =
    ap is_present
    (sym (halt_same total len own ends legal b below (table_says total len own legal b below) (inr h))
    ∙ (h.1 ∙ table_says total len own legal b below)) ∙ full b below here

-- ---- landed blocks after each event

pub landed_lands : (total len : ℕ) (own : List OwnEvent) (c m : ℕ) (run : Run)
    → LegalOwn total len (Lands c m run ∷ own) → (b : ℕ) → b < blocks_of total len
    → is_landed_in len (Lands c m run ∷ own) b ≡ (is_in b run || is_landed_in len own b)
landed_lands total len own c m run legal b below =
    sym (ap is_present (table_says total len (Lands c m run ∷ own) legal b below))
    ∙ given_or (is_in b run) m (table_source len own b)
    ∙ ap (λ (x : Source). is_in b run || is_present x) (table_says total len own legal.0 b below)

pub landed_claims : (total len : ℕ) (own : List OwnEvent) (cl : Claim) → LegalOwn total len (Grants cl ∷ own)
    → (b : ℕ) → b < blocks_of total len
    → is_landed_in len (Grants cl ∷ own) b ≡ is_landed_in len own b
landed_claims total len own cl legal b below =
    ap is_present
    (sym (table_says total len (Grants cl ∷ own) legal b below) ∙ table_says total len own legal.0 b below)

pub landed_loses : (total len : ℕ) (own : List OwnEvent) (c m p : ℕ) (mark : Mark)
    → LegalOwn total len (Loses c m p mark ∷ own) → (b : ℕ)
    → (is_sole_in own p ≡ true → piece_of len b ≡ p → ⊥)
    → is_landed_in len (Loses c m p mark ∷ own) b ≡ is_landed_in len own b
landed_loses total len own c m p mark legal b never =
    ap is_present (kept_by_loss total len own c m p mark legal.0 legal.1 b never)

pub landed_sizes : (total len : ℕ) (own : List OwnEvent) (c told : ℕ) → LegalOwn total len (Sizes c told ∷ own)
    → (b : ℕ)
    → is_landed_in len (Sizes c told ∷ own) b ≡ is_landed_in len own b
landed_sizes total len own c told legal b = ap is_present (sym (sizes_same total len own c told legal b))

pub landed_clears : (len : ℕ) (own : List OwnEvent) (p b : ℕ) → p ≢ piece_of len b
    → is_landed_in len (Clears p ∷ own) b ≡ is_landed_in len own b
landed_clears len own p b other = ap (λ (e : Bool). is_present (cond e Absent (source_in len own b)))
    (ne_eqb p (piece_of len b) other)

-- a piece that was last found wrong is full
pub wrong_full : (total len : ℕ) (own : List OwnEvent) (p : ℕ) → LegalOwn total len own → IsWrongLast len p own
    → (b : ℕ) → b < blocks_of total len → piece_of len b ≡ p → is_landed_in len own b ≡ true
wrong_full total len [] p legal w b below here = absurd w
wrong_full total len (Opens verified blocks now ∷ own) p legal w b below here = absurd w
wrong_full total len (Grants cl ∷ own) p legal w b below here = landed_claims total len own cl legal b below
    ∙ wrong_full total len own p legal.0 w b below here
wrong_full total len (Lands c m run ∷ own) p legal w b below here =
    landed_lands total len own c m run legal b below
    ∙ or_right (is_in b run) (is_landed_in len own b) (wrong_full total len own p legal.0 w.1 b below here)
wrong_full total len (Settles q right giver ∷ own) p legal w b below here =
    ⊎_elim
    (λ (now : (q ≡ p) × (right ≡ false)). legal.1.full b below (here ∙ sym now.0))
    (λ (old : (q ≢ p) × IsWrongLast len p own). wrong_full total len own p legal.0 old.1 b below here)
    w
wrong_full total len (Clears q ∷ own) p legal w b below here =
    landed_clears len own q b (λ e. w.0 (e ∙ here)) ∙ wrong_full total len own p legal.0 w.1 b below here
wrong_full total len (Loses c m q mark ∷ own) p legal w b below here =
    let f = facts total len own legal.0 in
    let may = legal.1 in
    landed_loses total len own c m q mark legal b
    (λ is at.
    let lb = lost_block total len own c m q legal.0 may (opened_by_sole total len own q legal.0 is) in
    true_not_false (is_landed_in len own lb.block)
    (wrong_full total len own p legal.0 w lb.block lb.below (lb.piece_is ∙ (sym at ∙ here))) lb.unlanded)
    ∙ wrong_full total len own p legal.0 w b below here
wrong_full total len (Sizes c told ∷ own) p legal w b below here = landed_sizes total len own c told legal b
    ∙ wrong_full total len own p legal.0 w b below here
wrong_full total len (Saves now ∷ own) p legal w b below here = wrong_full total len own p legal.0 w b below here
wrong_full total len (Checks right ∷ own) p legal w b below here = wrong_full total len own p legal.0 w b below here
wrong_full total len (Halts ends ∷ own) p legal w b below here =
    halts_wrong total len own ends p legal.0 b below here (λ x. wrong_full total len own p legal.0 w x)
    (gone_cases len own b (standing_claims own))

-- no claim that stands has an open block in a piece that may be cleared
pub clear_shut : (total len : ℕ) (own : List OwnEvent) (p : ℕ) → LegalOwn total len own → IsLossOf p own
    ⊎ IsWrongLast len p own → (g : Claim) (b : ℕ) → Has (granted_claims own) g → is_standing own g ≡ true
    → b < blocks_of total len → piece_of len b ≡ p → is_open_since own g b ≡ false
clear_shut total len own p legal (inr w) g b hg sg below here =
    not_true (is_open_since own g b)
    (λ og. true_not_false (is_landed_in len own b) (wrong_full total len own p legal w b below here)
    ((facts total len own legal).unlanded g b hg sg og))
clear_shut total len (Loses c m q mark ∷ own) p legal (inl w) g b hg sg below here =
    not_true (is_open_since own g b)
    (λ og. loss_shut total len own c m q mark legal.0 legal.1 g b hg sg
    (subst (λ (x : ℕ). is_sole_in own x ≡ true) (sym w.0) w.1) (here ∙ sym w.0) og)
clear_shut total len [] p legal (inl w) g b hg sg below here = absurd w
clear_shut total len (Opens verified blocks now ∷ own) p legal (inl w) g b hg sg below here = absurd w
clear_shut total len (Grants cl ∷ own) p legal (inl w) g b hg sg below here = absurd w
clear_shut total len (Lands c m run ∷ own) p legal (inl w) g b hg sg below here = absurd w
clear_shut total len (Settles q right giver ∷ own) p legal (inl w) g b hg sg below here = absurd w
clear_shut total len (Clears q ∷ own) p legal (inl w) g b hg sg below here = absurd w
clear_shut total len (Sizes c told ∷ own) p legal (inl w) g b hg sg below here = absurd w
clear_shut total len (Saves now ∷ own) p legal (inl w) g b hg sg below here = absurd w
clear_shut total len (Checks right ∷ own) p legal (inl w) g b hg sg below here = absurd w
clear_shut total len (Halts ends ∷ own) p legal (inl w) g b hg sg below here = absurd w

-- ---- verified pieces are full

no_right : (a b c : Bool) → b ≡ false → c ≡ false → ((a && b) || c) ≡ false
no_right true b c p q = rw (p, q) refl
no_right false b c p q = q

no_here : (a b c : Bool) → a ≡ false → c ≡ false → ((a && b) || c) ≡ false
no_here true b c p q = absurd cc
no_here false b c p q = q

wrong_unverified : (total len : ℕ) (own : List OwnEvent) (p : ℕ) → LegalOwn total len own → IsWrongLast len p own
    → is_verified_in own p ≡ false
wrong_unverified total len [] p legal w = absurd w
wrong_unverified total len (Opens verified blocks now ∷ own) p legal w = absurd w
wrong_unverified total len (Grants cl ∷ own) p legal w = wrong_unverified total len own p legal.0 w
wrong_unverified total len (Lands c m run ∷ own) p legal w = wrong_unverified total len own p legal.0 w.1
wrong_unverified total len (Settles q right giver ∷ own) p legal w =
    ⊎_elim
    (λ (now : (q ≡ p) × (right ≡ false)). no_right (eqb q p) right (is_verified_in own p) now.1
    (subst (λ (x : ℕ). is_verified_in own x ≡ false) now.0 legal.1.unverified))
    (λ (old : (q ≢ p) × IsWrongLast len p own). no_here (eqb q p) right (is_verified_in own p) (ne_eqb q p old.0)
    (wrong_unverified total len own p legal.0 old.1))
    w
wrong_unverified total len (Clears q ∷ own) p legal w = wrong_unverified total len own p legal.0 w.1
wrong_unverified total len (Loses c m q mark ∷ own) p legal w = wrong_unverified total len own p legal.0 w
wrong_unverified total len (Sizes c told ∷ own) p legal w = wrong_unverified total len own p legal.0 w
wrong_unverified total len (Saves now ∷ own) p legal w = wrong_unverified total len own p legal.0 w
wrong_unverified total len (Checks right ∷ own) p legal w = wrong_unverified total len own p legal.0 w
wrong_unverified total len (Halts ends ∷ own) p legal w = wrong_unverified total len own p legal.0 w

not_cleared_loss : (total len : ℕ) (own : List OwnEvent) (p : ℕ) → LegalOwn total len own → IsLossOf p own
    → ((x : ℕ) → x < blocks_of total len → piece_of len x ≡ p → is_landed_in len own x ≡ true) → ⊥
not_cleared_loss total len [] p legal w full = w
not_cleared_loss total len (Opens verified blocks now ∷ own) p legal w full = w
not_cleared_loss total len (Grants cl ∷ own) p legal w full = w
not_cleared_loss total len (Lands c m run ∷ own) p legal w full = w
not_cleared_loss total len (Settles q right giver ∷ own) p legal w full = w
not_cleared_loss total len (Clears q ∷ own) p legal w full = w
not_cleared_loss total len (Sizes c told ∷ own) p legal w full = w
not_cleared_loss total len (Saves now ∷ own) p legal w full = w
not_cleared_loss total len (Checks right ∷ own) p legal w full = w
not_cleared_loss total len (Halts ends ∷ own) p legal w full = w
not_cleared_loss total len (Loses c m q mark ∷ own) p legal w full =
    let f = facts total len own legal.0 in
    let may = legal.1 in
    let sole : is_sole_in own q ≡ true = subst (λ (x : ℕ). is_sole_in own x ≡ true) (sym w.0) w.1 in
    let lb = lost_block total len own c m q legal.0 may (opened_by_sole total len own q legal.0 sole) in
    let gone = gone_by_loss total len own c m q mark legal.0 may lb.block lb.below sole lb.piece_is in
    let landed = full lb.block lb.below (lb.piece_is ∙ w.0) in
    let none : is_landed_in len (Loses c m q mark ∷ own) lb.block ≡ false = ap is_present gone in
    true_not_false (is_landed_in len (Loses c m q mark ∷ own) lb.block) landed none

-- a piece that may be cleared isn't verified
not_cleared : (total len : ℕ) (own : List OwnEvent) (p : ℕ) → LegalOwn total len own → MayClear total len own p
    → ((x : ℕ) → x < blocks_of total len → piece_of len x ≡ p → is_landed_in len own x ≡ true)
    → is_verified_in own p ≡ true → ⊥
not_cleared total len own p legal may full is =
    ⊎_elim (λ (loss : IsLossOf p own). not_cleared_loss total len own p legal loss full)
    (λ (w : IsWrongLast len p own). true_not_false (is_verified_in own p) is
    (wrong_unverified total len own p legal w)) may.cause

start_full : (laws : Below) (total len : ℕ) (verified blocks : List Bool) (p b : ℕ) → IsPlan total len
    → IsStart total len verified blocks → p < pieces_of total len → get_or verified p false ≡ true
    → b < blocks_of total len → piece_of len b ≡ p → get_or blocks b false ≡ true
start_full laws total len verified blocks p b plan start below is inside here =
    let yes : slice_get verified p ≡ Some true = slice_get-get_or verified p false (omega (arith, start.pieces))
    ∙ ap (λ (t : Bool). Some t) is in
    let full = start.full p yes in
    let place : place_of len b < blocks_of_piece total len p =
    subst (λ (q : ℕ). place_of len b < blocks_of_piece total len q) here
    (laws.of_pieces total len b plan inside).place in
    let at : p * full_blocks len + place_of len b ≡ b = ap (λ (n : ℕ). n * full_blocks len + place_of len b)
    (sym here) ∙ div-add-mod' b (full_blocks len) in
    let fits = part_fits laws total len p plan below (omega (arith, place)) in
    let long = length-part blocks (p * full_blocks len) (blocks_of_piece total len p) (omega (arith, start.blocks)) in
    ap (λ (n : ℕ). get_or blocks n false) (sym at)
    ∙ (sym (get_or-part blocks (p * full_blocks len) (blocks_of_piece total len p) (place_of len b) false place)
    ∙ full (place_of len b) false (omega arith))

pub verified_full : (laws : Below) (total len : ℕ) (own : List OwnEvent) (p : ℕ) → IsPlan total len
    → LegalOwn total len own → p < pieces_of total len → is_verified_in own p ≡ true
    → (b : ℕ) → b < blocks_of total len → piece_of len b ≡ p → is_landed_in len own b ≡ true
verified_full laws total len [] p plan legal below is b inside here = absurd cc
verified_full laws total len (Opens verified blocks now ∷ own) p plan legal below is b inside here =
    or_cases (get_or verified p false) (is_verified_in own p) is
    (λ yes. ap (λ (t : Bool). is_present (cond t Unknown Absent))
    (start_full laws total len verified blocks p b plan legal.1.start below yes inside here))
    (λ old. true_not_false (is_verified_in own p) old ((early total len own legal.0 legal.1.first).verified p))
verified_full laws total len (Grants cl ∷ own) p plan legal below is b inside here =
    landed_claims total len own cl legal b inside
    ∙ verified_full laws total len own p plan legal.0 below is b inside here
verified_full laws total len (Lands c m run ∷ own) p plan legal below is b inside here =
    landed_lands total len own c m run legal b inside
    ∙ or_right (is_in b run) (is_landed_in len own b)
    (verified_full laws total len own p plan legal.0 below is b inside here)
verified_full laws total len (Settles q right giver ∷ own) p plan legal below is b inside here =
    or_cases (eqb q p && right) (is_verified_in own p) is
    (λ now. legal.1.full b inside (here ∙ sym (eqb-true q p (and_left (eqb q p) right now))))
    (λ old. verified_full laws total len own p plan legal.0 below old b inside here)
verified_full laws total len (Clears q ∷ own) p plan legal below is b inside here =
    ⊎_elim
    (λ (same : q ≡ p). absurd
    (not_cleared total len own p legal.0 (subst (λ (x : ℕ). MayClear total len own x) same legal.1)
    (λ x. verified_full laws total len own p plan legal.0 below is x) is))
    (λ (other : q ≢ p). landed_clears len own q b (λ e. other (e ∙ here))
    ∙ verified_full laws total len own p plan legal.0 below is b inside here)
    (cases_eq q p)
verified_full laws total len (Loses c m q mark ∷ own) p plan legal below is b inside here =
    let f = facts total len own legal.0 in
    let may = legal.1 in
    landed_loses total len own c m q mark legal b
    (λ sole same.
    let lb = lost_block total len own c m q legal.0 may (opened_by_sole total len own q legal.0 sole) in
    true_not_false (is_landed_in len own lb.block)
    (verified_full laws total len own p plan legal.0 below is lb.block lb.below (lb.piece_is ∙ (sym same ∙ here)))
    lb.unlanded)
    ∙ verified_full laws total len own p plan legal.0 below is b inside here
verified_full laws total len (Sizes c told ∷ own) p plan legal below is b inside here =
    landed_sizes total len own c told legal b ∙ verified_full laws total len own p plan legal.0 below is b inside here
verified_full laws total len (Saves now ∷ own) p plan legal below is b inside here =
    verified_full laws total len own p plan legal.0 below is b inside here
verified_full laws total len (Checks right ∷ own) p plan legal below is b inside here =
    verified_full laws total len own p plan legal.0 below is b inside here
verified_full laws total len (Halts ends ∷ own) p plan legal below is b inside here =
    halts_wrong total len own ends p legal.0 b inside here
    (λ x. verified_full laws total len own p plan legal.0 below is x) (gone_cases len own b (standing_claims own))

-- the piece of a claim's open block isn't verified
pub loss_unverified : (laws : Below) (total len : ℕ) (own : List OwnEvent) (c m p : ℕ) → IsPlan total len
    → LegalOwn total len own → MayBeLost len own c m p → p < pieces_of total len → is_verified_in own p ≡ false
loss_unverified laws total len own c m p plan legal may below =
    let f = facts total len own legal in
    not_true (is_verified_in own p)
    (λ is.
    let lb = lost_block total len own c m p legal may (opened_by_verified total len own p legal is) in
    true_not_false (is_landed_in len own lb.block)
    (verified_full laws total len own p plan legal below is lb.block lb.below lb.piece_is) lb.unlanded)

-- a piece that may be cleared isn't verified
pub clear_unverified : (laws : Below) (total len : ℕ) (own : List OwnEvent) (p : ℕ) → IsPlan total len
    → LegalOwn total len own → MayClear total len own p → is_verified_in own p ≡ false
clear_unverified laws total len own p plan legal may =
    not_true (is_verified_in own p)
    (λ is. not_cleared total len own p legal may
    (λ x. verified_full laws total len own p plan legal may.within is x) is)
