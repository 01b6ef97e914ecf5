-- The landings that count are those that the table keeps.
use Rattle.std.proofs.Common.{◌≡◌, ◌≢◌, ℕ, ◌<◌, Bool, true, false, cond, eqb, List, [], ◌∷◌, refl, sym, ap, ◌∙◌, subst, ⊎_elim, arith}
use Rattle.std.specs.Prelude.{◌&&◌, ◌||◌, ◌==◌, not}
use Rattle.std.proofs.lemmas.Bool.{ne_eqb, eq-eqb}
use Rattle.dl_kinds.specs.Plan.{piece_of, blocks_of}
use Rattle.dl_kinds.specs.declared.marks.Mark.{Mark}
use Rattle.piece_table.specs.Changes.{is_in, is_present, Source, Absent, Unknown, From}
use Rattle.dl_kinds.specs.declared.claims.Claim.{Claim}
use Rattle.dl_history.proofs.Alive.{alive_before_landing, alive_before_sizing, fewer, stands_as, stands_by}
use Rattle.dl_history.proofs.Bools.{and_both, and_left, and_right, not_true, or_cases, or_left, or_right, true_not_false}
use Rattle.dl_history.proofs.Ends.{new_open, open_after_grant, open_before, standing_after_grant, stood_before_landing, stood_before_loss, stood_before_sizing}
use Rattle.dl_history.proofs.Facts.{alive_before_grant, facts, grant_facts, no_landing_yet, whole_run}
use Rattle.dl_history.proofs.Members.{Has, has_all}
use Rattle.dl_history.proofs.Sole.{apart}
use Rattle.dl_history.proofs.Whole.{early_shut, granted_there, sole_before_verdict, sole_lands}
use Rattle.dl_history.specs.OwnEvents.{Checks, Clears, Grants, Halts, Lands, Loses, Opens, OwnEvent, Saves, Settles, Sizes}
use Rattle.dl_history.specs.OwnLegal.{LegalOwn}
use Rattle.dl_history.specs.PayloadParts.{is_alive, is_landed_in, is_sole_in, source_by}
use Rattle.dl_history.specs.StandingClaims.{granted_claims, has_given_all, is_open_since, is_standing, stands_in}

-- all claims that count but this one
abbrev pub without : List OwnEvent → ℕ → ℕ → Bool
without own c0 c = is_alive own c && not (c == c0)

pub alive_before_loss : (own : List OwnEvent) (c m p : ℕ) (mark : Mark) (c' : ℕ)
    → is_alive (Loses c m p mark ∷ own) c' ≡ true → is_alive own c' ≡ true
alive_before_loss own c m p mark c' alive =
    or_cases (stands_in (Loses c m p mark ∷ own) c') (has_given_all own c') alive
    (λ s. let r = stands_as (Loses c m p mark ∷ own) c' s in
    or_left (stands_in own c') (has_given_all own c')
    (stands_by own c' r.0 r.1 (stood_before_loss own c m p mark r.0 r.2) r.3))
    (or_right (stands_in own c') (has_given_all own c'))

lands_less : (t s v : Bool) (n : ℕ) (x : Source) → s ≡ true → (t ≡ true → v ≡ false)
    → is_present (cond (t && (not s || v)) (From n) x) ≡ true → is_present x ≡ true
lands_less false s v n x is never h = h
lands_less true true true n x is never h = absurd (let e = never refl in cc)
lands_less true true false n x is never h = h
lands_less true false v n x is never h = absurd cc

clear_less : (e : Bool) (x : Source) → is_present (cond e Absent x) ≡ true → is_present x ≡ true
clear_less true x h = absurd cc
clear_less false x h = h

and_false : (a b : Bool) → b ≡ true → (a && not b) ≡ false
and_false true b h = rw h refl
and_false false b h = refl

-- without the landings of a sole piece's claim no block of the piece is landed
pub absent : (total len : ℕ) (own : List OwnEvent) → LegalOwn total len own → (g : Claim) (b b' : ℕ)
    → Has (granted_claims own) g → is_standing own g ≡ true → is_open_since own g b ≡ true
    → is_sole_in own (piece_of len b) ≡ true → b' < blocks_of total len → piece_of len b' ≡ piece_of len b
    → is_present (source_by (without own g.id) (piece_of len b) b' own) ≡ false
absent total len [] legal g b b' hg sg og is below same = absurd hg
absent total len (Opens verified blocks now ∷ own) legal g b b' hg sg og is below same =
    early_shut total len own g b legal.0 legal.1.first hg og
absent total len (Grants cl ∷ own) legal g b b' hg sg og is below same =
    let f = facts total len own legal.0 in
    let may = grant_facts total len own cl legal.1 in
    not_true (is_present (source_by (without (Grants cl ∷ own) g.id) (piece_of len b) b' own))
    (λ h.
    ⊎_elim
    (λ (gn : cl ≡ g).
    let inside = new_open own cl b (subst (λ (x : Claim). is_open_since (Grants cl ∷ own) x b ≡ true) (sym gn) og) in
    let inside' = whole_run total len own cl b b' may inside is below same in
    let was = fewer own (without (Grants cl ∷ own) g.id) (is_alive own) (piece_of len b) b'
    (λ c' by w. alive_before_grant total len own cl c' may (no_landing_yet total len own cl c' b' f may by)
    (and_left (is_alive (Grants cl ∷ own) c') (not (c' == g.id)) w)) h in
    true_not_false (is_landed_in len own b')
    (subst (λ (p : ℕ). is_present (source_by (is_alive own) p b' own) ≡ true) (sym same) was)
    (may.unlanded b' inside'))
    (λ (go : Has (granted_claims own) g).
    let older : cl.id ≢ g.id = λ e. let o : g.id < cl.id = has_all (λ (y : Claim). y.id < cl.id) (granted_claims own)
    g may.fresh go in absurd (omega (arith, e)) in
    let was = fewer own (without (Grants cl ∷ own) g.id) (without own g.id) (piece_of len b) b'
    (λ c' by w. and_both (is_alive own c') (not (c' == g.id))
    (alive_before_grant total len own cl c' may (no_landing_yet total len own cl c' b' f may by)
    (and_left (is_alive (Grants cl ∷ own) c') (not (c' == g.id)) w))
    (and_right (is_alive (Grants cl ∷ own) c') (not (c' == g.id)) w)) h in
    true_not_false (is_present (source_by (without own g.id) (piece_of len b) b' own)) was
    (absent total len own legal.0 g b b' go (sym (standing_after_grant own cl g older) ∙ sg)
    (sym (open_after_grant own cl g b older) ∙ og) is below same))
    hg)
absent total len (Lands c m run ∷ own) legal g b b' hg sg og is below same =
    let f = facts total len own legal.0 in
    let may = legal.1 in
    let there = granted_there own c m run may in
    let stood : stands_in own c ≡ true = stands_by own c may.claim there.0 there.1 (eq-eqb may.claim.id c may.id_is)
    in
    let sg' = stood_before_landing own c m run g sg in
    let og' = open_before own c m run g b og in
    not_true (is_present (source_by (without (Lands c m run ∷ own) g.id) (piece_of len b) b' (Lands c m run ∷ own)))
    (λ h.
    let rest = lands_less (is_in b' run) (is_sole_in own (piece_of len b)) (without (Lands c m run ∷ own) g.id c) m
    (source_by (without (Lands c m run ∷ own) g.id) (piece_of len b) b' own) is
    (λ now.
    let who : g.id ≡ may.claim.id = f.unique g may.claim b b' hg there.0 sg' there.1 og' (may.open_in b' now) is
    (sym same) in
    and_false (is_alive (Lands c m run ∷ own) c) (c == g.id) (eq-eqb c g.id (sym (who ∙ may.id_is)))) h in
    let was = fewer own (without (Lands c m run ∷ own) g.id) (without own g.id) (piece_of len b) b'
    (λ c' by w. and_both (is_alive own c') (not (c' == g.id))
    (alive_before_landing own c m run stood c' (and_left (is_alive (Lands c m run ∷ own) c') (not (c' == g.id)) w))
    (and_right (is_alive (Lands c m run ∷ own) c') (not (c' == g.id)) w)) rest in
    true_not_false (is_present (source_by (without own g.id) (piece_of len b) b' own)) was
    (absent total len own legal.0 g b b' hg sg' og' is below same))
absent total len (Settles p right giver ∷ own) legal g b b' hg sg og is below same =
    absent total len own legal.0 g b b' hg sg og
    (sole_before_verdict total len own p right giver (facts total len own legal.0) legal.1 g b hg sg og is) below
    same
absent total len (Clears p ∷ own) legal g b b' hg sg og is below same =
    not_true (is_present (source_by (without (Clears p ∷ own) g.id) (piece_of len b) b' (Clears p ∷ own)))
    (λ h. true_not_false (is_present (source_by (without own g.id) (piece_of len b) b' own))
    (clear_less (eqb p (piece_of len b)) (source_by (without own g.id) (piece_of len b) b' own) h)
    (absent total len own legal.0 g b b' hg sg og is below same))
absent total len (Loses c m p mark ∷ own) legal g b b' hg sg og is below same =
    not_true (is_present (source_by (without (Loses c m p mark ∷ own) g.id) (piece_of len b) b' own))
    (λ h.
    let was = fewer own (without (Loses c m p mark ∷ own) g.id) (without own g.id) (piece_of len b) b'
    (λ c' by w. and_both (is_alive own c') (not (c' == g.id))
    (alive_before_loss own c m p mark c' (and_left (is_alive (Loses c m p mark ∷ own) c') (not (c' == g.id)) w))
    (and_right (is_alive (Loses c m p mark ∷ own) c') (not (c' == g.id)) w)) h in
    true_not_false (is_present (source_by (without own g.id) (piece_of len b) b' own)) was
    (absent total len own legal.0 g b b' hg (stood_before_loss own c m p mark g sg) og is below same))
absent total len (Sizes c told ∷ own) legal g b b' hg sg og is below same =
    not_true (is_present (source_by (without (Sizes c told ∷ own) g.id) (piece_of len b) b' own))
    (λ h.
    let was = fewer own (without (Sizes c told ∷ own) g.id) (without own g.id) (piece_of len b) b'
    (λ c' by w. and_both (is_alive own c') (not (c' == g.id))
    (alive_before_sizing own c told c' (and_left (is_alive (Sizes c told ∷ own) c') (not (c' == g.id)) w))
    (and_right (is_alive (Sizes c told ∷ own) c') (not (c' == g.id)) w)) h in
    true_not_false (is_present (source_by (without own g.id) (piece_of len b) b' own)) was
    (absent total len own legal.0 g b b' hg (stood_before_sizing own c told g sg) og is below same))
absent total len (Saves now ∷ own) legal g b b' hg sg og is below same =
    absent total len own legal.0 g b b' hg sg og is below same
absent total len (Checks right ∷ own) legal g b b' hg sg og is below same =
    absent total len own legal.0 g b b' hg sg og is below same
absent total len (Halts ends ∷ own) legal g b b' hg sg og is below same = absurd cc

-- ---- the sources

same_lands : (t s v w : Bool) (n : ℕ) (x y : Source) → (t ≡ true → s ≡ true → v ≡ w) → x ≡ y
    → cond (t && (not s || v)) (From n) x ≡ cond (t && (not s || w)) (From n) y
same_lands false s v w n x y same rest = rest
same_lands true false v w n x y same rest = refl
same_lands true true v w n x y same rest = rw (same refl refl, rest) refl

-- only the claims matter that gave a block while its piece was sole
pub same_source : (own : List OwnEvent) (f h : ℕ → Bool) (p b : ℕ)
    → ((c : ℕ) → sole_lands p b c own ≡ true → f c ≡ h c) → source_by f p b own ≡ source_by h p b own
same_source [] f h p b same = refl
same_source (Opens verified blocks now ∷ before) f h p b same = refl
same_source (Grants claim ∷ before) f h p b same = same_source before f h p b same
same_source (Lands id mirror run ∷ before) f h p b same =
    same_lands (is_in b run) (is_sole_in before p) (f id) (h id) mirror (source_by f p b before)
    (source_by h p b before)
    (λ t s. same id
    (or_left (eqb id id && is_in b run && is_sole_in before p) (sole_lands p b id before)
    (rw (eq-eqb id id refl, t, s) refl)))
    (same_source before f h p b
    (λ c by. same c (or_right (eqb id c && is_in b run && is_sole_in before p) (sole_lands p b c before) by)))
same_source (Settles piece right giver ∷ before) f h p b same = same_source before f h p b same
same_source (Clears piece ∷ before) f h p b same = ap (λ (x : Source). cond (eqb piece p) Absent x)
    (same_source before f h p b same)
same_source (Loses id mirror piece mark ∷ before) f h p b same = same_source before f h p b same
same_source (Sizes id total ∷ before) f h p b same = same_source before f h p b same
same_source (Saves now ∷ before) f h p b same = same_source before f h p b same
same_source (Checks right ∷ before) f h p b same = same_source before f h p b same
same_source (Halts ends ∷ before) f h p b same = same_source before f h p b same

pub absent_source : (x : Source) → is_present x ≡ false → x ≡ Absent
absent_source Absent h = refl
absent_source Unknown h = absurd cc
absent_source (From mirror) h = absurd cc

pub other_claim : (c c0 : ℕ) → (c ≡ c0 → ⊥) → not (c == c0) ≡ true
other_claim c c0 apart = ap not (ne_eqb c c0 apart)
