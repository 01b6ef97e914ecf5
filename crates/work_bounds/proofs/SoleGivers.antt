-- One mirror gives a sole piece: it isn't found wrong of several again.
use Rattle.std.proofs.Common.{◌≡◌, ◌≢◌, ◌⊎◌, ℕ, ◌<◌, Bool, true, false, cond, eqb, List, [], ◌∷◌, refl, sym, ap, ◌∙◌, subst, inl, inr, ⊎_elim, arith}
use Rattle.std.specs.Prelude.{◌&&◌, not}
use Rattle.std.proofs.lemmas.Bool.{cases_eq, eqb-true}
use Rattle.dl_kinds.specs.Plan.{IsPlan, blocks_of, piece_of}
use Rattle.dl_kinds.specs.declared.claims.Claim.{Claim}
use Rattle.dl_kinds.specs.declared.runs.Run.{Run}
use Rattle.piece_table.specs.Changes.{Absent, MayBeFrom, Source, given, is_in}
use Rattle.piece_table.specs.declared.giver.Giver.{Giver}
use Rattle.piece_table.specs.declared.giver.Giver.TheVariants.{Mixed}
use Rattle.dl_history.proofs.Bools.{and_left, not_true, or_cases, or_left, or_right, true_not_false}
use Rattle.dl_history.proofs.Early.{opened_by_sole}
use Rattle.dl_history.proofs.Ends.{new_open, open_after_grant, open_before}
use Rattle.dl_history.proofs.Facts.{facts, grant_facts, whole_run}
use Rattle.dl_history.proofs.Lasting.{full_stays}
use Rattle.dl_history.proofs.Members.{Has, has_all, has_filter}
use Rattle.dl_history.proofs.Table.{table_says}
use Rattle.dl_history.proofs.TableChanges.{table_source}
use Rattle.dl_history.proofs.Whole.{sole_before_verdict}
use Rattle.dl_history.specs.HistoryLaws.{IsFullIn}
use Rattle.dl_history.specs.OwnEvents.{Checks, Clears, Grants, Halts, Lands, Loses, Opens, OwnEvent, Saves, Settles, Sizes}
use Rattle.dl_history.specs.OwnLegal.{LegalOwn, MaySettle}
use Rattle.dl_history.specs.PayloadParts.{is_mixed, is_opened, is_run_on, is_settled_in, is_sole_in}
use Rattle.dl_history.specs.StandingClaims.{granted_claims, is_open_since, is_standing, standing_claims}
use Rattle.work_bounds.proofs.Marks.{lands_at, not_on, settled_away}
use Rattle.work_bounds.proofs.Ordered.{Ordered, earlier, lander, new_or_old, none_halted, only_one, stood_lands, stood_loses, stood_sizes}
use Rattle.work_bounds.proofs.Sources.{brings_blocks, clear_here, found_source, goes_or_stays, of_piece, unlanded_absent}

-- all blocks of the piece that are there are from one mirror
abbrev pub OneGave : (total len : ℕ) → List OwnEvent → (m p : ℕ) → Type 0
OneGave total len own m p =
    (b : ℕ) → b < blocks_of total len → piece_of len b ≡ p → MayBeFrom m (table_source len own b)

-- so it is of a sole piece, until it is full and was settled
abbrev pub IsGivenOnce : (total len : ℕ) → List OwnEvent → ℕ → Type 0
IsGivenOnce total len own p =
    ((m : ℕ) × OneGave total len own m p) ⊎ ((is_settled_in len own p ≡ true) × IsFullIn total len own p)

pub record SolesFit (total len : ℕ) (own : List OwnEvent) : Type 0 where
  -- what is there of a sole piece with a claim that stands, its mirror gave
  pub claims : (g : Claim) (b : ℕ) → Has (standing_claims own) g → is_open_since own g b ≡ true
      → is_sole_in own (piece_of len b) ≡ true → OneGave total len own g.mirror (piece_of len b)
  pub pieces : (p : ℕ) → is_sole_in own p ≡ true → IsGivenOnce total len own p

may_stay : (m : ℕ) (x y : Source) → (y ≡ Absent) ⊎ (y ≡ x) → MayBeFrom m x → MayBeFrom m y
may_stay m x y (inl gone) may = inl gone
may_stay m x y (inr same) (inl gone) = inl (same ∙ gone)
may_stay m x y (inr same) (inr from) = inr (same ∙ from)

-- blocks go, or stay
gave_still : (total len : ℕ) (own : List OwnEvent) (e : OwnEvent) (m p : ℕ) → brings_blocks e ≡ false
    → OneGave total len own m p → OneGave total len (e ∷ own) m p
gave_still total len own e m p quiet gave b below here =
    may_stay m (table_source len own b) (table_source len (e ∷ own) b) (goes_or_stays len own e b quiet)
    (gave b below here)

once_still : (total len : ℕ) (own : List OwnEvent) (e : OwnEvent) (p : ℕ) → LegalOwn total len (e ∷ own)
    → brings_blocks e ≡ false → is_settled_in len (e ∷ own) p ≡ is_settled_in len own p → e ≢ Clears p
    → IsGivenOnce total len own p → IsGivenOnce total len (e ∷ own) p
once_still total len own e p legal quiet same kept (inl one) =
    inl (one.0, gave_still total len own e one.0 p quiet one.1)
once_still total len own e p legal quiet same kept (inr full) =
    inr (same ∙ full.0, full_stays total len own e p legal kept full.1)

-- ---- a grant

granted_claims_fit : (total len mirrors tries : ℕ) (own : List OwnEvent) (cl : Claim)
    → Ordered total len mirrors tries (Grants cl ∷ own) → SolesFit total len own
    → (g : Claim) (b : ℕ) → Has (standing_claims (Grants cl ∷ own)) g → is_open_since (Grants cl ∷ own) g b ≡ true
    → is_sole_in own (piece_of len b) ≡ true → OneGave total len own g.mirror (piece_of len b)
granted_claims_fit total len mirrors tries own cl o fit g b has opened sole b' below same =
    let may = grant_facts total len own cl o.legal.1 in
    ⊎_elim
    (λ (new : cl ≡ g).
    let inside = new_open own cl b (subst (λ (x : Claim). is_open_since (Grants cl ∷ own) x b ≡ true) (sym new) opened)
    in
    inl (unlanded_absent total len own b' o.legal.0 below
    (may.unlanded b' (whole_run total len own cl b b' may inside sole below same))))
    (λ (old : Has (standing_claims own) g).
    let there = has_filter (is_standing own) (granted_claims own) g old in
    let less : g.id < cl.id = has_all (λ (x : Claim). x.id < cl.id) (granted_claims own) g may.fresh there.0 in
    fit.claims g b old (sym (open_after_grant own cl g b (λ e. absurd (omega (arith, e)))) ∙ opened) sole b' below same)
    (new_or_old total len own cl o.legal g has)

-- ---- a landing

lands_may : (t : Bool) (x : Source) (m : ℕ) → MayBeFrom m x → MayBeFrom m (cond t (given x m) x)
lands_may false x m may = may
lands_may true x m (inl gone) = inr (ap (λ (s : Source). given s m) gone)
lands_may true x m (inr from) = inr (ap (λ (s : Source). given s m) from)

away_may : (t : Bool) (x : Source) (m n : ℕ) → t ≡ false → MayBeFrom n x → MayBeFrom n (cond t (given x m) x)
away_may true x m n away may = absurd cc
away_may false x m n away may = may

landed_claims_fit : (total len mirrors tries : ℕ) (own : List OwnEvent) (c m : ℕ) (run : Run)
    → Ordered total len mirrors tries (Lands c m run ∷ own) → SolesFit total len own
    → (g : Claim) (b : ℕ) → Has (standing_claims (Lands c m run ∷ own)) g
    → is_open_since (Lands c m run ∷ own) g b ≡ true
    → is_sole_in own (piece_of len b) ≡ true
    → OneGave total len (Lands c m run ∷ own) g.mirror (piece_of len b)
landed_claims_fit total len mirrors tries own c m run o fit g b has opened sole b' below same =
    let may = o.legal.1 in
    let stood = stood_lands own c m run g has in
    let who : may.claim ≡ g = only_one own may.claim g o.one.0 (lander own c m run may) stood in
    let mirror : m ≡ g.mirror = sym may.mirror_is ∙ ap (λ (x : Claim). x.mirror) who in
    subst (λ (n : ℕ). MayBeFrom g.mirror (cond (is_in b' run) (given (table_source len own b') n)
    (table_source len own b')))
    (sym mirror)
    (lands_may (is_in b' run) (table_source len own b') g.mirror
    (fit.claims g b stood (open_before own c m run g b opened) sole b' below same))

landed_once : (total len mirrors tries : ℕ) (own : List OwnEvent) (c m : ℕ) (run : Run)
    → Ordered total len mirrors tries (Lands c m run ∷ own) → SolesFit total len own
    → (p : ℕ) → is_sole_in own p ≡ true → (t : Bool) → is_run_on len run p ≡ t
    → IsGivenOnce total len (Lands c m run ∷ own) p
landed_once total len mirrors tries own c m run o fit p sole true on =
    let may = o.legal.1 in
    let at = lands_at total len own c m run p o.legal.0 may on in
    let gave = fit.claims may.claim at.block (lander own c m run may) at.opened
    (subst (λ (q : ℕ). is_sole_in own q ≡ true) (sym at.here) sole) in
    inl (
      m,
      λ b below here.
          lands_may (is_in b run) (table_source len own b) m
          (subst (λ (n : ℕ). MayBeFrom n (table_source len own b)) may.mirror_is (gave b below (here ∙ sym at.here))),
    )
landed_once total len mirrors tries own c m run o fit p sole false away =
    ⊎_elim
    (λ (one : (n : ℕ) × OneGave total len own n p).
    inl (
      one.0,
      λ b below here. away_may (is_in b run) (table_source len own b) m one.0
          (not_on len run p b away here) (one.1 b below here),
    ))
    (λ (full : (is_settled_in len own p ≡ true) × IsFullIn total len own p).
    inr (
      settled_away len own c m run p away ∙ full.0,
      full_stays total len own (Lands c m run) p o.legal (λ is. absurd cc) full.1,
    ))
    (fit.pieces p sole)

-- ---- a finding

found_gave : (total len : ℕ) (own : List OwnEvent) (q : ℕ) (right : Bool) (giver : Giver) (m p : ℕ)
    → OneGave total len own m p → OneGave total len (Settles q right giver ∷ own) m p
found_gave total len own q right giver m p gave b below here =
    may_stay m (table_source len own b) (table_source len (Settles q right giver ∷ own) b)
    (inr (found_source len own q right giver b)) (gave b below here)

found_once : (total len : ℕ) (own : List OwnEvent) (q : ℕ) (right : Bool) (giver : Giver)
    → MaySettle total len own q giver → SolesFit total len own → (p : ℕ)
    → is_sole_in (Settles q right giver ∷ own) p ≡ true → IsGivenOnce total len (Settles q right giver ∷ own) p
found_once total len own q right giver may fit p sole =
    or_cases (eqb q p && not right && is_mixed giver) (is_sole_in own p) sole
    (λ new.
    let at = and_left (eqb q p) (not right) (and_left (eqb q p && not right) (is_mixed giver) new) in
    inr (
      or_left (eqb q p) (is_settled_in len own p) at,
      λ b below here. may.full b below (here ∙ sym (eqb-true q p at)),
    ))
    (λ old.
    ⊎_elim
    (λ (one : (m : ℕ) × OneGave total len own m p). inl (one.0, found_gave total len own q right giver one.0 p one.1))
    (λ (full : (is_settled_in len own p ≡ true) × IsFullIn total len own p).
    inr (or_right (eqb q p) (is_settled_in len own p) full.0, full.1))
    (fit.pieces p old))

-- ---- a clearing

cleared_once : (total len : ℕ) (own : List OwnEvent) (q p : ℕ) → LegalOwn total len (Clears q ∷ own)
    → SolesFit total len own → is_sole_in own p ≡ true → IsGivenOnce total len (Clears q ∷ own) p
cleared_once total len own q p legal fit sole =
    ⊎_elim
    (λ (is : q ≡ p). inl (0, λ b below here. inl (clear_here len own q b (here ∙ sym is))))
    (λ (apart : q ≢ p). once_still total len own (Clears q) p legal refl refl
    (λ e. apart (let same : q ≡ p = cc in same)) (fit.pieces p sole))
    (cases_eq q p)

-- ---- every event

-- an event that neither brings blocks nor grants, settles or clears
still : (total len : ℕ) (own : List OwnEvent) (e : OwnEvent) → LegalOwn total len (e ∷ own) → SolesFit total len own
    → brings_blocks e ≡ false
    → ((g : Claim) → Has (standing_claims (e ∷ own)) g → Has (standing_claims own) g)
    → ((g : Claim) (b : ℕ) → is_open_since (e ∷ own) g b ≡ true → is_open_since own g b ≡ true)
    → ((p : ℕ) → is_sole_in (e ∷ own) p ≡ is_sole_in own p)
    → ((p : ℕ) → is_settled_in len (e ∷ own) p ≡ is_settled_in len own p) → ((p : ℕ) → e ≢ Clears p)
    → SolesFit total len (e ∷ own)
still total len own e legal fit quiet stood was_open sole settled kept =
    record {
      claims = λ g b has opened is.
          gave_still total len own e g.mirror (piece_of len b) quiet
          (fit.claims g b (stood g has) (was_open g b opened) (sym (sole (piece_of len b)) ∙ is));
      pieces = λ p is. once_still total len own e p legal quiet (settled p) (kept p) (fit.pieces p (sym (sole p) ∙ is));
    }

pub soles_fit : (total len mirrors tries : ℕ) (own : List OwnEvent) → Ordered total len mirrors tries own
    → SolesFit total len own
soles_fit total len mirrors tries [] o =
    record { claims = λ g b has opened sole. absurd has; pieces = λ p sole. absurd (let e = sole in cc) }
soles_fit total len mirrors tries (Opens verified blocks now ∷ own) o =
    record {
      claims = λ g b has opened sole. true_not_false (is_opened own)
          (opened_by_sole total len own (piece_of len b) o.legal.0 sole) o.legal.1.first;
      pieces = λ p sole. true_not_false (is_opened own) (opened_by_sole total len own p o.legal.0 sole)
          o.legal.1.first;
    }
soles_fit total len mirrors tries (Grants cl ∷ own) o =
    let fit = soles_fit total len mirrors tries own (earlier total len mirrors tries (Grants cl) own o) in
    record {
      claims = granted_claims_fit total len mirrors tries own cl o fit;
      pieces = λ p sole. once_still total len own (Grants cl) p o.legal refl refl (λ is. absurd cc) (fit.pieces p sole);
    }
soles_fit total len mirrors tries (Lands c m run ∷ own) o =
    let fit = soles_fit total len mirrors tries own (earlier total len mirrors tries (Lands c m run) own o) in
    record {
      claims = landed_claims_fit total len mirrors tries own c m run o fit;
      pieces = λ p sole. landed_once total len mirrors tries own c m run o fit p sole (is_run_on len run p) refl;
    }
soles_fit total len mirrors tries (Settles q right giver ∷ own) o =
    let fit = soles_fit total len mirrors tries own (earlier total len mirrors tries (Settles q right giver) own o) in
    record {
      claims = λ g b has opened sole.
          let there = has_filter (is_standing own) (granted_claims own) g has in
          found_gave total len own q right giver g.mirror (piece_of len b)
          (fit.claims g b has opened
          (sole_before_verdict total len own q right giver (facts total len own o.legal.0) o.legal.1 g b there.0 there.1
          opened sole));
      pieces = found_once total len own q right giver o.legal.1 fit;
    }
soles_fit total len mirrors tries (Clears q ∷ own) o =
    let fit = soles_fit total len mirrors tries own (earlier total len mirrors tries (Clears q) own o) in
    record {
      claims = λ g b has opened sole. gave_still total len own (Clears q) g.mirror (piece_of len b) refl
          (fit.claims g b has opened sole);
      pieces = λ p sole. cleared_once total len own q p o.legal fit sole;
    }
soles_fit total len mirrors tries (Loses c m q mark ∷ own) o =
    still total len own (Loses c m q mark) o.legal
    (soles_fit total len mirrors tries own (earlier total len mirrors tries (Loses c m q mark) own o)) refl
    (stood_loses own c m q mark) (λ g b h. h) (λ p. refl) (λ p. refl) (λ p is. absurd cc)
soles_fit total len mirrors tries (Sizes c told ∷ own) o =
    still total len own (Sizes c told) o.legal
    (soles_fit total len mirrors tries own (earlier total len mirrors tries (Sizes c told) own o)) refl
    (stood_sizes own c told) (λ g b h. h) (λ p. refl) (λ p. refl) (λ p is. absurd cc)
soles_fit total len mirrors tries (Saves now ∷ own) o =
    still total len own (Saves now) o.legal
    (soles_fit total len mirrors tries own (earlier total len mirrors tries (Saves now) own o)) refl
    (λ g has. has) (λ g b h. h) (λ p. refl) (λ p. refl) (λ p is. absurd cc)
soles_fit total len mirrors tries (Checks right ∷ own) o =
    still total len own (Checks right) o.legal
    (soles_fit total len mirrors tries own (earlier total len mirrors tries (Checks right) own o)) refl
    (λ g has. has) (λ g b h. h) (λ p. refl) (λ p. refl) (λ p is. absurd cc)
soles_fit total len mirrors tries (Halts ends ∷ own) o =
    still total len own (Halts ends) o.legal
    (soles_fit total len mirrors tries own (earlier total len mirrors tries (Halts ends) own o)) refl
    (λ g has. absurd (none_halted own ends g has)) (λ g b h. h) (λ p. refl) (λ p. refl) (λ p is. absurd cc)

-- a piece that is found of several mirrors isn't sole
pub mixed_once : (total len mirrors tries : ℕ) (own : List OwnEvent) (q : ℕ) → Ordered total len mirrors tries own
    → IsPlan total len → MaySettle total len own q Mixed → is_sole_in own q ≡ false
mixed_once total len mirrors tries own q o plan may =
    not_true (is_sole_in own q)
    (λ sole.
    ⊎_elim
    (λ (one : (m : ℕ) × OneGave total len own m q).
    may.givers one.0 (of_piece total len own (MayBeFrom one.0) q plan.some may.within
    (λ b below here. subst (MayBeFrom one.0) (table_says total len own o.legal b below) (one.1 b below here))))
    (λ (full : (is_settled_in len own q ≡ true) × IsFullIn total len own q).
    true_not_false (is_settled_in len own q) full.0 may.anew)
    ((soles_fit total len mirrors tries own o).pieces q sole))
