-- What holds of the claims of a legal history: an open block isn't landed, and a sole piece has one claim.
use Rattle.std.proofs.Common.{◌≡◌, ◌≢◌, ℕ, ◌+◌, ◌<◌, ◌≤◌, Bool, true, false, cond, eqb, List, [], ◌∷◌, refl, sym, ap, ◌∙◌, subst, ⊎_elim, ◌⊎◌, inl, inr, arith}
use Rattle.std.specs.Prelude.{◌&&◌, ◌||◌, ◌==◌, not}
use Rattle.std.specs.List.{list_any, list_all}
use Rattle.std.proofs.lemmas.Bool.{eq-eqb, eqb-true}
use Rattle.dl_kinds.specs.Plan.{piece_of, blocks_of}
use Rattle.dl_kinds.specs.declared.runs.Run.{Run}
use Rattle.dl_kinds.specs.declared.runs.Moment.{Moment}
use Rattle.dl_kinds.specs.declared.marks.Mark.{Mark}
use Rattle.piece_table.specs.Changes.{is_in, is_present, Source, Absent}
use Rattle.piece_table.specs.declared.giver.Giver.{Giver}
use Rattle.dl_kinds.specs.declared.claims.Claim.{Claim}
use Rattle.dl_history.proofs.Alive.{alive_before_landing, alive_before_sizing, fewer, stands_as, stands_by}
use Rattle.dl_history.proofs.Bools.{and_left, and_right, not_true, or_cases, or_left, or_right, true_not_false}
use Rattle.dl_history.proofs.Early.{below_end, early, probe_shut}
use Rattle.dl_history.proofs.Ends.{has_come, new_open, open_after_grant, open_before, standing_after_grant, stood_before_landing, stood_before_loss, stood_before_sizing}
use Rattle.dl_history.proofs.Members.{Has, any_has, has_all, has_any, has_filter, has_from, in_filter}
use Rattle.dl_history.specs.OwnEvents.{Checks, Clears, Grants, Halts, Lands, Loses, Opens, OwnEvent, Saves, Settles, Sizes}
use Rattle.dl_history.specs.OwnLegal.{IsNewClaim, IsSoleRun, LegalOwn, MayClaim, MayLand, MayProbe, MaySettle}
use Rattle.dl_history.specs.PayloadParts.{is_alive, is_landed_in, is_mixed, is_opened, is_sole_in, source_by}
use Rattle.dl_history.specs.StandingClaims.{blocks_in, granted_claims, grants_claim, has_given_all, is_open_since, is_standing, lands_block, lands_block_by, since, standing_claims, stands_in}

pub record Facts (total len : ℕ) (own : List OwnEvent) : Type 0 where
  -- only what was granted lands_block
  pub granted : (c b : ℕ) → list_any (lands_block_by c b) own ≡ true
      → list_any (λ (g : Claim). g.id == c) (granted_claims own) ≡ true
  pub within : (g : Claim) → Has (granted_claims own) g → g.run.first + g.run.count ≤ blocks_of total len
  -- an open block of a claim that stands isn't landed
  pub unlanded : (g : Claim) (b : ℕ) → Has (granted_claims own) g → is_standing own g ≡ true
      → is_open_since own g b ≡ true → is_landed_in len own b ≡ false
  -- one claim at most has open blocks in a sole piece
  pub unique : (g h : Claim) (b b' : ℕ) → Has (granted_claims own) g → Has (granted_claims own) h
      → is_standing own g ≡ true → is_standing own h ≡ true
      → is_open_since own g b ≡ true → is_open_since own h b' ≡ true → is_sole_in own (piece_of len b) ≡ true
      → piece_of len b ≡ piece_of len b' → g.id ≡ h.id
  -- and it is of the whole piece ..
  pub covers : (g : Claim) (b b' : ℕ) → Has (granted_claims own) g → is_standing own g ≡ true
      → is_open_since own g b ≡ true → is_sole_in own (piece_of len b) ≡ true
      → b' < blocks_of total len → piece_of len b' ≡ piece_of len b → is_in b' g.run ≡ true
  -- .. and of it alone
  pub only : (g : Claim) (b b' : ℕ) → Has (granted_claims own) g → is_standing own g ≡ true
      → is_open_since own g b ≡ true → is_sole_in own (piece_of len b) ≡ true
      → is_in b' g.run ≡ true → piece_of len b' ≡ piece_of len b

-- after the event fewer claims stand, with fewer open blocks
pub record Shrinks (own own' : List OwnEvent) : Type 0 where
  pub had : (g : Claim) → Has (granted_claims own') g → Has (granted_claims own) g
  pub stood : (g : Claim) → is_standing own' g ≡ true → is_standing own g ≡ true
  pub was_open : (g : Claim) (b : ℕ) → is_open_since own' g b ≡ true → is_open_since own g b ≡ true

-- a piece that is sole now was so before, or has no open block
abbrev pub WasSole : ℕ → List OwnEvent → List OwnEvent → Type 0
WasSole len own own' = (g : Claim) (b : ℕ) → Has (granted_claims own) g → is_standing own g ≡ true
    → is_open_since own g b ≡ true → is_sole_in own' (piece_of len b) ≡ true → is_sole_in own (piece_of len b) ≡ true

shrunk : (total len : ℕ) (own own' : List OwnEvent) → Facts total len own → Shrinks own own' → WasSole len own own'
    → ((c b : ℕ) → list_any (lands_block_by c b) own' ≡ true
    → list_any (λ (g : Claim). g.id == c) (granted_claims own') ≡ true)
    → ((g : Claim) (b : ℕ) → is_open_since own' g b ≡ true → is_landed_in len own' b ≡ true
    → is_landed_in len own b ≡ true)
    → Facts total len own'
shrunk total len own own' f s sole granted landed =
    record {
      granted = granted;
      within = λ g has. f.within g (s.had g has);
      unlanded = λ g b has standing opened.
          not_true (is_landed_in len own' b)
          (λ is. true_not_false (is_landed_in len own b) (landed g b opened is)
          (f.unlanded g b (s.had g has) (s.stood g standing) (s.was_open g b opened)));
      unique = λ g h b b' hg hh sg sh og oh is same.
          f.unique g h b b' (s.had g hg) (s.had h hh) (s.stood g sg) (s.stood h sh) (s.was_open g b og)
          (s.was_open h b' oh)
          (sole g b (s.had g hg) (s.stood g sg) (s.was_open g b og) is) same;
      covers = λ g b b' hg sg og is below same.
          f.covers g b b' (s.had g hg) (s.stood g sg) (s.was_open g b og)
          (sole g b (s.had g hg) (s.stood g sg) (s.was_open g b og) is) below same;
      only = λ g b b' hg sg og is inside.
          f.only g b b' (s.had g hg) (s.stood g sg) (s.was_open g b og)
          (sole g b (s.had g hg) (s.stood g sg) (s.was_open g b og) is) inside;
    }

-- ---- landings

landed_elsewhere : (len : ℕ) (own : List OwnEvent) (c m : ℕ) (run : Run) → stands_in own c ≡ true
    → (g : Claim) (b : ℕ) → is_open_since (Lands c m run ∷ own) g b ≡ true
    → (t : Bool) → is_in b run ≡ t → is_landed_in len (Lands c m run ∷ own) b ≡ true → is_landed_in len own b ≡ true
landed_elsewhere len own c m run stood g b opened true is h =
    true_not_false (is_in b run || list_any (lands_block b) (since (grants_claim g.id) own))
    (or_left (is_in b run) (list_any (lands_block b) (since (grants_claim g.id) own)) is)
    (let o = and_right (is_in b g.run) (not (is_in b run || list_any (lands_block b) (since (grants_claim g.id) own)))
    opened in cc)
landed_elsewhere len own c m run stood g b opened false is h =
    let kept : is_present (source_by (is_alive (Lands c m run ∷ own)) (piece_of len b) b own) ≡ true = rw is at h in
    fewer own (is_alive (Lands c m run ∷ own)) (is_alive own) (piece_of len b) b
    (λ c' by. alive_before_landing own c m run stood c') kept

lands_facts : (total len : ℕ) (own : List OwnEvent) (c m : ℕ) (run : Run) → Facts total len own → MayLand own c m run
    → Facts total len (Lands c m run ∷ own)
lands_facts total len own c m run f may =
    let there = has_filter (is_standing own) (granted_claims own) may.claim
    (has_from (standing_claims own) may.claim may.stands.0 may.stands.1 may.stands.2) in
    let stood : stands_in own c ≡ true = stands_by own c may.claim there.0 there.1 (eq-eqb may.claim.id c may.id_is)
    in
    shrunk total len own (Lands c m run ∷ own) f
    (record { had = λ g h. h; stood = stood_before_landing own c m run; was_open = open_before own c m run })
    (λ g b hg sg og is. is)
    (λ c' b by. or_cases (eqb c c' && is_in b run) (list_any (lands_block_by c' b) own) by
    (λ here. has_any (λ (g : Claim). g.id == c') (granted_claims own) may.claim there.0
    (eq-eqb may.claim.id c' (may.id_is ∙ eqb-true c c' (and_left (eqb c c') (is_in b run) here))))
    (f.granted c' b))
    (λ g b opened. landed_elsewhere len own c m run stood g b opened (is_in b run) refl)

-- ---- losses, halts, clearings, verdicts, the opening

loses_facts : (total len : ℕ) (own : List OwnEvent) (c m p : ℕ) (mark : Mark) → Facts total len own
    → Facts total len (Loses c m p mark ∷ own)
loses_facts total len own c m p mark f =
    shrunk total len own (Loses c m p mark ∷ own) f
    (record { had = λ g h. h; stood = stood_before_loss own c m p mark; was_open = λ g b h. h })
    (λ g b hg sg og is. is) f.granted
    (λ g b opened h.
    fewer own (is_alive (Loses c m p mark ∷ own)) (is_alive own) (piece_of len b) b
    (λ c' by alive.
    or_cases (stands_in (Loses c m p mark ∷ own) c') (has_given_all own c') alive
    (λ s. let r = stands_as (Loses c m p mark ∷ own) c' s in
    or_left (stands_in own c') (has_given_all own c')
    (stands_by own c' r.0 r.1 (stood_before_loss own c m p mark r.0 r.2) r.3))
    (or_right (stands_in own c') (has_given_all own c'))) h)

halts_facts : (total len : ℕ) (own : List OwnEvent) (ends : Bool) → Facts total len own
    → Facts total len (Halts ends ∷ own)
halts_facts total len own ends f =
    shrunk total len own (Halts ends ∷ own) f
    (record { had = λ g h. h; stood = λ g h. absurd cc; was_open = λ g b h. h })
    (λ g b hg sg og is. is) f.granted
    (λ g b opened h.
    fewer own (is_alive (Halts ends ∷ own)) (is_alive own) (piece_of len b) b
    (λ c' by alive.
    or_cases (stands_in (Halts ends ∷ own) c') (has_given_all own c') alive
    (λ s. let r = stands_as (Halts ends ∷ own) c' s in absurd (let bad = r.2 in cc))
    (or_right (stands_in own c') (has_given_all own c'))) h)

cleared_less : (e : Bool) (x : Source) → is_present (cond e Absent x) ≡ true → is_present x ≡ true
cleared_less true x h = absurd cc
cleared_less false x h = h

clears_facts : (total len : ℕ) (own : List OwnEvent) (p : ℕ) → Facts total len own → Facts total len (Clears p ∷ own)
clears_facts total len own p f =
    shrunk total len own (Clears p ∷ own) f
    (record { had = λ g h. h; stood = λ g h. h; was_open = λ g b h. h })
    (λ g b hg sg og is. is) f.granted
    (λ g b opened h. cleared_less (eqb p (piece_of len b)) (source_by (is_alive own) (piece_of len b) b own) h)

settles_facts : (total len : ℕ) (own : List OwnEvent) (p : ℕ) (right : Bool) (giver : Giver) → Facts total len own
    → MaySettle total len own p giver → Facts total len (Settles p right giver ∷ own)
settles_facts total len own p right giver f may =
    shrunk total len own (Settles p right giver ∷ own) f
    (record { had = λ g h. h; stood = λ g h. h; was_open = λ g b h. h })
    (λ g b hg sg og is.
    or_cases (eqb p (piece_of len b) && not right && is_mixed giver) (is_sole_in own (piece_of len b)) is
    (λ new.
    let here : p ≡ piece_of len b =
    eqb-true p (piece_of len b)
    (and_left (eqb p (piece_of len b)) (not right)
    (and_left (eqb p (piece_of len b) && not right) (is_mixed giver) new)) in
    let inside : b < blocks_of total len = let w = f.within g hg in let e =
    below_end b g.run (and_left (is_in b g.run) _ og) in omega arith in
    true_not_false (is_landed_in len own b) (may.full b inside (sym here)) (f.unlanded g b hg sg og))
    (λ old. old))
    f.granted
    (λ g b opened h. h)

opens_facts : (total len : ℕ) (own : List OwnEvent) (verified blocks : List Bool) (now : Moment)
    → LegalOwn total len own
    → is_opened own ≡ false → Facts total len own → Facts total len (Opens verified blocks now ∷ own)
opens_facts total len own verified blocks now legal un f =
    let no : (g : Claim) (b : ℕ) → Has (granted_claims own) g → is_open_since own g b ≡ true → ⊥ =
    λ g b h o. probe_shut g b ((early total len own legal un).probes g h)
    (and_left (is_in b g.run) (not (has_come own g b)) o) in
    record {
      granted = f.granted;
      within = f.within;
      unlanded = λ g b h s o. absurd (no g b h o);
      unique = λ g h b b' hg hh sg sh og oh is same. absurd (no g b hg og);
      covers = λ g b b' hg sg og is below same. absurd (no g b hg og);
      only = λ g b b' hg sg og is inside. absurd (no g b hg og);
    }

saves_facts : (total len : ℕ) (own : List OwnEvent) (now : Moment) → Facts total len own
    → Facts total len (Saves now ∷ own)
saves_facts total len own now f =
    shrunk total len own (Saves now ∷ own) f
    (record { had = λ g h. h; stood = λ g h. h; was_open = λ g b h. h })
    (λ g b hg sg og is. is) f.granted (λ g b opened h. h)

checks_facts : (total len : ℕ) (own : List OwnEvent) (right : Bool) → Facts total len own
    → Facts total len (Checks right ∷ own)
checks_facts total len own right f =
    shrunk total len own (Checks right ∷ own) f
    (record { had = λ g h. h; stood = λ g h. h; was_open = λ g b h. h })
    (λ g b hg sg og is. is) f.granted (λ g b opened h. h)

sizes_facts : (total len : ℕ) (own : List OwnEvent) (c told : ℕ) → Facts total len own
    → Facts total len (Sizes c told ∷ own)
sizes_facts total len own c told f =
    shrunk total len own (Sizes c told ∷ own) f
    (record { had = λ g h. h; stood = stood_before_sizing own c told; was_open = λ g b h. h })
    (λ g b hg sg og is. is) f.granted
    (λ g b opened h. fewer own (is_alive (Sizes c told ∷ own)) (is_alive own) (piece_of len b) b
    (λ c' by. alive_before_sizing own c told c') h)

-- ---- a grant

-- what holds of a claim as it is granted, a probe among them
pub record GrantFacts (total len : ℕ) (own : List OwnEvent) (cl : Claim) : Type 0 where
  pub fresh : IsNewClaim own cl
  pub within : cl.run.first + cl.run.count ≤ blocks_of total len
  pub unlanded : (b : ℕ) → is_in b cl.run ≡ true → is_landed_in len own b ≡ false
  pub pieces : ((b : ℕ) → is_in b cl.run ≡ true → is_sole_in own (piece_of len b) ≡ false)
      ⊎ IsSoleRun total len own cl.run

no_block : (cl : Claim) (b : ℕ) → cl.run.count ≡ 0 → is_in b cl.run ≡ true → ⊥
no_block cl b none inside = probe_shut cl b (eq-eqb cl.run.count 0 none) inside

pub grant_facts : (total len : ℕ) (own : List OwnEvent) (cl : Claim) → MayProbe own cl ⊎ MayClaim total len own cl
    → GrantFacts total len own cl
grant_facts total len own cl (inl may) =
    record {
      fresh = may.fresh;
      within = let p = may.first in let q = may.count in omega arith;
      unlanded = λ b inside. absurd (no_block cl b may.count inside);
      pieces = inl (λ b inside. absurd (no_block cl b may.count inside));
    }
grant_facts total len own cl (inr may) =
    record { fresh = may.fresh; within = may.within; unlanded = may.unlanded; pieces = may.pieces }

pub no_landing_yet : (total len : ℕ) (own : List OwnEvent) (cl : Claim) (c' b : ℕ) → Facts total len own
    → GrantFacts total len own cl → list_any (lands_block_by c' b) own ≡ true → c' < cl.id
no_landing_yet total len own cl c' b f may by =
    let r = any_has (λ (g : Claim). g.id == c') (granted_claims own) (f.granted c' b by) in
    let old : r.0.id < cl.id = has_all (λ (g : Claim). g.id < cl.id) (granted_claims own) r.0 may.fresh r.1 in
    let same : r.0.id ≡ c' = eqb-true r.0.id c' r.2 in
    omega arith

pub alive_before_grant : (total len : ℕ) (own : List OwnEvent) (cl : Claim) (c' : ℕ) → GrantFacts total len own cl
    → c' < cl.id
    → is_alive (Grants cl ∷ own) c' ≡ true → is_alive own c' ≡ true
alive_before_grant total len own cl c' may less alive =
    let apart : cl.id ≢ c' = λ is. absurd (omega (arith, is)) in
    or_cases (stands_in (Grants cl ∷ own) c') (has_given_all (Grants cl ∷ own) c') alive
    (λ s.
    let r = stands_as (Grants cl ∷ own) c' s in
    let is : r.0.id ≡ c' = eqb-true r.0.id c' r.3 in
    ⊎_elim
    (λ (new : cl ≡ r.0). absurd (apart (ap (λ (g : Claim). g.id) new ∙ is)))
    (λ (old : Has (granted_claims own) r.0).
    or_left (stands_in own c') (has_given_all own c')
    (stands_by own c' r.0 old (sym (standing_after_grant own cl r.0 (λ e. apart (e ∙ is))) ∙ r.2) r.3))
    r.1)
    (λ w.
    or_right (stands_in own c') (has_given_all own c')
    (or_cases (eqb cl.id c' && list_all (λ b. list_any (lands_block_by c' b) own) (blocks_in cl.run))
    (has_given_all own c') w
    (λ here. absurd (apart (eqb-true cl.id c' (and_left (eqb cl.id c') _ here))))
    (λ old. old)))

pub landed_before_grant : (total len : ℕ) (own : List OwnEvent) (cl : Claim) (b : ℕ) → Facts total len own
    → GrantFacts total len own cl
    → is_landed_in len (Grants cl ∷ own) b ≡ true → is_landed_in len own b ≡ true
landed_before_grant total len own cl b f may h =
    fewer own (is_alive (Grants cl ∷ own)) (is_alive own) (piece_of len b) b
    (λ c' by. alive_before_grant total len own cl c' may (no_landing_yet total len own cl c' b f may by)) h

-- of two claims the new one has no block open of the other's sole piece
pub new_and_old : (total len : ℕ) (own : List OwnEvent) (cl : Claim) (h : Claim) (b b' : ℕ)
    → GrantFacts total len own cl → Facts total len own
    → Has (granted_claims own) h → is_standing own h ≡ true → is_in b cl.run ≡ true → is_open_since own h b' ≡ true
    → is_sole_in own (piece_of len b) ≡ true → piece_of len b ≡ piece_of len b' → ⊥
new_and_old total len own cl h b b' may f hh sh inside oh is same =
    ⊎_elim
    (λ (none : (x : ℕ) → is_in x cl.run ≡ true → is_sole_in own (piece_of len x) ≡ false). true_not_false
    (is_sole_in own (piece_of len b)) is (none b inside))
    (λ (one : IsSoleRun total len own cl.run).
    let below : b < blocks_of total len = let w = may.within in let e = below_end b cl.run inside in omega arith in
    let below' : b' < blocks_of total len = let w = f.within h hh in let e =
    below_end b' h.run (and_left (is_in b' h.run) _ oh) in omega arith in
    let at : piece_of len b ≡ one.piece = (one.exact b below).0 inside in
    let inside' : is_in b' cl.run ≡ true = (one.exact b' below').1 (sym same ∙ at) in
    true_not_false (is_open_since own h b') oh
    (has_all (λ (g : Claim). is_open_since own g b' ≡ false) (standing_claims own) h (one.free b' inside')
    (in_filter (is_standing own) (granted_claims own) h hh sh)))
    may.pieces

pub whole_run : (total len : ℕ) (own : List OwnEvent) (cl : Claim) (b b' : ℕ) → GrantFacts total len own cl
    → is_in b cl.run ≡ true → is_sole_in own (piece_of len b) ≡ true
    → b' < blocks_of total len → piece_of len b' ≡ piece_of len b → is_in b' cl.run ≡ true
whole_run total len own cl b b' may inside is below same =
    let below_b : b < blocks_of total len = let w = may.within in let e = below_end b cl.run inside in omega arith in
    ⊎_elim
    (λ (none : (x : ℕ) → is_in x cl.run ≡ true → is_sole_in own (piece_of len x) ≡ false). true_not_false
    (is_sole_in own (piece_of len b)) is (none b inside))
    (λ (one : IsSoleRun total len own cl.run).
    (one.exact b' below).1 (same ∙ (one.exact b below_b).0 inside))
    may.pieces

pub only_run : (total len : ℕ) (own : List OwnEvent) (cl : Claim) (b b' : ℕ) → GrantFacts total len own cl
    → is_in b cl.run ≡ true → is_sole_in own (piece_of len b) ≡ true
    → is_in b' cl.run ≡ true → piece_of len b' ≡ piece_of len b
only_run total len own cl b b' may inside is inside' =
    let below_b : b < blocks_of total len = let w = may.within in let e = below_end b cl.run inside in omega arith in
    let below' : b' < blocks_of total len = let w = may.within in let e = below_end b' cl.run inside' in
    omega arith in
    ⊎_elim
    (λ (none : (x : ℕ) → is_in x cl.run ≡ true → is_sole_in own (piece_of len x) ≡ false). true_not_false
    (is_sole_in own (piece_of len b)) is (none b inside))
    (λ (one : IsSoleRun total len own cl.run).
    (one.exact b' below').0 inside' ∙ sym ((one.exact b below_b).0 inside))
    may.pieces

claims_facts : (total len : ℕ) (own : List OwnEvent) (cl : Claim) → Facts total len own → GrantFacts total len own cl
    → Facts total len (Grants cl ∷ own)
claims_facts total len own cl f may =
    let own' = Grants cl ∷ own in
    let older : (g : Claim) → Has (granted_claims own) g → cl.id ≢ g.id = λ g h is. let old : g.id < cl.id =
    has_all (λ (x : Claim). x.id < cl.id) (granted_claims own) g may.fresh h in absurd (omega (arith, is)) in
    let st : (g : Claim) → Has (granted_claims own) g → is_standing own' g ≡ true → is_standing own g ≡ true =
    λ g h s. sym (standing_after_grant own cl g (older g h)) ∙ s in
    let op : (g : Claim) (b : ℕ) → Has (granted_claims own) g → is_open_since own' g b ≡ true
    → is_open_since own g b ≡ true = λ g b h o. sym (open_after_grant own cl g b (older g h)) ∙ o in
    let new : (g : Claim) (b : ℕ) → cl ≡ g → is_open_since own' g b ≡ true → is_in b cl.run ≡ true =
    λ g b is o. new_open own cl b (subst (λ (x : Claim). is_open_since own' x b ≡ true) (sym is) o) in
    record {
      granted = λ c' b by. or_right (eqb cl.id c') (list_any (λ (g : Claim). g.id == c') (granted_claims own))
          (f.granted c' b by);
      within = λ g has. ⊎_elim
          (λ (is : cl ≡ g). subst (λ (x : Claim). x.run.first + x.run.count ≤ blocks_of total len) is may.within)
          (f.within g) has;
      unlanded = λ g b has s o.
          not_true (is_landed_in len own' b)
          (λ landed.
          let was = landed_before_grant total len own cl b f may landed in
          ⊎_elim
          (λ (is : cl ≡ g). true_not_false (is_landed_in len own b) was (may.unlanded b (new g b is o)))
          (λ (old : Has (granted_claims own) g). true_not_false (is_landed_in len own b) was
          (f.unlanded g b old (st g old s) (op g b old o)))
          has);
      unique = λ g h b b' hg hh sg sh og oh is same.
          ⊎_elim
          (λ (gn : cl ≡ g).
          ⊎_elim
          (λ (hn : cl ≡ h). sym (ap (λ (x : Claim). x.id) gn) ∙ ap (λ (x : Claim). x.id) hn)
          (λ (ho : Has (granted_claims own) h). absurd
          (new_and_old total len own cl h b b' may f ho (st h ho sh) (new g b gn og) (op h b' ho oh) is same))
          hh)
          (λ (go : Has (granted_claims own) g).
          ⊎_elim
          (λ (hn : cl ≡ h).
          absurd (new_and_old total len own cl g b' b may f go (st g go sg) (new h b' hn oh) (op g b go og)
          (subst (λ p. is_sole_in own p ≡ true) same is) (sym same)))
          (λ (ho : Has (granted_claims own) h). f.unique g h b b' go ho (st g go sg) (st h ho sh) (op g b go og)
          (op h b' ho oh) is same)
          hh)
          hg;
      covers = λ g b b' hg sg og is below same.
          ⊎_elim
          (λ (gn : cl ≡ g). subst (λ (x : Claim). is_in b' x.run ≡ true) gn
          (whole_run total len own cl b b' may (new g b gn og) is below same))
          (λ (go : Has (granted_claims own) g). f.covers g b b' go (st g go sg) (op g b go og) is below same)
          hg;
      only = λ g b b' hg sg og is inside.
          ⊎_elim
          (λ (gn : cl ≡ g). only_run total len own cl b b' may (new g b gn og) is
          (subst (λ (x : Claim). is_in b' x.run ≡ true) (sym gn) inside))
          (λ (go : Has (granted_claims own) g). f.only g b b' go (st g go sg) (op g b go og) is inside)
          hg;
    }

-- ---- every legal history

pub facts : (total len : ℕ) (own : List OwnEvent) → LegalOwn total len own → Facts total len own
facts total len [] legal =
    record {
      granted = λ c b h. absurd cc;
      within = λ g h. absurd h;
      unlanded = λ g b h s o. absurd h;
      unique = λ g h b b' hg hh sg sh og oh is same. absurd hg;
      covers = λ g b b' hg sg og is below same. absurd hg;
      only = λ g b b' hg sg og is inside. absurd hg;
    }
facts total len (Opens verified blocks now ∷ own) legal =
    opens_facts total len own verified blocks now legal.0 legal.1.first (facts total len own legal.0)
facts total len (Grants cl ∷ own) legal = claims_facts total len own cl (facts total len own legal.0)
    (grant_facts total len own cl legal.1)
facts total len (Lands c m run ∷ own) legal = lands_facts total len own c m run (facts total len own legal.0) legal.1
facts total len (Settles p right giver ∷ own) legal = settles_facts total len own p right giver
    (facts total len own legal.0) legal.1
facts total len (Clears p ∷ own) legal = clears_facts total len own p (facts total len own legal.0)
facts total len (Loses c m p mark ∷ own) legal = loses_facts total len own c m p mark (facts total len own legal.0)
facts total len (Sizes c told ∷ own) legal = sizes_facts total len own c told (facts total len own legal.0)
facts total len (Saves now ∷ own) legal = saves_facts total len own now (facts total len own legal.0)
facts total len (Checks right ∷ own) legal = checks_facts total len own right (facts total len own legal.0)
facts total len (Halts ends ∷ own) legal = halts_facts total len own ends (facts total len own legal.0)
