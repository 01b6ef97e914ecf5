-- In every legal history the table has each block from where the history says.
use Rattle.std.proofs.Common.{◌≡◌, ◌≢◌, ◌⊎◌, ℕ, ◌<◌, Bool, true, false, cond, eqb, Option, Some, None, List, [], ◌∷◌, refl, sym, ap, ◌∙◌, subst, inl, inr, ⊎_elim, arith}
use Rattle.std.specs.Prelude.{◌&&◌, ◌||◌, ◌==◌, not}
use Rattle.std.specs.Option.{is_some}
use Rattle.std.specs.List.{list_any, list_all}
use Rattle.std.proofs.lemmas.Bool.{cases_eq, ne_eqb, eq-eqb, eqb-true}
use Rattle.dl_kinds.specs.Plan.{piece_of, blocks_of}
use Rattle.dl_kinds.specs.declared.runs.Run.{Run}
use Rattle.dl_kinds.specs.declared.marks.Mark.{Mark}
use Rattle.piece_table.specs.Changes.{Change, Settle, Clear, MakeSole, is_in, is_present, Source, Absent, From, given, source_of}
use Rattle.piece_table.specs.declared.giver.Giver.{Giver}
use Rattle.dl_kinds.specs.declared.claims.Claim.{Claim}
use Rattle.dl_history.proofs.Alive.{alive_before_landing, fewer, stands_as, stands_by}
use Rattle.dl_history.proofs.Bools.{and_both, and_left, and_right, not_not, not_true, or_cases, or_left, or_right, same_tests, true_not_false}
use Rattle.dl_history.proofs.Early.{below_end, early, opened_by_sole, probe_early}
use Rattle.dl_history.proofs.Ends.{has_come, has_more, standing_after_grant}
use Rattle.dl_history.proofs.Facts.{alive_before_grant, facts, grant_facts, no_landing_yet}
use Rattle.dl_history.proofs.Members.{Has, any_has, has_any, has_filter, has_from, in_filter}
use Rattle.dl_history.proofs.Progress.{absent, absent_source, alive_before_loss, other_claim, same_source, without}
use Rattle.dl_history.proofs.Sole.{all_each, apart, each_all, first_block, found, not_whole, open_block, real_claim}
use Rattle.dl_history.proofs.TableChanges.{blocks_at_start, changes_of, gone, table_source}
use Rattle.dl_history.proofs.Whole.{alive_after_landing, granted_there, sole_by, sole_lands, sole_then, solely}
use Rattle.dl_history.specs.OwnEvents.{Checks, Clears, Grants, Halts, Lands, Loses, Opens, OwnEvent, Saves, Settles, Sizes}
use Rattle.dl_history.specs.OwnLegal.{LegalOwn, MayLand, MayBeLost, MaySize}
use Rattle.dl_history.specs.PayloadParts.{counts, is_alive, is_landed_in, is_mixed, is_opened, is_sole_in, source_by, source_in}
use Rattle.dl_history.specs.StandingClaims.{blocks_in, ends_claim, first_open_since, granted_claims, grants_claim, has_given_all, is_open_since, is_standing, lands_block, lands_block_by, piece_of_first, since, standing_claims, stands_in}

-- ---- a landing

lands_same : (t s v : Bool) (n : ℕ) (r x y : Source) → (t ≡ true → r ≡ Absent) → (t ≡ true → s ≡ true → v ≡ true)
    → (t ≡ false → r ≡ y)
    → cond t (given r n) r ≡ cond (t && (not s || v)) (From n) y
lands_same true false v n r x y gone counts rest = rw (gone refl) refl
lands_same true true v n r x y gone counts rest = rw (gone refl, counts refl refl) refl
lands_same false s v n r x y gone counts rest = rest refl

whole_more : (own : List OwnEvent) (c m : ℕ) (run : Run) (c' : ℕ) → has_given_all own c' ≡ true
    → has_given_all (Lands c m run ∷ own) c' ≡ true
whole_more own c m run c' w =
    let r = any_has
    (λ (g : Claim). g.id == c' && list_all (λ b. list_any (lands_block_by c' b) own) (blocks_in g.run))
    (granted_claims own) w in
    has_any (λ (g : Claim). g.id == c' && list_all (λ b. list_any (lands_block_by c' b) (Lands c m run ∷ own))
    (blocks_in g.run)) (granted_claims own) r.0 r.1
    (and_both (r.0.id == c')
    (list_all (λ b. list_any (lands_block_by c' b) (Lands c m run ∷ own)) (blocks_in r.0.run))
    (and_left (r.0.id == c') (list_all (λ b. list_any (lands_block_by c' b) own) (blocks_in r.0.run)) r.2)
    (each_all (λ b. list_any (lands_block_by c' b) (Lands c m run ∷ own)) (blocks_in r.0.run)
    (λ x hx. or_right (eqb c c' && is_in x run) (list_any (lands_block_by c' x) own)
    (all_each (λ b. list_any (lands_block_by c' b) own) (blocks_in r.0.run) x
    (and_right (r.0.id == c') (list_all (λ b. list_any (lands_block_by c' b) own) (blocks_in r.0.run)) r.2) hx))))

-- a claim that gave a block while its piece was sole still counts after a landing
stays : (total len : ℕ) (own : List OwnEvent) (c m : ℕ) (run : Run) → LegalOwn total len own → MayLand own c m run
    → (b c' : ℕ) → sole_lands (piece_of len b) b c' own ≡ true
    → is_alive own c' ≡ true → is_alive (Lands c m run ∷ own) c' ≡ true
stays total len own c m run legal may b c' by alive =
    or_cases (stands_in own c') (has_given_all own c') alive
    (λ s.
    let r = stands_as own c' s in
    let who : r.0.id ≡ c' = eqb-true r.0.id c' r.3 in
    let real =
    real_claim total len own r.0 legal
    (opened_by_sole total len own (piece_of len b) legal (sole_then (piece_of len b) b c' own by)) r.1 r.2 in
    let o = open_block own r.0 real r.2 in
    let same : piece_of len o.0 ≡ piece_of len b = solely total len own legal r.0 b o.0 r.1 r.2
    (subst (λ (n : ℕ). sole_lands (piece_of len b) b n own ≡ true) (sym who) by)
    (and_left (is_in o.0 r.0.run) (not (list_any (lands_block o.0) (since (grants_claim r.0.id) own))) o.1) in
    let is : is_sole_in own (piece_of len o.0) ≡ true = subst (λ (p : ℕ). is_sole_in own p ≡ true) (sym same)
    (sole_then (piece_of len b) b c' own by) in
    subst (λ (n : ℕ). is_alive (Lands c m run ∷ own) n ≡ true) who
    (alive_after_landing total len own c m run legal may r.0 o.0 r.1 r.2 o.1 is
    (is_some (first_open_since (Lands c m run ∷ own) r.0)) refl))
    (λ w. or_right (stands_in (Lands c m run ∷ own) c') (has_given_all (Lands c m run ∷ own) c')
    (whole_more own c m run c' w))

-- ---- a loss

pub standing_after_loss : (own : List OwnEvent) (c m p : ℕ) (mark : Mark) (g : Claim) → c ≢ g.id
    → is_standing (Loses c m p mark ∷ own) g ≡ is_standing own g
standing_after_loss own c m p mark g other =
    ap (λ (e : Bool). not (e || list_any (ends_claim g.id) (since (grants_claim g.id) own)) && has_more own g)
    (ne_eqb c g.id other)

pub lost_not_standing : (own : List OwnEvent) (c m p : ℕ) (mark : Mark) (g : Claim) → c ≡ g.id
    → is_standing (Loses c m p mark ∷ own) g ≡ true → ⊥
lost_not_standing own c m p mark g is s =
    let e : eqb c g.id ≡ true = eq-eqb c g.id is in
    let n = and_left (not (eqb c g.id || list_any (ends_claim g.id) (since (grants_claim g.id) own)))
    (has_more own g) s in
    true_not_false (eqb c g.id || list_any (ends_claim g.id) (since (grants_claim g.id) own))
    (or_left (eqb c g.id) (list_any (ends_claim g.id) (since (grants_claim g.id) own)) e) (not_not n)

-- the first open block of a claim that is lost once the download is opened
pub record LostBlock (total len : ℕ) (own : List OwnEvent) (claim : Claim) (piece : ℕ) : Type 0 where
  pub there : Has (granted_claims own) claim
  pub standing : is_standing own claim ≡ true
  pub block : ℕ
  pub first : first_open_since own claim ≡ Some block
  pub opened : is_open_since own claim block ≡ true
  pub piece_is : piece_of len block ≡ piece
  pub below : block < blocks_of total len
  pub unlanded : is_landed_in len own block ≡ false

pub lost_block : (total len : ℕ) (own : List OwnEvent) (c m p : ℕ) → LegalOwn total len own
    → (may : MayBeLost len own c m p) → is_opened own ≡ true
    → LostBlock total len own may.claim p
lost_block total len own c m p legal may opened =
    let there = has_filter (is_standing own) (granted_claims own) may.claim
    (has_from (standing_claims own) may.claim may.stands.0 may.stands.1 may.stands.2) in
    let o = first_block own may.claim (real_claim total len own may.claim legal opened there.0 there.1) there.1 in
    let f = facts total len own legal in
    let opened_there = (found (is_open_since own may.claim) (blocks_in may.claim.run) o.0 o.1).1 in
    record {
      there = there.0;
      standing = there.1;
      block = o.0;
      first = o.1;
      opened = opened_there;
      piece_is = sym (ap (piece_of_first len) o.1) ∙ may.piece_is;
      below =
          let w = f.within may.claim there.0 in
          let e = below_end o.0 may.claim.run
          (and_left (is_in o.0 may.claim.run) (not (has_come own may.claim o.0)) opened_there) in
          omega arith;
      unlanded = f.unlanded may.claim o.0 there.0 there.1 opened_there;
    }

-- what the claim gave is gone where its piece is sole
pub gone_by_loss : (total len : ℕ) (own : List OwnEvent) (c m p : ℕ) (mark : Mark) → LegalOwn total len own
    → MayBeLost len own c m p → (b : ℕ) → b < blocks_of total len
    → is_sole_in own p ≡ true → piece_of len b ≡ p
    → source_by (is_alive (Loses c m p mark ∷ own)) (piece_of len b) b own ≡ Absent
gone_by_loss total len own c m p mark legal may b below is here =
    let lb = lost_block total len own c m p legal may (opened_by_sole total len own p legal is) in
    let same : piece_of len b ≡ piece_of len lb.block = here ∙ sym lb.piece_is in
    absent_source (source_by (is_alive (Loses c m p mark ∷ own)) (piece_of len b) b own)
    (not_true (is_present (source_by (is_alive (Loses c m p mark ∷ own)) (piece_of len b) b own))
    (λ h.
    let was = fewer own (is_alive (Loses c m p mark ∷ own)) (without own may.claim.id) (piece_of len b) b
    (λ c' by alive. and_both (is_alive own c') (not (c' == may.claim.id)) (alive_before_loss own c m p mark c' alive)
    (other_claim c' may.claim.id
    (λ eq.
    or_cases (stands_in (Loses c m p mark ∷ own) c') (has_given_all own c') alive
    (λ s. let r = stands_as (Loses c m p mark ∷ own) c' s in
    lost_not_standing own c m p mark r.0 (sym (eqb-true r.0.id c' r.3 ∙ (eq ∙ may.id_is))) r.2)
    (λ w. not_whole total len own legal may.claim lb.block lb.there lb.opened
    (subst (λ (n : ℕ). has_given_all own n ≡ true) eq w))))) h in
    true_not_false (is_present (source_by (without own may.claim.id) (piece_of len b) b own)) was
    (subst (λ (q : ℕ). is_present (source_by (without own may.claim.id) q b own) ≡ false) (sym same)
    (absent total len own legal may.claim lb.block b lb.there lb.standing lb.opened
    (subst (λ (q : ℕ). is_sole_in own q ≡ true) (sym lb.piece_is) is) below same))))

-- .. and elsewhere all is as before
pub kept_by_loss : (total len : ℕ) (own : List OwnEvent) (c m p : ℕ) (mark : Mark) → LegalOwn total len own
    → MayBeLost len own c m p → (b : ℕ)
    → (is_sole_in own p ≡ true → piece_of len b ≡ p → ⊥)
    → source_by (is_alive (Loses c m p mark ∷ own)) (piece_of len b) b own ≡ source_by (is_alive own)
    (piece_of len b) b own
kept_by_loss total len own c m p mark legal may b never =
    same_source own (is_alive (Loses c m p mark ∷ own)) (is_alive own) (piece_of len b) b
    (λ c' by.
    same_tests (is_alive (Loses c m p mark ∷ own) c') (is_alive own c') (alive_before_loss own c m p mark c')
    (λ alive.
    or_cases (stands_in own c') (has_given_all own c') alive
    (λ s.
    let r = stands_as own c' s in
    let who : r.0.id ≡ c' = eqb-true r.0.id c' r.3 in
    or_left (stands_in (Loses c m p mark ∷ own) c') (has_given_all own c')
    (stands_by (Loses c m p mark ∷ own) c' r.0 r.1
    (standing_after_loss own c m p mark r.0
    (λ eq.
    let lb = lost_block total len own c m p legal may
    (opened_by_sole total len own (piece_of len b) legal (sole_then (piece_of len b) b c' own by)) in
    let g_is : r.0 ≡ may.claim = apart total len own legal r.0 may.claim r.1 lb.there (sym eq ∙ sym may.id_is) in
    let same : piece_of len lb.block ≡ piece_of len b =
    solely total len own legal may.claim b lb.block lb.there lb.standing
    (subst (λ (n : ℕ). sole_lands (piece_of len b) b n own ≡ true) (sym who ∙ ap (λ (g : Claim). g.id) g_is) by)
    (and_left (is_in lb.block may.claim.run) (not (has_come own may.claim lb.block)) lb.opened) in
    let at : piece_of len b ≡ p = sym same ∙ lb.piece_is in
    never (subst (λ (q : ℕ). is_sole_in own q ≡ true) at (sole_then (piece_of len b) b c' own by)) at)
    ∙ r.2) r.3))
    (or_right (stands_in (Loses c m p mark ∷ own) c') (has_given_all own c'))))

loss_cases : (total len : ℕ) (own : List OwnEvent) (c m p : ℕ) (mark : Mark) → LegalOwn total len own
    → MayBeLost len own c m p → (b : ℕ) → b < blocks_of total len
    → source_of len (blocks_at_start own) (changes_of len own) b ≡ source_by (is_alive own) (piece_of len b) b own
    → (s e : Bool) → is_sole_in own p ≡ s → eqb (piece_of len b) p ≡ e
    → source_of len (blocks_at_start own) (cond s (Clear p ∷ changes_of len own) (changes_of len own)) b ≡ source_by
    (is_alive (Loses c m p mark ∷ own)) (piece_of len b) b own
loss_cases total len own c m p mark legal may b below ih true true s e =
    rw e (sym (gone_by_loss total len own c m p mark legal may b below s (eqb-true (piece_of len b) p e)))
loss_cases total len own c m p mark legal may b below ih true false s e =
    rw e (ih ∙ sym
    (kept_by_loss total len own c m p mark legal may b
    (λ is here. true_not_false (eqb (piece_of len b) p) (eq-eqb (piece_of len b) p here) e)))
loss_cases total len own c m p mark legal may b below ih false e s q =
    ih ∙ sym (kept_by_loss total len own c m p mark legal may b (λ is here. true_not_false (is_sole_in own p) is s))

-- ---- a halt

-- a claim ends in the block's sole piece
abbrev pub Hits : ℕ → List OwnEvent → ℕ → Claim → Type 0
Hits len own b g = (x : ℕ) × (first_open_since own g ≡ Some x) × (is_sole_in own (piece_of len x) ≡ true)
    × (piece_of len b ≡ piece_of len x)

abbrev pub Gone : ℕ → List OwnEvent → ℕ → List Claim → Type 0
Gone len own b gs =
    ((g : Claim) × Has gs g × Hits len own b g
    × (source_of len (blocks_at_start own) (gone len own gs (changes_of len own)) b ≡ Absent))
    ⊎ (((g : Claim) → Has gs g → Hits len own b g → ⊥)
    × (source_of len (blocks_at_start own) (gone len own gs (changes_of len own)) b ≡ table_source len own b))

gone_more : (len : ℕ) (own : List OwnEvent) (b : ℕ) (g : Claim) (gs : List Claim) → Gone len own b gs → (o : Option ℕ)
    → first_open_since own g ≡ o
    → ((x : ℕ) → o ≡ Some x → (s e : Bool) → is_sole_in own (piece_of len x) ≡ s
    → eqb (piece_of len b) (piece_of len x) ≡ e → Gone len own b (g ∷ gs))
    → Gone len own b (g ∷ gs)
gone_more len own b g gs rest (Some x) is some = some x refl (is_sole_in own (piece_of len x))
    (eqb (piece_of len b) (piece_of len x)) refl refl
gone_more len own b g gs rest None is some =
    ⊎_elim
    (λ (h : (k : Claim) × Has gs k × Hits len own b k
    × (source_of len (blocks_at_start own) (gone len own gs (changes_of len own)) b ≡ Absent)).
    inl (h.0, inr h.1, h.2, rw is h.3))
    (λ (h : ((k : Claim) → Has gs k → Hits len own b k → ⊥)
    × (source_of len (blocks_at_start own) (gone len own gs (changes_of len own)) b ≡ table_source len own b)).
    inr (
      λ k hk hits. ⊎_elim
          (λ (same : g ≡ k). let e : first_open_since own g ≡ Some hits.0 = ap (first_open_since own) same
          ∙ hits.1 in absurd (let n : None ≡ Some hits.0 = sym is ∙ e in cc)) (λ (old : Has gs k). h.0 k old hits)
          hk,
      rw is h.1,
    ))
    rest

gone_some : (len : ℕ) (own : List OwnEvent) (b : ℕ) (g : Claim) (gs : List Claim) → Gone len own b gs → (x : ℕ)
    → first_open_since own g ≡ Some x
    → (s e : Bool) → is_sole_in own (piece_of len x) ≡ s → eqb (piece_of len b) (piece_of len x) ≡ e
    → Gone len own b (g ∷ gs)
gone_some len own b g gs rest x is true true s e =
    inl (g, inl refl, (x, is, s, eqb-true (piece_of len b) (piece_of len x) e), rw (is, s, e) refl)
gone_some len own b g gs rest x is true false s e =
    ⊎_elim
    (λ (h : (k : Claim) × Has gs k × Hits len own b k
    × (source_of len (blocks_at_start own) (gone len own gs (changes_of len own)) b ≡ Absent)).
    inl (h.0, inr h.1, h.2, rw (is, s, e) h.3))
    (λ (h : ((k : Claim) → Has gs k → Hits len own b k → ⊥)
    × (source_of len (blocks_at_start own) (gone len own gs (changes_of len own)) b ≡ table_source len own b)).
    inr (
      λ k hk hits.
          ⊎_elim
          (λ (same : g ≡ k).
          let at : x ≡ hits.0 = let q : Some x ≡ Some hits.0 = sym is ∙ (ap (first_open_since own) same ∙ hits.1) in
          cc in
          true_not_false (eqb (piece_of len b) (piece_of len x))
          (eq-eqb (piece_of len b) (piece_of len x) (hits.3 ∙ ap (piece_of len) (sym at))) e)
          (λ (old : Has gs k). h.0 k old hits) hk,
      rw (is, s, e) h.1,
    ))
    rest
gone_some len own b g gs rest x is false e s q =
    ⊎_elim
    (λ (h : (k : Claim) × Has gs k × Hits len own b k
    × (source_of len (blocks_at_start own) (gone len own gs (changes_of len own)) b ≡ Absent)).
    inl (h.0, inr h.1, h.2, rw (is, s) h.3))
    (λ (h : ((k : Claim) → Has gs k → Hits len own b k → ⊥)
    × (source_of len (blocks_at_start own) (gone len own gs (changes_of len own)) b ≡ table_source len own b)).
    inr (
      λ k hk hits.
          ⊎_elim
          (λ (same : g ≡ k).
          let at : x ≡ hits.0 = let q : Some x ≡ Some hits.0 = sym is ∙ (ap (first_open_since own) same ∙ hits.1) in
          cc in
          true_not_false (is_sole_in own (piece_of len x))
          (subst (λ (y : ℕ). is_sole_in own (piece_of len y) ≡ true) (sym at) hits.2) s)
          (λ (old : Has gs k). h.0 k old hits) hk,
      rw (is, s) h.1,
    ))
    rest

pub gone_cases : (len : ℕ) (own : List OwnEvent) (b : ℕ) (gs : List Claim) → Gone len own b gs
gone_cases len own b [] = inr (λ g h hits. h, refl)
gone_cases len own b (g ∷ gs) =
    let rest = gone_cases len own b gs in
    gone_more len own b g gs rest (first_open_since own g) refl
    (λ x is s e p q. gone_some len own b g gs rest x is s e p q)

halted_alive : (own : List OwnEvent) (ends : Bool) (c : ℕ) → is_alive (Halts ends ∷ own) c ≡ true
    → has_given_all own c ≡ true
halted_alive own ends c alive =
    or_cases (stands_in (Halts ends ∷ own) c) (has_given_all own c) alive
    (λ s. let r = stands_as (Halts ends ∷ own) c s in absurd (let bad = r.2 in cc)) (λ w. w)

pub halt_same : (total len : ℕ) (own : List OwnEvent) (ends : Bool) → LegalOwn total len own → (b : ℕ)
    → b < blocks_of total len → table_source len own b ≡ source_in len own b
    → Gone len own b (standing_claims own)
    → source_of len (blocks_at_start own) (gone len own (standing_claims own) (changes_of len own)) b ≡ source_in
    len (Halts ends ∷ own) b
halt_same total len own ends legal b below ih (inl h) =
    let there = has_filter (is_standing own) (granted_claims own) h.0 h.1 in
    let o = found (is_open_since own h.0) (blocks_in h.0.run) h.2.0 h.2.1 in
    h.3 ∙ sym (absent_source (source_by (is_alive (Halts ends ∷ own)) (piece_of len b) b own)
    (not_true (is_present (source_by (is_alive (Halts ends ∷ own)) (piece_of len b) b own))
    (λ present.
    let was = fewer own (is_alive (Halts ends ∷ own)) (without own h.0.id) (piece_of len b) b
    (λ c by alive.
    let w = halted_alive own ends c alive in
    and_both (is_alive own c) (not (c == h.0.id)) (or_right (stands_in own c) (has_given_all own c) w)
    (other_claim c h.0.id
    (λ eq. not_whole total len own legal h.0 h.2.0 there.0 o.1
    (subst (λ (n : ℕ). has_given_all own n ≡ true) eq w)))) present in
    true_not_false (is_present (source_by (without own h.0.id) (piece_of len b) b own)) was
    (subst (λ (q : ℕ). is_present (source_by (without own h.0.id) q b own) ≡ false) (sym h.2.3)
    (absent total len own legal h.0 h.2.0 b there.0 there.1 o.1 h.2.2 below h.2.3)))))
halt_same total len own ends legal b below ih (inr h) =
    h.1 ∙ ih ∙ same_source own (is_alive own) (is_alive (Halts ends ∷ own)) (piece_of len b) b
    (λ c by.
    same_tests (is_alive own c) (is_alive (Halts ends ∷ own) c)
    (λ alive.
    or_cases (stands_in own c) (has_given_all own c) alive
    (λ s.
    let r = stands_as own c s in
    let who : r.0.id ≡ c = eqb-true r.0.id c r.3 in
    let real =
    real_claim total len own r.0 legal
    (opened_by_sole total len own (piece_of len b) legal (sole_then (piece_of len b) b c own by)) r.1 r.2 in
    let first = first_block own r.0 real r.2 in
    let o = found (is_open_since own r.0) (blocks_in r.0.run) first.0 first.1 in
    let same : piece_of len first.0 ≡ piece_of len b =
    solely total len own legal r.0 b first.0 r.1 r.2
    (subst (λ (n : ℕ). sole_lands (piece_of len b) b n own ≡ true) (sym who) by)
    (and_left (is_in first.0 r.0.run) (not (list_any (lands_block first.0) (since (grants_claim r.0.id) own))) o.1) in
    absurd (h.0 r.0 (in_filter (is_standing own) (granted_claims own) r.0 r.1 r.2) (
      first.0,
      first.1,
      subst (λ (q : ℕ). is_sole_in own q ≡ true) (sym same) (sole_then (piece_of len b) b c own by),
      sym same,
    )))
    (or_right (stands_in (Halts ends ∷ own) c) (has_given_all own c)))
    (λ alive. or_right (stands_in own c) (has_given_all own c) (halted_alive own ends c alive)))

-- ---- a probe that tells the length

-- a download whose length a probe tells isn't opened yet
pub sized_early : (total len : ℕ) (own : List OwnEvent) (c : ℕ) → LegalOwn total len own → MaySize own c
    → is_opened own ≡ false
sized_early total len own c legal may =
    let there = has_filter (is_standing own) (granted_claims own) may.claim
    (has_from (standing_claims own) may.claim may.stands.0 may.stands.1 may.stands.2) in
    probe_early total len own legal may.claim there.0 there.1 may.probe

pub sizes_same : (total len : ℕ) (own : List OwnEvent) (c told : ℕ) → LegalOwn total len (Sizes c told ∷ own)
    → (b : ℕ)
    → source_in len own b ≡ source_in len (Sizes c told ∷ own) b
sizes_same total len own c told legal b =
    let e = early total len own legal.0 (sized_early total len own c legal.0 legal.1) in
    e.absent (is_alive own) (piece_of len b) b ∙ sym (e.absent (is_alive (Sizes c told ∷ own)) (piece_of len b) b)

-- ---- every event

verdict_source : (len : ℕ) (start : List Bool) (changes : List Change) (p b : ℕ) (right : Bool) (giver : Giver)
    (t : Bool)
    → source_of len start (cond t (MakeSole p ∷ Settle p right ∷ changes) (Settle p right ∷ changes)) b ≡ source_of
    len start changes b
verdict_source len start changes p b right giver true = refl
verdict_source len start changes p b right giver false = refl

clear_same : (len p b : ℕ) (x y : Source) → x ≡ y
    → cond (eqb (piece_of len b) p) Absent x ≡ cond (eqb p (piece_of len b)) Absent y
clear_same len p b x y same =
    ⊎_elim
    (λ (is : p ≡ piece_of len b). rw (eq-eqb (piece_of len b) p (sym is), eq-eqb p (piece_of len b) is) refl)
    (λ (other : p ≢ piece_of len b). rw
    (ne_eqb (piece_of len b) p (λ e. other (sym e)), ne_eqb p (piece_of len b) other) same)
    (cases_eq p (piece_of len b))

-- the table has each block from where the history says
pub table_says : (total len : ℕ) (own : List OwnEvent) → LegalOwn total len own → (b : ℕ) → b < blocks_of total len
    → table_source len own b ≡ source_in len own b
table_says total len [] legal b below = refl
table_says total len (Opens verified blocks now ∷ own) legal b below = refl
table_says total len (Grants cl ∷ own) legal b below =
    let f = facts total len own legal.0 in
    let may = grant_facts total len own cl legal.1 in
    table_says total len own legal.0 b below
    ∙ same_source own (is_alive own) (is_alive (Grants cl ∷ own)) (piece_of len b) b
    (λ c' by.
    let less = no_landing_yet total len own cl c' b f may (sole_by (piece_of len b) b c' own by) in
    same_tests (is_alive own c') (is_alive (Grants cl ∷ own) c')
    (λ alive.
    or_cases (stands_in own c') (has_given_all own c') alive
    (λ s.
    let r = stands_as own c' s in
    let older : cl.id ≢ r.0.id = λ e. let who : r.0.id ≡ c' = eqb-true r.0.id c' r.3 in absurd (omega (arith, e)) in
    or_left (stands_in (Grants cl ∷ own) c') (has_given_all (Grants cl ∷ own) c')
    (stands_by (Grants cl ∷ own) c' r.0 (inr r.1) (standing_after_grant own cl r.0 older ∙ r.2) r.3))
    (λ w. or_right (stands_in (Grants cl ∷ own) c') (has_given_all (Grants cl ∷ own) c')
    (or_right (eqb cl.id c' && list_all (λ x. list_any (lands_block_by c' x) own) (blocks_in cl.run))
    (has_given_all own c') w)))
    (alive_before_grant total len own cl c' may less))
table_says total len (Lands c m run ∷ own) legal b below =
    let f = facts total len own legal.0 in
    let may = legal.1 in
    let there = granted_there own c m run may in
    let stood : stands_in own c ≡ true = stands_by own c may.claim there.0 there.1 (eq-eqb may.claim.id c may.id_is)
    in
    let ih = table_says total len own legal.0 b below in
    lands_same (is_in b run) (is_sole_in own (piece_of len b)) (is_alive (Lands c m run ∷ own) c) m
    (table_source len own b) Absent (source_by (is_alive (Lands c m run ∷ own)) (piece_of len b) b own)
    (λ now. ih ∙ absent_source (source_in len own b) (f.unlanded may.claim b there.0 there.1 (may.open_in b now)))
    (λ now is. subst (λ (n : ℕ). is_alive (Lands c m run ∷ own) n ≡ true) may.id_is
    (alive_after_landing total len own c m run legal.0 may may.claim b there.0 there.1 (may.open_in b now) is
    (is_some (first_open_since (Lands c m run ∷ own) may.claim)) refl))
    (λ away. ih ∙ same_source own (is_alive own) (is_alive (Lands c m run ∷ own)) (piece_of len b) b
    (λ c' by. same_tests (is_alive own c') (is_alive (Lands c m run ∷ own) c')
    (stays total len own c m run legal.0 may b c' by) (alive_before_landing own c m run stood c')))
table_says total len (Settles p right giver ∷ own) legal b below =
    verdict_source len (blocks_at_start own) (changes_of len own) p b right giver (not right && is_mixed giver)
    ∙ table_says total len own legal.0 b below
table_says total len (Clears p ∷ own) legal b below =
    clear_same len p b (table_source len own b) (source_in len own b) (table_says total len own legal.0 b below)
table_says total len (Loses c m p mark ∷ own) legal b below =
    loss_cases total len own c m p mark legal.0 legal.1 b below (table_says total len own legal.0 b below)
    (is_sole_in own p) (eqb (piece_of len b) p) refl refl
table_says total len (Sizes c told ∷ own) legal b below = table_says total len own legal.0 b below
    ∙ sizes_same total len own c told legal b
table_says total len (Saves now ∷ own) legal b below = table_says total len own legal.0 b below
table_says total len (Checks right ∷ own) legal b below = table_says total len own legal.0 b below
table_says total len (Halts ends ∷ own) legal b below =
    halt_same total len own ends legal.0 b below (table_says total len own legal.0 b below)
    (gone_cases len own b (standing_claims own))
