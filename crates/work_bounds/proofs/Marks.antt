-- Each mark of a mirror for a piece is one of its tries.
use Rattle.std.proofs.Common.{◌≡◌, ◌≢◌, ◌⊎◌, ℕ, suc, ◌<◌, ◌≤◌, Bool, true, false, cond, eqb, Option, Some, None, List, [], ◌∷◌, get_or, refl, sym, ap, ◌∙◌, subst, inl, inr, ⊎_elim, arith}
use Rattle.std.specs.Prelude.{◌&&◌, ◌||◌, not}
use Rattle.std.specs.List.{list_any}
use Rattle.std.specs.Option.{is_some}
use Rattle.std.proofs.lemmas.Bool.{cases_eq, ne_eqb, eq-eqb, eqb-true, false_from_ne_true}
use Rattle.dl_kinds.specs.Plan.{IsPlan, blocks_of, piece_of}
use Rattle.dl_kinds.specs.declared.claims.Claim.{Claim}
use Rattle.dl_kinds.specs.declared.marks.Mark.{Mark}
use Rattle.dl_kinds.specs.declared.runs.Run.{Run}
use Rattle.piece_table.specs.Changes.{Absent, From, MayBeFrom, Source, Unknown, given, is_in, is_present}
use Rattle.piece_table.specs.declared.giver.Giver.{Giver}
use Rattle.piece_table.specs.declared.giver.Giver.TheVariants.{Nobody, One, Mixed}
use Rattle.dl_history.proofs.Bools.{and_left, and_right, or_cases, or_later, or_right, true_not_false}
use Rattle.dl_history.proofs.Early.{below_end, early, not_false, probe_early}
use Rattle.dl_history.proofs.Ends.{has_come, has_ended, has_more, new_open, open_after_grant, open_before}
use Rattle.dl_history.proofs.Facts.{facts, grant_facts}
use Rattle.dl_history.proofs.Members.{Has, any_has, has_all, has_filter}
use Rattle.dl_history.proofs.Sole.{found, in_run, run_has}
use Rattle.dl_history.proofs.Table.{lost_block, table_says}
use Rattle.dl_history.proofs.TableChanges.{table_source}
use Rattle.dl_history.specs.OwnEvents.{Checks, Clears, Grants, Halts, Lands, Loses, Opens, OwnEvent, Saves, Settles, Sizes}
use Rattle.dl_history.specs.OwnLegal.{LegalOwn, MayBeLost, MayLand, MaySettle}
use Rattle.dl_history.specs.PayloadParts.{is_landed_in, is_alive, is_opened, is_run_on, is_settled_in, lands_on, settles_piece, source_in}
use Rattle.dl_history.specs.StandingClaims.{blocks_in, first_open_since, granted_claims, is_open_since, is_probe, is_standing, piece_of_first, since, standing_claims}
use Rattle.work_bounds.proofs.Ordered.{Ordered, earlier, lander, loser, marks, new_or_old, none_halted, none_lost, stood_lands, stood_sizes}
use Rattle.work_bounds.proofs.Sources.{first_of, found_source, landed_so, of_block, open_absent, unlanded_absent, was_from}

-- ---- one mark more

more_of : (t : Bool) (n : ℕ) → cond t (suc n) n ≤ suc n
more_of true n = omega arith
more_of false n = omega arith

-- another mirror's, or another piece's, marks stay
same_of : (t u : Bool) (n : ℕ) → (t ≡ false) ⊎ (u ≡ false) → cond (t && u) (suc n) n ≡ n
same_of true true n (inl is) = absurd cc
same_of true true n (inr is) = absurd cc
same_of true false n h = refl
same_of false u n h = refl

-- a mark at (m0, q) leaves fewer than so many at each place, if fewer stood there
mark_fits : (m0 q m p n tries : ℕ) → n ≤ tries → (m0 ≡ m → q ≡ p → n < tries)
    → cond (eqb m0 m && eqb q p) (suc n) n ≤ tries
mark_fits m0 q m p n tries le less =
    ⊎_elim
    (λ (sm : m0 ≡ m).
    ⊎_elim
    (λ (sq : q ≡ p). let l = less sm sq in let e = more_of (eqb m0 m && eqb q p) n in omega arith)
    (λ (aq : q ≢ p). let e = same_of (eqb m0 m) (eqb q p) n (inr (ne_eqb q p aq)) in omega arith)
    (cases_eq q p))
    (λ (am : m0 ≢ m). let e = same_of (eqb m0 m) (eqb q p) n (inl (ne_eqb m0 m am)) in omega arith)
    (cases_eq m0 m)

-- .. and of another piece none more
mark_apart : (m0 q m p n : ℕ) → q ≢ p → cond (eqb m0 m && eqb q p) (suc n) n ≡ n
mark_apart m0 q m p n apart = same_of (eqb m0 m) (eqb q p) n (inr (ne_eqb q p apart))

-- ---- what holds after each event

-- all blocks of the piece are from the mirror
abbrev pub IsFrom : (total len : ℕ) → List OwnEvent → (m p : ℕ) → Type 0
IsFrom total len own m p =
    (b : ℕ) → b < blocks_of total len → piece_of len b ≡ p → table_source len own b ≡ From m

-- the mirror of a claim that stands has a try left for the piece of each open block
pub record MayFail (len mirrors tries : ℕ) (own : List OwnEvent) (claim : Claim) : Type 0 where
  pub known : claim.mirror < mirrors
  pub blocks : (b : ℕ) → is_open_since own claim b ≡ true → marks own claim.mirror (piece_of len b) < tries
  pub probe : is_probe claim ≡ true → marks own claim.mirror 0 < tries

pub record MarksFit (total len mirrors tries : ℕ) (own : List OwnEvent) : Type 0 where
  pub each : (m p : ℕ) → marks own m p ≤ tries
  pub standing : (g : Claim) → Has (standing_claims own) g → MayFail len mirrors tries own g
  -- a piece that one mirror gave, and that wasn't settled since
  pub given : (m p b : ℕ) → b < blocks_of total len → piece_of len b ≡ p → IsFrom total len own m p
      → is_settled_in len own p ≡ false → marks own m p < tries

-- after an event without a mark
unmarked : (total len mirrors tries : ℕ) (own own' : List OwnEvent) → MarksFit total len mirrors tries own
    → ((m p : ℕ) → marks own' m p ≡ marks own m p)
    → ((g : Claim) → Has (standing_claims own') g → Has (standing_claims own) g)
    → ((g : Claim) (b : ℕ) → is_open_since own' g b ≡ true → is_open_since own g b ≡ true)
    → ((m p b : ℕ) → b < blocks_of total len → piece_of len b ≡ p → IsFrom total len own' m p
    → is_settled_in len own' p ≡ false → marks own m p < tries)
    → MarksFit total len mirrors tries own'
unmarked total len mirrors tries own own' fit same was was_open given =
    record {
      each = λ m p. let e = same m p in let f = fit.each m p in omega arith;
      standing = λ g has.
          let h = fit.standing g (was g has) in
          record {
            known = h.known;
            blocks = λ b opened.
                let e = same g.mirror (piece_of len b) in
                let f = h.blocks b (was_open g b opened) in
                omega arith;
            probe = λ is. let e = same g.mirror 0 in let f = h.probe is in omega arith;
          };
      given = λ m p b below here from un. let e = same m p in let f = given m p b below here from un in omega arith;
    }

-- .. that brings nothing and settles nothing
quiet : (total len mirrors tries : ℕ) (own : List OwnEvent) (e : OwnEvent) → MarksFit total len mirrors tries own
    → ((m p : ℕ) → marks (e ∷ own) m p ≡ marks own m p)
    → ((g : Claim) → Has (standing_claims (e ∷ own)) g → Has (standing_claims own) g)
    → ((g : Claim) (b : ℕ) → is_open_since (e ∷ own) g b ≡ true → is_open_since own g b ≡ true)
    → ((m p : ℕ) → IsFrom total len (e ∷ own) m p → IsFrom total len own m p)
    → ((p : ℕ) → is_settled_in len (e ∷ own) p ≡ is_settled_in len own p)
    → MarksFit total len mirrors tries (e ∷ own)
quiet total len mirrors tries own e fit same was was_open from settled =
    unmarked total len mirrors tries own (e ∷ own) fit same was was_open
    (λ m p b below here is un. fit.given m p b below here (from m p is) (sym (settled p) ∙ un))

-- ---- a landing

given_absent : (t : Bool) (x : Source) (m n : ℕ) → t ≡ true → x ≡ Absent → cond t (given x m) x ≡ From n → m ≡ n
given_absent true x m n here gone is = let e : From m ≡ From n = ap (λ (s : Source). given s m) (sym gone) ∙ is in cc
given_absent false x m n here gone is = absurd cc

given_apart : (t : Bool) (x : Source) (m n : ℕ) → t ≡ false → cond t (given x m) x ≡ From n → x ≡ From n
given_apart true x m n away is = absurd cc
given_apart false x m n away is = is

any_none : (p : ℕ → Bool) (xs : List ℕ) (x : ℕ) → list_any p xs ≡ false → Has xs x → p x ≡ false
any_none p [] x none has = absurd has
any_none p (y ∷ ys) x none (inl is) = ap p (sym is) ∙ first_none (p y) (list_any p ys) none
  where
    first_none : (a b : Bool) → (a || b) ≡ false → a ≡ false
    first_none true b h = absurd cc
    first_none false b h = refl
any_none p (y ∷ ys) x none (inr has) = any_none p ys x (or_later (p y) (list_any p ys) none) has

-- a run that touches no block of the piece
pub not_on : (len : ℕ) (run : Run) (p b : ℕ) → is_run_on len run p ≡ false → piece_of len b ≡ p → is_in b run ≡ false
not_on len run p b away here =
    false_from_ne_true (is_in b run)
    (λ inside. true_not_false (eqb (piece_of len b) p) (eq-eqb (piece_of len b) p here)
    (any_none (λ x. eqb (piece_of len x) p) (blocks_in run) b away (run_has run b inside)))

pub settled_away : (len : ℕ) (own : List OwnEvent) (c m : ℕ) (run : Run) (p : ℕ) → is_run_on len run p ≡ false
    → is_settled_in len (Lands c m run ∷ own) p ≡ is_settled_in len own p
settled_away len own c m run p away =
    ap (λ (t : Bool). list_any (settles_piece p) (cond t [] (Lands c m run ∷ since (lands_on len p) own))) away

-- a landed block of a piece, and the claim that gave it
pub record LandsAt (total len : ℕ) (own : List OwnEvent) (g : Claim) (run : Run) (p : ℕ) : Type 0 where
  pub block : ℕ
  pub below : block < blocks_of total len
  pub here : piece_of len block ≡ p
  pub landed : is_in block run ≡ true
  pub opened : is_open_since own g block ≡ true
  pub claimed : is_in block g.run ≡ true
  pub absent : table_source len own block ≡ Absent

pub lands_at : (total len : ℕ) (own : List OwnEvent) (c m : ℕ) (run : Run) (p : ℕ) → LegalOwn total len own
    → (may : MayLand own c m run) → is_run_on len run p ≡ true → LandsAt total len own may.claim run p
lands_at total len own c m run p legal may on =
    let r = any_has (λ b. eqb (piece_of len b) p) (blocks_in run) on in
    let landed = in_run run r.0 r.1 in
    let opened = may.open_in r.0 landed in
    let claimed = and_left (is_in r.0 may.claim.run) (not (has_come own may.claim r.0)) opened in
    let there = has_filter (is_standing own) (granted_claims own) may.claim (lander own c m run may) in
    let below : r.0 < blocks_of total len = let w = (facts total len own legal).within may.claim there.0 in
    let e = below_end r.0 may.claim.run claimed in omega arith in
    record {
      block = r.0;
      below = below;
      here = eqb-true (piece_of len r.0) p r.2;
      landed = landed;
      opened = opened;
      claimed = claimed;
      absent = open_absent total len own may.claim r.0 legal below there.0 there.1 opened;
    }

lands_given : (total len mirrors tries : ℕ) (own : List OwnEvent) (c m : ℕ) (run : Run) → LegalOwn total len own
    → MayLand own c m run → MarksFit total len mirrors tries own
    → (n p b : ℕ) → b < blocks_of total len → piece_of len b ≡ p → IsFrom total len (Lands c m run ∷ own) n p
    → is_settled_in len (Lands c m run ∷ own) p ≡ false → (t : Bool) → is_run_on len run p ≡ t → marks own n p < tries
lands_given total len mirrors tries own c m run legal may fit n p b below here from un true on =
    let at = lands_at total len own c m run p legal may on in
    let same : m ≡ n = given_absent (is_in at.block run) (table_source len own at.block) m n at.landed at.absent
    (from at.block at.below at.here) in
    let less = (fit.standing may.claim (lander own c m run may)).blocks at.block at.opened in
    subst (λ (x : ℕ). marks own x p < tries) (may.mirror_is ∙ same)
    (subst (λ (q : ℕ). marks own may.claim.mirror q < tries) at.here less)
lands_given total len mirrors tries own c m run legal may fit n p b below here from un false away =
    fit.given n p b below here
    (λ x inside at. given_apart (is_in x run) (table_source len own x) m n (not_on len run p x away at)
    (from x inside at))
    (sym (settled_away len own c m run p away) ∙ un)

marks_lands : (total len mirrors tries : ℕ) (own : List OwnEvent) (c m : ℕ) (run : Run)
    → Ordered total len mirrors tries (Lands c m run ∷ own) → MarksFit total len mirrors tries own
    → MarksFit total len mirrors tries (Lands c m run ∷ own)
marks_lands total len mirrors tries own c m run o fit =
    unmarked total len mirrors tries own (Lands c m run ∷ own) fit (λ n p. refl) (stood_lands own c m run)
    (open_before own c m run)
    (λ n p b below here from un. lands_given total len mirrors tries own c m run o.legal.0 o.legal.1 fit n p b
    below here
    from un (is_run_on len run p) refl)

-- ---- a finding

-- a piece that may be found wrong of one mirror is all from it
pub one_gave : (total len : ℕ) (own : List OwnEvent) (q m : ℕ) → IsPlan total len → LegalOwn total len own
    → MaySettle total len own q (One m) → IsFrom total len own m q
one_gave total len own q m plan legal may b below here =
    table_says total len own legal b below
    ∙ ⊎_elim
    (λ (gone : source_in len own b ≡ Absent). true_not_false (is_landed_in len own b) (may.full b below here)
    (ap is_present gone))
    (λ (is : source_in len own b ≡ From m). is)
    (of_block total len own (MayBeFrom m) q b plan.some may.within may.givers.1 below here)

first_part : (a b : Bool) → (a || b) ≡ false → a ≡ false
first_part true b h = absurd cc
first_part false b h = refl

apart_by : (q p : ℕ) → eqb q p ≡ false → q ≢ p
apart_by q p off is = true_not_false (eqb q p) (eq-eqb q p is) off

found_given : (total len mirrors tries : ℕ) (own : List OwnEvent) (q : ℕ) (right : Bool) (giver : Giver)
    → MarksFit total len mirrors tries own
    → (m p b : ℕ) → b < blocks_of total len → piece_of len b ≡ p
    → IsFrom total len (Settles q right giver ∷ own) m p
    → is_settled_in len (Settles q right giver ∷ own) p ≡ false → (q ≢ p) × (marks own m p < tries)
found_given total len mirrors tries own q right giver fit m p b below here from un = (
  apart_by q p (first_part (eqb q p) (is_settled_in len own p) un),
  fit.given m p b below here
      (λ x inside at. sym (found_source len own q right giver x) ∙ from x inside at)
      (or_later (eqb q p) (is_settled_in len own p) un),
)

-- without a mark
marks_found : (total len mirrors tries : ℕ) (own : List OwnEvent) (q : ℕ) (right : Bool) (giver : Giver)
    → MarksFit total len mirrors tries own
    → ((m p : ℕ) → marks (Settles q right giver ∷ own) m p ≡ marks own m p)
    → MarksFit total len mirrors tries (Settles q right giver ∷ own)
marks_found total len mirrors tries own q right giver fit same =
    unmarked total len mirrors tries own (Settles q right giver ∷ own) fit same (λ g has. has) (λ g b h. h)
    (λ m p b below here from un. (found_given total len mirrors tries own q right giver fit m p b below here from un).1)

-- of a piece that is found wrong no block is open
found_open : (total len mirrors tries : ℕ) (own : List OwnEvent) (q n : ℕ)
    → Ordered total len mirrors tries (Settles q false (One n) ∷ own) → MarksFit total len mirrors tries own
    → (g : Claim) → Has (standing_claims own) g
    → MayFail len mirrors tries (Settles q false (One n) ∷ own) g
found_open total len mirrors tries own q n o fit g has =
    let may = o.legal.1 in
    let there = has_filter (is_standing own) (granted_claims own) g has in
    let f = facts total len own o.legal.0 in
    let h = fit.standing g has in
    record {
      known = h.known;
      blocks = λ b opened.
          let inside = and_left (is_in b g.run) (not (has_come own g b)) opened in
          let below : b < blocks_of total len = let w = f.within g there.0 in let e = below_end b g.run inside in
          omega arith in
          let apart : q ≢ piece_of len b = λ is.
          true_not_false (is_landed_in len own b) (may.full b below (sym is)) (f.unlanded g b there.0 there.1 opened) in
          let e = mark_apart n q g.mirror (piece_of len b) (marks own g.mirror (piece_of len b)) apart in
          let l = h.blocks b opened in
          omega arith;
      probe = λ is. true_not_false (is_opened own) may.opened
          (probe_early total len own o.legal.0 g there.0 there.1 is);
    }

marks_wrong : (total len mirrors tries : ℕ) (own : List OwnEvent) (q n : ℕ)
    → Ordered total len mirrors tries (Settles q false (One n) ∷ own) → MarksFit total len mirrors tries own
    → MarksFit total len mirrors tries (Settles q false (One n) ∷ own)
marks_wrong total len mirrors tries own q n o fit =
    let may = o.legal.1 in
    let plan = o.plan (or_right false (is_opened own) may.opened) in
    let first = first_of total len q plan.some may.within in
    let less : marks own n q < tries =
    fit.given n q first.block first.below first.here (one_gave total len own q n plan o.legal.0 may) may.anew in
    record {
      each = λ m p. mark_fits n q m p (marks own m p) tries (fit.each m p)
          (λ sm sq. subst (λ (x : ℕ). marks own x p < tries) sm
          (subst (λ (x : ℕ). marks own n x < tries) sq less));
      standing = found_open total len mirrors tries own q n o fit;
      given = λ m p b below here from un.
          let r = found_given total len mirrors tries own q false (One n) fit m p b below here from un in
          let e = mark_apart n q m p (marks own m p) r.0 in
          let f = r.1 in
          omega arith;
    }

-- ---- a loss

-- a block that a mirror gave came after the opening
pub opened_by_from : (total len : ℕ) (own : List OwnEvent) (b m : ℕ) → LegalOwn total len own → b < blocks_of total len
    → table_source len own b ≡ From m → is_opened own ≡ true
opened_by_from total len own b m legal below from =
    not_false (is_opened own)
    (λ un. true_not_false (is_landed_in len own b) (landed_so total len own b legal below ∙ ap is_present from)
    (ap is_present ((early total len own legal un).absent (is_alive own) (piece_of len b) b)))

-- a claim that fails had a try left there
lost_try : (len mirrors tries : ℕ) (own : List OwnEvent) (g : Claim) → MayFail len mirrors tries own g
    → is_standing own g ≡ true → (o : Option ℕ) → first_open_since own g ≡ o
    → marks own g.mirror (piece_of_first len o) < tries
lost_try len mirrors tries own g has stands (Some b) is =
    has.blocks b (found (is_open_since own g) (blocks_in g.run) b is).1
lost_try len mirrors tries own g has stands None is =
    has.probe
    (or_cases (is_probe g) (is_some (first_open_since own g))
    (and_right (not (has_ended own g)) (has_more own g) stands)
    (λ probe. probe)
    (λ some. absurd (let e : is_some (first_open_since own g) ≡ false = ap is_some is in cc)))

lost_given : (total len mirrors tries : ℕ) (own : List OwnEvent) (c m q : ℕ) (mark : Mark) → LegalOwn total len own
    → MayBeLost len own c m q → MarksFit total len mirrors tries own
    → (n p b : ℕ) → b < blocks_of total len → piece_of len b ≡ p → IsFrom total len (Loses c m q mark ∷ own) n p
    → is_settled_in len own p ≡ false → (q ≢ p) × (marks own n p < tries)
lost_given total len mirrors tries own c m q mark legal may fit n p b below here from un =
    let was : IsFrom total len own n p = λ x inside at. was_from len own (Loses c m q mark) x n refl
    (from x inside at) in (
      λ is.
          let opened = opened_by_from total len own b n legal below (was b below here) in
          let lb = lost_block total len own c m q legal may opened in
          let gone = unlanded_absent total len own lb.block legal lb.below lb.unlanded in
          absurd (let e : Absent ≡ From n = sym gone ∙ was lb.block lb.below (lb.piece_is ∙ is) in cc),
      fit.given n p b below here was un,
    )

marks_lost : (total len mirrors tries : ℕ) (own : List OwnEvent) (c m q : ℕ) (mark : Mark)
    → Ordered total len mirrors tries (Loses c m q mark ∷ own) → MarksFit total len mirrors tries own
    → MarksFit total len mirrors tries (Loses c m q mark ∷ own)
marks_lost total len mirrors tries own c m q mark o fit =
    let may = o.legal.1 in
    let stands = loser len own c m q may in
    let there = has_filter (is_standing own) (granted_claims own) may.claim stands in
    let less : marks own m q < tries =
    subst (λ (x : ℕ). marks own x q < tries) may.mirror_is
    (subst (λ (x : ℕ). marks own may.claim.mirror x < tries) may.piece_is
    (lost_try len mirrors tries own may.claim (fit.standing may.claim stands) there.1
    (first_open_since own may.claim) refl)) in
    record {
      each = λ n p. mark_fits m q n p (marks own n p) tries (fit.each n p)
          (λ sm sq. subst (λ (x : ℕ). marks own x p < tries) sm
          (subst (λ (x : ℕ). marks own m x < tries) sq less));
      standing = λ g has. absurd (none_lost len own c m q mark o.one.0 may g has);
      given = λ n p b below here from un.
          let r = lost_given total len mirrors tries own c m q mark o.legal.0 may fit n p b below here from un in
          let e = mark_apart m q n p (marks own n p) r.0 in
          let f = r.1 in
          omega arith;
    }

-- ---- every event

opened_from : {P : Type 0} (t : Bool) (m : ℕ) → cond t Unknown Absent ≡ From m → P
opened_from true m h = absurd cc
opened_from false m h = absurd cc

granted_fit : (total len mirrors tries : ℕ) (own : List OwnEvent) (cl : Claim)
    → Ordered total len mirrors tries (Grants cl ∷ own) → MarksFit total len mirrors tries own → (g : Claim)
    → Has (standing_claims (Grants cl ∷ own)) g → MayFail len mirrors tries (Grants cl ∷ own) g
granted_fit total len mirrors tries own cl o fit g has =
    ⊎_elim
    (λ (new : cl ≡ g). subst (λ (x : Claim). MayFail len mirrors tries (Grants cl ∷ own) x) new (record {
      known = o.grants.1.known;
      blocks = λ b opened. o.grants.1.blocks b (new_open own cl b opened);
      probe = o.grants.1.probe;
    }))
    (λ (old : Has (standing_claims own) g).
    let there = has_filter (is_standing own) (granted_claims own) g old in
    let less : g.id < cl.id = has_all (λ (x : Claim). x.id < cl.id) (granted_claims own) g
    (grant_facts total len own cl o.legal.1).fresh there.0 in
    let h = fit.standing g old in
    record {
      known = h.known;
      blocks = λ b opened. h.blocks b (sym (open_after_grant own cl g b (λ e. absurd (omega (arith, e)))) ∙ opened);
      probe = h.probe;
    })
    (new_or_old total len own cl o.legal g has)

pub marks_fit : (total len mirrors tries : ℕ) (own : List OwnEvent) → Ordered total len mirrors tries own
    → MarksFit total len mirrors tries own
marks_fit total len mirrors tries [] o =
    record {
      each = λ m p. omega arith;
      standing = λ g has. absurd has;
      given = λ m p b below here from un. absurd (let e = from b below here in cc);
    }
marks_fit total len mirrors tries (Opens verified blocks now ∷ own) o =
    let fit = marks_fit total len mirrors tries own (earlier total len mirrors tries
    (Opens verified blocks now) own o) in
    unmarked total len mirrors tries own (Opens verified blocks now ∷ own) fit (λ m p. refl) (λ g has. has)
    (λ g b h. h)
    (λ m p b below here from un. opened_from (get_or blocks b false) m (from b below here))
marks_fit total len mirrors tries (Grants cl ∷ own) o =
    let fit = marks_fit total len mirrors tries own (earlier total len mirrors tries (Grants cl) own o) in
    record {
      each = fit.each;
      standing = granted_fit total len mirrors tries own cl o fit;
      given = fit.given;
    }
marks_fit total len mirrors tries (Lands c m run ∷ own) o =
    marks_lands total len mirrors tries own c m run o
    (marks_fit total len mirrors tries own (earlier total len mirrors tries (Lands c m run) own o))
marks_fit total len mirrors tries (Settles q true giver ∷ own) o =
    marks_found total len mirrors tries own q true giver
    (marks_fit total len mirrors tries own (earlier total len mirrors tries (Settles q true giver) own o)) (λ m p. refl)
marks_fit total len mirrors tries (Settles q false Nobody ∷ own) o =
    marks_found total len mirrors tries own q false Nobody
    (marks_fit total len mirrors tries own (earlier total len mirrors tries (Settles q false Nobody) own o))
    (λ m p. refl)
marks_fit total len mirrors tries (Settles q false (One n) ∷ own) o =
    marks_wrong total len mirrors tries own q n o
    (marks_fit total len mirrors tries own (earlier total len mirrors tries (Settles q false (One n)) own o))
marks_fit total len mirrors tries (Settles q false Mixed ∷ own) o =
    marks_found total len mirrors tries own q false Mixed
    (marks_fit total len mirrors tries own (earlier total len mirrors tries (Settles q false Mixed) own o))
    (λ m p. refl)
marks_fit total len mirrors tries (Clears q ∷ own) o =
    quiet total len mirrors tries own (Clears q)
    (marks_fit total len mirrors tries own (earlier total len mirrors tries (Clears q) own o)) (λ m p. refl)
    (λ g has. has) (λ g b h. h)
    (λ m p from b below here. was_from len own (Clears q) b m refl (from b below here)) (λ p. refl)
marks_fit total len mirrors tries (Loses c m q mark ∷ own) o =
    marks_lost total len mirrors tries own c m q mark o
    (marks_fit total len mirrors tries own (earlier total len mirrors tries (Loses c m q mark) own o))
marks_fit total len mirrors tries (Sizes c told ∷ own) o =
    quiet total len mirrors tries own (Sizes c told)
    (marks_fit total len mirrors tries own (earlier total len mirrors tries (Sizes c told) own o)) (λ m p. refl)
    (stood_sizes own c told) (λ g b h. h) (λ m p from. from) (λ p. refl)
marks_fit total len mirrors tries (Saves now ∷ own) o =
    quiet total len mirrors tries own (Saves now)
    (marks_fit total len mirrors tries own (earlier total len mirrors tries (Saves now) own o)) (λ m p. refl)
    (λ g has. has) (λ g b h. h) (λ m p from. from) (λ p. refl)
marks_fit total len mirrors tries (Checks right ∷ own) o =
    quiet total len mirrors tries own (Checks right)
    (marks_fit total len mirrors tries own (earlier total len mirrors tries (Checks right) own o)) (λ m p. refl)
    (λ g has. has) (λ g b h. h) (λ m p from. from) (λ p. refl)
marks_fit total len mirrors tries (Halts ends ∷ own) o =
    quiet total len mirrors tries own (Halts ends)
    (marks_fit total len mirrors tries own (earlier total len mirrors tries (Halts ends) own o)) (λ m p. refl)
    (λ g has. absurd (none_halted own ends g has)) (λ g b h. h)
    (λ m p from b below here. was_from len own (Halts ends) b m refl (from b below here)) (λ p. refl)
