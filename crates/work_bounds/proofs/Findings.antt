-- How often a piece is found wrong and lost, against its marks, and how often it is cleared.
use Rattle.std.proofs.Common.{◌≡◌, ◌≢◌, ◌⊎◌, ℕ, suc, ◌+◌, ◌*◌, ◌≤◌, Bool, true, false, cond, eqb, List, [], ◌∷◌, refl, ap, subst, inl, inr, ⊎_elim, arith}
use Rattle.std.specs.Prelude.{◌&&◌, ◌||◌, not, slice_index_or}
use Rattle.std.proofs.lemmas.Bool.{cases_eq, eq-eqb, eqb-true, ne_eqb}
use Rattle.dl_kinds.specs.Plan.{IsPlan}
use Rattle.dl_kinds.specs.declared.marks.Mark.{Mark}
use Rattle.piece_table.specs.Changes.{Absent, Source, is_present}
use Rattle.piece_table.specs.declared.giver.Giver.{Giver}
use Rattle.piece_table.specs.declared.giver.Giver.TheVariants.{Nobody, One, Mixed}
use Rattle.dl_history.proofs.Bools.{true_not_false}
use Rattle.dl_history.specs.OwnEvents.{Checks, Clears, Grants, Halts, Lands, Loses, Opens, OwnEvent, Saves, Settles, Sizes}
use Rattle.dl_history.specs.OwnLegal.{IsLossOf, IsWrongLast, LegalOwn, MaySettle}
use Rattle.dl_history.specs.PayloadParts.{is_landed_in, is_mixed, is_sole_in, is_verified_in}
use Rattle.work_bounds.proofs.MarkSums.{blamed, few_blamed}
use Rattle.work_bounds.proofs.Ordered.{Ordered, earlier}
use Rattle.work_bounds.proofs.SoleGivers.{mixed_once}
use Rattle.work_bounds.proofs.Sources.{first_of, of_block}
use Rattle.work_bounds.proofs.Tallies.{tally}
use Rattle.work_bounds.specs.WorkLimits.{clears_piece}

-- ---- events of a piece

-- it is found wrong
abbrev pub is_wrong_at : ℕ → OwnEvent → Bool
is_wrong_at p (Settles piece false giver) = eqb piece p
is_wrong_at p e = false

-- .. given by several mirrors
abbrev pub is_mixed_at : ℕ → OwnEvent → Bool
is_mixed_at p (Settles piece false Mixed) = eqb piece p
is_mixed_at p e = false

-- it is found right
abbrev pub is_right_at : ℕ → OwnEvent → Bool
is_right_at p (Settles piece true giver) = eqb piece p
is_right_at p e = false

-- a claim is lost there
abbrev pub is_lost_at : ℕ → OwnEvent → Bool
is_lost_at p (Loses id mirror piece mark) = eqb piece p
is_lost_at p e = false

abbrev pub wrongs : List OwnEvent → ℕ → ℕ
wrongs own p = tally (is_wrong_at p) own

abbrev pub mixeds : List OwnEvent → ℕ → ℕ
mixeds own p = tally (is_mixed_at p) own

abbrev pub rights : List OwnEvent → ℕ → ℕ
rights own p = tally (is_right_at p) own

abbrev pub losses : List OwnEvent → ℕ → ℕ
losses own p = tally (is_lost_at p) own

-- ---- each is a mark, but for findings of several mirrors

-- a piece of which nobody gave a block isn't full
pub somebody_gave : (total len : ℕ) (own : List OwnEvent) (q : ℕ) → IsPlan total len
    → MaySettle total len own q Nobody → ⊥
somebody_gave total len own q plan may =
    let first = first_of total len q plan.some may.within in
    let gone = of_block total len own (λ (s : Source). s ≡ Absent) q first.block plan.some may.within may.givers
    first.below first.here in
    true_not_false (is_landed_in len own first.block) (may.full first.block first.below first.here) (ap is_present gone)

pub record MarksOfPiece (own : List OwnEvent) (p : ℕ) : Type 0 where
  pub all : wrongs own p + losses own p ≤ blamed own p + mixeds own p
  pub lost : losses own p ≤ blamed own p

both_more : (t : Bool) (w l b m : ℕ) → w + l ≤ b + m → cond t (suc w) w + l ≤ cond t (suc b) b + m
both_more true w l b m le = omega arith
both_more false w l b m le = le

mixed_more : (t : Bool) (w l b m : ℕ) → w + l ≤ b + m → cond t (suc w) w + l ≤ b + cond t (suc m) m
mixed_more true w l b m le = omega arith
mixed_more false w l b m le = le

lost_more : (t : Bool) (w l b m : ℕ) → w + l ≤ b + m → w + cond t (suc l) l ≤ cond t (suc b) b + m
lost_more true w l b m le = omega arith
lost_more false w l b m le = le

one_more : (t : Bool) (l b : ℕ) → l ≤ b → cond t (suc l) l ≤ cond t (suc b) b
one_more true l b le = omega arith
one_more false l b le = le

right_more : (t : Bool) (l b : ℕ) → l ≤ b → l ≤ cond t (suc b) b
right_more true l b le = omega arith
right_more false l b le = le

pub marks_of_piece : (total len mirrors tries : ℕ) (own : List OwnEvent) → Ordered total len mirrors tries own → (p : ℕ)
    → MarksOfPiece own p
marks_of_piece total len mirrors tries [] o p = record { all = omega arith; lost = omega arith }
marks_of_piece total len mirrors tries (Opens verified blocks now ∷ own) o p =
    let h = marks_of_piece total len mirrors tries own (earlier total len mirrors tries
    (Opens verified blocks now) own o) p
    in record { all = h.all; lost = h.lost }
marks_of_piece total len mirrors tries (Grants cl ∷ own) o p =
    let h = marks_of_piece total len mirrors tries own (earlier total len mirrors tries (Grants cl) own o) p in
    record { all = h.all; lost = h.lost }
marks_of_piece total len mirrors tries (Lands c m run ∷ own) o p =
    let h = marks_of_piece total len mirrors tries own (earlier total len mirrors tries (Lands c m run) own o) p in
    record { all = h.all; lost = h.lost }
marks_of_piece total len mirrors tries (Settles q true giver ∷ own) o p =
    let h = marks_of_piece total len mirrors tries own (earlier total len mirrors tries
    (Settles q true giver) own o) p in
    record { all = h.all; lost = h.lost }
marks_of_piece total len mirrors tries (Settles q false Nobody ∷ own) o p =
    absurd (somebody_gave total len own q (o.plan o.legal.1.opened) o.legal.1)
marks_of_piece total len mirrors tries (Settles q false (One n) ∷ own) o p =
    let h = marks_of_piece total len mirrors tries own (earlier total len mirrors tries (Settles q false
    (One n)) own o) p in
    record {
      all = both_more (eqb q p) (wrongs own p) (losses own p) (blamed own p) (mixeds own p) h.all;
      lost = right_more (eqb q p) (losses own p) (blamed own p) h.lost;
    }
marks_of_piece total len mirrors tries (Settles q false Mixed ∷ own) o p =
    let h = marks_of_piece total len mirrors tries own (earlier total len mirrors tries
    (Settles q false Mixed) own o) p in
    record {
      all = mixed_more (eqb q p) (wrongs own p) (losses own p) (blamed own p)
          (mixeds own p) h.all;
      lost = h.lost;
    }
marks_of_piece total len mirrors tries (Clears q ∷ own) o p =
    let h = marks_of_piece total len mirrors tries own (earlier total len mirrors tries (Clears q) own o) p in
    record { all = h.all; lost = h.lost }
marks_of_piece total len mirrors tries (Loses c m q mark ∷ own) o p =
    let h = marks_of_piece total len mirrors tries own (earlier total len mirrors tries (Loses c m q mark) own o) p in
    record {
      all = lost_more (eqb q p) (wrongs own p) (losses own p) (blamed own p) (mixeds own p) h.all;
      lost = one_more (eqb q p) (losses own p) (blamed own p) h.lost;
    }
marks_of_piece total len mirrors tries (Sizes c told ∷ own) o p =
    let h = marks_of_piece total len mirrors tries own (earlier total len mirrors tries (Sizes c told) own o) p in
    record { all = h.all; lost = h.lost }
marks_of_piece total len mirrors tries (Saves now ∷ own) o p =
    let h = marks_of_piece total len mirrors tries own (earlier total len mirrors tries (Saves now) own o) p in
    record { all = h.all; lost = h.lost }
marks_of_piece total len mirrors tries (Checks right ∷ own) o p =
    let h = marks_of_piece total len mirrors tries own (earlier total len mirrors tries (Checks right) own o) p in
    record { all = h.all; lost = h.lost }
marks_of_piece total len mirrors tries (Halts ends ∷ own) o p =
    let h = marks_of_piece total len mirrors tries own (earlier total len mirrors tries (Halts ends) own o) p in
    record { all = h.all; lost = h.lost }

-- ---- a piece is found of several mirrors once

one_where : (t x s : Bool) (n : ℕ) → x ≡ t → (t ≡ true → s ≡ false) → n ≤ cond s 1 0
    → cond t (suc n) n ≤ cond (x || s) 1 0
one_where true true true n is new le = absurd (let e = new refl in cc)
one_where true true false n is new le = omega arith
one_where true false s n is new le = absurd cc
one_where false true s n is new le = absurd cc
one_where false false s n is new le = le

or_less : (x s : Bool) (n : ℕ) → n ≤ cond s 1 0 → n ≤ cond (x || s) 1 0
or_less true true n le = le
or_less true false n le = omega arith
or_less false s n le = le

true_twice : (t : Bool) → (t && true && true) ≡ t
true_twice true = refl
true_twice false = refl

pub mixed_few : (total len mirrors tries : ℕ) (own : List OwnEvent) → Ordered total len mirrors tries own → (p : ℕ)
    → mixeds own p ≤ cond (is_sole_in own p) 1 0
mixed_few total len mirrors tries [] o p = omega arith
mixed_few total len mirrors tries (Opens verified blocks now ∷ own) o p =
    mixed_few total len mirrors tries own (earlier total len mirrors tries (Opens verified blocks now) own o) p
mixed_few total len mirrors tries (Grants cl ∷ own) o p =
    mixed_few total len mirrors tries own (earlier total len mirrors tries (Grants cl) own o) p
mixed_few total len mirrors tries (Lands c m run ∷ own) o p =
    mixed_few total len mirrors tries own (earlier total len mirrors tries (Lands c m run) own o) p
mixed_few total len mirrors tries (Settles q true giver ∷ own) o p =
    or_less (eqb q p && not true && is_mixed giver) (is_sole_in own p) (mixeds own p)
    (mixed_few total len mirrors tries own (earlier total len mirrors tries (Settles q true giver) own o) p)
mixed_few total len mirrors tries (Settles q false Nobody ∷ own) o p =
    or_less (eqb q p && not false && is_mixed Nobody) (is_sole_in own p) (mixeds own p)
    (mixed_few total len mirrors tries own (earlier total len mirrors tries (Settles q false Nobody) own o) p)
mixed_few total len mirrors tries (Settles q false (One n) ∷ own) o p =
    or_less (eqb q p && not false && is_mixed (One n)) (is_sole_in own p) (mixeds own p)
    (mixed_few total len mirrors tries own (earlier total len mirrors tries (Settles q false (One n)) own o) p)
mixed_few total len mirrors tries (Settles q false Mixed ∷ own) o p =
    let before = earlier total len mirrors tries (Settles q false Mixed) own o in
    one_where (eqb q p) (eqb q p && true && true) (is_sole_in own p) (mixeds own p) (true_twice (eqb q p))
    (λ is. subst (λ (x : ℕ). is_sole_in own x ≡ false) (eqb-true q p is)
    (mixed_once total len mirrors tries own q before (o.plan o.legal.1.opened) o.legal.1))
    (mixed_few total len mirrors tries own before p)
mixed_few total len mirrors tries (Clears q ∷ own) o p =
    mixed_few total len mirrors tries own (earlier total len mirrors tries (Clears q) own o) p
mixed_few total len mirrors tries (Loses c m q mark ∷ own) o p =
    mixed_few total len mirrors tries own (earlier total len mirrors tries (Loses c m q mark) own o) p
mixed_few total len mirrors tries (Sizes c told ∷ own) o p =
    mixed_few total len mirrors tries own (earlier total len mirrors tries (Sizes c told) own o) p
mixed_few total len mirrors tries (Saves now ∷ own) o p =
    mixed_few total len mirrors tries own (earlier total len mirrors tries (Saves now) own o) p
mixed_few total len mirrors tries (Checks right ∷ own) o p =
    mixed_few total len mirrors tries own (earlier total len mirrors tries (Checks right) own o) p
mixed_few total len mirrors tries (Halts ends ∷ own) o p =
    mixed_few total len mirrors tries own (earlier total len mirrors tries (Halts ends) own o) p

at_most_one : (t : Bool) → cond t 1 0 ≤ 1
at_most_one true = omega arith
at_most_one false = omega arith

-- how often the blocks of a piece may go
pub few_fails : (total len mirrors tries : ℕ) (own : List OwnEvent) → Ordered total len mirrors tries own → (p : ℕ)
    → wrongs own p + losses own p ≤ mirrors * tries + 1
few_fails total len mirrors tries own o p =
    let h = (marks_of_piece total len mirrors tries own o p).all in
    let m = mixed_few total len mirrors tries own o p in
    let one = at_most_one (is_sole_in own p) in
    let b = few_blamed total len mirrors tries own o p in
    omega arith

-- ---- a piece is found right once

pub right_once : (total len : ℕ) (own : List OwnEvent) → LegalOwn total len own → (p : ℕ)
    → rights own p ≤ cond (is_verified_in own p) 1 0
right_once total len [] legal p = omega arith
right_once total len (Opens verified blocks now ∷ own) legal p =
    or_less (slice_index_or verified p false) (is_verified_in own p) (rights own p)
    (right_once total len own legal.0 p)
right_once total len (Grants cl ∷ own) legal p = right_once total len own legal.0 p
right_once total len (Lands c m run ∷ own) legal p = right_once total len own legal.0 p
right_once total len (Settles q true giver ∷ own) legal p =
    one_where (eqb q p) (eqb q p && true) (is_verified_in own p) (rights own p) (true_once (eqb q p))
    (λ is. subst (λ (x : ℕ). is_verified_in own x ≡ false) (eqb-true q p is) legal.1.unverified)
    (right_once total len own legal.0 p)
  where
    true_once : (t : Bool) → (t && true) ≡ t
    true_once true = refl
    true_once false = refl
right_once total len (Settles q false giver ∷ own) legal p =
    or_less (eqb q p && false) (is_verified_in own p) (rights own p) (right_once total len own legal.0 p)
right_once total len (Clears q ∷ own) legal p = right_once total len own legal.0 p
right_once total len (Loses c m q mark ∷ own) legal p = right_once total len own legal.0 p
right_once total len (Sizes c told ∷ own) legal p = right_once total len own legal.0 p
right_once total len (Saves now ∷ own) legal p = right_once total len own legal.0 p
right_once total len (Checks right ∷ own) legal p = right_once total len own legal.0 p
right_once total len (Halts ends ∷ own) legal p = right_once total len own legal.0 p

-- ---- clearings

-- each one follows a wrong finding or a loss of its own
pub record ClearsFit (len : ℕ) (own : List OwnEvent) (p : ℕ) : Type 0 where
  pub few : tally (clears_piece p) own ≤ wrongs own p + losses own p
  pub due : IsLossOf p own ⊎ IsWrongLast len p own → tally (clears_piece p) own + 1 ≤ wrongs own p + losses own p

wrong_clears : (len : ℕ) (own : List OwnEvent) (q p : ℕ) (giver : Giver) → ClearsFit len own p
    → ClearsFit len (Settles q false giver ∷ own) p
wrong_clears len own q p giver fit =
    record {
      few = let f = fit.few in let m = right_more (eqb q p) (wrongs own p) (wrongs own p) (omega arith) in omega arith;
      due = λ cause.
          ⊎_elim
          (λ (loss : ⊥). absurd loss)
          (λ (w : ((q ≡ p) × (false ≡ false)) ⊎ ((q ≢ p) × IsWrongLast len p own)).
          ⊎_elim
          (λ (now : (q ≡ p) × (false ≡ false)).
          let f = fit.few in
          let e : cond (eqb q p) (suc (wrongs own p)) (wrongs own p) ≡ suc (wrongs own p) =
          ap (λ (t : Bool). cond t (suc (wrongs own p)) (wrongs own p)) (eq-eqb q p now.0) in
          omega arith)
          (λ (old : (q ≢ p) × IsWrongLast len p own).
          let f = fit.due (inr old.1) in
          let m = right_more (eqb q p) (wrongs own p) (wrongs own p) (omega arith) in
          omega arith)
          w)
          cause;
    }

lost_clears : (len : ℕ) (own : List OwnEvent) (c m q p : ℕ) (mark : Mark) → ClearsFit len own p
    → ClearsFit len (Loses c m q mark ∷ own) p
lost_clears len own c m q p mark fit =
    record {
      few = let f = fit.few in let m = right_more (eqb q p) (losses own p) (losses own p) (omega arith) in omega arith;
      due = λ cause.
          ⊎_elim
          (λ (loss : (q ≡ p) × (is_sole_in own p ≡ true)).
          let f = fit.few in
          let e : cond (eqb q p) (suc (losses own p)) (losses own p) ≡ suc (losses own p) =
          ap (λ (t : Bool). cond t (suc (losses own p)) (losses own p)) (eq-eqb q p loss.0) in
          omega arith)
          (λ (old : IsWrongLast len p own).
          let f = fit.due (inr old) in
          let m = right_more (eqb q p) (losses own p) (losses own p) (omega arith) in
          omega arith)
          cause;
    }

cleared_clears : (total len : ℕ) (own : List OwnEvent) (q p : ℕ) → LegalOwn total len (Clears q ∷ own)
    → ClearsFit len own p → ClearsFit len (Clears q ∷ own) p
cleared_clears total len own q p legal fit =
    record {
      few = ⊎_elim
          (λ (is : q ≡ p).
          let f = fit.due (subst (λ (x : ℕ). IsLossOf x own ⊎ IsWrongLast len x own) is legal.1.cause) in
          let n = tally (clears_piece p) own in
          let e : cond (eqb q p) (suc n) n ≡ suc n = ap (λ (t : Bool). cond t (suc n) n) (eq-eqb q p is) in
          omega arith)
          (λ (apart : q ≢ p).
          let f = fit.few in
          let n = tally (clears_piece p) own in
          let e : cond (eqb q p) (suc n) n ≡ n = ap (λ (t : Bool). cond t (suc n) n) (ne_eqb q p apart) in
          omega arith)
          (cases_eq q p);
      due = λ cause.
          ⊎_elim
          (λ (loss : ⊥). absurd loss)
          (λ (old : (q ≢ p) × IsWrongLast len p own).
          let f = fit.due (inr old.1) in
          let n = tally (clears_piece p) own in
          let e : cond (eqb q p) (suc n) n ≡ n = ap (λ (t : Bool). cond t (suc n) n) (ne_eqb q p old.0) in
          omega arith)
          cause;
    }

-- no clearing, no finding, no loss
plain_clears : (len : ℕ) (own : List OwnEvent) (e : OwnEvent) (p : ℕ) → ClearsFit len own p
    → tally (clears_piece p) (e ∷ own) ≡ tally (clears_piece p) own → wrongs (e ∷ own) p ≡ wrongs own p
    → losses (e ∷ own) p ≡ losses own p
    → (IsLossOf p (e ∷ own) ⊎ IsWrongLast len p (e ∷ own) → IsWrongLast len p own)
    → ClearsFit len (e ∷ own) p
plain_clears len own e p fit cs ws ls was =
    record {
      few = let f = fit.few in omega arith;
      due = λ cause. let f = fit.due (inr (was cause)) in omega arith;
    }

second : {A : Type 0} → ⊥ ⊎ A → A
second (inl bad) = absurd bad
second (inr is) = is

neither : {A : Type 0} → ⊥ ⊎ ⊥ → A
neither (inl bad) = absurd bad
neither (inr bad) = absurd bad

pub clears_fit : (total len : ℕ) (own : List OwnEvent) → LegalOwn total len own → (p : ℕ) → ClearsFit len own p
clears_fit total len [] legal p = record { few = omega arith; due = λ cause. neither cause }
clears_fit total len (Opens verified blocks now ∷ own) legal p =
    plain_clears len own (Opens verified blocks now) p (clears_fit total len own legal.0 p) refl refl refl
    (λ cause. neither cause)
clears_fit total len (Grants cl ∷ own) legal p =
    plain_clears len own (Grants cl) p (clears_fit total len own legal.0 p) refl refl refl (λ cause. second cause)
clears_fit total len (Lands c m run ∷ own) legal p =
    plain_clears len own (Lands c m run) p (clears_fit total len own legal.0 p) refl refl refl
    (λ cause. (second cause).1)
clears_fit total len (Settles q true giver ∷ own) legal p =
    plain_clears len own (Settles q true giver) p (clears_fit total len own legal.0 p) refl refl refl
    (λ cause.
    ⊎_elim
    (λ (now : (q ≡ p) × (true ≡ false)). absurd (let e = now.1 in cc))
    (λ (old : (q ≢ p) × IsWrongLast len p own). old.1)
    (second cause))
clears_fit total len (Settles q false giver ∷ own) legal p =
    wrong_clears len own q p giver (clears_fit total len own legal.0 p)
clears_fit total len (Clears q ∷ own) legal p =
    cleared_clears total len own q p legal (clears_fit total len own legal.0 p)
clears_fit total len (Loses c m q mark ∷ own) legal p =
    lost_clears len own c m q p mark (clears_fit total len own legal.0 p)
clears_fit total len (Sizes c told ∷ own) legal p =
    plain_clears len own (Sizes c told) p (clears_fit total len own legal.0 p) refl refl refl (λ cause. second cause)
clears_fit total len (Saves now ∷ own) legal p =
    plain_clears len own (Saves now) p (clears_fit total len own legal.0 p) refl refl refl (λ cause. second cause)
clears_fit total len (Checks right ∷ own) legal p =
    plain_clears len own (Checks right) p (clears_fit total len own legal.0 p) refl refl refl (λ cause. second cause)
clears_fit total len (Halts ends ∷ own) legal p =
    plain_clears len own (Halts ends) p (clears_fit total len own legal.0 p) refl refl refl (λ cause. second cause)

-- a piece is cleared once for each try of each mirror, and once more
pub few_clears : (total len mirrors tries : ℕ) (own : List OwnEvent) → Ordered total len mirrors tries own → (p : ℕ)
    → tally (clears_piece p) own ≤ mirrors * tries + 1
few_clears total len mirrors tries own o p =
    let c = (clears_fit total len own o.legal p).few in
    let f = few_fails total len mirrors tries own o p in
    omega arith
