-- All events of a download, kind by kind.
use Rattle.std.proofs.Common.{◌≡◌, ◌⊎◌, ℕ, suc, ◌+◌, ◌≤◌, Bool, true, false, cond, List, [], ◌∷◌, length, refl, sym, ap, ◌∙◌, ⊎_elim, arith}
use Rattle.std.specs.Prelude.{◌&&◌, not}
use Rattle.dl_kinds.specs.declared.runs.Run.{Run}
use Rattle.piece_table.specs.Changes.{is_in}
use Rattle.dl_history.proofs.Bools.{and_left, true_not_false}
use Rattle.dl_history.proofs.Early.{first_in, opened_by_block, opened_by_sole}
use Rattle.dl_history.proofs.Ends.{has_come}
use Rattle.dl_history.proofs.Members.{has_filter}
use Rattle.dl_history.specs.OwnEvents.{Checks, Clears, Grants, Halts, Lands, Loses, Opens, OwnEvent, Saves, Settles, Sizes}
use Rattle.dl_history.specs.OwnLegal.{IsLossOf, IsWrongLast, LegalOwn, MayClear}
use Rattle.dl_history.specs.PayloadParts.{is_opened, is_opening}
use Rattle.dl_history.specs.StandingClaims.{granted_claims, is_standing}
use Rattle.work_bounds.proofs.ClaimCounts.{is_loss, is_sizing}
use Rattle.work_bounds.proofs.Landings.{is_landing}
use Rattle.work_bounds.proofs.Ordered.{lander}
use Rattle.work_bounds.proofs.Pauses.{halts}
use Rattle.work_bounds.proofs.Tallies.{tally}
use Rattle.work_bounds.specs.SavesDue.{SavesHaveNews, has_news, may_change_listing}
use Rattle.work_bounds.specs.WorkLimits.{is_check}

-- ---- kinds

abbrev pub is_finding : OwnEvent → Bool
is_finding (Settles piece right giver) = true
is_finding e = false

abbrev pub is_clearing : OwnEvent → Bool
is_clearing (Clears piece) = true
is_clearing e = false

abbrev pub is_saving : OwnEvent → Bool
is_saving (Saves now) = true
is_saving e = false

-- those of a piece, as far as they count twice or thrice in the sum of all
abbrev pub piece_kinds : List OwnEvent → ℕ
piece_kinds own = tally is_finding own + tally is_clearing own

pub kinds : (own : List OwnEvent) → length own
    ≡ tally is_opening own + length (granted_claims own) + tally is_landing own + piece_kinds own + tally is_loss own
    + tally is_sizing own + tally is_saving own + tally is_check own + halts own
kinds [] = refl
kinds (Opens verified blocks now ∷ own) = let k = kinds own in omega arith
kinds (Grants cl ∷ own) = let k = kinds own in omega arith
kinds (Lands c m run ∷ own) = let k = kinds own in omega arith
kinds (Settles q right giver ∷ own) = let k = kinds own in omega arith
kinds (Clears q ∷ own) = let k = kinds own in omega arith
kinds (Loses c m q mark ∷ own) = let k = kinds own in omega arith
kinds (Sizes c told ∷ own) = let k = kinds own in omega arith
kinds (Saves now ∷ own) = let k = kinds own in omega arith
kinds (Checks right ∷ own) = let k = kinds own in omega arith
kinds (Halts ends ∷ own) = let k = kinds own in omega arith

-- ---- the opening comes once

once_where : (t : Bool) (n : ℕ) → t ≡ false → n ≤ cond t 1 0 → suc n ≤ 1
once_where true n off le = absurd cc
once_where false n off le = omega arith

pub opened_once : (total len : ℕ) (own : List OwnEvent) → LegalOwn total len own
    → tally is_opening own ≤ cond (is_opened own) 1 0
opened_once total len [] legal = omega arith
opened_once total len (Opens verified blocks now ∷ own) legal =
    once_where (is_opened own) (tally is_opening own) legal.1.first (opened_once total len own legal.0)
opened_once total len (Grants cl ∷ own) legal = opened_once total len own legal.0
opened_once total len (Lands c m run ∷ own) legal = opened_once total len own legal.0
opened_once total len (Settles q right giver ∷ own) legal = opened_once total len own legal.0
opened_once total len (Clears q ∷ own) legal = opened_once total len own legal.0
opened_once total len (Loses c m q mark ∷ own) legal = opened_once total len own legal.0
opened_once total len (Sizes c told ∷ own) legal = opened_once total len own legal.0
opened_once total len (Saves now ∷ own) legal = opened_once total len own legal.0
opened_once total len (Checks right ∷ own) legal = opened_once total len own legal.0
opened_once total len (Halts ends ∷ own) legal = opened_once total len own legal.0

-- ---- before the opening

-- a piece that was found wrong is one of an opened download
wrong_opened : (total len : ℕ) (own : List OwnEvent) (p : ℕ) → LegalOwn total len own → IsWrongLast len p own
    → is_opened own ≡ true
wrong_opened total len [] p legal w = absurd w
wrong_opened total len (Opens verified blocks now ∷ own) p legal w = absurd w
wrong_opened total len (Grants cl ∷ own) p legal w = wrong_opened total len own p legal.0 w
wrong_opened total len (Lands c m run ∷ own) p legal w = wrong_opened total len own p legal.0 w.1
wrong_opened total len (Settles q right giver ∷ own) p legal w = legal.1.opened
wrong_opened total len (Clears q ∷ own) p legal w = wrong_opened total len own p legal.0 w.1
wrong_opened total len (Loses c m q mark ∷ own) p legal w = wrong_opened total len own p legal.0 w
wrong_opened total len (Sizes c told ∷ own) p legal w = wrong_opened total len own p legal.0 w
wrong_opened total len (Saves now ∷ own) p legal w = wrong_opened total len own p legal.0 w
wrong_opened total len (Checks right ∷ own) p legal w = wrong_opened total len own p legal.0 w
wrong_opened total len (Halts ends ∷ own) p legal w = wrong_opened total len own p legal.0 w

loss_opened : (total len : ℕ) (own : List OwnEvent) (p : ℕ) → LegalOwn total len own → IsLossOf p own
    → is_opened own ≡ true
loss_opened total len [] p legal loss = absurd loss
loss_opened total len (Opens verified blocks now ∷ own) p legal loss = absurd loss
loss_opened total len (Grants cl ∷ own) p legal loss = absurd loss
loss_opened total len (Lands c m run ∷ own) p legal loss = absurd loss
loss_opened total len (Settles q right giver ∷ own) p legal loss = absurd loss
loss_opened total len (Clears q ∷ own) p legal loss = absurd loss
loss_opened total len (Loses c m q mark ∷ own) p legal loss = opened_by_sole total len own p legal.0 loss.1
loss_opened total len (Sizes c told ∷ own) p legal loss = absurd loss
loss_opened total len (Saves now ∷ own) p legal loss = absurd loss
loss_opened total len (Checks right ∷ own) p legal loss = absurd loss
loss_opened total len (Halts ends ∷ own) p legal loss = absurd loss

cleared_opened : (total len : ℕ) (own : List OwnEvent) (p : ℕ) → LegalOwn total len own → MayClear total len own p
    → is_opened own ≡ true
cleared_opened total len own p legal may =
    ⊎_elim (λ (loss : IsLossOf p own). loss_opened total len own p legal loss)
    (λ (w : IsWrongLast len p own). wrong_opened total len own p legal w) may.cause

landed_opened : {P : Type 0} (total len : ℕ) (own : List OwnEvent) (c m : ℕ) (run : Run)
    → LegalOwn total len (Lands c m run ∷ own) → is_opened own ≡ false → P
landed_opened total len own c m run legal un =
    true_not_false (is_opened own)
    (opened_by_block total len own legal.1.claim run.first legal.0
    (has_filter (is_standing own) (granted_claims own) legal.1.claim (lander own c m run legal.1)).0
    (and_left (is_in run.first legal.1.claim.run) (not (has_come own legal.1.claim run.first))
    (legal.1.open_in run.first (first_in run legal.1.some)))) un

-- nothing lands, is found, cleared or saved
pub record IsEarly (own : List OwnEvent) : Type 0 where
  pub landings : tally is_landing own ≡ 0
  pub pieces : piece_kinds own ≡ 0
  pub saves : tally is_saving own ≡ 0

pub early_kinds : (total len : ℕ) (own : List OwnEvent) → LegalOwn total len own → is_opened own ≡ false → IsEarly own
early_kinds total len [] legal un = record { landings = refl; pieces = refl; saves = refl }
early_kinds total len (Opens verified blocks now ∷ own) legal un = absurd (let bad = un in cc)
early_kinds total len (Grants cl ∷ own) legal un =
    let e = early_kinds total len own legal.0 un in
    record { landings = e.landings; pieces = e.pieces; saves = e.saves }
early_kinds total len (Lands c m run ∷ own) legal un = landed_opened total len own c m run legal un
early_kinds total len (Settles q right giver ∷ own) legal un = true_not_false (is_opened own) legal.1.opened un
early_kinds total len (Clears q ∷ own) legal un =
    true_not_false (is_opened own) (cleared_opened total len own q legal.0 legal.1) un
early_kinds total len (Loses c m q mark ∷ own) legal un =
    let e = early_kinds total len own legal.0 un in
    record { landings = e.landings; pieces = e.pieces; saves = e.saves }
early_kinds total len (Sizes c told ∷ own) legal un =
    let e = early_kinds total len own legal.0 un in
    record { landings = e.landings; pieces = e.pieces; saves = e.saves }
early_kinds total len (Saves now ∷ own) legal un = true_not_false (is_opened own) legal.1.opened un
early_kinds total len (Checks right ∷ own) legal un = true_not_false (is_opened own) legal.1.opened un
early_kinds total len (Halts ends ∷ own) legal un =
    let e = early_kinds total len own legal.0 un in
    record { landings = e.landings; pieces = e.pieces; saves = e.saves }

-- ---- saves

abbrev bit : Bool → ℕ
bit t = cond t 1 0

-- the events after the opening that may change what a save lists
abbrev pub changes : List OwnEvent → ℕ
changes [] = 0
changes (e ∷ before) = cond (is_opened before && may_change_listing e) (suc (changes before)) (changes before)

pub record SavesFit (own : List OwnEvent) : Type 0 where
  pub opened : is_opened own ≡ true → tally is_saving own + cond (has_news own) 1 0 ≤ changes own
  pub unopened : is_opened own ≡ false → tally is_saving own ≡ 0

more_changes : (t : Bool) (n : ℕ) → n ≤ cond t (suc n) n
more_changes true n = omega arith
more_changes false n = omega arith

one_change : (t u : Bool) (n : ℕ) → t ≡ true → u ≡ true → cond (t && u) (suc n) n ≡ suc n
one_change true true n p q = refl
one_change true false n p q = absurd cc
one_change false u n p q = absurd cc

-- an event that is neither a save nor a change
plain_saves : (own : List OwnEvent) (e : OwnEvent) → SavesFit own → is_opened (e ∷ own) ≡ is_opened own
    → tally is_saving (e ∷ own) ≡ tally is_saving own → has_news (e ∷ own) ≡ has_news own → SavesFit (e ∷ own)
plain_saves own e fit opened saves news =
    record {
      opened = λ is.
          let f = fit.opened (sym opened ∙ is) in
          let m = more_changes (is_opened own && may_change_listing e) (changes own) in
          let n : bit (has_news (e ∷ own)) ≡ bit (has_news own) = ap bit news in
          omega arith;
      unopened = λ un. saves ∙ fit.unopened (sym opened ∙ un);
    }

-- a change
change_saves : (own : List OwnEvent) (e : OwnEvent) → SavesFit own → is_opened (e ∷ own) ≡ is_opened own
    → tally is_saving (e ∷ own) ≡ tally is_saving own → has_news (e ∷ own) ≡ true → may_change_listing e ≡ true
    → SavesFit (e ∷ own)
change_saves own e fit opened saves news is =
    record {
      opened = λ h.
          let was = sym opened ∙ h in
          let f = fit.opened was in
          let c = one_change (is_opened own) (may_change_listing e) (changes own) was is in
          let n : bit (has_news (e ∷ own)) ≡ 1 = ap bit news in
          omega arith;
      unopened = λ un. saves ∙ fit.unopened (sym opened ∙ un);
    }

pub saves_fit : (total len : ℕ) (own : List OwnEvent) → LegalOwn total len own → SavesHaveNews own → SavesFit own
saves_fit total len [] legal due = record { opened = λ is. omega arith; unopened = λ un. refl }
saves_fit total len (Opens verified blocks now ∷ own) legal due =
    let fit = saves_fit total len own legal.0 due in
    record {
      opened = λ is. let none = fit.unopened legal.1.first in omega arith;
      unopened = λ un. absurd (let bad = un in cc);
    }
saves_fit total len (Grants cl ∷ own) legal due =
    plain_saves own (Grants cl) (saves_fit total len own legal.0 due) refl refl refl
saves_fit total len (Lands c m run ∷ own) legal due =
    change_saves own (Lands c m run) (saves_fit total len own legal.0 due) refl refl refl refl
saves_fit total len (Settles q right giver ∷ own) legal due =
    change_saves own (Settles q right giver) (saves_fit total len own legal.0 due) refl refl refl refl
saves_fit total len (Clears q ∷ own) legal due =
    change_saves own (Clears q) (saves_fit total len own legal.0 due) refl refl refl refl
saves_fit total len (Loses c m q mark ∷ own) legal due =
    change_saves own (Loses c m q mark) (saves_fit total len own legal.0 due) refl refl refl refl
saves_fit total len (Sizes c told ∷ own) legal due =
    plain_saves own (Sizes c told) (saves_fit total len own legal.0 due) refl refl refl
saves_fit total len (Saves now ∷ own) legal due =
    let fit = saves_fit total len own legal.0 due.0 in
    record {
      opened = λ is.
          let f = fit.opened is in
          let n : bit (has_news own) ≡ 1 = ap bit due.1 in
          let m = more_changes (is_opened own && false) (changes own) in
          omega arith;
      unopened = λ un. true_not_false (is_opened own) legal.1.opened un;
    }
saves_fit total len (Checks right ∷ own) legal due =
    plain_saves own (Checks right) (saves_fit total len own legal.0 due) refl refl refl
saves_fit total len (Halts ends ∷ own) legal due =
    change_saves own (Halts ends) (saves_fit total len own legal.0 due) refl refl refl refl
