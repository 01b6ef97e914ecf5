-- What landings of a claim leave of the history of its download.
use Rattle.std.proofs.Common.{◌≡◌, ℕ, ◌<◌, ◌≤◌, ◌+◌, zero, suc, Bool, true, false, List, [], ◌∷◌, refl, sym, ap, ◌∙◌, subst, arith}
use Rattle.std.specs.Prelude.{◌==◌, ◌&&◌, ◌||◌, not, nat_le, nat_lt, All, Contains, find}
use Rattle.std.specs.List.{list_any}
use Rattle.std.specs.Option.{is_some}
use Rattle.std.proofs.Math.Nat.{add-div_left, le-div_iff_mul-le, div-mul-le_self}
use Rattle.std.proofs.lemmas.Bool.{eqb-true, eq-eqb, leb-true}
use Rattle.std.proofs.lemmas.List.Elements.{All-head, All-tail}
use Rattle.dl_kinds.specs.Plan.{IsPlan, full_blocks, piece_of, pieces_of}
use Rattle.dl_kinds.specs.declared.claims.Claim.{Claim}
use Rattle.dl_kinds.specs.declared.runs.Run.{Run}
use Rattle.piece_table.specs.Changes.{is_in}
use Rattle.dl_history.specs.HistoryLaws.{IsFullIn, VerifiedAreFull}
use Rattle.dl_history.specs.OwnEvents.{OwnEvent, Lands}
use Rattle.dl_history.specs.OwnLegal.{LegalOwn, MayLand}
use Rattle.dl_history.specs.PayloadParts.{is_landed_in, is_opened, is_run_on, is_settled_in, is_verified_in}
use Rattle.dl_history.specs.StandingClaims.{blocks_in, granted_claims, is_open_since, is_probe, is_standing, standing_claims}
use Rattle.dl_history.proofs.Bools.{and_both, and_left, not_not, not_true, or_cases, true_not_false}
use Rattle.dl_history.proofs.Early.{below_end, first_in}
use Rattle.dl_history.proofs.Ends.{has_come, has_ended, has_more, stood_before_landing}
use Rattle.dl_history.proofs.Members.{Has, any_has, has_any, has_filter, in_filter}
use Rattle.dl_history.proofs.Sole.{in_run, run_has, unfound}
use Rattle.dl_history.proofs.Sound.{contains_of, has_of}
use Rattle.dl_history.proofs.Wrong.{landed_lands}

-- the runs land, one after another
abbrev pub landed_own : (id mirror : ℕ) → List Run → List OwnEvent → List OwnEvent
landed_own id mirror [] own = own
landed_own id mirror (run ∷ runs) own = landed_own id mirror runs (Lands id mirror run ∷ own)

-- ---- the next run

-- the claim stands, and each block of the run is open in it
pub record IsOpenFor (own : List OwnEvent) (claim : Claim) (run : Run) : Type 0 where
  pub granted : Has (granted_claims own) claim
  pub unended : has_ended own claim ≡ false
  pub some : 1 ≤ run.count
  pub blocks : (b : ℕ) → is_in b run ≡ true → is_open_since own claim b ≡ true

pub open_for : (own : List OwnEvent) (claim : Claim) (run : Run) → Contains (standing_claims own) claim → 1 ≤ run.count
    → ((b : ℕ) → is_in b run ≡ true → is_open_since own claim b ≡ true) → IsOpenFor own claim run
open_for own claim run there some blocks =
    let has = has_filter (is_standing own) (granted_claims own) claim (has_of (standing_claims own) claim there) in
    record {
      granted = has.0;
      unended = not_not (and_left (not (has_ended own claim)) (has_more own claim) has.1);
      some = some;
      blocks = blocks;
    }

kept_open : (inside landed before : Bool) → landed ≡ false → (inside && not before) ≡ true
    → (inside && not (landed || before)) ≡ true
kept_open inside true before none is = absurd cc
kept_open inside false before none is = is

not_in : (b : ℕ) (earlier run : Run) → earlier.first + earlier.count ≤ run.first → is_in b run ≡ true
    → is_in b earlier ≡ false
not_in b earlier run apart inside =
    not_true (is_in b earlier) (λ both.
    let low = leb-true run.first b (and_left (nat_le run.first b) (nat_lt b (run.first + run.count)) inside) in
    let high = below_end b earlier both in
    absurd (omega (arith, apart, low, high)))

open_next : (own : List OwnEvent) (claim : Claim) (run : Run) (id mirror : ℕ) (earlier : Run)
    → earlier.first + earlier.count ≤ run.first → IsOpenFor own claim run
    → IsOpenFor (Lands id mirror earlier ∷ own) claim run
open_next own claim run id mirror earlier apart is = record {
  granted = is.granted;
  unended = is.unended;
  some = is.some;
  blocks = λ b inside.
      kept_open (is_in b claim.run) (is_in b earlier) (has_come own claim b) (not_in b earlier run apart inside)
      (is.blocks b inside);
}

pub open_later : (id mirror : ℕ) (done : List Run) (own : List OwnEvent) (claim : Claim) (run : Run)
    → All (λ (earlier : Run). earlier.first + earlier.count ≤ run.first) done → IsOpenFor own claim run
    → IsOpenFor (landed_own id mirror done own) claim run
open_later id mirror [] own claim run apart is = is
open_later id mirror (x ∷ done) own claim run apart is =
    open_later id mirror done (Lands id mirror x ∷ own) claim run
    (All-tail (λ (earlier : Run). earlier.first + earlier.count ≤ run.first) x done apart)
    (open_next own claim run id mirror x
    (All-head (λ (earlier : Run). earlier.first + earlier.count ≤ run.first) x done apart) is)

found_some : (p : ℕ → Bool) (xs : List ℕ) (b : ℕ) → Has xs b → p b ≡ true → is_some (find p xs) ≡ true
found_some p xs b has is = by (is_some (find p xs)) refl
  where
    by : (t : Bool) → is_some (find p xs) ≡ t → is_some (find p xs) ≡ true
    by true some = some
    by false none = true_not_false (p b) is (unfound p xs none b has)

or_later_true : (a b : Bool) → b ≡ true → (a || b) ≡ true
or_later_true true b is = refl
or_later_true false b is = is

pub open_stands : (own : List OwnEvent) (claim : Claim) (run : Run) → IsOpenFor own claim run
    → Contains (standing_claims own) claim
open_stands own claim run is =
    let b = run.first in
    let opened = is.blocks b (first_in run is.some) in
    let inside = and_left (is_in b claim.run) (not (has_come own claim b)) opened in
    let more = found_some (is_open_since own claim) (blocks_in claim.run) b (run_has claim.run b inside) opened in
    contains_of (standing_claims own) claim
    (in_filter (is_standing own) (granted_claims own) claim is.granted
    (and_both (not (has_ended own claim)) (has_more own claim) (ap not is.unended)
    (or_later_true (is_probe claim) (is_some (find (is_open_since own claim) (blocks_in claim.run))) more)))

pub open_may_land : (own : List OwnEvent) (claim : Claim) (run : Run) → IsOpenFor own claim run
    → MayLand own claim.id claim.mirror run
open_may_land own claim run is = record {
  claim = claim;
  stands = open_stands own claim run is;
  id_is = refl;
  mirror_is = refl;
  some = is.some;
  open_in = is.blocks;
}

-- ---- what stood

pub stood_before : (id mirror : ℕ) (done : List Run) (own : List OwnEvent) (claim : Claim)
    → Contains (standing_claims (landed_own id mirror done own)) claim → Contains (standing_claims own) claim
stood_before id mirror [] own claim there = there
stood_before id mirror (x ∷ done) own claim there =
    let after = Lands id mirror x ∷ own in
    let has = has_filter (is_standing after) (granted_claims after) claim
    (has_of (standing_claims after) claim (stood_before id mirror done after claim there)) in
    contains_of (standing_claims own) claim
    (in_filter (is_standing own) (granted_claims own) claim has.0 (stood_before_landing own id mirror x claim has.1))

pub opened_same : (id mirror : ℕ) (done : List Run) (own : List OwnEvent)
    → is_opened (landed_own id mirror done own) ≡ is_opened own
opened_same id mirror [] own = refl
opened_same id mirror (x ∷ done) own = opened_same id mirror done (Lands id mirror x ∷ own)

pub verified_same : (id mirror : ℕ) (done : List Run) (own : List OwnEvent) (p : ℕ)
    → is_verified_in (landed_own id mirror done own) p ≡ is_verified_in own p
verified_same id mirror [] own p = refl
verified_same id mirror (x ∷ done) own p = verified_same id mirror done (Lands id mirror x ∷ own) p

pub legal_before : (total len id mirror : ℕ) (done : List Run) (own : List OwnEvent)
    → LegalOwn total len (landed_own id mirror done own) → LegalOwn total len own
legal_before total len id mirror [] own legal = legal
legal_before total len id mirror (x ∷ done) own legal =
    (legal_before total len id mirror done (Lands id mirror x ∷ own) legal).0

-- ---- pieces with no block of the runs

abbrev pub are_on : ℕ → List Run → ℕ → Bool
are_on len runs p = list_any (λ run. is_run_on len run p) runs

run_on : (len : ℕ) (run : Run) (p b : ℕ) → is_in b run ≡ true → piece_of len b ≡ p → is_run_on len run p ≡ true
run_on len run p b inside is =
    has_any (λ (x : ℕ). piece_of len x == p) (blocks_in run) b (run_has run b inside) (eq-eqb (piece_of len b) p is)

or_none : (a b : Bool) → (a || b) ≡ false → a ≡ false
or_none true b is = absurd cc
or_none false b is = refl

or_rest : (a b : Bool) → (a || b) ≡ false → b ≡ false
or_rest true b is = absurd cc
or_rest false b is = is

-- such a piece is as full as before
pub full_before : (total len id mirror : ℕ) (done : List Run) (own : List OwnEvent) (p : ℕ)
    → LegalOwn total len (landed_own id mirror done own) → are_on len done p ≡ false
    → IsFullIn total len (landed_own id mirror done own) p → IsFullIn total len own p
full_before total len id mirror [] own p legal none full b below is = full b below is
full_before total len id mirror (x ∷ done) own p legal none full b below is =
    let after = Lands id mirror x ∷ own in
    let there = full_before total len id mirror done after p legal
    (or_rest (is_run_on len x p) (are_on len done p) none) full b below is in
    let on = or_none (is_run_on len x p) (are_on len done p) none in
    or_cases (is_in b x) (is_landed_in len own b)
    (sym (landed_lands total len own id mirror x (legal_before total len id mirror done after legal) b below) ∙ there)
    (λ inside. true_not_false (is_run_on len x p) (run_on len x p b inside is) on) (λ landed. landed)

-- ---- pieces with one

settled_after : (len : ℕ) (own : List OwnEvent) (p id mirror : ℕ) (run : Run) (on : Bool) → is_run_on len run p ≡ on
    → is_settled_in len (Lands id mirror run ∷ own) p ≡ (not on && is_settled_in len own p)
settled_after len own p id mirror run true is = rw is refl
settled_after len own p id mirror run false is = rw is refl

still_unsettled : (len id mirror : ℕ) (done : List Run) (own : List OwnEvent) (p : ℕ) → is_settled_in len own p ≡ false
    → is_settled_in len (landed_own id mirror done own) p ≡ false
still_unsettled len id mirror [] own p none = none
still_unsettled len id mirror (x ∷ done) own p none =
    still_unsettled len id mirror done (Lands id mirror x ∷ own) p
    (settled_after len own p id mirror x (is_run_on len x p) refl
    ∙ (ap (λ (t : Bool). not (is_run_on len x p) && t) none ∙ and_false (not (is_run_on len x p))))
  where
    and_false : (a : Bool) → (a && false) ≡ false
    and_false true = refl
    and_false false = refl

pub unsettled : (len id mirror : ℕ) (done : List Run) (own : List OwnEvent) (p : ℕ) → are_on len done p ≡ true
    → is_settled_in len (landed_own id mirror done own) p ≡ false
unsettled len id mirror [] own p on = absurd cc
unsettled len id mirror (x ∷ done) own p on =
    by (is_run_on len x p) refl (unsettled len id mirror done (Lands id mirror x ∷ own) p)
  where
    by : (t : Bool) → is_run_on len x p ≡ t
        → (are_on len done p ≡ true → is_settled_in len (landed_own id mirror done (Lands id mirror x ∷ own)) p ≡ false)
        → is_settled_in len (landed_own id mirror (x ∷ done) own) p ≡ false
    by true here rest =
        still_unsettled len id mirror done (Lands id mirror x ∷ own) p
        (settled_after len own p id mirror x true here)
    by false none rest = rest (subst (λ (t : Bool). (t || are_on len done p) ≡ true) none on)

-- ---- pieces that the runs fill

-- the piece is full now, and wasn't
pub record IsNewlyFull (total len : ℕ) (before own : List OwnEvent) (p : ℕ) : Type 0 where
  pub now : IsFullIn total len own p
  pub unfilled : IsFullIn total len before p → ⊥

module _ (total len id mirror : ℕ) (done : List Run) (own : List OwnEvent) (plan : IsPlan total len)
    (legal : LegalOwn total len (landed_own id mirror done own)) (p : ℕ)
    (new : IsNewlyFull total len own (landed_own id mirror done own) p) where
  -- a block of it landed
  pub filled_on : are_on len done p ≡ true
  filled_on = by (are_on len done p) refl
    where
      by : (t : Bool) → are_on len done p ≡ t → are_on len done p ≡ true
      by true is = is
      by false none = absurd (new.unfilled (full_before total len id mirror done own p legal none new.now))

  pub filled_anew : is_settled_in len (landed_own id mirror done own) p ≡ false
  filled_anew = unsettled len id mirror done own p filled_on

  pub filled_unverified : VerifiedAreFull → p < pieces_of total len
      → is_verified_in (landed_own id mirror done own) p ≡ false
  filled_unverified law below =
      not_true (is_verified_in (landed_own id mirror done own) p)
      (λ is. new.unfilled (law total len own p plan (legal_before total len id mirror done own legal) below
      (sym (verified_same id mirror done own p) ∙ is)))

-- ---- the pieces of consecutive blocks

pub some_blocks : (total len : ℕ) → IsPlan total len → 0 < full_blocks len
some_blocks total len plan = omega (arith, plan.some)

pub pieces_rise : (total len b c : ℕ) → IsPlan total len → b ≤ c → piece_of len b ≤ piece_of len c
pieces_rise total len b c plan less =
    (le-div_iff_mul-le (some_blocks total len plan)).1
    (let down = div-mul-le_self b (full_blocks len) in omega (arith, down, less))

-- so many blocks on are at most so many pieces on
pub pieces_few : (total len b n : ℕ) → IsPlan total len → piece_of len (b + n) ≤ piece_of len b + n
pieces_few total len b zero plan =
    subst (λ (c : ℕ). piece_of len c ≤ piece_of len b + 0) (let e : b ≡ b + 0 = omega arith in e) (omega arith)
pieces_few total len b (suc n) plan =
    let before = pieces_few total len b n plan in
    let some = some_blocks total len plan in
    let rise = pieces_rise total len (b + n + 1) (full_blocks len + (b + n)) plan (omega (arith, some)) in
    let one = add-div_left (b + n) {k = full_blocks len} some in
    let here : piece_of len (b + n + 1) ≤ piece_of len b + suc n = omega (arith, before, rise, one) in
    subst (λ (c : ℕ). piece_of len c ≤ piece_of len b + suc n) (let e : b + n + 1 ≡ b + suc n = omega arith in e) here

-- one of the blocks is of the piece
pub on_a_run : (len : ℕ) (runs : List Run) (p : ℕ) → are_on len runs p ≡ true
    → (run : Run) × (b : ℕ) × Has runs run × (is_in b run ≡ true) × (piece_of len b ≡ p)
on_a_run len runs p on =
    let a = any_has (λ (run : Run). is_run_on len run p) runs on in
    let c = any_has (λ (x : ℕ). piece_of len x == p) (blocks_in a.0) a.2 in
    (a.0, c.0, a.1, in_run a.0 c.0 c.1, eqb-true (piece_of len c.0) p c.2)
