-- Where a block is from, before and behind an event.
use Rattle.std.proofs.Common.{◌≡◌, ◌⊎◌, ℕ, Bool, true, false, cond, eqb, List, [], ◌∷◌, refl, ap, inl, inr}
use Rattle.std.specs.Prelude.{◌&&◌, ◌||◌, not, slice_index_or}
use Rattle.std.specs.List.{list_any}
use Rattle.std.proofs.lemmas.Bool.{eq-eqb}
use Rattle.dl_kinds.specs.Plan.{piece_of}
use Rattle.dl_kinds.specs.declared.runs.Run.{Run}
use Rattle.piece_table.specs.Changes.{is_in, is_present, Source, Absent, Unknown, From}
use Rattle.dl_history.proofs.Alive.{alive_before_landing, alive_before_sizing, fewer, stands_as, stands_by}
use Rattle.dl_history.proofs.Bools.{or_cases, or_left, or_right, true_not_false}
use Rattle.dl_history.proofs.Facts.{alive_before_grant, facts, grant_facts, no_landing_yet}
use Rattle.dl_history.proofs.Members.{has_filter, has_from}
use Rattle.dl_history.proofs.Progress.{alive_before_loss}
use Rattle.dl_history.specs.OwnEvents.{Checks, Clears, Grants, Halts, Lands, Loses, Opens, OwnEvent, Saves, Settles, Sizes}
use Rattle.dl_history.specs.OwnLegal.{LegalOwn, MayLand}
use Rattle.dl_history.specs.PayloadParts.{is_alive, is_landed_in, is_sole_in, source_by, source_in}
use Rattle.dl_history.specs.StandingClaims.{granted_claims, has_given_all, is_standing, lands_block, lands_block_by, standing_claims, stands_in}

-- a claim that lands blocks stands
landing_stands : (own : List OwnEvent) (id m : ℕ) (run : Run) → MayLand own id m run → stands_in own id ≡ true
landing_stands own id m run may =
    let there = has_filter (is_standing own) (granted_claims own) may.claim
    (has_from (standing_claims own) may.claim may.stands.0 may.stands.1 may.stands.2) in
    stands_by own id may.claim there.0 there.1 (eq-eqb may.claim.id id may.id_is)

-- what lands wasn't landed
landing_unlanded : (total len : ℕ) (own : List OwnEvent) (id m : ℕ) (run : Run) (b : ℕ) → LegalOwn total len own
    → MayLand own id m run → is_in b run ≡ true → is_landed_in len own b ≡ false
landing_unlanded total len own id m run b legal may inside =
    let there = has_filter (is_standing own) (granted_claims own) may.claim
    (has_from (standing_claims own) may.claim may.stands.0 may.stands.1 may.stands.2) in
    (facts total len own legal).unlanded may.claim b there.0 there.1 (may.open_in b inside)

-- no claim stands behind a halt
halted_alive : (own : List OwnEvent) (ends : Bool) (c : ℕ) → is_alive (Halts ends ∷ own) c ≡ true
    → has_given_all own c ≡ true
halted_alive own ends c alive =
    or_cases (stands_in (Halts ends ∷ own) c) (has_given_all own c) alive
    (λ s. let r = stands_as (Halts ends ∷ own) c s in absurd (let bad = r.2 in cc)) (λ w. w)

-- a claim that landed a block and counts behind an event counted before it
alive_step : (total len : ℕ) (own : List OwnEvent) (e : OwnEvent) (c b : ℕ) → LegalOwn total len (e ∷ own)
    → list_any (lands_block_by c b) own ≡ true → is_alive (e ∷ own) c ≡ true → is_alive own c ≡ true
alive_step total len own (Opens verified blocks now) c b legal by is = is
alive_step total len own (Grants cl) c b legal by is =
    let f = facts total len own legal.0 in
    let may = grant_facts total len own cl legal.1 in
    alive_before_grant total len own cl c may (no_landing_yet total len own cl c b f may by) is
alive_step total len own (Lands id m run) c b legal by is =
    alive_before_landing own id m run (landing_stands own id m run legal.1) c is
alive_step total len own (Settles p right giver) c b legal by is = is
alive_step total len own (Clears p) c b legal by is = is
alive_step total len own (Loses id m p mark) c b legal by is = alive_before_loss own id m p mark c is
alive_step total len own (Sizes id told) c b legal by is = alive_before_sizing own id told c is
alive_step total len own (Saves now) c b legal by is = is
alive_step total len own (Checks right) c b legal by is = is
alive_step total len own (Halts ends) c b legal by is =
    or_right (stands_in own c) (has_given_all own c) (halted_alive own ends c is)

-- ---- where more claims count

lands_more : (t s v w : Bool) (n m : ℕ) (x y : Source) → (t ≡ true → v ≡ true → w ≡ true)
    → (t ≡ true → x ≡ From m → ⊥) → (t ≡ false → x ≡ From m → y ≡ From m)
    → cond (t && (not s || v)) (From n) x ≡ From m → cond (t && (not s || w)) (From n) y ≡ From m
lands_more false s v w n m x y keep never rest h = rest refl h
lands_more true false v w n m x y keep never rest h = h
lands_more true true true w n m x y keep never rest h = rw (keep refl refl) h
lands_more true true false w n m x y keep never rest h = absurd (never refl h)

clears_more : (t : Bool) (m : ℕ) (x y : Source) → (x ≡ From m → y ≡ From m) → cond t Absent x ≡ From m
    → cond t Absent y ≡ From m
clears_more true m x y rest h = h
clears_more false m x y rest h = rest h

-- a block that a mirror gave where few claims count is from it where more do that counted
from_more : (total len : ℕ) (own : List OwnEvent) → LegalOwn total len own → (few many : ℕ → Bool) (b m : ℕ)
    → ((c : ℕ) → list_any (lands_block_by c b) own ≡ true → few c ≡ true → many c ≡ true)
    → ((c : ℕ) → list_any (lands_block_by c b) own ≡ true → many c ≡ true → is_alive own c ≡ true)
    → source_by few (piece_of len b) b own ≡ From m → source_by many (piece_of len b) b own ≡ From m
from_more total len [] legal few many b m up top h = h
from_more total len (Opens verified blocks now ∷ own) legal few many b m up top h = h
from_more total len (Grants cl ∷ own) legal few many b m up top h =
    from_more total len own legal.0 few many b m up
    (λ c by is. alive_step total len own (Grants cl) c b legal by (top c by is)) h
from_more total len (Lands id n run ∷ own) legal few many b m up top h =
    let old = λ (c : ℕ) (by : list_any (lands_block_by c b) own ≡ true).
    or_right (lands_block_by c b (Lands id n run)) (list_any (lands_block_by c b) own) by in
    let was = λ (c : ℕ) (by : list_any (lands_block_by c b) own ≡ true) (is : many c ≡ true).
    alive_step total len own (Lands id n run) c b legal by (top c (old c by) is) in
    lands_more (is_in b run) (is_sole_in own (piece_of len b)) (few id) (many id) n m
    (source_by few (piece_of len b) b own) (source_by many (piece_of len b) b own)
    (λ here counts. up id
    (or_left (eqb id id && is_in b run) (list_any (lands_block_by id b) own) (rw (eq-eqb id id refl, here) refl)) counts)
    (λ here is. true_not_false (is_landed_in len own b)
    (fewer own few (is_alive own) (piece_of len b) b (λ c by counts. was c by (up c (old c by) counts)) (ap is_present is))
    (landing_unlanded total len own id n run b legal.0 legal.1 here))
    (λ away. from_more total len own legal.0 few many b m (λ c by. up c (old c by)) was) h
from_more total len (Settles p right giver ∷ own) legal few many b m up top h =
    from_more total len own legal.0 few many b m up
    (λ c by is. alive_step total len own (Settles p right giver) c b legal by (top c by is)) h
from_more total len (Clears p ∷ own) legal few many b m up top h =
    clears_more (eqb p (piece_of len b)) m (source_by few (piece_of len b) b own) (source_by many (piece_of len b) b own)
    (from_more total len own legal.0 few many b m up
    (λ c by is. alive_step total len own (Clears p) c b legal by (top c by is))) h
from_more total len (Loses id n p mark ∷ own) legal few many b m up top h =
    from_more total len own legal.0 few many b m up
    (λ c by is. alive_step total len own (Loses id n p mark) c b legal by (top c by is)) h
from_more total len (Sizes id told ∷ own) legal few many b m up top h =
    from_more total len own legal.0 few many b m up
    (λ c by is. alive_step total len own (Sizes id told) c b legal by (top c by is)) h
from_more total len (Saves now ∷ own) legal few many b m up top h =
    from_more total len own legal.0 few many b m up
    (λ c by is. alive_step total len own (Saves now) c b legal by (top c by is)) h
from_more total len (Checks right ∷ own) legal few many b m up top h =
    from_more total len own legal.0 few many b m up
    (λ c by is. alive_step total len own (Checks right) c b legal by (top c by is)) h
from_more total len (Halts ends ∷ own) legal few many b m up top h =
    from_more total len own legal.0 few many b m up
    (λ c by is. alive_step total len own (Halts ends) c b legal by (top c by is)) h

-- ---- an event

-- the event lands the block, by the mirror
pub record LandsFrom (b m : ℕ) (e : OwnEvent) : Type 0 where
  pub id : ℕ
  pub run : Run
  pub is : e ≡ Lands id m run
  pub inside : is_in b run ≡ true

-- the block was from the mirror before the event, which doesn't land it
abbrev pub WasFrom : ℕ → ℕ → ℕ → OwnEvent → List OwnEvent → Type 0
WasFrom len b m e own = (source_in len own b ≡ From m) × (lands_block b e ≡ false)

opens_step : (t : Bool) (m : ℕ) {P : Type 0} → cond t Unknown Absent ≡ From m → P
opens_step true m h = absurd cc
opens_step false m h = absurd cc

clears_step : (t : Bool) (m : ℕ) (x : Source) → cond t Absent x ≡ From m → x ≡ From m
clears_step true m x h = absurd cc
clears_step false m x h = h

lands_step : (t s v : Bool) (n m : ℕ) (x : Source) {P : Type 0} → (t ≡ true → n ≡ m → P)
    → (t ≡ true → x ≡ From m → P) → (t ≡ false → x ≡ From m → P)
    → cond (t && (not s || v)) (From n) x ≡ From m → P
lands_step false s v n m x now never rest h = rest refl h
lands_step true false v n m x now never rest h = now refl cc
lands_step true true true n m x now never rest h = now refl cc
lands_step true true false n m x now never rest h = never refl h

module _ (total len : ℕ) (own : List OwnEvent) (e : OwnEvent) (b m : ℕ) (legal : LegalOwn total len (e ∷ own))
    (legal_own : LegalOwn total len own) where
  was_from : source_by (is_alive (e ∷ own)) (piece_of len b) b own ≡ From m → source_in len own b ≡ From m
  was_from = from_more total len own legal_own (is_alive (e ∷ own)) (is_alive own) b m
      (λ c by. alive_step total len own e c b legal by) (λ c by is. is)

-- a block that is from a mirror was landed by the event, or was from it before
pub source_step : (total len : ℕ) (own : List OwnEvent) (e : OwnEvent) (b m : ℕ) → LegalOwn total len (e ∷ own)
    → source_in len (e ∷ own) b ≡ From m → LandsFrom b m e ⊎ WasFrom len b m e own
source_step total len own (Opens verified blocks now) b m legal h = opens_step (slice_index_or blocks b false) m h
source_step total len own (Grants cl) b m legal h =
    inr (was_from total len own (Grants cl) b m legal legal.0 h, refl)
source_step total len own (Lands id n run) b m legal h =
    lands_step (is_in b run) (is_sole_in own (piece_of len b)) (is_alive (Lands id n run ∷ own) id) n m
    (source_by (is_alive (Lands id n run ∷ own)) (piece_of len b) b own)
    (λ here same. inl (record { id = id; run = run; is = ap (λ (k : ℕ). Lands id k run) same; inside = here }))
    (λ here is. true_not_false (is_landed_in len own b)
    (ap is_present (was_from total len own (Lands id n run) b m legal legal.0 is))
    (landing_unlanded total len own id n run b legal.0 legal.1 here))
    (λ away is. inr (was_from total len own (Lands id n run) b m legal legal.0 is, away)) h
source_step total len own (Settles p right giver) b m legal h =
    inr (was_from total len own (Settles p right giver) b m legal legal.0 h, refl)
source_step total len own (Clears p) b m legal h =
    inr (
      was_from total len own (Clears p) b m legal legal.0
          (clears_step (eqb p (piece_of len b)) m (source_by (is_alive (Clears p ∷ own)) (piece_of len b) b own) h),
      refl,
    )
source_step total len own (Loses id n p mark) b m legal h =
    inr (was_from total len own (Loses id n p mark) b m legal legal.0 h, refl)
source_step total len own (Sizes id told) b m legal h =
    inr (was_from total len own (Sizes id told) b m legal legal.0 h, refl)
source_step total len own (Saves now) b m legal h =
    inr (was_from total len own (Saves now) b m legal legal.0 h, refl)
source_step total len own (Checks right) b m legal h =
    inr (was_from total len own (Checks right) b m legal legal.0 h, refl)
source_step total len own (Halts ends) b m legal h =
    inr (was_from total len own (Halts ends) b m legal legal.0 h, refl)
