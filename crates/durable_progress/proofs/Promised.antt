-- What is held of an opened download keeps the promises of its saves.
use Rattle.std.proofs.Common.{◌≡◌, inl, inr, ⊎_elim, ℕ, ◌<◌, Bool, true, false, cond, eqb, List, [], ◌∷◌, length, get_or, slice_get, Some, refl, sym, ◌∙◌, subst, arith}
use Rattle.std.specs.Prelude.{◌&&◌, ◌||◌, ◌++◌, ◌⊎◌, not}
use Rattle.std.specs.List.{list_any}
use Rattle.std.proofs.lemmas.Bool.{cases_lt, eq-eqb, eqb-true}
use Rattle.std.proofs.lemmas.Option.{get_or_from_slice_get}
use Rattle.std.proofs.Math.ListN.{get_or-eq_default}
use Rattle.dl_disk.specs.Files.{Files}
use Rattle.dl_kinds.specs.Plan.{IsPlan, blocks_of, pieces_of, piece_of}
use Rattle.dl_kinds.specs.declared.runs.Run.{Run}
use Rattle.control_file.specs.Laws.{WrittenIsReadBack}
use Rattle.control_file.specs.Wants.{IsListedWant}
use Rattle.control_file.specs.declared.want.Want.{Want}
use Rattle.piece_table.specs.Changes.{Absent, From, Unknown, is_in, is_present}
use Rattle.dl_history.specs.HistoryLaws.{FindsWrong, HistoriesAreSound}
use Rattle.dl_history.specs.Listings.{is_block_listed, last_listing, listing_in}
use Rattle.dl_history.specs.OwnEvents.{OwnEvent, Opens, Grants, Lands, Settles, Clears, Loses, Sizes, Saves, Checks, Halts}
use Rattle.dl_history.specs.OwnLegal.{LegalOwn}
use Rattle.dl_history.specs.PayloadParts.{counts, is_alive, is_landed_in, is_opened, is_opening, is_verified_in, source_by, verifies}
use Rattle.dl_history.proofs.Early.{below_end}
use Rattle.dl_history.proofs.Bools.{and_left, and_right, not_not, or_cases, or_later, or_left, or_right, true_not_false}
use Rattle.resume_core.specs.Resume.{HasDigest}
use Rattle.resume_core.specs.Steps.{SameFor, IsFinished}
use Rattle.resume_core.specs.Wants.{files_in}
use Rattle.resume_core.proofs.Same.{give_same}
use Rattle.durable_progress.specs.Held.{GivesListing, IsHeld}
use Rattle.durable_progress.specs.Promises.{GivesPromised, HoldsPromised, StandsWhole, finds_wrong, is_block_promised, is_block_saved, is_piece_promised, is_piece_saved}
use Rattle.durable_progress.specs.PromiseLaws.{IsOpenedOwn}
use Rattle.durable_progress.proofs.Holding.{held_gives}
use Rattle.durable_progress.proofs.Listings.{row_true, true_row}

-- a place of a row that is true is one of the row's
true_within : (row : List Bool) (i : ℕ) → get_or row i false ≡ true → i < length row
true_within row i is = ⊎_elim (λ below. below)
    (λ past. true_not_false (get_or row i false) is (get_or-eq_default row false past))
    (cases_lt i (length row))

-- ---- verified pieces

verified_on : (total len p : ℕ) (e : OwnEvent) (before : List OwnEvent) → LegalOwn total len (e ∷ before)
    → (is_verified_in before p ≡ true → p < pieces_of total len × (is_opened before ≡ true))
    → verifies p e ≡ true → p < pieces_of total len × ((is_opening e || is_opened before) ≡ true)
verified_on total len p (Opens verified blocks now) before legal rest is =
    (omega (arith, true_within verified p is, legal.1.start.pieces), refl)
verified_on total len p (Settles piece right giver) before legal rest is =
    (subst (λ (n : ℕ). n < pieces_of total len) (eqb-true piece p (and_left _ right is)) legal.1.within, legal.1.opened)
verified_on total len p (Grants claim) before legal rest is = absurd cc
verified_on total len p (Lands id mirror run) before legal rest is = absurd cc
verified_on total len p (Clears piece) before legal rest is = absurd cc
verified_on total len p (Loses id mirror piece mark) before legal rest is = absurd cc
verified_on total len p (Sizes id told) before legal rest is = absurd cc
verified_on total len p (Saves now) before legal rest is = absurd cc
verified_on total len p (Checks right) before legal rest is = absurd cc
verified_on total len p (Halts ends) before legal rest is = absurd cc

-- a verified piece is one of the plan, of a download that is opened
pub verified : (total len p : ℕ) (own : List OwnEvent) → LegalOwn total len own → is_verified_in own p ≡ true
    → p < pieces_of total len × (is_opened own ≡ true)
verified total len p [] legal is = absurd cc
verified total len p (e ∷ before) legal is = or_cases (verifies p e) (is_verified_in before p) is
    (λ now. verified_on total len p e before legal (verified total len p before legal.0) now)
    (λ was. let rest = verified total len p before legal.0 was in (rest.0, or_right (is_opening e) (is_opened before) rest.1))

pub saved_verified : (p : ℕ) (own : List OwnEvent) → is_piece_saved own p ≡ true → is_verified_in own p ≡ true
saved_verified p [] is = absurd cc
saved_verified p (Saves now ∷ before) is = or_cases (is_verified_in before p) (is_piece_saved before p) is
    (λ was. was) (λ saved. saved_verified p before saved)
saved_verified p (Opens rows blocks now ∷ before) is = or_right (verifies p (Opens rows blocks now)) _ (saved_verified p before is)
saved_verified p (Grants claim ∷ before) is = saved_verified p before is
saved_verified p (Lands id mirror run ∷ before) is = saved_verified p before is
saved_verified p (Settles piece right giver ∷ before) is =
    or_right (verifies p (Settles piece right giver)) _ (saved_verified p before is)
saved_verified p (Clears piece ∷ before) is = saved_verified p before is
saved_verified p (Loses id mirror piece mark ∷ before) is = saved_verified p before is
saved_verified p (Sizes id told ∷ before) is = saved_verified p before is
saved_verified p (Checks right ∷ before) is = saved_verified p before is
saved_verified p (Halts ends ∷ before) is = saved_verified p before is

-- what is verified stays so
pub verified_later : (p : ℕ) (later own : List OwnEvent) → is_verified_in own p ≡ true → is_verified_in (later ++ own) p ≡ true
verified_later p [] own is = is
verified_later p (e ∷ later) own is = or_right (verifies p e) _ (verified_later p later own is)

-- a listed piece is verified
pub listed_verified : (total len p : ℕ) (own : List OwnEvent) → slice_get (last_listing total len own).pieces p ≡ Some true
    → is_verified_in own p ≡ true
listed_verified total len p [] is = absurd cc
listed_verified total len p (Opens rows blocks now ∷ before) is =
    or_left (get_or rows p false) (is_verified_in before p) (get_or_from_slice_get rows p true false is)
listed_verified total len p (Saves now ∷ before) is = (row_true (is_verified_in before) (pieces_of total len) p is).1
listed_verified total len p (Settles piece right giver ∷ before) is =
    or_right (verifies p (Settles piece right giver)) _ (listed_verified total len p before is)
listed_verified total len p (Grants claim ∷ before) is = listed_verified total len p before is
listed_verified total len p (Lands id mirror run ∷ before) is = listed_verified total len p before is
listed_verified total len p (Clears piece ∷ before) is = listed_verified total len p before is
listed_verified total len p (Loses id mirror piece mark ∷ before) is = listed_verified total len p before is
listed_verified total len p (Sizes id told ∷ before) is = listed_verified total len p before is
listed_verified total len p (Checks right ∷ before) is = listed_verified total len p before is
listed_verified total len p (Halts ends ∷ before) is = listed_verified total len p before is

-- each verified piece is listed by a save
pub verified_listed : (total len p : ℕ) (own : List OwnEvent) → LegalOwn total len own → is_verified_in own p ≡ true
    → slice_get (listing_in total len own).pieces p ≡ Some true
verified_listed total len p own legal is =
    true_row (is_verified_in own) (pieces_of total len) p (verified total len p own legal is).0 is

-- each saved piece is listed by the last save
saved_listed : (total len p : ℕ) (own : List OwnEvent) → LegalOwn total len own → is_piece_saved own p ≡ true
    → slice_get (last_listing total len own).pieces p ≡ Some true
saved_listed total len p [] legal is = absurd cc
saved_listed total len p (Saves now ∷ before) legal is =
    verified_listed total len p before legal.0
    (or_cases (is_verified_in before p) (is_piece_saved before p) is (λ was. was) (λ saved. saved_verified p before saved))
saved_listed total len p (Opens rows blocks now ∷ before) legal is =
    true_not_false (is_opened before) (verified total len p before legal.0 (saved_verified p before is)).1 legal.1.first
saved_listed total len p (Grants claim ∷ before) legal is = saved_listed total len p before legal.0 is
saved_listed total len p (Lands id mirror run ∷ before) legal is = saved_listed total len p before legal.0 is
saved_listed total len p (Settles piece right giver ∷ before) legal is = saved_listed total len p before legal.0 is
saved_listed total len p (Clears piece ∷ before) legal is = saved_listed total len p before legal.0 is
saved_listed total len p (Loses id mirror piece mark ∷ before) legal is = saved_listed total len p before legal.0 is
saved_listed total len p (Sizes id told ∷ before) legal is = saved_listed total len p before legal.0 is
saved_listed total len p (Checks right ∷ before) legal is = saved_listed total len p before legal.0 is
saved_listed total len p (Halts ends ∷ before) legal is = saved_listed total len p before legal.0 is

-- .. and by later ones
pub pieces_stay : (total len p : ℕ) (later own : List OwnEvent) → LegalOwn total len (later ++ own)
    → slice_get (last_listing total len own).pieces p ≡ Some true
    → slice_get (last_listing total len (later ++ own)).pieces p ≡ Some true
pieces_stay total len p [] own legal is = is
pieces_stay total len p (Saves now ∷ later) own legal is =
    verified_listed total len p (later ++ own) legal.0 (verified_later p later own (listed_verified total len p own is))
pieces_stay total len p (Opens rows blocks now ∷ later) own legal is =
    let was = verified_later p later own (listed_verified total len p own is) in
    true_not_false (is_opened (later ++ own)) (verified total len p (later ++ own) legal.0 was).1 legal.1.first
pieces_stay total len p (Grants claim ∷ later) own legal is = pieces_stay total len p later own legal.0 is
pieces_stay total len p (Lands id mirror run ∷ later) own legal is = pieces_stay total len p later own legal.0 is
pieces_stay total len p (Settles piece right giver ∷ later) own legal is = pieces_stay total len p later own legal.0 is
pieces_stay total len p (Clears piece ∷ later) own legal is = pieces_stay total len p later own legal.0 is
pieces_stay total len p (Loses id mirror piece mark ∷ later) own legal is = pieces_stay total len p later own legal.0 is
pieces_stay total len p (Sizes id told ∷ later) own legal is = pieces_stay total len p later own legal.0 is
pieces_stay total len p (Checks right ∷ later) own legal is = pieces_stay total len p later own legal.0 is
pieces_stay total len p (Halts ends ∷ later) own legal is = pieces_stay total len p later own legal.0 is

pub legal_before : (total len : ℕ) (later own : List OwnEvent) → LegalOwn total len (later ++ own) → LegalOwn total len own
legal_before total len [] own legal = legal
legal_before total len (e ∷ later) own legal = legal_before total len later own legal.0

pub saved_stay : (total len p : ℕ) (later own : List OwnEvent) → LegalOwn total len (later ++ own)
    → is_piece_saved own p ≡ true → slice_get (last_listing total len (later ++ own)).pieces p ≡ Some true
saved_stay total len p later own legal is =
    pieces_stay total len p later own legal (saved_listed total len p own (legal_before total len later own legal) is)

-- ---- landed blocks are the payload's

module _ (sound : HistoriesAreSound) (total len : ℕ) (alive : ℕ → Bool) (p b : ℕ) where
  landing_cases : (t : Bool) (id mirror : ℕ) (run : Run) (before : List OwnEvent)
      → LegalOwn total len (Lands id mirror run ∷ before)
      → (is_present (source_by alive p b before) ≡ true → b < blocks_of total len)
      → (is_in b run && counts alive before p id) ≡ t
      → is_present (cond t (From mirror) (source_by alive p b before)) ≡ true → b < blocks_of total len
  landing_cases true id mirror run before legal rest is present =
      let within = (sound.landings total len before id mirror run legal.0 legal.1).within in
      omega (arith, within, below_end b run (and_left (is_in b run) _ is))
  landing_cases false id mirror run before legal rest is present = rest present

  opening_cases : (t : Bool) → is_present (cond t Unknown Absent) ≡ true → t ≡ true
  opening_cases true is = refl
  opening_cases false is = absurd cc

  clearing_cases : (t : Bool) (before : List OwnEvent)
      → (is_present (source_by alive p b before) ≡ true → b < blocks_of total len)
      → is_present (cond t Absent (source_by alive p b before)) ≡ true → b < blocks_of total len
  clearing_cases true before rest is = absurd cc
  clearing_cases false before rest is = rest is

  present_within : (own : List OwnEvent) → LegalOwn total len own → is_present (source_by alive p b own) ≡ true
      → b < blocks_of total len
  present_within [] legal is = absurd cc
  present_within (Opens rows blocks now ∷ before) legal is =
      omega (arith, true_within blocks b (opening_cases (get_or blocks b false) is), legal.1.start.blocks)
  present_within (Lands id mirror run ∷ before) legal is =
      landing_cases (is_in b run && counts alive before p id) id mirror run before legal (present_within before legal.0) refl is
  present_within (Clears piece ∷ before) legal is =
      clearing_cases (eqb piece p) before (present_within before legal.0) is
  present_within (Grants claim ∷ before) legal is = present_within before legal.0 is
  present_within (Settles piece right giver ∷ before) legal is = present_within before legal.0 is
  present_within (Loses id mirror piece mark ∷ before) legal is = present_within before legal.0 is
  present_within (Sizes id told ∷ before) legal is = present_within before legal.0 is
  present_within (Saves now ∷ before) legal is = present_within before legal.0 is
  present_within (Checks right ∷ before) legal is = present_within before legal.0 is
  present_within (Halts ends ∷ before) legal is = present_within before legal.0 is

-- ---- saved blocks

saved_opened : (total len b : ℕ) (own : List OwnEvent) → LegalOwn total len own → is_block_saved len own b ≡ true
    → is_opened own ≡ true
saved_opened total len b [] legal is = absurd cc
saved_opened total len b (Saves now ∷ before) legal is = legal.1.opened
saved_opened total len b (Opens rows blocks now ∷ before) legal is = refl
saved_opened total len b (Settles piece right giver ∷ before) legal is = legal.1.opened
saved_opened total len b (Grants claim ∷ before) legal is = saved_opened total len b before legal.0 is
saved_opened total len b (Lands id mirror run ∷ before) legal is = saved_opened total len b before legal.0 is
saved_opened total len b (Clears piece ∷ before) legal is = saved_opened total len b before legal.0 is
saved_opened total len b (Loses id mirror piece mark ∷ before) legal is = saved_opened total len b before legal.0 is
saved_opened total len b (Sizes id told ∷ before) legal is = saved_opened total len b before legal.0 is
saved_opened total len b (Checks right ∷ before) legal is = saved_opened total len b before legal.0 is
saved_opened total len b (Halts ends ∷ before) legal is = saved_opened total len b before legal.0 is

-- each saved block is listed by the last save
block_listed : (sound : HistoriesAreSound) (total len b : ℕ) (own : List OwnEvent) → LegalOwn total len own
    → is_block_saved len own b ≡ true → slice_get (last_listing total len own).blocks b ≡ Some true
block_listed sound total len b [] legal is = absurd cc
block_listed sound total len b (Saves now ∷ before) legal is =
    let landed = and_left (is_landed_in len before b) _ is in
    let within = present_within sound total len (is_alive before) (piece_of len b) b before legal.0 landed in
    true_row (is_block_listed len before) (blocks_of total len) b within is
block_listed sound total len b (Opens rows blocks now ∷ before) legal is =
    true_not_false (is_opened before) (saved_opened total len b before legal.0 is) legal.1.first
block_listed sound total len b (Settles piece right giver ∷ before) legal is =
    block_listed sound total len b before legal.0
    (and_right (not (finds_wrong (piece_of len b) (Settles piece right giver))) _ is)
block_listed sound total len b (Grants claim ∷ before) legal is = block_listed sound total len b before legal.0 is
block_listed sound total len b (Lands id mirror run ∷ before) legal is = block_listed sound total len b before legal.0 is
block_listed sound total len b (Clears piece ∷ before) legal is = block_listed sound total len b before legal.0 is
block_listed sound total len b (Loses id mirror piece mark ∷ before) legal is =
    block_listed sound total len b before legal.0 is
block_listed sound total len b (Sizes id told ∷ before) legal is = block_listed sound total len b before legal.0 is
block_listed sound total len b (Checks right ∷ before) legal is = block_listed sound total len b before legal.0 is
block_listed sound total len b (Halts ends ∷ before) legal is = block_listed sound total len b before legal.0 is

opened_later : (later own : List OwnEvent) → is_opened own ≡ true → is_opened (later ++ own) ≡ true
opened_later [] own is = is
opened_later (e ∷ later) own is = or_right (is_opening e) _ (opened_later later own is)

or_first : (a b : Bool) → (a || b) ≡ false → a ≡ false
or_first true b none = absurd cc
or_first false b none = refl

is_not : (a : Bool) → a ≡ false → not a ≡ true
is_not true is = absurd cc
is_not false is = refl

-- the event doesn't find the piece wrong
not_wrong : (p : ℕ) (e : OwnEvent) → not (finds_wrong p e) ≡ true → FindsWrong p e → ⊥
not_wrong p (Settles piece right giver) none is = true_not_false (finds_wrong p (Settles piece right giver))
    (rw (eq-eqb piece p is.0, is.1) refl) (not_not none)
not_wrong p (Opens rows blocks now) none is = is
not_wrong p (Grants claim) none is = is
not_wrong p (Lands id mirror run) none is = is
not_wrong p (Clears piece) none is = is
not_wrong p (Loses id mirror piece mark) none is = is
not_wrong p (Sizes id told) none is = is
not_wrong p (Saves now) none is = is
not_wrong p (Checks right) none is = is
not_wrong p (Halts ends) none is = is

pub both_true : (a b : Bool) → a ≡ true → b ≡ true → (a && b) ≡ true
both_true true b first second = second
both_true false b first second = absurd cc

pub any_front : (f : OwnEvent → Bool) (xs ys : List OwnEvent) → list_any f (xs ++ ys) ≡ false → list_any f xs ≡ false
any_front f [] ys none = refl
any_front f (x ∷ xs) ys none = by (f x) (or_first (f x) _ none) (any_front f xs ys (or_later (f x) _ none))
  where
    by : (b : Bool) → b ≡ false → list_any f xs ≡ false → (b || list_any f xs) ≡ false
    by true here rest = absurd cc
    by false here rest = rest

pub any_back : (f : OwnEvent → Bool) (xs ys : List OwnEvent) → list_any f (xs ++ ys) ≡ false → list_any f ys ≡ false
any_back f [] ys none = none
any_back f (x ∷ xs) ys none = any_back f xs ys (or_later (f x) _ none)

module _ (sound : HistoriesAreSound) (total len b : ℕ) (plan : IsPlan total len) where
  listed_within : (own : List OwnEvent) → LegalOwn total len own → is_block_listed len own b ≡ true → b < blocks_of total len
  listed_within own legal is =
      present_within sound total len (is_alive own) (piece_of len b) b own legal (and_left (is_landed_in len own b) _ is)

  -- a save would list the block still after an event that doesn't find its piece wrong
  listed_on : (e : OwnEvent) (own : List OwnEvent) → LegalOwn total len (e ∷ own) → not (finds_wrong (piece_of len b) e) ≡ true
      → is_block_listed len own b ≡ true → is_block_listed len (e ∷ own) b ≡ true
  listed_on e own legal none is =
      sound.listed total len own e b plan legal (listed_within own legal.0 is) (not_wrong (piece_of len b) e none) is

  -- a saved block would be listed again
  saved_still : (own : List OwnEvent) → LegalOwn total len own → is_block_saved len own b ≡ true
      → is_block_listed len own b ≡ true
  saved_still [] legal is = absurd cc
  saved_still (Saves now ∷ before) legal is = listed_on (Saves now) before legal refl is
  saved_still (Opens rows blocks now ∷ before) legal is =
      listed_on (Opens rows blocks now) before legal refl (saved_still before legal.0 is)
  saved_still (Settles piece right giver ∷ before) legal is =
      let none = and_left (not (finds_wrong (piece_of len b) (Settles piece right giver))) _ is in
      let was = and_right (not (finds_wrong (piece_of len b) (Settles piece right giver))) _ is in
      listed_on (Settles piece right giver) before legal none (saved_still before legal.0 was)
  saved_still (Grants claim ∷ before) legal is = listed_on (Grants claim) before legal refl (saved_still before legal.0 is)
  saved_still (Lands id mirror run ∷ before) legal is =
      listed_on (Lands id mirror run) before legal refl (saved_still before legal.0 is)
  saved_still (Clears piece ∷ before) legal is = listed_on (Clears piece) before legal refl (saved_still before legal.0 is)
  saved_still (Loses id mirror piece mark ∷ before) legal is =
      listed_on (Loses id mirror piece mark) before legal refl (saved_still before legal.0 is)
  saved_still (Sizes id told ∷ before) legal is = listed_on (Sizes id told) before legal refl (saved_still before legal.0 is)
  saved_still (Checks right ∷ before) legal is = listed_on (Checks right) before legal refl (saved_still before legal.0 is)
  saved_still (Halts ends ∷ before) legal is = listed_on (Halts ends) before legal refl (saved_still before legal.0 is)

  -- no event finds its piece wrong
  abbrev None : List OwnEvent → Type 0
  None later = list_any (finds_wrong (piece_of len b)) later ≡ false

  still_listed : (later own : List OwnEvent) → LegalOwn total len (later ++ own) → None later
      → is_block_listed len own b ≡ true → is_block_listed len (later ++ own) b ≡ true
  still_listed [] own legal none is = is
  still_listed (e ∷ later) own legal none is =
      listed_on e (later ++ own) legal (is_not (finds_wrong (piece_of len b) e) (or_first (finds_wrong (piece_of len b) e) _ none))
      (still_listed later own legal.0 (or_later (finds_wrong (piece_of len b) e) _ none) is)

  -- a saved block is listed by each later save
  blocks_stay : (later own : List OwnEvent) → LegalOwn total len (later ++ own) → None later
      → is_block_saved len own b ≡ true → slice_get (last_listing total len (later ++ own)).blocks b ≡ Some true
  blocks_stay [] own legal none is = block_listed sound total len b own legal is
  blocks_stay (Saves now ∷ later) own legal none is =
      let was = still_listed later own legal.0 none (saved_still own (legal_before total len later own legal.0) is) in
      true_row (is_block_listed len (later ++ own)) (blocks_of total len) b (listed_within (later ++ own) legal.0 was) was
  blocks_stay (Opens rows blocks now ∷ later) own legal none is =
      let here = saved_opened total len b own (legal_before total len later own legal.0) is in
      true_not_false (is_opened (later ++ own)) (opened_later later own here) legal.1.first
  blocks_stay (Settles piece right giver ∷ later) own legal none is =
      blocks_stay later own legal.0 (or_later (finds_wrong (piece_of len b) (Settles piece right giver)) _ none) is
  blocks_stay (Grants claim ∷ later) own legal none is = blocks_stay later own legal.0 none is
  blocks_stay (Lands id mirror run ∷ later) own legal none is = blocks_stay later own legal.0 none is
  blocks_stay (Clears piece ∷ later) own legal none is = blocks_stay later own legal.0 none is
  blocks_stay (Loses id mirror piece mark ∷ later) own legal none is = blocks_stay later own legal.0 none is
  blocks_stay (Sizes id told ∷ later) own legal none is = blocks_stay later own legal.0 none is
  blocks_stay (Checks right ∷ later) own legal none is = blocks_stay later own legal.0 none is
  blocks_stay (Halts ends ∷ later) own legal none is = blocks_stay later own legal.0 none is

  pub promised_stay : (later own : List OwnEvent) → LegalOwn total len (later ++ own)
      → is_block_promised len later own b ≡ true → slice_get (last_listing total len (later ++ own)).blocks b ≡ Some true
  promised_stay later own legal is =
      let wrong = list_any (finds_wrong (piece_of len b)) later in
      blocks_stay later own legal (not_not (and_left (not wrong) _ is)) (and_right (not wrong) _ is)

  -- .. and by a save now
  pub promised_listed : (later own : List OwnEvent) → LegalOwn total len (later ++ own)
      → is_block_promised len later own b ≡ true → slice_get (listing_in total len (later ++ own)).blocks b ≡ Some true
  promised_listed later own legal is =
      let wrong = list_any (finds_wrong (piece_of len b)) later in
      let saved = and_right (not wrong) _ is in
      let listed = still_listed later own legal (not_not (and_left (not wrong) _ is))
      (saved_still own (legal_before total len later own legal) saved) in
      true_row (is_block_listed len (later ++ own)) (blocks_of total len) b (listed_within (later ++ own) legal listed) listed

  -- a block that stays promised while these events come is promised by them
  saved_longer : (more own : List OwnEvent) → LegalOwn total len (more ++ own) → None more → is_block_saved len own b ≡ true
      → is_block_saved len (more ++ own) b ≡ true
  saved_longer [] own legal none is = is
  saved_longer (Saves now ∷ more) own legal none is =
      still_listed more own legal.0 none (saved_still own (legal_before total len more own legal.0) is)
  saved_longer (Opens rows blocks now ∷ more) own legal none is = saved_longer more own legal.0 none is
  saved_longer (Settles piece right giver ∷ more) own legal none is =
      let e = Settles piece right giver in
      both_true (not (finds_wrong (piece_of len b) e)) (is_block_saved len (more ++ own) b)
      (is_not (finds_wrong (piece_of len b) e) (or_first (finds_wrong (piece_of len b) e) _ none))
      (saved_longer more own legal.0 (or_later (finds_wrong (piece_of len b) e) _ none) is)
  saved_longer (Grants claim ∷ more) own legal none is = saved_longer more own legal.0 none is
  saved_longer (Lands id mirror run ∷ more) own legal none is = saved_longer more own legal.0 none is
  saved_longer (Clears piece ∷ more) own legal none is = saved_longer more own legal.0 none is
  saved_longer (Loses id mirror piece mark ∷ more) own legal none is = saved_longer more own legal.0 none is
  saved_longer (Sizes id told ∷ more) own legal none is = saved_longer more own legal.0 none is
  saved_longer (Checks right ∷ more) own legal none is = saved_longer more own legal.0 none is
  saved_longer (Halts ends ∷ more) own legal none is = saved_longer more own legal.0 none is

  pub promised_longer : (later more own : List OwnEvent) → LegalOwn total len (more ++ own)
      → is_block_promised len (later ++ more) own b ≡ true → is_block_promised len later (more ++ own) b ≡ true
  promised_longer later more own legal is =
      let wrong = finds_wrong (piece_of len b) in
      let none = not_not (and_left (not (list_any wrong (later ++ more))) _ is) in
      both_true (not (list_any wrong later)) (is_block_saved len (more ++ own) b)
      (is_not (list_any wrong later) (any_front wrong later more none))
      (saved_longer more own legal (any_back wrong later more none) (and_right (not (list_any wrong (later ++ more))) _ is))

pub piece_longer : (p : ℕ) (more own : List OwnEvent) → is_piece_saved own p ≡ true → is_piece_saved (more ++ own) p ≡ true
piece_longer p [] own is = is
piece_longer p (Saves now ∷ more) own is = or_right (is_verified_in (more ++ own) p) _ (piece_longer p more own is)
piece_longer p (Opens rows blocks now ∷ more) own is = piece_longer p more own is
piece_longer p (Settles piece right giver ∷ more) own is = piece_longer p more own is
piece_longer p (Grants claim ∷ more) own is = piece_longer p more own is
piece_longer p (Lands id mirror run ∷ more) own is = piece_longer p more own is
piece_longer p (Clears piece ∷ more) own is = piece_longer p more own is
piece_longer p (Loses id mirror piece mark ∷ more) own is = piece_longer p more own is
piece_longer p (Sizes id told ∷ more) own is = piece_longer p more own is
piece_longer p (Checks right ∷ more) own is = piece_longer p more own is
piece_longer p (Halts ends ∷ more) own is = piece_longer p more own is

-- ---- images

module _ (want : Want) (own : List OwnEvent) where
  -- by what the last save lists, or by what a save would list now
  pub listing_promised : (sound : HistoriesAreSound) (later : List OwnEvent) (image : Files) → IsOpenedOwn want (later ++ own)
      → GivesListing want (last_listing want.plan.total want.plan.piece_len (later ++ own)) image
      ⊎ GivesListing want (listing_in want.plan.total want.plan.piece_len (later ++ own)) image
      → GivesPromised want later own false false image
  listing_promised sound later image opened gives =
      let total = want.plan.total in
      let len = want.plan.piece_len in
      let saved : (p : ℕ) → is_piece_promised false own p ≡ true → is_piece_saved own p ≡ true =
      λ p is. or_cases (is_piece_saved own p) false is (λ was. was) (λ no. absurd cc) in
      ⊎_elim
      (λ (last : GivesListing want (last_listing total len (later ++ own)) image). record {
        pieces = λ p is. (last.pieces p).1 (saved_stay total len p later own opened.legal (saved p is));
        blocks = λ again b is. (last.blocks b).1
            (promised_stay sound total len b opened.want_is.plan later own opened.legal is);
      })
      (λ (now : GivesListing want (listing_in total len (later ++ own)) image). record {
        pieces = λ p is. (now.pieces p).1
            (verified_listed total len p (later ++ own) opened.legal
            (verified_later p later own (saved_verified p own (saved p is))));
        blocks = λ again b is. (now.blocks b).1
            (promised_listed sound total len b opened.want_is.plan later own opened.legal is);
      }) gives

  pub held_promised : (back : WrittenIsReadBack) (sound : HistoriesAreSound) (later : List OwnEvent) (seen image : Files)
      → IsOpenedOwn want (later ++ own)
      → IsHeld want (last_listing want.plan.total want.plan.piece_len (later ++ own)) seen image
      → GivesPromised want later own false false image
  held_promised back sound later seen image opened held =
      let listing = last_listing want.plan.total want.plan.piece_len (later ++ own) in
      listing_promised sound later image opened (inl (held_gives back want listing seen image opened.want_is held))

  pub finished_whole : (seen image : Files)
      → (IsListedWant want → (p : ℕ) → is_verified_in own p ≡ true → HasDigest want (files_in want seen) p)
      → IsFinished want seen image → StandsWhole want own true seen image
  finished_whole seen image right finished = record {
    gone = finished.gone;
    files = finished.files;
    right = λ listed p is. rw finished.files
        (right listed p (or_cases (is_piece_saved own p) (is_verified_in own p) is
        (λ saved. saved_verified p own saved) (λ now. now)));
  }

pub same_promises : (want : Want) (later own : List OwnEvent) (complete again verified : Bool)
    (was now before image : Files) → SameFor want before image → SameFor want was now
    → HoldsPromised want later own complete again verified was before
    → HoldsPromised want later own complete again verified now image
same_promises want later own complete again verified was now before image same read holds = ⊎_elim
    (λ gives. let alike = give_same want before image same in
    inl (record {
      pieces = λ p is. (alike.pieces p).1 (gives.pieces p is);
      blocks = λ first b is. (alike.blocks b).1 (gives.blocks first b is);
    }))
    (λ whole. inr (
      whole.0,
      record {
        gone = same.control ∙ whole.1.gone;
        files = same.files ∙ whole.1.files ∙ sym read.files;
        right = λ listed p is. rw same.files (whole.1.right listed p is);
      },
    ))
    holds
