-- Worked histories, and what they are to say.
use Rattle.std.specs.Prelude.{◌≡◌, ℕ, Bool, true, false, Option, Some, None, List, [], ◌∷◌, map, length}
use Rattle.std.specs.List.{range_with_len}
use Rattle.dl_kinds.specs.declared.claims.Claim.{Claim}
use Rattle.dl_kinds.specs.declared.runs.Moment.{Moment}
use Rattle.dl_kinds.specs.declared.runs.Run.{Run}
use Rattle.piece_table.specs.declared.giver.Giver.TheVariants.{One, Mixed}
use Rattle.dl_history.specs.OwnEvents.{OwnEvent, Opens, Grants, Lands, Settles, Clears, Loses, Sizes, Saves, Halts}
use Rattle.dl_history.specs.StandingClaims.{standing_claims, is_open_since, first_open_since}
use Rattle.dl_history.specs.PayloadParts.{is_landed_in, is_verified_in, is_sole_in, is_wrong_in, blames_in, checksum_mark, told_total}
use Rattle.dl_history.specs.Listings.{listing_in, last_listing}

abbrev pub start_at : Moment
start_at = record { 0 = 0 }

abbrev pub run_at : ℕ → ℕ → Run
run_at first count = record { first = first; count = count }

abbrev pub claim_at : ℕ → ℕ → Option ℕ → Run → Claim
claim_at id mirror victim run =
    record { id = id; worker = mirror; mirror = mirror; run = run; victim = victim; since = start_at }

-- which of the first blocks are landed
abbrev pub landed_row : ℕ → ℕ → List OwnEvent → List Bool
landed_row len blocks own = map (is_landed_in len own) (range_with_len 0 blocks)

-- ---- a piece of one block is found wrong five times, given by one mirror

abbrev pub wrong_once : ℕ → List OwnEvent → List OwnEvent
wrong_once id before =
    Clears 0 ∷ Settles 0 false (One 0) ∷ Lands id 0 (run_at 0 1) ∷ Grants (claim_at id 0 None (run_at 0 1)) ∷ before

abbrev pub wrong_always : List OwnEvent
wrong_always =
    wrong_once 4 (wrong_once 3 (wrong_once 2 (wrong_once 1 (wrong_once 0
    (Opens (false ∷ []) (false ∷ []) start_at ∷ [])))))

pub record WrongAlways : Type 0 where
  pub marks : length (blames_in wrong_always) ≡ 5
  pub landed : landed_row 16384 1 wrong_always ≡ false ∷ []
  pub sole : is_sole_in wrong_always 0 ≡ false
  pub standing : standing_claims wrong_always ≡ []
  pub listed : (listing_in 5 16384 wrong_always).blocks ≡ false ∷ []

-- ---- a piece of two blocks, the second one stolen by another mirror, which gives it wrong

abbrev pub both_gave : List OwnEvent
both_gave =
    Lands 1 1 (run_at 1 1) ∷ Lands 0 0 (run_at 0 1) ∷ Grants (claim_at 1 1 (Some 0) (run_at 1 1))
    ∷ Grants (claim_at 0 0 None (run_at 0 2)) ∷ Opens (false ∷ []) (false ∷ false ∷ []) start_at ∷ []

abbrev pub mixed_failed : List OwnEvent
mixed_failed = Settles 0 false Mixed ∷ both_gave

abbrev pub asked_again : List OwnEvent
asked_again = Grants (claim_at 2 0 None (run_at 0 2)) ∷ Clears 0 ∷ mixed_failed

abbrev pub half_came : List OwnEvent
half_came = Lands 2 0 (run_at 0 1) ∷ asked_again

abbrev pub came_right : List OwnEvent
came_right = Settles 0 true (One 0) ∷ Lands 2 0 (run_at 1 1) ∷ half_came

pub record MixedOnce : Type 0 where
  pub both : landed_row 32768 2 both_gave ≡ true ∷ true ∷ []
  pub none_stands : standing_claims both_gave ≡ []
  pub unmarked : blames_in mixed_failed ≡ []
  pub sole : is_sole_in mixed_failed 0 ≡ true
  pub wrong : is_wrong_in mixed_failed 0 ≡ true
  pub unlisted : (listing_in 32768 32768 mixed_failed).blocks ≡ false ∷ false ∷ []
  pub gone : landed_row 32768 2 asked_again ≡ false ∷ false ∷ []
  pub again : standing_claims asked_again ≡ claim_at 2 0 None (run_at 0 2) ∷ []
  pub half : landed_row 32768 2 half_came ≡ true ∷ false ∷ []
  pub paused : landed_row 32768 2 (Halts false ∷ half_came) ≡ false ∷ false ∷ []
  pub lost : landed_row 32768 2 (Loses 2 0 0 checksum_mark ∷ half_came) ≡ false ∷ false ∷ []
  pub right : is_verified_in came_right 0 ≡ true
  pub whole : landed_row 32768 2 came_right ≡ true ∷ true ∷ []

-- ---- a victim of 64 blocks, ten of them landed, and a thief of its later half

abbrev pub victim : Claim
victim = claim_at 0 0 None (run_at 0 64)

abbrev pub thief : Claim
thief = claim_at 1 1 (Some 0) (run_at 37 27)

abbrev pub stolen : List OwnEvent
stolen = Lands 1 1 (run_at 40 1) ∷ Grants thief ∷ Lands 0 0 (run_at 0 10) ∷ Grants victim ∷ []

pub record StolenOnce : Type 0 where
  pub both_stand : standing_claims stolen ≡ thief ∷ victim ∷ []
  pub first : first_open_since stolen victim ≡ Some 10
  pub came : is_open_since stolen victim 40 ≡ false
  pub open_in_both : is_open_since stolen victim 41 ≡ true
  pub open_in_thief : is_open_since stolen thief 41 ≡ true

-- ---- a claim ends with a pause, and another is granted once the download goes on

abbrev pub paused_once : List OwnEvent
paused_once =
    Halts false ∷ Lands 0 0 (run_at 0 1) ∷ Grants (claim_at 0 0 None (run_at 0 2))
    ∷ Opens (false ∷ []) (false ∷ false ∷ []) start_at ∷ []

abbrev pub went_on : List OwnEvent
went_on = Grants (claim_at 1 0 None (run_at 1 1)) ∷ paused_once

pub record PausedOnce : Type 0 where
  pub none_stands : standing_claims paused_once ≡ []
  pub one_stands : standing_claims went_on ≡ claim_at 1 0 None (run_at 1 1) ∷ []
  pub landed : landed_row 32768 2 paused_once ≡ true ∷ false ∷ []
  pub landed_on : landed_row 32768 2 went_on ≡ true ∷ false ∷ []

-- ---- a probe tells a length, and the download is opened

abbrev pub probed : List OwnEvent
probed = Sizes 0 5 ∷ Grants (claim_at 0 0 None (run_at 0 0)) ∷ []

pub record ProbedOnce : Type 0 where
  pub stood : standing_claims (Grants (claim_at 0 0 None (run_at 0 0)) ∷ []) ≡ claim_at 0 0 None (run_at 0 0) ∷ []
  pub ended : standing_claims probed ≡ []
  pub told : told_total probed ≡ Some 5

-- ---- what a save lists stays its listing until the next

abbrev pub saved_half : List OwnEvent
saved_half =
    Lands 0 0 (run_at 1 1) ∷ Saves start_at ∷ Lands 0 0 (run_at 0 1) ∷ Grants (claim_at 0 0 None (run_at 0 2))
    ∷ Opens (false ∷ []) (false ∷ false ∷ []) start_at ∷ []

pub record SavedOnce : Type 0 where
  pub listed : (last_listing 32768 32768 saved_half).blocks ≡ true ∷ false ∷ []
  pub more : (listing_in 32768 32768 saved_half).blocks ≡ true ∷ true ∷ []

pub record WorkedHistories : Type 0 where
  pub wrong_always_is : WrongAlways
  pub mixed_once : MixedOnce
  pub stolen_once : StolenOnce
  pub paused_once_is : PausedOnce
  pub probed_once : ProbedOnce
  pub saved_once : SavedOnce
