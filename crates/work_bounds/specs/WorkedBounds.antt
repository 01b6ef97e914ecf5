-- A worked history of a download, and how it meets its limits.
use Rattle.std.specs.Prelude.{◌≡◌, ℕ, true, false, None, List, [], ◌∷◌, count_by, length}
use Rattle.dl_history.specs.OwnEvents.{OwnEvent, Opens, Grants, Lands, Settles, Clears, Saves, Halts}
use Rattle.dl_history.specs.OwnLegal.{LegalOwn}
use Rattle.dl_history.specs.PayloadParts.{blames_in}
use Rattle.dl_history.specs.StandingClaims.{granted_claims}
use Rattle.dl_history.specs.Worked.{claim_at, run_at, start_at, stolen, went_on}
use Rattle.mirror_blame.specs.Marks.{is_of}
use Rattle.piece_table.specs.declared.giver.Giver.TheVariants.{One, Mixed}
use Rattle.machine_core.specs.WorkedRuns.{first_id, gid_at, half_landed, one_at_once}
use Rattle.work_bounds.specs.OneAtATime.{HasOneClaim, OneAtATime}
use Rattle.work_bounds.specs.SavesDue.{SavesHaveNews}
use Rattle.work_bounds.specs.WorkLimits.{WorkLimits, clears_piece, most_claims, most_clears, most_events, pauses_in, unlimited_events}

-- ---- a piece of one block that was there at the opening, and that is always wrong

-- each of two mirrors has one try
abbrev pub two_mirrors : WorkLimits
two_mirrors = record { blocks = 1; pieces = 1; mirrors = 2; tries = 1; pauses = 0 }

-- what was there is wrong; the last save doesn't list it when it is cleared
abbrev pub old_block_wrong : List OwnEvent
old_block_wrong =
    Clears 0 ∷ Saves start_at ∷ Settles 0 false Mixed ∷ Opens (false ∷ []) (true ∷ []) start_at ∷ []

-- a mirror gives it wrong
abbrev pub given_wrong : ℕ → List OwnEvent → List OwnEvent
given_wrong mirror before =
    Clears 0 ∷ Settles 0 false (One mirror) ∷ Lands mirror mirror (run_at 0 1)
    ∷ Grants (claim_at mirror mirror None (run_at 0 1)) ∷ before

abbrev pub always_wrong : List OwnEvent
always_wrong = Halts true ∷ given_wrong 1 (given_wrong 0 old_block_wrong)

pub record AlwaysWrong : Type 0 where
  pub legal : LegalOwn 5 16384 always_wrong
  pub one : HasOneClaim always_wrong
  pub saves : SavesHaveNews always_wrong
  pub never_paused : pauses_in always_wrong ≡ 0
  -- each mirror's try is used, and the piece is cleared as often as may be
  pub first_mirror : count_by (is_of 0 0) (blames_in always_wrong) ≡ two_mirrors.tries
  pub second_mirror : count_by (is_of 1 0) (blames_in always_wrong) ≡ two_mirrors.tries
  pub clears : count_by (clears_piece 0) always_wrong ≡ most_clears two_mirrors
  pub claims : length (granted_claims always_wrong) ≡ 2
  pub most_claims_are : most_claims two_mirrors ≡ 8
  pub unlimited : unlimited_events always_wrong ≡ 2
  pub most_events_are : most_events two_mirrors ≡ 40

-- ---- what the premises leave out

-- nothing came between two saves
abbrev pub saved_twice : List OwnEvent
saved_twice =
    Saves start_at ∷ Saves start_at ∷ Settles 0 false Mixed
    ∷ Opens (false ∷ []) (true ∷ []) start_at ∷ []

pub record WorkedBounds : Type 0 where
  pub always_wrong_is : AlwaysWrong
  -- a claim that was granted after a pause
  pub paused_once : pauses_in went_on ≡ 1
  -- a claim that stands, in a run ..
  pub of_a_run : OneAtATime one_at_once half_landed (gid_at first_id)
  -- .. and two that stand
  pub two_stand : ¬ HasOneClaim stolen
  pub nothing_new : ¬ SavesHaveNews saved_twice
