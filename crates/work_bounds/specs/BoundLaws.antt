-- How long the history of a download gets whose claims are taken one after the other.
use Rattle.std.specs.Prelude.{◌≡◌, ◌⊎◌, ◌==◌, ℕ, ◌+◌, ◌≤◌, Bool, true, false, Some, List, All, count_by, length}
use Rattle.std.specs.List.{list_any}
use Rattle.dl_kinds.specs.declared.claims.Claim.{Claim}
use Rattle.dl_kinds.specs.declared.gid.Gid.{Gid}
use Rattle.dl_history.specs.OwnEvents.{OwnEvent, Lands, Loses, Sizes, Halts}
use Rattle.dl_history.specs.PayloadParts.{blames_in}
use Rattle.dl_history.specs.StandingClaims.{granted_claims, grants_claim, is_standing, since}
use Rattle.mirror_blame.specs.Marks.{is_of}
use Rattle.machine_core.specs.OwnParts.{own_of}
use Rattle.machine_core.specs.RunLegal.{IsLegal, download_in, tries_in}
use Rattle.machine_core.specs.Starts.{Download, RunStart}
use Rattle.machine_core.specs.declared.events.Event.{Event}
use Rattle.work_bounds.specs.OneAtATime.{OneAtATime}
use Rattle.work_bounds.specs.SavesDue.{SavesHaveNews}
use Rattle.work_bounds.specs.WorkLimits.{all_marks, clears_piece, limits_in, most_claims, most_clears, most_events, unlimited_events}

-- a download of a legal history, whose claims are taken one after the other
pub record IsTakenInTurn (start : RunStart) (past : List Event) (gid : Gid) (download : Download)
    : Type 0 where
  pub legal : IsLegal start past
  pub added : download_in start past gid ≡ Some download
  pub one : OneAtATime start past gid

-- ---- marks

-- each mark of a mirror for a piece is one of its tries
pub record AreMarksTries (start : RunStart) (past : List Event) (gid : Gid) (download : Download)
    : Type 0 where
  pub each : (mirror piece : ℕ)
      → count_by (is_of mirror piece) (blames_in (own_of start past gid)) ≤ tries_in download
  pub all : length (blames_in (own_of start past gid)) ≤ all_marks (limits_in start past gid download)

abbrev pub MarksAreTries : Type 0
MarksAreTries =
    (start : RunStart) (past : List Event) (gid : Gid) (download : Download)
    → IsTakenInTurn start past gid download → AreMarksTries start past gid download

-- ---- pieces

abbrev pub ClearsAreBounded : Type 0
ClearsAreBounded =
    (start : RunStart) (past : List Event) (gid : Gid) (download : Download) (piece : ℕ)
    → IsTakenInTurn start past gid download
    → count_by (clears_piece piece) (own_of start past gid)
    ≤ most_clears (limits_in start past gid download)

-- ---- claims

abbrev pub ClaimsAreBounded : Type 0
ClaimsAreBounded =
    (start : RunStart) (past : List Event) (gid : Gid) (download : Download)
    → IsTakenInTurn start past gid download
    → length (granted_claims (own_of start past gid))
    ≤ most_claims (limits_in start past gid download)

-- the claim brings blocks, fails, tells a length, or is halted
abbrev pub brings_or_ends : ℕ → OwnEvent → Bool
brings_or_ends c (Lands id mirror run) = id == c
brings_or_ends c (Loses id mirror piece mark) = id == c
brings_or_ends c (Sizes id total) = id == c
brings_or_ends c (Halts ends) = true
brings_or_ends c e = false

-- the claim stands, or one of these came since its grant
abbrev pub StandsOrEnded : List OwnEvent → Claim → Type 0
StandsOrEnded own claim =
    (is_standing own claim ≡ true)
    ⊎ (list_any (brings_or_ends claim.id) (since (grants_claim claim.id) own) ≡ true)

abbrev pub ClaimsEnd : Type 0
ClaimsEnd =
    (start : RunStart) (past : List Event) (gid : Gid) (download : Download)
    → IsTakenInTurn start past gid download
    → All (StandsOrEnded (own_of start past gid)) (granted_claims (own_of start past gid))

-- ---- all events

abbrev pub EventsAreBounded : Type 0
EventsAreBounded =
    (start : RunStart) (past : List Event) (gid : Gid) (download : Download)
    → IsTakenInTurn start past gid download → SavesHaveNews (own_of start past gid)
    → length (own_of start past gid)
    ≤ most_events (limits_in start past gid download) + unlimited_events (own_of start past gid)
