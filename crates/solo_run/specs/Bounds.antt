-- How many claims and events a run over one link has, by its download's blocks, pieces, mirrors and tries.
use Rattle.std.specs.Prelude.{◌≡◌, ◌≤◌, ◌+◌, ◌*◌, ℕ, All, Some, List, count_by, length, max}
use Rattle.dl_kinds.specs.Plan.{blocks_of, pieces_of}
use Rattle.dl_history.specs.StandingClaims.{granted_claims}
use Rattle.machine_core.specs.OwnParts.{own_of}
use Rattle.machine_core.specs.RunLegal.{download_in, known_lengths, mirrors_by, next_number, tries_in}
use Rattle.machine_core.specs.Starts.{Download, RunStart}
use Rattle.machine_core.specs.declared.events.Event.{Event}
use Rattle.work_bounds.specs.BoundLaws.{StandsOrEnded}
use Rattle.work_bounds.specs.WorkLimits.{WorkLimits, clears_piece, most_claims, most_clears, most_events}

-- the limits of a download that is never paused
abbrev pub unpaused : (blocks pieces mirrors tries : ℕ) → WorkLimits
unpaused blocks pieces mirrors tries =
    record { blocks = blocks; pieces = pieces; mirrors = mirrors; tries = tries; pauses = 0 }

-- those of this download; there are no blocks or pieces until its length is known
abbrev pub limits_of : RunStart → List Event → Download → WorkLimits
limits_of start past download =
    let lengths = known_lengths start past download.gid in
    unpaused (blocks_of lengths.total lengths.piece_len) (pieces_of lengths.total lengths.piece_len)
    (mirrors_by download.subject) (tries_in download)

-- all events of a run: those of its download, the halts by its end and by the stop, each with a save,
-- two checks of the whole payload, and the call of the line
abbrev pub most_run_events : WorkLimits → ℕ
most_run_events limits = most_events limits + 7

-- The history has at most so many claims and events, and clears no piece more often than so. Each
-- claim stands, or brought blocks, failed, told a length or was halted.
pub record IsBounded (start : RunStart) (past : List Event) (download : Download) : Type 0 where
  pub added : download_in start past download.gid ≡ Some download
  pub claims : next_number past ≤ most_claims (limits_of start past download)
  pub events : length past ≤ most_run_events (limits_of start past download)
  pub clears : (piece : ℕ) → count_by (clears_piece piece) (own_of start past download.gid)
      ≤ most_clears (limits_of start past download)
  pub ends : All (StandsOrEnded (own_of start past download.gid))
      (granted_claims (own_of start past download.gid))

-- these limits in numbers
pub record AreInNumbers (blocks pieces mirrors tries : ℕ) : Type 0 where
  pub claims : most_claims (unpaused blocks pieces mirrors tries)
      ≡ blocks * (mirrors * tries + 2) + max pieces 1 * (mirrors * tries) + 2
  pub events : most_run_events (unpaused blocks pieces mirrors tries)
      ≡ 8 * (blocks * (mirrors * tries + 2)) + 2 * (mirrors * tries) + 11
  pub clears : most_clears (unpaused blocks pieces mirrors tries) ≡ mirrors * tries + 1

abbrev pub BoundsInNumbers : Type 0
BoundsInNumbers = (blocks pieces mirrors tries : ℕ) → AreInNumbers blocks pieces mirrors tries
