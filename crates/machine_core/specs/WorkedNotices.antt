-- The notices of worked runs.
use Rattle.std.specs.Prelude.{◌≡◌, ℕ, None, List, [], ◌∷◌, codes}
use Rattle.option_set.specs.declared.kinds.Num.TheVariants.{MaxConcurrentDownloads, Pause as PauseOption}
use Rattle.option_set.specs.declared.setting.Assigned.TheVariants.{Number}
use Rattle.machine_core.specs.Notices.{due, end_of, notices_in, upto}
use Rattle.machine_core.specs.WorkedRuns.{added_uri, at_zero, first_id, first_moved, first_paused, gid_at, key_of_first, one_at_once, second_id, third_id, three_added}
use Rattle.machine_core.specs.declared.calls.Call.TheVariants.{AddUri, ChangeGlobalOption, Pause, Purge, Remove, Unpause}
use Rattle.machine_core.specs.declared.ends.End.TheVariants as end
use Rattle.machine_core.specs.declared.events.Event.{Event}
use Rattle.machine_core.specs.declared.events.Event.TheVariants.{Called, Ended, Saved}
use Rattle.machine_core.specs.declared.notices.Cursor.{Cursor}
use Rattle.machine_core.specs.declared.notices.NoticeKind.{NoticeKind}
use Rattle.machine_core.specs.declared.notices.NoticeKind.TheVariants as kind
use Rattle.machine_core.specs.declared.notices.PlacedNotice.{PlacedNotice}

abbrev pub place_at : ℕ → ℕ → Cursor
place_at event nth = record { event = event; nth = nth }

abbrev pub told_at : ℕ → ℕ → NoticeKind → ℕ → PlacedNotice
told_at event nth told number =
    record { at = place_at event nth; notice = record { kind = told; gid = gid_at number } }

-- what comes of the runs in which three are added and one may be active at a time
abbrev pub three_notices : List PlacedNotice
three_notices = told_at 0 0 kind.Start first_id ∷ []

-- ---- one download

abbrev pub one_added : List Event
one_added = added_uri ∷ []

abbrev pub one_went_on : List Event
one_went_on = Called 0 (Unpause key_of_first) at_zero ∷ Called 0 (Pause key_of_first) at_zero ∷ one_added

abbrev pub one_removed : List Event
one_removed = Called 0 (Remove key_of_first) at_zero ∷ one_added

abbrev pub added_paused : Event
added_paused = Called 0 (AddUri (codes "http://m.test/a" ∷ []) (Number PauseOption 1 ∷ []) None) at_zero

pub record OneTold : Type 0 where
  pub starts : notices_in one_at_once one_added ≡ told_at 0 0 kind.Start first_id ∷ []
  pub goes_on : due one_at_once one_went_on (end_of one_added)
      ≡ told_at 1 0 kind.Pause first_id ∷ told_at 2 0 kind.Start first_id ∷ []
  pub from_there : due one_at_once one_went_on (place_at 2 0) ≡ told_at 2 0 kind.Start first_id ∷ []
  pub behind : upto one_at_once one_went_on (end_of one_added) ≡ place_at 3 0
  pub at_end : due one_at_once one_went_on (end_of one_went_on) ≡ []
  pub removed : due one_at_once one_removed (end_of one_added) ≡ told_at 1 0 kind.Stop first_id ∷ []
  -- one that goes out of the lists has no status, so nothing is told of it
  pub purged : due one_at_once (Called 0 Purge at_zero ∷ one_removed) (end_of one_removed) ≡ []
  pub saved : due one_at_once (Saved (gid_at first_id) at_zero ∷ one_added) (end_of one_added) ≡ []
  -- one that is added paused counts as paused before
  pub paused : notices_in one_at_once (added_paused ∷ []) ≡ []
  pub unpaused : notices_in one_at_once (Called 0 (Unpause key_of_first) at_zero ∷ added_paused ∷ [])
      ≡ told_at 1 0 kind.Start first_id ∷ []

-- ---- three downloads

abbrev pub three_at_once : List Event
three_at_once = Called 0 (ChangeGlobalOption (Number MaxConcurrentDownloads 3 ∷ [])) at_zero ∷ three_added

pub record ThreeTold : Type 0 where
  pub added : notices_in one_at_once three_added ≡ three_notices
  -- in the order in which they were added
  pub raised : due one_at_once three_at_once (end_of three_added)
      ≡ told_at 3 0 kind.Start second_id ∷ told_at 3 1 kind.Start third_id ∷ []
  pub second_one : due one_at_once three_at_once (place_at 3 1) ≡ told_at 3 1 kind.Start third_id ∷ []
  pub none_there : due one_at_once three_at_once (place_at 3 2) ≡ []
  pub makes_way : due one_at_once first_paused (end_of three_added)
      ≡ told_at 3 0 kind.Pause first_id ∷ told_at 3 1 kind.Start second_id ∷ []
  -- one that waits again isn't told, and neither is one that is moved
  pub waits : due one_at_once first_moved (end_of first_paused) ≡ []
  pub complete : due one_at_once (Ended (gid_at first_id) end.Complete ∷ three_added) (end_of three_added)
      ≡ told_at 3 0 kind.Complete first_id ∷ told_at 3 1 kind.Start second_id ∷ []
  pub failed : due one_at_once (Ended (gid_at first_id) end.Checksum ∷ three_added) (end_of three_added)
      ≡ told_at 3 0 kind.Error first_id ∷ told_at 3 1 kind.Start second_id ∷ []

pub record WorkedNotices : Type 0 where
  pub one_told : OneTold
  pub three_told : ThreeTold
