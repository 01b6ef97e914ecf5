-- How a queue is held: downloads have numbers from 1 in the order of adding, the lists are lists of numbers, and of each number it
-- is kept where it stands.
use Rattle.std.specs.Prelude.{◌≡◌, ◌+◌, ◌-◌, ◌≤◌, ◌<◌, ℕ, Bool, true, false, not, List, ◌∷◌, length, map, filter, slice_index_or, Option, None, Some, if◌then◌else◌}
use Rattle.std.specs.Ordering.{nat_cmp}
use Rattle.std.specs.BTreeMap.{BTreeMap, get}
use Rattle.dl_kinds.specs.declared.gid.Gid.{Gid}
use Rattle.dl_kinds.specs.declared.status.Status.{Status}
use Rattle.dl_kinds.specs.declared.status.Status.TheVariants.{Active, Waiting, Paused, Failed, Complete, Removed}
use Rattle.number_list.specs.Order.{NumberOrder, lists_number, NoneTwice}
use Rattle.dl_queue.specs.declared.kinds.TheConstants.{MAX_DOWNLOADS}
use Rattle.dl_queue.specs.declared.kinds.Added.{Added}
use Rattle.dl_queue.specs.declared.kinds.Queued.{Queued}
use Rattle.dl_queue.specs.declared.kinds.Stopped.{Stopped}
use Rattle.dl_queue.specs.Endings.{ending_by_standing}
use Rattle.dl_queue.specs.Lists.{QueueLists}
use Rattle.dl_queue.specs.Calls.{added_place, was_added}

-- the number of a download in the order of adding
abbrev pub number_in : List Added → Gid → Option ℕ
number_in added gid = if was_added added gid then Some (added_place gid added + 1) else None

abbrev pub gid_numbered : List Added → ℕ → Gid
gid_numbered added number = slice_index_or (map (λ download. download.gid) added) (number - 1) record { 0 = 0 }

-- where a download stands, or None where it is in no list
abbrev pub standing_at : List (Option Status) → ℕ → Option Status
standing_at standings number = slice_index_or standings (number - 1) None

abbrev pub stands_active : Option Status → Bool
stands_active (Some Active) = true
stands_active standing = false

abbrev pub stands_queued : Option Status → Bool
stands_queued (Some Waiting) = true
stands_queued (Some Paused) = true
stands_queued standing = false

abbrev pub stands_ready : Option Status → Bool
stands_ready (Some Waiting) = true
stands_ready standing = false

abbrev pub stands_stopped : Option Status → Bool
stands_stopped (Some Failed) = true
stands_stopped (Some Complete) = true
stands_stopped (Some Removed) = true
stands_stopped standing = false

-- the downloads of lists of numbers
abbrev pub queued_download : List Added → List (Option Status) → ℕ → Queued
queued_download added standings number =
    record { gid = gid_numbered added number; paused = not (stands_ready (standing_at standings number)) }

abbrev pub stopped_download : List Added → List (Option Status) → ℕ → Stopped
stopped_download added standings number =
    record { gid = gid_numbered added number; ending = ending_by_standing (standing_at standings number) }

-- each number is of an element of the list, counted from 1
abbrev pub AreNumbersOf : {X : Type 0} → List X → List ℕ → Type 0
AreNumbersOf elements numbers =
    (number : ℕ) → lists_number numbers number ≡ true → (0 < number) × (number ≤ length elements)

-- the parts of a queue, of its lists the numbers in order
pub record QueueParts : Type 0 where
  pub added : List Added
  pub standings : List (Option Status)
  pub active : List ℕ
  pub waiting : List ℕ
  -- those of the waiting ones that aren't paused
  pub ready : List ℕ
  pub stopped : List ℕ

abbrev pub lists_of : ℕ → QueueParts → QueueLists
lists_of limit parts = record {
  limit = limit;
  active = map (gid_numbered parts.added) parts.active;
  waiting = map (queued_download parts.added parts.standings) parts.waiting;
  stopped = map (stopped_download parts.added parts.standings) parts.stopped;
  added = parts.added;
}

pub record AreParts (parts : QueueParts) : Type 0 where
  pub many : length parts.standings ≡ length parts.added
  pub few : length parts.added ≤ MAX_DOWNLOADS
  pub active_apart : NoneTwice (0 ∷ parts.active)
  pub waiting_apart : NoneTwice (0 ∷ parts.waiting)
  pub stopped_apart : NoneTwice (0 ∷ parts.stopped)
  pub apart : (number : ℕ) → 0 < number → number ≤ length parts.added
      → added_place (gid_numbered parts.added number) parts.added + 1 ≡ number
  pub active_are : (number : ℕ) → 0 < number
      → lists_number parts.active number ≡ stands_active (standing_at parts.standings number)
  pub waiting_are : (number : ℕ) → 0 < number
      → lists_number parts.waiting number ≡ stands_queued (standing_at parts.standings number)
  pub ready_are : parts.ready ≡ filter (λ number. stands_ready (standing_at parts.standings number)) parts.waiting
  pub stopped_are : (number : ℕ) → 0 < number
      → lists_number parts.stopped number ≡ stands_stopped (standing_at parts.standings number)

-- the lists take the numbers of all downloads that were added
abbrev pub TakesAll : List Added → ℕ → Type 0
TakesAll added bound = 0 < length added → length added < bound

-- the same numbers in order, and no lower bound
pub record IsWider (old new : NumberOrder) : Type 0 where
  pub order : new.order ≡ old.order
  pub bound : old.bound ≤ new.bound

pub record HoldsLists (parts : QueueParts) (numbers : BTreeMap ℕ ℕ) (active waiting ready stopped : ℕ) : Type 0 where
  pub parts_are : AreParts parts
  pub numbers_are : (gid : Gid) → get nat_cmp numbers gid.0 ≡ number_in parts.added gid
  pub active_takes : TakesAll parts.added active
  pub waiting_takes : TakesAll parts.added waiting
  pub ready_takes : TakesAll parts.added ready
  pub stopped_takes : TakesAll parts.added stopped
