-- The downloads of a list of numbers whose gids begin with a key's digits.
use Rattle.std.specs.Prelude.{◌≡◌, ◌<◌, ◌≤◌, ◌*◌, ℕ, true, List, length, count_by, IsSome, IfSome, IsTrue}
use Rattle.dl_kinds.specs.declared.gid_key.GidKey.{GidKey}
use Rattle.number_list.specs.Order.{lists_number}
use Rattle.dl_queue.specs.declared.kinds.Added.{Added}
use Rattle.dl_queue.specs.declared.named.Named.{Named}
use Rattle.dl_queue.specs.declared.kinds.TheConstants.{MAX_DOWNLOADS}
use Rattle.dl_queue.specs.Lists.{QueueLists}
use Rattle.dl_queue.specs.Places.{status_of}
use Rattle.dl_queue.specs.Calls.{names_gid, count_named}
use Rattle.dl_queue.specs.Held.{gid_numbered}

-- the key names the download of a number that is listed
pub record IsListedNamed (added : List Added) (key : GidKey) (numbers : List ℕ) (number : ℕ) : Type 0 where
  pub named : IsTrue (names_gid key (gid_numbered added number))
  pub listed : lists_number numbers number ≡ true

-- so many are named, and one of them
pub record AreNamed (added : List Added) (key : GidKey) (numbers : List ℕ) (found : Named) : Type 0 where
  pub count : found.count ≡ count_by (λ number. names_gid key (gid_numbered added number)) numbers
  pub some : 0 < found.count → IsSome found.number
  pub counted : IsSome found.number → 0 < found.count
  pub one : IfSome found.number (IsListedNamed added key numbers)

-- the key names the download of a number, which has a status
pub record IsNamedIn (queue : QueueLists) (key : GidKey) (number : ℕ) : Type 0 where
  pub named : IsTrue (names_gid key (gid_numbered queue.added number))
  pub status : IsSome (status_of queue (gid_numbered queue.added number))
  pub counts : 0 < number
  pub within : number ≤ length queue.added

-- so many of the downloads of a queue are named, and the number of one of them
pub record AreNamedIn (queue : QueueLists) (key : GidKey) (found : Named) : Type 0 where
  pub count : found.count ≡ count_named queue key
  pub some : 0 < found.count → IsSome found.number
  pub counted : IsSome found.number → 0 < found.count
  pub one : IfSome found.number (IsNamedIn queue key)
  pub few : found.count ≤ 3 * MAX_DOWNLOADS
