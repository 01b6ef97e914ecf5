-- What follows of runs over links.
use Rattle.std.specs.Prelude.{◌≤◌, ℕ, Bool, IsTrue, List, length}
use Rattle.dl_disk.specs.declared.disk.Disk.{Ghosts as DiskSays}
use Rattle.dl_kinds.specs.declared.outside.Sink.{Ghosts as SinkSays}
use Rattle.link_source.specs.declared.Links.{Ghosts as LinkSays}
use Rattle.run_lifecycle.specs.DiskCauses.{LeavesOtherFiles}
use Rattle.run_lifecycle.specs.Histories.{IsHistory}
use Rattle.run_lifecycle.specs.Survivals.{SurvivesRun}
use Rattle.run_lifecycle.specs.declared.ended.Ended.{Ended}
use Rattle.served_runs.specs.Completes.{CompletesServed}
use Rattle.served_runs.specs.CompletesUris.{CompletesUris}
use Rattle.served_runs.specs.LinksCauses.{ShowsLinks}
use Rattle.served_runs.specs.Over.{IsRunOver}
use Rattle.served_runs.specs.Served.{SparesServing}
use Rattle.served_runs.specs.Unfinished.{ShowsUnfinished}

module _ {D O L : Type 0} (K : Type 0) (says : DiskSays D) (sinks : SinkSays O) (links : LinkSays L) where
  -- what its history tells of losses and lengths came over the links
  abbrev pub RunsShowLinks : Type 0
  RunsShowLinks =
      (limited : Bool) (words : List (List ℕ)) (gids doors : ℕ) (disk : D) (olds : List (L × K)) (out : O)
      (ended : Ended D) (news : List (L × K)) (out' : O)
      → IsRunOver says sinks limited links words gids doors disk olds out ended news out'
      → ShowsLinks links words gids doors ended.journal.events.items olds news

  -- mirrors that serve a payload are held to account for faults of links alone
  abbrev pub RunsSpareServing : Type 0
  RunsSpareServing =
      (limited : Bool) (words : List (List ℕ)) (gids doors : ℕ) (disk : D) (olds : List (L × K)) (out : O)
      (ended : Ended D) (news : List (L × K)) (out' : O)
      → IsRunOver says sinks limited links words gids doors disk olds out ended news out'
      → IsTrue links.tells → SparesServing says links words gids doors olds news ended

  -- what is served comes
  abbrev pub RunsCompleteServed : Type 0
  RunsCompleteServed =
      (limited : Bool) (words : List (List ℕ)) (gids doors : ℕ) (disk : D) (olds : List (L × K)) (out : O)
      (ended : Ended D) (news : List (L × K)) (out' : O)
      → IsRunOver says sinks limited links words gids doors disk olds out ended news out'
      → 1 ≤ length olds → IsTrue says.tells → IsTrue links.tells
      → CompletesServed limited says links sinks words gids doors disk olds out ended news out'

  -- .. also without a metainfo file, where all mirrors lead to one resource
  abbrev pub RunsCompleteUris : Type 0
  RunsCompleteUris =
      (limited : Bool) (words : List (List ℕ)) (gids doors : ℕ) (disk : D) (olds : List (L × K)) (out : O)
      (ended : Ended D) (news : List (L × K)) (out' : O)
      → IsRunOver says sinks limited links words gids doors disk olds out ended news out'
      → 1 ≤ length olds → IsTrue says.tells → IsTrue links.tells
      → CompletesUris limited says links sinks words gids doors disk olds out ended news out'

  -- a run that is left unfinished shows why
  abbrev pub RunsShowUnfinished : Type 0
  RunsShowUnfinished =
      (limited : Bool) (words : List (List ℕ)) (gids doors : ℕ) (disk : D) (olds : List (L × K)) (out : O)
      (ended : Ended D) (news : List (L × K)) (out' : O)
      → IsRunOver says sinks limited links words gids doors disk olds out ended news out'
      → 1 ≤ length olds → ShowsUnfinished limited links words gids doors olds news ended

  -- its history is whole
  abbrev pub LinkedHaveHistories : Type 0
  LinkedHaveHistories =
      (limited : Bool) (words : List (List ℕ)) (gids doors : ℕ) (disk : D) (olds : List (L × K)) (out : O)
      (ended : Ended D) (news : List (L × K)) (out' : O)
      → IsRunOver says sinks limited links words gids doors disk olds out ended news out'
      → IsHistory says words gids doors disk ended

  -- it keeps its promises, whenever a crash comes
  abbrev pub LinkedSurvive : Type 0
  LinkedSurvive =
      (limited : Bool) (words : List (List ℕ)) (gids doors : ℕ) (disk : D) (olds : List (L × K)) (out : O)
      (ended : Ended D) (news : List (L × K)) (out' : O)
      → IsRunOver says sinks limited links words gids doors disk olds out ended news out'
      → IsTrue says.tells → SurvivesRun says words gids doors disk ended

  -- it leaves all files that it wasn't asked for
  abbrev pub LinkedLeaveOtherFiles : Type 0
  LinkedLeaveOtherFiles =
      (limited : Bool) (words : List (List ℕ)) (gids doors : ℕ) (disk : D) (olds : List (L × K)) (out : O)
      (ended : Ended D) (news : List (L × K)) (out' : O)
      → IsRunOver says sinks limited links words gids doors disk olds out ended news out'
      → IsTrue says.tells → LeavesOtherFiles says words gids doors disk ended
