-- What the history of a run shows of its links.
use Rattle.std.specs.Prelude.{◌≡◌, ◌⊎◌, ℕ, Contains, List, [], Some, slice_get}
use Rattle.command_line.specs.Lines.{IsLine}
use Rattle.command_line.specs.declared.line.CommandLine.{CommandLine}
use Rattle.dl_kinds.specs.declared.gid.Gid.{Gid}
use Rattle.dl_kinds.specs.declared.marks.Mark.{Mark}
use Rattle.link_source.specs.declared.Links.{Ghosts as LinkSays}
use Rattle.machine_core.specs.Starts.{RunStart}
use Rattle.machine_core.specs.declared.events.Event.{Event}
use Rattle.machine_core.specs.declared.events.Event.TheVariants.{Lost, Sized}
use Rattle.run_lifecycle.specs.Begins.{start_of_line}
use Rattle.run_lifecycle.specs.LinkCauses.{LostAsTold, SizedAsTold}

module _ {L K : Type 0} (links : LinkSays L) (start : RunStart) (events : List Event) (olds news : List (L × K)) where
  -- the link at the place of the claim's worker told the loss
  pub record LostAtPlace (gid : Gid) (id mirror : ℕ) (mark : Mark) : Type 0 where
    pub place : ℕ
    pub old : L × K
    pub new : L × K
    pub old_is : slice_get olds place ≡ Some old
    pub new_is : slice_get news place ≡ Some new
    pub told : LostAsTold links start events place old.0 new.0 gid id mirror mark

  -- .. or the length
  pub record SizedAtPlace (gid : Gid) (id total : ℕ) : Type 0 where
    pub place : ℕ
    pub old : L × K
    pub new : L × K
    pub old_is : slice_get olds place ≡ Some old
    pub new_is : slice_get news place ≡ Some new
    pub told : SizedAsTold links start events place old.0 new.0 gid id total

module _ {L K : Type 0} (links : LinkSays L) (words : List (List ℕ)) (gids doors : ℕ) where
  -- each claim that failed, and each length, is as the link of the claim's worker told
  pub record LinksCauses (events : List Event) (olds news : List (L × K)) : Type 0 where
    pub line : CommandLine
    pub means : IsLine words line
    pub lost : (gid : Gid) (id mirror piece : ℕ) (mark : Mark) → Contains events (Lost gid id mirror piece mark)
        → LostAtPlace links (start_of_line gids doors line.globals) events olds news gid id mirror mark
    pub sized : (gid : Gid) (id total : ℕ) → Contains events (Sized gid id total)
        → SizedAtPlace links (start_of_line gids doors line.globals) events olds news gid id total

  abbrev pub ShowsLinks : List Event → (olds news : List (L × K)) → Type 0
  ShowsLinks events olds news = (events ≡ []) ⊎ LinksCauses events olds news
