-- What the history of a run over one link shows of the link.
use Rattle.std.specs.Prelude.{◌≡◌, ◌⊎◌, ℕ, Contains, List, [], ◌∷◌}
use Rattle.command_line.specs.Lines.{IsLine}
use Rattle.command_line.specs.declared.line.CommandLine.{CommandLine}
use Rattle.dl_kinds.specs.declared.gid.Gid.{Gid}
use Rattle.dl_kinds.specs.declared.marks.Mark.{Mark}
use Rattle.link_source.specs.declared.Links.{Ghosts as LinkSays}
use Rattle.machine_core.specs.declared.events.Event.{Event}
use Rattle.machine_core.specs.declared.events.Event.TheVariants.{Lost, Sized}
use Rattle.run_lifecycle.specs.Begins.{start_of_line}
use Rattle.run_lifecycle.specs.LinkCauses.{LostAsTold, SizedAsTold}

module _ {L : Type 0} (links : LinkSays L) (words : List (List ℕ)) (gids : ℕ) where
  -- each claim that failed, and each length, is as the link told
  pub record LinkCauses (events : List Event) (old new : L) : Type 0 where
    pub line : CommandLine
    pub means : IsLine words line
    pub lost : (gid : Gid) (id mirror piece : ℕ) (mark : Mark) → Contains events (Lost gid id mirror piece mark)
        → LostAsTold links (start_of_line gids 0 line.globals) events 0 old new gid id mirror mark
    pub sized : (gid : Gid) (id total : ℕ) → Contains events (Sized gid id total)
        → SizedAsTold links (start_of_line gids 0 line.globals) events 0 old new gid id total

  abbrev pub ShowsLink : List Event → L → L → Type 0
  ShowsLink events old new = (events ≡ []) ⊎ LinkCauses events old new

  -- .. of the first link
  abbrev pub ShowsFirstLink : {K : Type 0} → List Event → (old new : List (L × K)) → Type 0
  ShowsFirstLink {K} events old new =
      (link link' : L × K) (others others' : List (L × K)) → old ≡ link ∷ others → new ≡ link' ∷ others'
      → ShowsLink events link.0 link'.0
