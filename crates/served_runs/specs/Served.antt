-- What the history of a run holds against mirrors that serve a payload.
use Rattle.std.specs.Prelude.{◌≡◌, ◌≢◌, ◌⊎◌, ◌<◌, ℕ, false, true, Contains, IsTrue, List, [], Some, slice_get}
use Rattle.command_line.specs.Lines.{IsLine}
use Rattle.command_line.specs.declared.line.CommandLine.{CommandLine}
use Rattle.control_file.specs.declared.want.Want.{Want}
use Rattle.dl_disk.specs.declared.disk.Disk.{Ghosts as DiskSays}
use Rattle.dl_kinds.specs.declared.gid.Gid.{Gid}
use Rattle.dl_kinds.specs.declared.marks.Mark.{Mark}
use Rattle.engine_turns.specs.Told.{RunTurn, history_of}
use Rattle.link_source.specs.declared.Links.{Ghosts as LinkSays}
use Rattle.machine_core.specs.RunLegal.{download_in, is_listed}
use Rattle.machine_core.specs.Starts.{Download, RunStart, Subject}
use Rattle.machine_core.specs.declared.events.Event.{Event}
use Rattle.machine_core.specs.declared.events.Event.TheVariants.{Lost, Settled}
use Rattle.metainfo.specs.declared.meta.Meta.{Meta}
use Rattle.option_set.specs.Values.{OptionValues}
use Rattle.piece_table.specs.declared.giver.Giver.TheVariants.{One}
use Rattle.blameless_mirrors.specs.Blameless.{HasChosenPieces, IsListedAlone}
use Rattle.run_lifecycle.specs.Begins.{start_of_line}
use Rattle.run_lifecycle.specs.TurnsOf.{AreTurnsOf}
use Rattle.run_lifecycle.specs.declared.ended.Ended.{Ended}
use Rattle.run_report.specs.declared.endings.RunEnding.{RunEnding}
use Rattle.run_report.specs.declared.endings.RunEnding.TheVariants.{NoMemory}
use Rattle.served_runs.specs.Serving.{ServesRightly, ServesUnused}

module _ {L K : Type 0} (links : LinkSays L) (olds : List (L × K)) where
  -- over each link, as it was given, the mirrors serve the payload, and none has a bad answer left
  abbrev pub AllServe : Subject → OptionValues → ℕ → List ℕ → Type 0
  AllServe subject options mirror payload =
      (place : ℕ) (old : L × K) → slice_get olds place ≡ Some old
      → ServesRightly (links.state old.0).content subject options mirror payload

module _ {L K : Type 0} (links : LinkSays L) (olds news : List (L × K)) where
  -- .. or none used one over any link
  abbrev pub AllUseNone : Subject → OptionValues → ℕ → List ℕ → Type 0
  AllUseNone subject options mirror payload =
      (place : ℕ) (old new : L × K) → slice_get olds place ≡ Some old → slice_get news place ≡ Some new
      → ServesUnused (links.state old.0).content (links.state new.0).content subject options mirror payload

  -- all that a download of a metainfo file asks of this mirror is served so, in a run that ended like this
  pub record IsServed (how : RunEnding) (start : RunStart) (past : List Event) (gid : Gid) (mirror : ℕ) (payload : List ℕ)
      : Type 0 where
    pub download : Download
    pub added : download_in start past gid ≡ Some download
    pub listed : is_listed download.subject ≡ true
    pub serve : AllServe links olds download.subject download.options mirror payload
        ⊎ (AllUseNone download.subject download.options mirror payload × (how ≢ NoMemory))

module _ {D L K : Type 0} (says : DiskSays D) (links : LinkSays L) (words : List (List ℕ)) (gids doors : ℕ)
    (olds news : List (L × K)) (ended : Ended D) where
  -- Turns came, which are the run's. Each loss at a mirror that serves a payload tells a count of the link's own faults. Where
  -- the payload has the metainfo file's digests in each piece that the options choose, no piece that this mirror alone gave is
  -- found wrong.
  pub record HoldsNothing : Type 0 where
    pub line : CommandLine
    pub means : IsLine words line
    pub told : List RunTurn
    pub turns : AreTurnsOf ended (start_of_line gids doors line.globals) told
    pub lost : (gid : Gid) (mirror : ℕ) (payload : List ℕ)
        → IsServed links olds news ended.ending (start_of_line gids doors line.globals) (history_of told) gid mirror payload
        → (id piece : ℕ) (mark : Mark) → Contains ended.journal.events.items (Lost gid id mirror piece mark)
        → 0 < mark.count
    pub settled : IsTrue says.tells → (gid : Gid) (mirror : ℕ) (payload : List ℕ) (meta : Meta) (want : Want)
        (alone : IsListedAlone (start_of_line gids doors line.globals) told gid meta want)
        → HasChosenPieces meta alone.download.options payload
        → IsServed links olds news ended.ending (start_of_line gids doors line.globals) (history_of told) gid mirror payload
        → (piece : ℕ) → ¬ Contains ended.journal.events.items (Settled gid piece false (One mirror))

  -- what mirrors that serve a payload are held to account for
  abbrev pub SparesServing : Type 0
  SparesServing = (ended.journal.events.items ≡ []) ⊎ HoldsNothing
