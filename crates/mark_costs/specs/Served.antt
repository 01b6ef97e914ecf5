-- Runs whose work is one worker's over one link, and mirrors in memory that hold their pieces. The newest turn is
-- the first.
use Rattle.std.specs.Prelude.{◌≡◌, ◌<◌, ◌++◌, ℕ, Bool, true, false, IsTrue, Contains, List, reverse, slice_index_or}
use Rattle.control_file.specs.declared.want.Want.{Want}
use Rattle.conn_worker.specs.Hands.{LinkAt}
use Rattle.dl_disk.specs.State.{DiskState}
use Rattle.dl_kinds.specs.declared.gid.Gid.{Gid}
use Rattle.dl_kinds.specs.declared.marks.Mark.{Mark}
use Rattle.engine_turns.specs.NextRows.{mirror_url}
use Rattle.engine_turns.specs.Told.{RunTurn, history_of}
use Rattle.link_source.specs.Mirrors.{Content}
use Rattle.machine_core.specs.RunLegal.{mirrors_by, tries_in}
use Rattle.machine_core.specs.Starts.{RunStart, Subject}
use Rattle.machine_core.specs.Wanted.{wanted_pieces}
use Rattle.machine_core.specs.declared.ends.End.{End}
use Rattle.machine_core.specs.declared.ends.End.TheVariants.{Complete, Dead}
use Rattle.machine_core.specs.declared.events.Event.TheVariants.{Ended}
use Rattle.metainfo.specs.declared.meta.Meta.{Meta}
use Rattle.blameless_mirrors.specs.Blameless.{HasFailedLink}
use Rattle.blameless_mirrors.specs.Lone.{IsOnly, LacksControlFirst}
use Rattle.served_runs.specs.Answering.{WorksOver}
use Rattle.served_runs.specs.ServingLaws.{UsesClaim}
use Rattle.mark_costs.specs.Holding.{HoldsPiece, bad_among}
use Rattle.mark_costs.specs.Paid.{IsListedRun, lengths_of_meta}

-- Among these turns are all those of one worker over its link, which was so at first; no turn before them or
-- behind them uses a claim.
pub record IsWorkOfOne (tells : Bool) (told : List RunTurn) (old : LinkAt) : Type 0 where
  pub worker : ℕ
  pub first : List RunTurn
  pub worked : List RunTurn
  pub last : List RunTurn
  pub new : LinkAt
  pub order : told ≡ last ++ (reverse worked ++ first)
  pub works : WorksOver tells worker worked old new
  pub before : (t : RunTurn) → Contains first t → ¬ UsesClaim t.op
  pub behind : (t : RunTurn) → Contains last t → ¬ UsesClaim t.op

-- A mirror of what is downloaded holds the piece, and fewer bad answers are left of the mirrors in
-- memory that its URLs lead through than it has tries.
pub record IsServedPiece (content : Content) (subject : Subject) (tries : ℕ) (meta : Meta)
    (piece : ℕ) : Type 0 where
  pub mirror : ℕ
  pub known : mirror < mirrors_by subject
  pub held : List ℕ
  pub among : ℕ → Bool
  pub holds : HoldsPiece content meta (mirror_url subject mirror) held among piece
  pub fewer : bad_among among content < tries

module _ {D : Type 0} (state : D → DiskState) where
  -- then the piece is never dead, unless the link failed
  abbrev pub ServedNeverDie : Type 0
  ServedNeverDie =
      (tells : Bool) (start : RunStart) (told : List RunTurn) (disk : D) (gid : Gid) (meta : Meta) (want : Want) (old : LinkAt)
      → IsTrue tells → (is : IsListedRun start told (state disk) gid meta want) → IsWorkOfOne tells told old
      → (piece : ℕ)
      → (served : IsServedPiece old.state.content is.listed.download.subject
      (tries_in is.listed.download) meta piece)
      → ¬ HasFailedLink (history_of told) gid served.mirror
      → (mark : Mark) → ¬ Contains (history_of told) (Ended gid (Dead piece mark))

  -- so where each wanted piece is served and the link doesn't fail, the only download ends by being complete alone
  abbrev pub ServedOnlyComplete : Type 0
  ServedOnlyComplete =
      (tells : Bool) (start : RunStart) (told : List RunTurn) (disk : D) (gid : Gid) (meta : Meta) (want : Want) (old : LinkAt)
      → IsTrue tells → (is : IsListedRun start told (state disk) gid meta want) → IsWorkOfOne tells told old
      → ((piece : ℕ) → slice_index_or (wanted_pieces is.listed.download (lengths_of_meta meta)) piece false ≡ true
      → IsServedPiece old.state.content is.listed.download.subject
      (tries_in is.listed.download) meta piece)
      → ((mirror : ℕ) → ¬ HasFailedLink (history_of told) gid mirror) → IsOnly start (history_of told) gid
      → LacksControlFirst told (state disk) want
      → (other : Gid) (how : End) → Contains (history_of told) (Ended other how) → (other ≡ gid) × (how ≡ Complete)
