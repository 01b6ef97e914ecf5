-- What is done with the sealed bytes of a piece that was handed out.
use Rattle.std.specs.Prelude.{◌≡◌, ◌⊎◌, Bool, true, Some, List, [], slice_index_or}
use Rattle.dl_kinds.specs.declared.gid.Gid.{Gid}
use Rattle.verify_piece.specs.Checks.{has_digest}
use Rattle.verify_piece.specs.Seals.{PieceBytes}
use Rattle.machine_core.specs.Offers.{is_handed_out}
use Rattle.machine_core.specs.RunLegal.{download_in}
use Rattle.machine_core.specs.Starts.{Download, Subject, Listed, Unlisted}
use Rattle.machine_core.specs.declared.events.Event.{Event}
use Rattle.engine_turns.specs.Phases.{AfterDisk, AndThen, EndingOr, NoEvent, Phase, SettlingPhase, TurnStart}
use Rattle.engine_turns.specs.declared.outcome.Outcome.{Outcome}
use Rattle.engine_turns.specs.Standings.{AnswersOnly, AnswersUnlessStarved, RunStanding}
use Rattle.engine_turns.specs.declared.operations.Said.{Said}
use Rattle.engine_turns.specs.declared.operations.Said.TheVariants.{Done, Void}

-- the bytes have the digest that the metainfo file lists for the piece
abbrev pub has_listed_digest : Subject → PieceBytes → Bool
has_listed_digest (Listed meta uris) sealed = has_digest sealed.bytes (slice_index_or meta.digests sealed.piece [])
has_listed_digest (Unlisted uris) sealed = true

-- the piece is read and compared, and then settled by the digest; the download ends where each wanted piece is verified
abbrev pub SealPhase : TurnStart → Download → PieceBytes → Phase
SealPhase at download sealed =
    AndThen (AfterDisk at download.gid [])
    (AndThen (SettlingPhase at download sealed.piece (has_listed_digest download.subject sealed))
    (EndingOr at download NoEvent))

pub record IsSettled (at : TurnStart) (s : RunStanding) (gid : Gid) (sealed : PieceBytes) (events : List Event)
    (said : Said) : Type 0 where
  pub download : Download
  pub added : download_in at.start s.past gid ≡ Some download
  pub outcome : Outcome
  pub is : SealPhase at download sealed s.past events outcome
  pub answer : AnswersUnlessStarved Done outcome said

-- Of a piece that isn't handed out a seal is void. Of one that is, it is void where the disk has other bytes: whether it has
-- is for what is said of the disk.
abbrev pub SealRow : TurnStart → RunStanding → Gid → PieceBytes → List Event → Said → Type 0
SealRow at s gid sealed events said =
    AnswersOnly Void events said
    ⊎ ((is_handed_out s.handed gid sealed.piece ≡ true) × IsSettled at s gid sealed events said)
