-- The pieces that workers compare.
use Rattle.std.specs.Prelude.{◌≡◌, ◌&&◌, ℕ, Bool, true, not, Some, List, filter}
use Rattle.std.specs.List.{list_any}
use Rattle.dl_history.specs.PayloadParts.{is_opened}
use Rattle.dl_kinds.specs.declared.gid.Gid.{Gid}
use Rattle.machine_core.specs.Offers.{AwaitsFinding, is_handed}
use Rattle.machine_core.specs.OwnParts.{own_of}
use Rattle.machine_core.specs.Replays.{is_active_in}
use Rattle.machine_core.specs.RunLegal.{IsLegal, download_in, is_listed, known_lengths}
use Rattle.machine_core.specs.Starts.{Download, RunStart}
use Rattle.machine_core.specs.declared.events.Event.{Event}
use Rattle.machine_core.specs.declared.handed.Handed.{Handed}
use Rattle.engine_turns.specs.Told.{history_after, settles_handed}

-- none of the events settles the piece
abbrev pub settle_none : List Event → Handed → Bool
settle_none events h = not (list_any (settles_handed h) events)

-- .. and its download is active behind them
abbrev pub stays_handed : RunStart → List Event → List Event → Handed → Bool
stays_handed start past events h = is_active_in start past h.gid && settle_none events h

-- without a piece, where its seal was taken
abbrev pub handed_but : Gid → ℕ → Bool → List Handed → List Handed
handed_but gid piece taken handed = filter (λ h. not (is_handed gid piece h && taken)) handed

-- ---- each is to be found right or wrong

-- a full piece, of a download with a metainfo file that is opened, that awaits its finding
pub record IsUnsettled (start : RunStart) (past : List Event) (h : Handed) : Type 0 where
  pub download : Download
  pub added : download_in start past h.gid ≡ Some download
  pub listed : is_listed download.subject ≡ true
  pub opened : is_opened (own_of start past h.gid) ≡ true
  pub awaits : AwaitsFinding (known_lengths start past h.gid).total (known_lengths start past h.gid).piece_len
      (own_of start past h.gid) h.piece

-- .. and the download is active
pub record IsOut (start : RunStart) (past : List Event) (h : Handed) : Type 0 where
  pub unsettled : IsUnsettled start past h
  pub active : is_active_in start past h.gid ≡ true

-- such a piece is out after events that neither settle it nor end its download
abbrev pub OutPiecesStay : Type 0
OutPiecesStay =
    (start : RunStart) (past events : List Event) (h : Handed)
    → IsLegal start (history_after past events) → IsUnsettled start past h
    → stays_handed start (history_after past events) events h ≡ true → IsOut start (history_after past events) h
