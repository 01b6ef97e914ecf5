-- The part of a run's history that concerns one download.
use Rattle.std.specs.Prelude.{ℕ, ◌&&◌, ◌||◌, Bool, true, false, not, if◌then◌else◌, Option, Some, None, List, [], ◌∷◌}
use Rattle.std.specs.Option.{option_and_then}
use Rattle.dl_kinds.specs.declared.gid.Gid.{Gid}
use Rattle.option_set.specs.Values.{number_value}
use Rattle.option_set.specs.declared.kinds.Num.TheVariants as num
use Rattle.dl_history.specs.OwnEvents.{OwnEvent, Opens, Grants, Lands, Settles, Clears, Loses, Sizes, Saves, Checks, Halts}
use Rattle.dl_history.specs.PayloadParts.{told_total}
use Rattle.machine_core.specs.Replays.{replay_of, is_active_in, download_of, is_same_gid}
use Rattle.machine_core.specs.Starts.{RunStart, Download, Subject, Listed, Unlisted}
use Rattle.machine_core.specs.declared.calls.Call.{Call}
use Rattle.machine_core.specs.declared.calls.Call.TheVariants as call
use Rattle.machine_core.specs.declared.events.Event.{Event}
use Rattle.machine_core.specs.declared.events.Event.TheVariants.{Called, Opened, Sized, Claimed, Landed, Settled, Cleared, Lost, Checked, Saved, Ended, Left, Stopped}

abbrev pub is_shutdown : Call → Bool
is_shutdown call.Shutdown = true
is_shutdown other = false

-- a call by which the download leaves the active list, or which shuts the run down
abbrev pub halts_by : RunStart → List Event → Event → Call → Gid → Bool
halts_by start before event asked gid =
    is_shutdown asked || is_active_in start before gid && not (is_active_in start (event ∷ before) gid)

abbrev pub halted_where : Bool → List OwnEvent → List OwnEvent
halted_where true own = Halts false ∷ own
halted_where false own = own

abbrev pub with_own : Gid → Gid → OwnEvent → List OwnEvent → List OwnEvent
with_own concerned gid own_event own = if is_same_gid gid concerned then own_event ∷ own else own

abbrev pub own_of : RunStart → List Event → Gid → List OwnEvent
own_of start [] gid = []
own_of start (Called session asked now ∷ before) gid =
    halted_where (halts_by start before (Called session asked now) asked gid) (own_of start before gid)
own_of start (Opened other verified blocks now ∷ before) gid =
    with_own other gid (Opens verified blocks now) (own_of start before gid)
own_of start (Sized other id total ∷ before) gid = with_own other gid (Sizes id total) (own_of start before gid)
own_of start (Claimed other claim ∷ before) gid = with_own other gid (Grants claim) (own_of start before gid)
own_of start (Landed other id mirror run now ∷ before) gid =
    with_own other gid (Lands id mirror run) (own_of start before gid)
own_of start (Settled other piece right giver ∷ before) gid =
    with_own other gid (Settles piece right giver) (own_of start before gid)
own_of start (Cleared other piece ∷ before) gid = with_own other gid (Clears piece) (own_of start before gid)
own_of start (Lost other id mirror piece mark ∷ before) gid =
    with_own other gid (Loses id mirror piece mark) (own_of start before gid)
own_of start (Checked other right ∷ before) gid = with_own other gid (Checks right) (own_of start before gid)
own_of start (Saved other now ∷ before) gid = with_own other gid (Saves now) (own_of start before gid)
own_of start (Ended other how ∷ before) gid = with_own other gid (Halts true) (own_of start before gid)
own_of start (Left ∷ before) gid = own_of start before gid
own_of start (Stopped ∷ before) gid = Halts false ∷ own_of start before gid

-- ---- lengths

-- the length of a payload, and of its pieces
pub record PayloadLengths : Type 0 where
  pub total : ℕ
  pub piece_len : ℕ

abbrev pub no_lengths : PayloadLengths
no_lengths = record { total = 0; piece_len = 0 }

abbrev pub told_lengths : ℕ → Option ℕ → Option PayloadLengths
told_lengths piece_len None = None
told_lengths piece_len (Some total) = Some (record { total = total; piece_len = piece_len })

-- those of a metainfo file, or what a probe told with the piece length of the options
abbrev pub lengths_by : Download → Subject → List OwnEvent → Option PayloadLengths
lengths_by download (Listed meta uris) own =
    Some (record { total = meta.plan.total; piece_len = meta.plan.piece_len })
lengths_by download (Unlisted uris) own = told_lengths (number_value download.options num.PieceLength)
    (told_total own)

abbrev pub payload_lengths_of : RunStart → List Event → Gid → Option PayloadLengths
payload_lengths_of start past gid =
    option_and_then (λ (d : Download). lengths_by d d.subject (own_of start past gid))
    (download_of (replay_of start past).downloads gid)
