-- What the events of a turn are made of, in order.
use Rattle.std.specs.Prelude.{◌≡◌, ◌≢◌, ◌⊎◌, ℕ, ◌-◌, ◌^◌, ◌<◌, ◌≤◌, Bool, true, false, List, [], ◌∷◌, ◌++◌, slice_index_or}
use Rattle.dl_kinds.specs.declared.gid.Gid.{Gid}
use Rattle.dl_kinds.specs.declared.marks.Mark.{Mark}
use Rattle.dl_kinds.specs.declared.runs.Moment.{Moment}
use Rattle.dl_kinds.specs.declared.runs.Run.{Run}
use Rattle.dl_history.specs.PayloadParts.{is_verified_in, sources_in}
use Rattle.piece_table.specs.Changes.{IsGiver}
use Rattle.piece_table.specs.Progress.{piece_part}
use Rattle.piece_table.specs.declared.giver.Giver.{Giver}
use Rattle.machine_core.specs.OwnParts.{own_of}
use Rattle.machine_core.specs.Reads.{IsUnlistedIn}
use Rattle.machine_core.specs.RunLegal.{IsDeadIn, has_checksum, known_lengths}
use Rattle.machine_core.specs.Starts.{Download, RunStart}
use Rattle.machine_core.specs.Wanted.{wanted_pieces}
use Rattle.machine_core.specs.declared.ends.End.{End}
use Rattle.machine_core.specs.declared.ends.End.TheVariants as end
use Rattle.machine_core.specs.declared.events.Event.{Event}
use Rattle.machine_core.specs.declared.events.Event.TheVariants.{Opened, Landed, Settled, Cleared, Checked, Saved, Ended}
use Rattle.engine_turns.specs.Faults.{CountsFaults}
use Rattle.engine_turns.specs.Told.{history_after}
use Rattle.engine_turns.specs.declared.outcome.Outcome.{Outcome}
use Rattle.engine_turns.specs.declared.outcome.Outcome.TheVariants.{Went, Over, Starved}

-- the history before it, its events in order, and how it came out
abbrev pub Phase : Type 1
Phase = List Event → List Event → Outcome → Type 0

-- what a turn begins with: the start of the run, the moment, and the disk's count of faults
pub record TurnStart : Type 0 where
  pub start : RunStart
  pub now : Moment
  pub faults : ℕ

-- a count of the disk that rose since then, or stands at its last value
abbrev pub IsRisen : TurnStart → ℕ → Type 0
IsRisen at count = (at.faults < count) ⊎ (count ≡ 2 ^ 64 - 1)

-- ---- parts without the disk

abbrev pub NoEvent : Phase
NoEvent past events Went = events ≡ []
NoEvent past events Over = ⊥
NoEvent past events Starved = ⊥

abbrev pub JustEvent : Event → Phase
JustEvent e past events Went = events ≡ e ∷ []
JustEvent e past events Over = ⊥
JustEvent e past events Starved = ⊥

-- the event ends the download
abbrev pub JustEnd : Event → Phase
JustEnd e past events Went = ⊥
JustEnd e past events Over = events ≡ e ∷ []
JustEnd e past events Starved = ⊥

-- ---- parts put together

-- the first part is broken off
abbrev pub BreaksOff : Phase → List Event → List Event → Outcome → Type 0
BreaksOff P past events outcome = P past events outcome × (outcome ≢ Went)

-- all of the first part came, and then the second one
pub record ContinuesWith (P Q : Phase) (past events : List Event) (outcome : Outcome) : Type 0 where
  pub front : List Event
  pub rest : List Event
  pub cut : events ≡ front ++ rest
  pub first : P past front Went
  pub second : Q (history_after past front) rest outcome

abbrev pub AndThen : Phase → Phase → Phase
AndThen P Q past events outcome = BreaksOff P past events outcome ⊎ ContinuesWith P Q past events outcome

-- a part that the history before it decides
abbrev pub ByHistory : (List Event → Phase) → Phase
ByHistory P past = P past past

-- a part that comes where this holds, and otherwise another
abbrev pub IfElse : Type 0 → Phase → Phase → Phase
IfElse Holds P Q past events outcome = (Holds × P past events outcome) ⊎ ((Holds → ⊥) × Q past events outcome)

-- ---- parts with calls of the disk

-- a fault of the disk: the download ends with its count
abbrev pub DiskFaultEnds : TurnStart → Gid → List Event → Type 0
DiskFaultEnds at gid events = (count : ℕ) × IsRisen at count × (events ≡ Ended gid (end.Disk count) ∷ [])

-- calls of the disk, and then these events
abbrev pub AfterDisk : TurnStart → Gid → List Event → Phase
AfterDisk at gid due past events Went = events ≡ due
AfterDisk at gid due past events Over = DiskFaultEnds at gid events
AfterDisk at gid due past events Starved = events ≡ []

-- calls of the disk, and then the end of the download
abbrev pub EndAfterDisk : TurnStart → Gid → End → Phase
EndAfterDisk at gid how past events Went = ⊥
EndAfterDisk at gid how past events Over = (events ≡ Ended gid how ∷ []) ⊎ DiskFaultEnds at gid events
EndAfterDisk at gid how past events Starved = events ≡ []

abbrev pub SavePhase : TurnStart → Gid → Phase
SavePhase at gid = AfterDisk at gid (Saved gid at.now ∷ [])

-- ---- a piece

-- where no mirror has a try left for the piece the download ends
abbrev pub DeadPhase : TurnStart → Download → ℕ → Phase
DeadPhase at download piece past events Went =
    (events ≡ []) × ((mark : Mark) → IsDeadIn at.start past download piece mark → ⊥)
DeadPhase at download piece past events Over =
    (mark : Mark) × IsDeadIn at.start past download piece mark
    × (events ≡ Ended download.gid (end.Dead piece mark) ∷ [])
DeadPhase at download piece past events Starved = ⊥

abbrev pub IsGiverIn : RunStart → List Event → Gid → ℕ → Giver → Type 0
IsGiverIn start past gid piece giver =
    let lengths = known_lengths start past gid in
    IsGiver (piece_part lengths.total lengths.piece_len
    (sources_in lengths.total lengths.piece_len (own_of start past gid)) piece) giver

-- the piece is found right or wrong
abbrev pub FindingPhase : TurnStart → Gid → ℕ → Bool → Phase
FindingPhase at gid piece right past events Went =
    (giver : Giver) × IsGiverIn at.start past gid piece giver × (events ≡ Settled gid piece right giver ∷ [])
FindingPhase at gid piece right past events Over = ⊥
FindingPhase at gid piece right past events Starved = ⊥

-- a save without the piece, where the last one lists a block of it
abbrev pub UnlistingPhase : TurnStart → Gid → ℕ → Phase
UnlistingPhase at gid piece =
    ByHistory (λ past. IfElse (IsUnlistedIn at.start past gid piece) NoEvent (SavePhase at gid))

-- a wrong piece is cleared, once no save lists a block of it
abbrev pub WrongPhase : TurnStart → Download → ℕ → Phase
WrongPhase at download piece =
    AndThen (UnlistingPhase at download.gid piece)
    (AndThen (JustEvent (Cleared download.gid piece)) (DeadPhase at download piece))

abbrev pub after_finding_phase : TurnStart → Download → ℕ → Bool → Phase
after_finding_phase at download piece true = NoEvent
after_finding_phase at download piece false = WrongPhase at download piece

abbrev pub SettlingPhase : TurnStart → Download → ℕ → Bool → Phase
SettlingPhase at download piece right =
    AndThen (FindingPhase at download.gid piece right) (after_finding_phase at download piece right)

-- pieces of a download without digests: each counts as right
abbrev pub AllRightPhase : TurnStart → Download → List ℕ → Phase
AllRightPhase at download [] = NoEvent
AllRightPhase at download (piece ∷ pieces) =
    AndThen (SettlingPhase at download piece true) (AllRightPhase at download pieces)

-- ---- the end of a download

-- the checksum is right, or wrong
abbrev pub CheckedPhase : TurnStart → Gid → Bool → Phase
CheckedPhase at gid true = EndAfterDisk at gid end.Complete
CheckedPhase at gid false = JustEnd (Ended gid end.Checksum)

-- with a checksum the whole payload is compared first
abbrev pub CompletionPhase : TurnStart → Gid → Bool → Phase
CompletionPhase at gid false past events outcome = EndAfterDisk at gid end.Complete past events outcome
CompletionPhase at gid true past events outcome =
    (right : Bool) × AndThen (AfterDisk at gid (Checked gid right ∷ [])) (CheckedPhase at gid right) past events outcome

-- each wanted piece is verified
abbrev pub IsWantedVerified : RunStart → List Event → Download → Type 0
IsWantedVerified start past download =
    (piece : ℕ) → slice_index_or (wanted_pieces download (known_lengths start past download.gid)) piece false ≡ true
    → is_verified_in (own_of start past download.gid) piece ≡ true

-- where each wanted piece is verified the download ends; otherwise another part comes
abbrev pub EndingOr : TurnStart → Download → Phase → Phase
EndingOr at download Otherwise =
    ByHistory (λ past. IfElse (IsWantedVerified at.start past download)
    (CompletionPhase at download.gid (has_checksum download)) Otherwise)

-- ---- blocks

-- the runs are written and counted one after another
abbrev pub LandingsPhase : TurnStart → Gid → (claim mirror : ℕ) → List Run → Phase
LandingsPhase at gid claim mirror [] = NoEvent
LandingsPhase at gid claim mirror (run ∷ runs) =
    AndThen (AfterDisk at gid (Landed gid claim mirror run at.now ∷ [])) (LandingsPhase at gid claim mirror runs)

-- ---- saves of several downloads

-- a save, or the end of the download by a fault
abbrev pub IsSaveOrFault : TurnStart → Gid → Event → Type 0
IsSaveOrFault at gid e =
    (e ≡ Saved gid at.now) ⊎ ((count : ℕ) × IsRisen at count × (e ≡ Ended gid (end.Disk count)))

-- the downloads are saved one after another; want of memory leaves out the rest
abbrev pub SavesPhase : TurnStart → List Gid → Phase
SavesPhase at [] past events outcome = (events ≡ []) × (outcome ≡ Went)
SavesPhase at (gid ∷ gids) past events outcome =
    ((e : Event) × (rest : List Event) × (events ≡ e ∷ rest) × IsSaveOrFault at gid e
    × SavesPhase at gids (e ∷ past) rest outcome)
    ⊎ ((events ≡ []) × (outcome ≡ Starved))

-- ---- an opening

-- what the store may find in place of one
abbrev pub IsOpeningRefusal : TurnStart → End → Type 0
IsOpeningRefusal at (end.Disk count) = IsRisen at count
IsOpeningRefusal at (end.Exists length) = Unit {0}
IsOpeningRefusal at (end.PieceLength have want) = Unit {0}
IsOpeningRefusal at (end.Length have want) = Unit {0}
IsOpeningRefusal at end.InfoHash = Unit {0}
IsOpeningRefusal at (end.Unreadable place) = Unit {0}
IsOpeningRefusal at other = ⊥

abbrev pub OpeningPhase : TurnStart → Gid → Phase
OpeningPhase at gid past events Went =
    (verified : List Bool) × (blocks : List Bool) × (events ≡ Opened gid verified blocks at.now ∷ [])
OpeningPhase at gid past events Over = (how : End) × IsOpeningRefusal at how × (events ≡ Ended gid how ∷ [])
OpeningPhase at gid past events Starved = events ≡ []

-- ---- what a part of the code did

-- from one history and count of faults to the next, the events of a part
pub record Did (P : ℕ → Phase) (old : List Event) (faults : ℕ) (new : List Event) (faults_after : ℕ) (outcome : Outcome)
    : Type 0 where
  pub events : List Event
  pub grown : new ≡ history_after old events
  pub is : (from : ℕ) → from ≤ faults → P from old events outcome
  pub later : faults ≤ faults_after
  pub counts : CountsFaults faults events faults_after
