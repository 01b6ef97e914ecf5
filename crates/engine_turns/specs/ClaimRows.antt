-- What is done for a claim that stands: its blocks are delivered, more bytes are asked for, it is lost, or its probe
-- told a length.
use Rattle.std.specs.Prelude.{◌≡◌, ◌≢◌, ◌⊎◌, ℕ, zero, suc, ◌+◌, ◌-◌, ◌≤◌, ◌<◌, ◌*◌, min, All, AllPairs, Bool, true, false, Contains, Some, List, length, sum_by}
use Rattle.dl_kinds.specs.Plan.{IsPlan, block_end, block_start, pieces_of}
use Rattle.dl_kinds.specs.declared.claims.Claim.{Claim}
use Rattle.dl_kinds.specs.declared.gid.Gid.{Gid}
use Rattle.dl_kinds.specs.declared.marks.Mark.{Mark}
use Rattle.dl_kinds.specs.declared.runs.Moment.{Moment}
use Rattle.dl_kinds.specs.declared.runs.Run.{Run}
use Rattle.dl_history.specs.HistoryLaws.{IsFullIn}
use Rattle.dl_history.specs.Listings.{last_saved}
use Rattle.dl_history.specs.OwnEvents.{OwnEvent}
use Rattle.dl_history.specs.PayloadParts.{is_sole_in}
use Rattle.dl_history.specs.StandingClaims.{first_open_since, is_probe, piece_of_first}
use Rattle.option_set.specs.Values.{number_value}
use Rattle.option_set.specs.declared.kinds.Num.TheVariants.{AutoSaveInterval, PieceLength}
use Rattle.machine_core.specs.Choices.{options_now}
use Rattle.machine_core.specs.Claiming.{AreOpenIn}
use Rattle.machine_core.specs.Offers.{Credit, gid_credit}
use Rattle.machine_core.specs.OwnParts.{PayloadLengths, own_of}
use Rattle.machine_core.specs.Replays.{queue_in}
use Rattle.machine_core.specs.RunLegal.{is_listed, known_lengths}
use Rattle.machine_core.specs.Starts.{Download, RunStart}
use Rattle.machine_core.specs.declared.ends.End.TheVariants as end
use Rattle.machine_core.specs.declared.events.Event.{Event}
use Rattle.machine_core.specs.declared.events.Event.TheVariants.{Cleared, Ended, Landed, Lost, Sized}
use Rattle.engine_turns.specs.Phases.{AllRightPhase, AndThen, ByHistory, DeadPhase, EndingOr, IfElse, JustEnd, JustEvent, LandingsPhase, NoEvent, Phase, SavePhase, TurnStart}
use Rattle.engine_turns.specs.declared.outcome.Outcome.{Outcome}
use Rattle.engine_turns.specs.Standings.{AnswersOnly, AnswersUnlessStarved, RunStanding, levels_in}
use Rattle.engine_turns.specs.declared.limits.TheConstants.{MAX_ALLOWANCE, MAX_DELIVERY}
use Rattle.engine_turns.specs.declared.operations.Said.{Said}
use Rattle.engine_turns.specs.declared.operations.Said.TheVariants.{Allow, Done, Hold, Kept, Void}

-- ---- credits

-- of both buckets the lesser credit, and the longer wait
abbrev pub turn_credit : TurnStart → RunStanding → Gid → Credit
turn_credit at s gid = gid_credit (queue_in at.start s.past).added (levels_in s) at.now.0 gid

-- ---- blocks are delivered

-- 1 to 64 blocks of the claim's run, and their bytes
pub record IsDelivery (lengths : PayloadLengths) (claim : Claim) (run : Run) (bytes : List ℕ) : Type 0 where
  pub some : 1 ≤ run.count
  pub few : run.count ≤ MAX_DELIVERY
  pub first : claim.run.first ≤ run.first
  pub last : run.first + run.count ≤ claim.run.first + claim.run.count
  pub len : block_start lengths.piece_len run.first + length bytes
      ≡ block_end lengths.total lengths.piece_len (run.first + run.count - 1)

-- it is full now, and wasn't before
abbrev pub IsFilled : PayloadLengths → (before own : List OwnEvent) → ℕ → Type 0
IsFilled lengths before own piece =
    IsFullIn lengths.total lengths.piece_len own piece × (IsFullIn lengths.total lengths.piece_len before piece → ⊥)

-- the filled pieces, ascending
pub record AreFilled (lengths : PayloadLengths) (before own : List OwnEvent) (pieces : List ℕ) : Type 0 where
  pub exact : (piece : ℕ) → piece < pieces_of lengths.total lengths.piece_len
      → IsFilled lengths before own piece → Contains pieces piece
  pub only : All (λ piece. (piece < pieces_of lengths.total lengths.piece_len) × IsFilled lengths before own piece)
      pieces
  pub ascending : AllPairs (λ earlier later. earlier < later) pieces

-- a save is due: so many seconds passed since the last one
pub record IsSaveDue (at : TurnStart) (past : List Event) (download : Download) : Type 0 where
  pub saved : Moment
  pub last : last_saved (own_of at.start past download.gid) ≡ Some saved
  pub on : number_value (options_now at.start past download) AutoSaveInterval ≢ 0
  pub later : saved.0 + 1000 * number_value (options_now at.start past download) AutoSaveInterval ≤ at.now.0

abbrev pub DueSavePhase : TurnStart → Download → Phase
DueSavePhase at download = ByHistory (λ past. IfElse (IsSaveDue at past download) (SavePhase at download.gid) NoEvent)

-- the filled pieces of a download without digests count as right
abbrev pub filled_phase : TurnStart → List Event → Download → Bool → Phase
filled_phase at before download true past events outcome = NoEvent past events outcome
filled_phase at before download false past events outcome =
    (pieces : List ℕ)
    × AreFilled (known_lengths at.start past download.gid) (own_of at.start before download.gid)
    (own_of at.start past download.gid) pieces
    × AllRightPhase at download pieces past events outcome

-- the blocks are written and counted, the filled pieces settled, and the download ends or is saved where that is due
abbrev pub DeliveryPhase : TurnStart → List Event → Download → Claim → List Run → Phase
DeliveryPhase at before download claim runs =
    AndThen (LandingsPhase at download.gid claim.id claim.mirror runs)
    (AndThen (filled_phase at before download (is_listed download.subject))
    (EndingOr at download (DueSavePhase at download)))

abbrev pub blocks_in_event : Event → ℕ
blocks_in_event (Landed gid claim mirror run now) = run.count
blocks_in_event e = 0

-- told are the blocks that were counted in this turn, and those that weren't open
pub record IsKept (at : TurnStart) (s : RunStanding) (download : Download) (claim : Claim) (run : Run)
    (events : List Event) (said : Said) : Type 0 where
  pub runs : List Run
  pub open_runs : AreOpenIn (own_of at.start s.past download.gid) claim run runs
  pub outcome : Outcome
  pub is : DeliveryPhase at s.past download claim runs s.past events outcome
  pub repeated : ℕ
  pub repeats : repeated + sum_by (λ (open_run : Run). open_run.count) runs ≡ run.count
  pub answer : AnswersUnlessStarved (Kept (sum_by blocks_in_event events) repeated) outcome said

abbrev pub DeliverRow : TurnStart → RunStanding → Run → List ℕ → Download → Claim → List Event → Said → Type 0
DeliverRow at s run bytes download claim events said =
    (IsDelivery (known_lengths at.start s.past download.gid) claim run bytes
    × IsKept at s download claim run events said)
    ⊎ ((IsDelivery (known_lengths at.start s.past download.gid) claim run bytes → ⊥)
    × AnswersOnly Void events said)

-- ---- more bytes are asked for

-- what is let go: of what is wanted, as much as both buckets let go, and never more than so much
abbrev pub allowance : TurnStart → RunStanding → Gid → ℕ → ℕ
allowance at s gid want = min want (min MAX_ALLOWANCE (turn_credit at s gid).bytes)

abbrev pub more_said : TurnStart → RunStanding → Gid → (want credit : ℕ) → Said
more_said at s gid zero credit = Void
more_said at s gid (suc want) zero = Hold (turn_credit at s gid).wait
more_said at s gid (suc want) (suc credit) = Allow (allowance at s gid (suc want))

abbrev pub MoreRow : TurnStart → RunStanding → ℕ → Download → Claim → List Event → Said → Type 0
MoreRow at s want download claim events said =
    AnswersOnly (more_said at s download.gid want (turn_credit at s download.gid).bytes) events said

-- ---- a claim is lost

-- the piece of its first open block; of a probe, the first one
abbrev pub lost_piece : RunStart → List Event → Gid → Claim → ℕ
lost_piece start past gid claim =
    piece_of_first (known_lengths start past gid).piece_len (first_open_since (own_of start past gid) claim)

-- a sole piece is cleared
abbrev pub sole_phase : Gid → ℕ → Bool → Phase
sole_phase gid piece true = JustEvent (Cleared gid piece)
sole_phase gid piece false = NoEvent

abbrev pub LossPhase : TurnStart → List Event → Download → Claim → Mark → ℕ → Phase
LossPhase at past download claim mark piece =
    AndThen (JustEvent (Lost download.gid claim.id claim.mirror piece mark))
    (AndThen (sole_phase download.gid piece (is_sole_in (own_of at.start past download.gid) piece))
    (DeadPhase at download piece))

abbrev pub LoseRow : TurnStart → RunStanding → Mark → Download → Claim → List Event → Said → Type 0
LoseRow at s mark download claim events said =
    (outcome : Outcome)
    × LossPhase at s.past download claim mark (lost_piece at.start s.past download.gid claim) s.past events outcome
    × (said ≡ Done)

-- ---- a probe told the length

-- no plan with the download's length of pieces has this total
abbrev pub IsTooLongFor : Download → ℕ → Type 0
IsTooLongFor download total = IsPlan total (number_value download.options PieceLength) → ⊥

abbrev pub TellingPhase : Download → Claim → ℕ → Phase
TellingPhase download claim total =
    AndThen (JustEvent (Sized download.gid claim.id total))
    (IfElse (IsTooLongFor download total) (JustEnd (Ended download.gid (end.TooLarge total))) NoEvent)

abbrev pub IsTold : TurnStart → RunStanding → ℕ → Download → Claim → List Event → Said → Type 0
IsTold at s total download claim events said =
    (outcome : Outcome) × TellingPhase download claim total s.past events outcome × (said ≡ Done)

abbrev pub SizedRow : TurnStart → RunStanding → ℕ → Download → Claim → List Event → Said → Type 0
SizedRow at s total download claim events said =
    ((is_probe claim ≡ true) × IsTold at s total download claim events said)
    ⊎ ((is_probe claim ≡ false) × AnswersOnly Void events said)
