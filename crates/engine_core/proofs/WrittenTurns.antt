-- What a turn wrote is as its events tell.
use Rattle.std.proofs.Common.{◌≡◌, ⊎_elim, ℕ, true, List, ◌∷◌, Some, drop, sym, ◌∙◌, subst, take, Option}
use Rattle.std.specs.Prelude.{◌+◌, ◌-◌, Contains}
use Rattle.control_file.specs.declared.want.Want.{Want}
use Rattle.dl_disk.specs.Files.{Files}
use Rattle.dl_disk.specs.State.{DiskState}
use Rattle.dl_history.specs.PayloadParts.{is_opened}
use Rattle.dl_kinds.specs.Plan.{block_end, block_start}
use Rattle.dl_kinds.specs.declared.gid.Gid.{Gid}
use Rattle.dl_kinds.specs.declared.runs.Moment.{Moment}
use Rattle.dl_kinds.specs.declared.runs.Run.{Run}
use Rattle.engine_turns.specs.Told.{RunTurn, history_of}
use Rattle.engine_turns.specs.NoticeRows.{notices_said}
use Rattle.engine_turns.specs.declared.operations.Operation.{Operation}
use Rattle.engine_turns.specs.declared.operations.Operation.TheVariants as operation
use Rattle.engine_turns.specs.declared.operations.Said.{Said}
use Rattle.machine_core.specs.DownloadWants.{HasWant}
use Rattle.machine_core.specs.OwnParts.{own_of}
use Rattle.machine_core.specs.Starts.{RunStart}
use Rattle.machine_core.specs.declared.events.Event.{Event}
use Rattle.machine_core.specs.declared.events.Event.TheVariants.{Landed}
use Rattle.payload_files.specs.Payload.{payload_in}
use Rattle.stored_run.specs.Settlings.{CameBetween}
use Rattle.stored_run.specs.Stored.{AreWantsKept}
use Rattle.stored_run.specs.Views.{kept_want}
use Rattle.stored_run.specs.Writings.{HoldsPart}
use Rattle.stored_run.specs.declared.run.StoredView.{StoredView}
use Rattle.stored_run.proofs.Between.{came_none}
use Rattle.engine_core.specs.Disks.{IsAlike, LeavesTurn, LeavesUnopened, OpensNext}
use Rattle.engine_core.specs.Engines.{past_of, start_of}
use Rattle.engine_core.specs.Writings.{WritesAsTold, LandsNothing}
use Rattle.engine_core.specs.declared.state.EngineState.{EngineState}
use Rattle.engine_core.proofs.ReadTurns.{Payload, came_in, payload_cut, same_cut}
use Rattle.engine_turns.specs.Phases.{TurnStart}
use Rattle.engine_turns.specs.RunTurns.{IsAnswered, MayComeAfter, OperationRow, answer_before, turn_start}
use Rattle.engine_turns.specs.Standings.{RunStanding, standing_after}
use Rattle.engine_turns.specs.declared.operations.Said.TheVariants.{Idle}
use Rattle.engine_core.proofs.LandingRows.{IsQuietRow, quiet_answer, quiet_call, quiet_leave, quiet_lose, quiet_more, quiet_next, quiet_only, quiet_seal, quiet_sized, quiet_stop}
use Rattle.engine_core.proofs.TurnCases.{some_of}

-- ---- wants of one download have the same bytes in the place of a part

abbrev HoldsIn : (run part : Run) → List ℕ → Files → Payload → Type 0
HoldsIn run part bytes files p =
    let start = block_start p.piece_len part.first in
    let len = block_end p.total p.piece_len (part.first + part.count - 1) - start in
    take len (drop start (payload_in p.dir p.layout files))
    ≡ take len (drop (start - block_start p.piece_len run.first) bytes)

pub holds_alike : (v w : Want) (run part : Run) (bytes : List ℕ) (files : Files) → payload_cut v ≡ payload_cut w
    → HoldsPart v run part bytes files → HoldsPart w run part bytes files
holds_alike v w run part bytes files same holds = subst (HoldsIn run part bytes files) same holds

-- ---- the turn

module _ {D : Type 0} (state : D → DiskState) (old new : EngineState D) (told : List RunTurn) (t : RunTurn)
    (turn : LeavesTurn state t.op old new t.answer.said)
    (kept : AreWantsKept (start_of old) (past_of old) old.run.wants.items) (past_is : past_of old ≡ history_of told)
    (past_after : past_of new ≡ history_of (t ∷ told)) (may : MayComeAfter (start_of old) told t) where
  abbrev S : RunStart
  S = start_of old

  -- what is one of its events came between
  came_then : (e : Event) → Contains t.events e → CameBetween (past_of old) (past_of new) e
  came_then e there =
      subst (λ (p : List Event). CameBetween (past_of old) p e) (sym past_after)
      (subst (λ (p : List Event). CameBetween p (history_of (t ∷ told)) e) (sym past_is)
      (came_in (history_of told) t.events e there))

  module _ (mid : StoredView D) (alike : IsAlike old.run mid) where
    mid_past : mid.machine.past ≡ history_of told
    mid_past = alike.past ∙ past_is

    -- a want of a download that is opened is what was kept of it
    kept_of : (gid : Gid) → is_opened (own_of mid.machine.start mid.machine.past gid) ≡ true
        → (v : Want) × (kept_want mid.wants.items mid.machine.start mid.machine.past gid ≡ Some v) × HasWant S (past_of old) gid v
    kept_of gid opened =
        let here : is_opened (own_of S (past_of old) gid) ≡ true =
        (λ i. is_opened (own_of (sym alike.start i) (sym alike.past i) gid)) ∙ opened in
        let v = some_of (kept_want old.run.wants.items S (past_of old) gid) (kept.opened gid here) in (
          v.0,
          (λ i. kept_want (alike.wants i).items (alike.start i) (alike.past i) gid) ∙ v.1,
          kept.has gid v.0 v.1,
        )

  abbrev at_start : TurnStart
  at_start = turn_start S told t

  abbrev standing : RunStanding
  standing = standing_after S told

  abbrev before : Operation → Option Said
  before op = answer_before S (history_of told) op

  quiet : (op : Operation) → IsQuietRow (OperationRow at_start standing op)
      → IsAnswered at_start standing op t.events t.answer.said (before op) → LandsNothing t.events
  quiet op row answered = quiet_answer at_start standing op t.events t.answer.said (before op) row answered

  delivers_told : (claim : ℕ) (run : Run) (bytes : List ℕ) (now : Moment)
      → LeavesTurn state (operation.Deliver claim run bytes now) old new t.answer.said
      → WritesAsTold S (history_of told) t (operation.Deliver claim run bytes now) (state new.run.disk).seen
  delivers_told claim run bytes now left gid mirror part at there want has =
      let came = came_then (Landed gid claim mirror part at) there in
      let op = operation.Deliver claim run bytes now in
      ⊎_elim
      (λ (alike : IsAlike old.run new.run). came_none (past_of old) (past_of new) _ alike.past came)
      (λ more. ⊎_elim
      (λ (unopened : LeavesUnopened state op old.run new.run t.answer.said).
      let mid = unopened.leaves.mid in
      let alike = unopened.leaves.alike in
      let lands = unopened.writes.written gid mirror part at
      (subst (λ (p : List Event). CameBetween p (past_of new) (Landed gid claim mirror part at)) (sym alike.past) came) in
      let v = kept_of mid alike gid lands.opened in
      holds_alike v.0 want run part bytes (state new.run.disk).seen
      (same_cut S (past_of old) gid v.0 want v.2 (subst (λ (p : List Event). HasWant S p gid want) (sym past_is) has))
      (lands.holds v.0 v.1))
      (λ (opens : OpensNext state op old.run new.run t.answer.said). absurd opens.asked) more) left

  writes_told : (op : Operation) → LeavesTurn state op old new t.answer.said
      → IsAnswered at_start standing op t.events t.answer.said (before op)
      → WritesAsTold S (history_of told) t op (state new.run.disk).seen
  writes_told (operation.Deliver claim run bytes now) left answered = delivers_told claim run bytes now left
  writes_told (operation.Next worker now) left answered =
      quiet (operation.Next worker now) (quiet_next at_start standing worker) answered
  writes_told (operation.Seal gid sealed now) left answered =
      quiet (operation.Seal gid sealed now) (quiet_seal at_start standing gid sealed) answered
  writes_told (operation.Call session call now) left answered =
      quiet (operation.Call session call now) (quiet_call at_start standing session call) answered
  writes_told (operation.More claim want now) left answered =
      quiet (operation.More claim want now) (quiet_more at_start standing claim want) answered
  writes_told (operation.Lose claim mark now) left answered =
      quiet (operation.Lose claim mark now) (quiet_lose at_start standing claim mark) answered
  writes_told (operation.Sized claim total now) left answered =
      quiet (operation.Sized claim total now) (quiet_sized at_start standing claim total) answered
  writes_told operation.Pulse left answered = quiet operation.Pulse (quiet_only Idle) answered
  writes_told (operation.Notices from) left answered =
      quiet (operation.Notices from) (quiet_only (notices_said at_start.start standing.past from)) answered
  writes_told operation.Leave left answered = quiet operation.Leave (quiet_leave at_start standing) answered
  writes_told (operation.Stop now) left answered = quiet (operation.Stop now) (quiet_stop at_start standing) answered

  pub written_read : WritesAsTold S (history_of told) t t.op (state new.run.disk).seen
  written_read = writes_told t.op turn may.answered
