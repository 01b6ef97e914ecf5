-- Operations that check no whole payload.
use Rattle.std.proofs.Common.{◌≡◌, ⊎_elim, ℕ, zero, suc, Bool, true, false, Option, Some, None, List, [], ◌∷◌, sym, subst}
use Rattle.std.specs.Prelude.{Contains}
use Rattle.std.specs.List.{list_any}
use Rattle.dl_disk.specs.State.{DiskState}
use Rattle.dl_history.specs.PayloadParts.{is_sole_in}
use Rattle.dl_kinds.specs.declared.claims.Claim.{Claim}
use Rattle.dl_kinds.specs.declared.gid.Gid.{Gid}
use Rattle.dl_kinds.specs.declared.marks.Mark.{Mark}
use Rattle.engine_turns.specs.CallRows.{CallRow, StopRow, left_events, stop_events}
use Rattle.engine_turns.specs.ClaimRows.{IsTooLongFor, LoseRow, MoreRow, SizedRow, lost_piece, sole_phase}
use Rattle.engine_turns.specs.Phases.{AndThen, DeadPhase, IfElse, IsSaveOrFault, JustEnd, JustEvent, NoEvent, SavesPhase, TurnStart}
use Rattle.engine_turns.specs.RunTurns.{IsAnswered, OperationRow}
use Rattle.engine_turns.specs.Standings.{AnswersOnly, IsHomeOf, OfClaim, RunStanding}
use Rattle.engine_turns.specs.Told.{history_after}
use Rattle.engine_turns.specs.declared.operations.Operation.{Operation}
use Rattle.engine_turns.specs.declared.operations.Operation.TheVariants as operation
use Rattle.engine_turns.specs.declared.operations.Said.{Said}
use Rattle.engine_turns.specs.declared.operations.Said.TheVariants.{NoMemory}
use Rattle.engine_turns.specs.declared.outcome.Outcome.{Outcome}
use Rattle.engine_turns.specs.declared.outcome.Outcome.TheVariants.{Starved}
use Rattle.machine_core.specs.OwnParts.{own_of}
use Rattle.machine_core.specs.RunLegal.{doors_left, is_stop}
use Rattle.machine_core.specs.Starts.{Download}
use Rattle.machine_core.specs.declared.calls.Call.{Call}
use Rattle.machine_core.specs.declared.ends.End.TheVariants as end
use Rattle.machine_core.specs.declared.events.Event.{Event}
use Rattle.machine_core.specs.declared.events.Event.TheVariants.{Called, Checked, Cleared, Ended, Lost, Saved, Sized}
use Rattle.stored_run.specs.Checks.{IsCheckedBy}
use Rattle.stored_run.specs.Settlings.{CameBetween}
use Rattle.stored_run.specs.declared.run.StoredView.{StoredView}
use Rattle.stored_run.proofs.Came.{each_there}
use Rattle.stored_run.proofs.OfOne.{Each, append_in, dead_in, else_in, end_in, event_in, none_in, then_in}
use Rattle.stored_run.proofs.Unchecked.{ChecksNone}
use Rattle.engine_core.specs.Findings.{FindsRead}

-- no event of the row is a check
abbrev IsUncheckedRow : (List Event → Said → Type 0) → Type 0
IsUncheckedRow Row = (events : List Event) (said : Said) → Row events said → Each ChecksNone events

none_checked : (events : List Event) → events ≡ [] → Each ChecksNone events
none_checked events is = subst (Each ChecksNone) (sym is) tt

-- ---- saves of several downloads

save_unchecked : (at : TurnStart) (gid : Gid) (e : Event) → IsSaveOrFault at gid e → ChecksNone e
save_unchecked at gid e is = ⊎_elim (λ (saved : e ≡ Saved gid at.now). subst ChecksNone (sym saved) tt)
    (λ (fault : (count : ℕ) × _ × (e ≡ Ended gid (end.Disk count))). subst ChecksNone (sym fault.2) tt) is

saves_unchecked : (at : TurnStart) (gids : List Gid) (past events : List Event) (o : Outcome)
    → SavesPhase at gids past events o → Each ChecksNone events
saves_unchecked at [] past events o is = none_checked events is.0
saves_unchecked at (gid ∷ gids) past events o is = ⊎_elim
    (λ (saves : (e : Event) × (rest : List Event) × (events ≡ e ∷ rest) × IsSaveOrFault at gid e
    × SavesPhase at gids (e ∷ past) rest o).
    subst (Each ChecksNone) (sym saves.2)
    (save_unchecked at gid saves.0 saves.3, saves_unchecked at gids (saves.0 ∷ past) saves.1 o saves.4))
    (λ (none : (events ≡ []) × (o ≡ Starved)). none_checked events none.0) is

-- ---- rows

module _ (at : TurnStart) (s : RunStanding) where
  claim_unchecked : (id : ℕ) (Row : Download → Claim → List Event → Said → Type 0)
      → ((download : Download) (claim : Claim) → IsUncheckedRow (Row download claim))
      → IsUncheckedRow (OfClaim at s id Row)
  claim_unchecked id Row none events said is = ⊎_elim (λ void. none_checked events void.1.0)
      (λ (home : (download : Download) × (claim : Claim) × IsHomeOf at.start s.past id download claim
      × Row download claim events said). none home.0 home.1 events said home.3) is

  sole_unchecked : (gid : Gid) (piece : ℕ) (sole : Bool) (past events : List Event) (o : Outcome)
      → sole_phase gid piece sole past events o → Each ChecksNone events
  sole_unchecked gid piece true = event_in ChecksNone (Cleared gid piece) tt
  sole_unchecked gid piece false = none_in ChecksNone

  lose_unchecked : (mark : Mark) (download : Download) (claim : Claim)
      → IsUncheckedRow (LoseRow at s mark download claim)
  lose_unchecked mark download claim events said is =
      let gid = download.gid in
      let piece = lost_piece at.start s.past gid claim in
      let sole = is_sole_in (own_of at.start s.past gid) piece in
      then_in ChecksNone (JustEvent (Lost gid claim.id claim.mirror piece mark))
      (AndThen (sole_phase gid piece sole) (DeadPhase at download piece))
      (event_in ChecksNone (Lost gid claim.id claim.mirror piece mark) tt)
      (then_in ChecksNone (sole_phase gid piece sole) (DeadPhase at download piece) (sole_unchecked gid piece sole)
      (dead_in ChecksNone at download piece (λ how other. tt))) s.past events is.0 is.1

  sized_unchecked : (total : ℕ) (download : Download) (claim : Claim)
      → IsUncheckedRow (SizedRow at s total download claim)
  sized_unchecked total download claim events said is =
      let gid = download.gid in
      ⊎_elim
      (λ told. then_in ChecksNone (JustEvent (Sized gid claim.id total))
      (IfElse (IsTooLongFor download total) (JustEnd (Ended gid (end.TooLarge total))) NoEvent)
      (event_in ChecksNone (Sized gid claim.id total) tt)
      (else_in ChecksNone (IsTooLongFor download total) (JustEnd (Ended gid (end.TooLarge total))) NoEvent
      (end_in ChecksNone (Ended gid (end.TooLarge total)) tt) (none_in ChecksNone)) s.past events told.1.0 told.1.1)
      (λ void. none_checked events void.1.0) is

  call_unchecked : (session : ℕ) (call : Call) → IsUncheckedRow (CallRow at s session call)
  call_unchecked session call events said is =
      subst (Each ChecksNone) (sym is.cut)
      (tt, saves_unchecked at is.those (Called session call at.now ∷ s.past) is.saves is.outcome is.saved)

  stop_unchecked : (stopped : Bool) → Each ChecksNone (stop_events stopped)
  stop_unchecked true = tt
  stop_unchecked false = (tt, tt)

  stop_row_unchecked : IsUncheckedRow (StopRow at s)
  stop_row_unchecked events said is =
      let stopped = list_any is_stop s.past in
      subst (Each ChecksNone) (sym is.cut)
      (append_in ChecksNone (stop_events stopped) is.saves (stop_unchecked stopped)
      (saves_unchecked at is.those (history_after s.past (stop_events stopped)) is.saves is.outcome is.saved))

  left_unchecked : (doors : ℕ) → Each ChecksNone (left_events doors)
  left_unchecked zero = tt
  left_unchecked (suc doors) = (tt, tt)

  answered_unchecked : (op : Operation) → IsUncheckedRow (OperationRow at s op) → (events : List Event) (said : Said)
      → (before : Option Said) → IsAnswered at s op events said before → Each ChecksNone events
  answered_unchecked op none events said (Some usual) is = none_checked events is.0
  answered_unchecked op none events said None is = ⊎_elim
      (λ (starved : _ × AnswersOnly NoMemory events said). none_checked events starved.1.0)
      (λ (row : OperationRow at s op events said). none events said row) is

-- ---- what came of an operation

-- a check that came is as it was found
module _ {D : Type 0} (state : D → DiskState) (old new : StoredView D) (at : TurnStart) (s : RunStanding)
    (events : List Event) (said : Said) (before : Option Said) (gid : Gid) (right : Bool)
    (there : Contains events (Checked gid right))
    (came : CameBetween old.machine.past new.machine.past (Checked gid right)) where
  abbrev Found : Type 0
  Found = IsCheckedBy new gid right (state new.disk).seen

  never_found : (op : Operation) → IsUncheckedRow (OperationRow at s op) → IsAnswered at s op events said before → Found
  never_found op none is =
      absurd (each_there ChecksNone events (Checked gid right)
      (answered_unchecked at s op none events said before is) there)

  pub check_found : (op : Operation) → FindsRead state op old new → IsAnswered at s op events said before → Found
  check_found (operation.Next worker now) finds is = finds.checked gid right came
  check_found (operation.Deliver claim run bytes now) finds is = finds gid right came
  check_found (operation.Seal handed sealed now) finds is = finds gid right came
  check_found (operation.Call session call now) finds is =
      never_found (operation.Call session call now) (call_unchecked at s session call) is
  check_found (operation.More claim want now) finds is =
      never_found (operation.More claim want now)
      (claim_unchecked at s claim (MoreRow at s want) (λ download held es answer row. none_checked es row.0)) is
  check_found (operation.Lose claim mark now) finds is =
      never_found (operation.Lose claim mark now)
      (claim_unchecked at s claim (LoseRow at s mark) (lose_unchecked at s mark)) is
  check_found (operation.Sized claim total now) finds is =
      never_found (operation.Sized claim total now)
      (claim_unchecked at s claim (SizedRow at s total) (sized_unchecked at s total)) is
  check_found operation.Pulse finds is = never_found operation.Pulse (λ es answer row. none_checked es row.0) is
  check_found (operation.Notices from) finds is =
      never_found (operation.Notices from) (λ es answer row. none_checked es row.0) is
  check_found operation.Leave finds is =
      never_found operation.Leave
      (λ es answer row. subst (Each ChecksNone) (sym row.0) (left_unchecked at s (doors_left at.start s.past))) is
  check_found (operation.Stop now) finds is = never_found (operation.Stop now) (stop_row_unchecked at s) is
