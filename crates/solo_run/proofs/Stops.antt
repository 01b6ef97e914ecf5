-- The call of the line and the stop of a run bring orderly events.
use Rattle.std.proofs.Common.{◌≡◌, ◌⊎◌, ℕ, Bool, true, false, List, [], ◌∷◌, Some, None, map, refl, sym, ap, ◌∙◌, subst, inl, inr, ⊎_elim}
use Rattle.std.specs.List.{list_any}
use Rattle.dl_kinds.specs.declared.gid.Gid.{Gid}
use Rattle.dl_kinds.specs.declared.runs.Moment.{Moment}
use Rattle.dl_history.specs.PayloadParts.{is_opened}
use Rattle.engine_turns.specs.CallRows.{AreThose, CallRow, IsSavedLast, IsSavedOff, StopRow, gids_in, stop_events}
use Rattle.engine_turns.specs.Phases.{IsSaveOrFault, SavesPhase, TurnStart}
use Rattle.engine_turns.specs.RunTurns.{IsAnswered, MayComeAfter, OperationRow, answer_before, asks_for_work, turn_start}
use Rattle.engine_turns.specs.Standings.{RunStanding, standing_after}
use Rattle.engine_turns.specs.Told.{RunTurn, history_after, history_of}
use Rattle.engine_turns.specs.declared.operations.Operation.{Operation}
use Rattle.engine_turns.specs.declared.operations.Operation.TheVariants as operation
use Rattle.engine_turns.specs.declared.operations.Said.{Said}
use Rattle.engine_turns.specs.declared.outcome.Outcome.{Outcome}
use Rattle.command_call.specs.Sources.{AddsNamed, IsNamedCall}
use Rattle.command_line.specs.declared.source.Source.{Source}
use Rattle.command_line.specs.declared.source.Source.TheVariants as source
use Rattle.machine_core.specs.OwnParts.{halted_where, halts_by, own_of}
use Rattle.machine_core.specs.Reads.{is_finished_in}
use Rattle.machine_core.specs.Replays.{replay_of}
use Rattle.machine_core.specs.RunLegal.{DownloadsAreLegal, IsLegal, is_stop, known_lengths}
use Rattle.machine_core.specs.Starts.{Download, RunStart}
use Rattle.machine_core.specs.declared.calls.Call.{Call}
use Rattle.machine_core.specs.declared.calls.Call.TheVariants.{AddTorrent, AddUri}
use Rattle.machine_core.specs.declared.ends.End.TheVariants as end
use Rattle.machine_core.specs.declared.events.Event.{Event}
use Rattle.machine_core.specs.declared.events.Event.TheVariants.{Called, Ended, Saved, Stopped}
use Rattle.option_set.specs.declared.setting.Assigned.{Assigned}
use Rattle.work_bounds.specs.SavesDue.{UnsavedHaveNews}
use Rattle.offered_work.proofs.Histories.{history_append}
use Rattle.offered_work.proofs.Histories.{legal_before}
use Rattle.solo_run.proofs.OneDownload.{AreFew, downloads_few}
use Rattle.solo_run.proofs.Parts.{HasNews, IsFine, fine_append, fine_none, fine_one}
use Rattle.solo_run.proofs.Rows.{answered_so}
use Rattle.solo_run.proofs.Steps.{Adds, OrderlyRun}

-- ---- those that are saved

none_those : (P : Gid → Type 0) (all those : List Gid) → ((gid : Gid) → P gid → ⊥) → AreThose P all those → those ≡ []
none_those P [] those none are = are
none_those P (gid ∷ all) those none (inl first) = absurd (none gid first.0)
none_those P (gid ∷ all) those none (inr rest) = none_those P all those none rest.1

-- at most one
abbrev OneOf : (Gid → Type 0) → List Gid → Type 0
OneOf P those = (those ≡ []) ⊎ ((gid : Gid) × P gid × (those ≡ gid ∷ []))

one_of : (P : Gid → Type 0) (gid : Gid) (those : List Gid) → AreThose P (gid ∷ []) those → OneOf P those
one_of P gid those (inl first) = inr (gid, first.0, first.2 ∙ ap (λ (gids : List Gid). gid ∷ gids) first.3)
one_of P gid those (inr none) = inl none.1

one_of_few : (P : Gid → Type 0) (downloads : List Download) (those : List Gid) → AreFew downloads
    → AreThose P (map (λ (download : Download). download.gid) downloads) those → OneOf P those
one_of_few P downloads those (inl none) are =
    inl (subst (λ ds. AreThose P (map (λ (download : Download). download.gid) ds) those) none are)
one_of_few P downloads those (inr one) are =
    one_of P one.0.gid those
    (subst (λ ds. AreThose P (map (λ (download : Download). download.gid) ds) those) one.1 are)

-- ---- the call of the line

adds_so : (call other : Call) → call ≡ other → Adds other → Adds call
adds_so call other same adds = subst Adds (sym same) adds

adds_torrent : (uris : List (List ℕ)) (settings : List Assigned) (call : Call)
    → AddsNamed uris settings call → Adds call
adds_torrent uris settings (AddTorrent meta its_uris its_options position) named = tt
adds_torrent uris settings other named = absurd named

some_same : (a b : Call) → Some a ≡ Some b → a ≡ b
some_same a b same = cc

pub named_adds : (its : Source) (settings : List Assigned) (call : Call) → IsNamedCall its settings (Some call)
    → Adds call
named_adds (source.Metainfo file uris) settings call named = adds_torrent uris settings call named
named_adds (source.Mirrors uris) settings call named =
    adds_so call (AddUri uris settings None) (some_same call (AddUri uris settings None) named) tt
named_adds source.Console settings call named = absurd (let e : Some call ≡ None = named in cc)

never_opened : (b : Bool) → is_opened (halted_where b []) ≡ true → ⊥
never_opened true is = cc
never_opened false is = cc

-- nothing came, or the call alone
abbrev pub CallsAlone : Call → List Event → Type 0
CallsAlone call events = (events ≡ []) ⊎ ((now : Moment) × (events ≡ Called 0 call now ∷ []))

module _ (start : RunStart) (t : RunTurn) (call : Call) where
  call_row : CallRow (turn_start start [] t) (standing_after start []) 0 call t.events t.answer.said
      → CallsAlone call t.events
  call_row row =
      let at = turn_start start [] t in
      let event : Event = Called 0 call at.now in
      let none : row.those ≡ [] =
      none_those (IsSavedOff start [] (event ∷ [])) (gids_in start (event ∷ [])) row.those
      (λ gid saved. never_opened (halts_by start [] event call gid) saved.unsaved.opened) row.those_are in
      let saved = subst (λ (those : List Gid). SavesPhase at those (event ∷ []) row.saves row.outcome) none row.saved in
      inr (at.now, row.cut ∙ ap (λ (es : List Event). event ∷ es) saved.0)

  pub call_alone : t.op ≡ operation.Call 0 call (record { 0 = 0 }) → MayComeAfter start [] t → CallsAlone call t.events
  call_alone op may =
      ⊎_elim (λ none. inl none)
      (λ row. call_row (subst (λ (o : Operation).
      OperationRow (turn_start start [] t) (standing_after start []) o t.events t.answer.said) op row.1))
      (answered_so (turn_start start [] t) (standing_after start []) t.op t.events t.answer.said (asks_for_work t.op)
      (is_finished_in start []) _ _ may.answered)

  pub call_fine : Adds call → CallsAlone call t.events → IsFine start [] t.events 0
  call_fine adds (inl none) = fine_none start [] t.events 0 none
  call_fine adds (inr (now, alone)) = fine_one start [] t.events (Called 0 call now) 0 alone (refl, adds) refl

-- ---- the stop

module _ (own_legal : DownloadsAreLegal) (news : UnsavedHaveNews) (start : RunStart) where
  unsaved_news : (past : List Event) (gid : Gid) → IsLegal start past → IsSavedLast start past gid
      → HasNews start past gid
  unsaved_news past gid legal saved =
      news (known_lengths start past gid).total (known_lengths start past gid).piece_len (own_of start past gid)
      (own_legal start past gid legal) saved.unsaved.opened saved.unsaved.unsaved

  save_fine : (at : TurnStart) (past saves : List Event) (gid : Gid) (e : Event) → saves ≡ e ∷ []
      → IsSaveOrFault at gid e → HasNews start past gid → IsFine start past saves 0
  save_fine at past saves gid e is (inl saved) has =
      fine_one start past saves (Saved gid at.now) 0 (is ∙ ap (λ (x : Event). x ∷ []) saved) has refl
  save_fine at past saves gid e is (inr fault) has =
      fine_one start past saves (Ended gid (end.Disk fault.0)) 0 (is ∙ ap (λ (x : Event). x ∷ []) fault.2) tt refl

  saves_fine : (at : TurnStart) (past saves : List Event) (those : List Gid) (outcome : Outcome) → IsLegal start past
      → OneOf (IsSavedLast start past) those → SavesPhase at those past saves outcome → IsFine start past saves 0
  saves_fine at past saves those outcome legal (inl none) saved =
      fine_none start past saves 0
      (subst (λ (gids : List Gid). SavesPhase at gids past saves outcome) none saved).0
  saves_fine at past saves those outcome legal (inr one) saved =
      ⊎_elim
      (λ first. save_fine at past saves one.0 first.0
      (first.2 ∙ ap (λ (es : List Event). first.0 ∷ es) first.4.0) first.3 (unsaved_news past one.0 legal one.1))
      (λ starved. fine_none start past saves 0 starved.0)
      (subst (λ (gids : List Gid). SavesPhase at gids past saves outcome) one.2 saved)

  stop_first : (past : List Event) (stopped : Bool) → IsFine start past (stop_events stopped) 0
  stop_first past true = fine_none start past [] 0 refl
  stop_first past false = fine_one start past (Stopped ∷ []) Stopped 0 refl tt refl

  stop_row : (at : TurnStart) (s : RunStanding) (events : List Event) (answer : Said) → at.start ≡ start
      → OrderlyRun start s.past → IsLegal start (history_after s.past events) → StopRow at s events answer
      → IsFine start s.past events 0
  stop_row at s events answer same orderly legal row =
      let first = stop_events (list_any is_stop s.past) in
      let cut = ap (history_after s.past) row.cut ∙ history_append s.past first row.saves in
      let then = history_after s.past first in
      let legal_then : IsLegal start then =
      legal_before start then row.saves (subst (λ (p : List Event). IsLegal start p) cut legal) in
      let one = one_of_few (IsSavedLast start then) (replay_of start s.past).downloads row.those
      (downloads_few start s.past orderly)
      (subst (λ (b : RunStart). AreThose (IsSavedLast b then) (gids_in b s.past) row.those) same row.those_are) in
      subst (λ (es : List Event). IsFine start s.past es 0) (sym row.cut)
      (fine_append start s.past first row.saves 0 (stop_first s.past (list_any is_stop s.past))
      (saves_fine at then row.saves row.those row.outcome legal_then one row.saved))

  pub stop_fine : (earlier : List RunTurn) (t : RunTurn) (now : Moment) → t.op ≡ operation.Stop now
      → MayComeAfter start earlier t → OrderlyRun start (history_of earlier) → IsLegal start (history_of (t ∷ earlier))
      → IsFine start (history_of earlier) t.events 0
  stop_fine earlier t now op may orderly legal =
      let at = turn_start start earlier t in
      let s = standing_after start earlier in
      let answered : IsAnswered at s (operation.Stop now) t.events t.answer.said
      (answer_before start (history_of earlier) (operation.Stop now)) =
      subst (λ (o : Operation). IsAnswered at s o t.events t.answer.said (answer_before start (history_of earlier) o)) op
      may.answered in
      ⊎_elim (λ starved. absurd (let never : false ≡ true = starved.0 in cc))
      (λ (row : StopRow at s t.events t.answer.said).
      stop_row at s t.events t.answer.said refl orderly legal row) answered
