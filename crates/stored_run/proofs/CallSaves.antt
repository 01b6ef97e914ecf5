-- The saves of those downloads that a call takes off, and of those that go on at the stop.
use Rattle.std.proofs.Common.{◌≡◌, ℕ, Bool, true, false, Option, Some, List, [], ◌∷◌, slice_get, refl, subst}
use Rattle.std.specs.List.{list_any}
use Rattle.dl_disk.specs.State.{DiskState}
use Rattle.dl_kinds.specs.declared.gid.Gid.{Gid}
use Rattle.dl_kinds.specs.declared.status.Status.{Status}
use Rattle.engine_turns.specs.CallRows.{AreThose, IsSavedLast, IsSavedOff, gids_in, stop_events}
use Rattle.engine_turns.specs.Told.{history_after}
use Rattle.machine_core.specs.RunLegal.{IsLegal, is_stop}
use Rattle.machine_core.specs.Starts.{RunStart}
use Rattle.machine_core.specs.declared.calls.Call.{Call}
use Rattle.machine_core.specs.declared.events.Event.{Event}
use Rattle.machine_core.specs.declared.events.Event.TheVariants.{Called}
use Rattle.stored_run.specs.RunFollows.{RunFollows}
use Rattle.stored_run.specs.Saves.{IsDueLast, IsDueOff, IsDueOffIn, StandOnce, TellsOnly, gids_of, statuses_in}
use Rattle.stored_run.specs.Stored.{IsStoredRun}
use Rattle.stored_run.specs.Views.{IsGoing}
use Rattle.stored_run.specs.declared.run.StoredView.{StoredView}
use Rattle.stored_run.proofs.Dues.{last_or_not, off_or_not}
use Rattle.stored_run.proofs.EachSaved.{HaltsBetween, called_halts}
use Rattle.stored_run.proofs.SavedRows.{last_those, off_goes, off_those, run_once}
use Rattle.stored_run.proofs.Those.{those_exist, those_from, those_once}

-- ---- a call

module _ {D : Type 0} (laws : RunFollows) (tells : Bool) (faults : ℕ) (disk : DiskState) (old mid : StoredView D)
    (run : IsStoredRun tells faults disk old) (session : ℕ) (asked : Call)
    (came : TellsOnly (Called session asked old.now ∷ []) old mid) (was : List (Option Status))
    (was_is : was ≡ statuses_in old.machine.start old.machine.past) where
  due_there : (those : List Gid) → AreThose (IsDueOff was mid) (gids_of mid) those
      → AreThose
      (IsDueOffIn (statuses_in old.machine.start old.machine.past) old.machine.start
      (Called session asked old.now ∷ old.machine.past))
      (gids_in old.machine.start (Called session asked old.now ∷ old.machine.past)) those
  due_there those are =
      let sts = statuses_in old.machine.start old.machine.past in
      subst (λ (p : List Event). AreThose (IsDueOffIn sts old.machine.start p) (gids_in old.machine.start p) those) came.past
      (subst (λ (s : RunStart). AreThose (IsDueOffIn sts s mid.machine.past) (gids_in s mid.machine.past) those) came.start
      (subst (λ (w : List (Option Status)). AreThose (IsDueOffIn w mid.machine.start mid.machine.past) (gids_of mid) those)
      was_is are))

  pub off_are : (those : List Gid) → AreThose (IsDueOff was mid) (gids_of mid) those
      → AreThose (IsSavedOff old.machine.start old.machine.past (Called session asked old.now ∷ old.machine.past))
      (gids_in old.machine.start (Called session asked old.now ∷ old.machine.past)) those
  off_are those are =
      off_those laws old.machine.start old.machine.past old.wants.items run.wants_are run.legal
      (Called session asked old.now) (called_halts old.machine.start old.machine.past session asked old.now)
      (gids_in old.machine.start (Called session asked old.now ∷ old.machine.past)) those (due_there those are)

  pub off_went_on : (those : List Gid) → AreThose (IsDueOff was mid) (gids_of mid) those → (i : ℕ) (g : Gid)
      → slice_get those i ≡ Some g → IsGoing old g
  off_went_on those are i g at =
      let sts = statuses_in old.machine.start old.machine.past in
      let from = those_from
      (IsDueOffIn sts old.machine.start (Called session asked old.now ∷ old.machine.past))
      (gids_in old.machine.start (Called session asked old.now ∷ old.machine.past)) those (due_there those are) i g at in
      off_goes laws old.machine.start old.machine.past old.wants.items run.wants_are run.legal
      (Called session asked old.now) (called_halts old.machine.start old.machine.past session asked old.now) g from.2

  pub off_once : (those : List Gid) → AreThose (IsDueOff was mid) (gids_of mid) those → StandOnce those
  off_once those are = those_once (IsDueOff was mid) (gids_of mid) those (run_once mid) are

  -- where memory ran out for the list of them, there is one
  pub off_some : (AreThose (IsDueOff was mid) (gids_of mid) [] → ⊥)
      → (those : List Gid)
      × AreThose (IsSavedOff old.machine.start old.machine.past (Called session asked old.now ∷ old.machine.past))
      (gids_in old.machine.start (Called session asked old.now ∷ old.machine.past)) those
      × (those ≡ [] → ⊥)
  off_some none =
      let there = those_exist (IsDueOff was mid) (λ g. off_or_not mid.machine.start mid.machine.past g was) (gids_of mid) in
      (there.0, off_are there.0 there.1, λ is. none (subst (AreThose (IsDueOff was mid) (gids_of mid)) is there.1))

-- ---- the stop

module _ {D : Type 0} (laws : RunFollows) (old mid : StoredView D)
    (legal : IsLegal mid.machine.start mid.machine.past)
    (came : TellsOnly (stop_events (list_any is_stop old.machine.past)) old mid) (between : HaltsBetween old mid) where
  same_gids : (b : Bool) (start : RunStart) (past : List Event)
      → gids_in start (history_after past (stop_events b)) ≡ gids_in start past
  same_gids true start past = refl
  same_gids false start past = refl

  pub last_are : (those : List Gid) → AreThose (IsDueLast mid) (gids_of mid) those
      → AreThose
      (IsSavedLast old.machine.start (history_after old.machine.past (stop_events (list_any is_stop old.machine.past))))
      (gids_in old.machine.start old.machine.past) those
  last_are those are =
      subst
      (λ (gids : List Gid). AreThose
      (IsSavedLast old.machine.start (history_after old.machine.past (stop_events (list_any is_stop old.machine.past))))
      gids those) (same_gids (list_any is_stop old.machine.past) old.machine.start old.machine.past)
      (subst (λ (p : List Event). AreThose (IsSavedLast old.machine.start p) (gids_in old.machine.start p) those) came.past
      (subst (λ (s : RunStart). AreThose (IsSavedLast s mid.machine.past) (gids_in s mid.machine.past) those) came.start
      (last_those laws mid.machine.start mid.machine.past (gids_of mid) those legal are)))

  pub last_went_on : (those : List Gid) → AreThose (IsDueLast mid) (gids_of mid) those → (i : ℕ) (g : Gid)
      → slice_get those i ≡ Some g → IsGoing old g
  last_went_on those are i g at =
      let from = those_from (IsDueLast mid) (gids_of mid) those are i g at in
      between.going g (record { opened = from.2.has.opened; goes = from.2.goes })

  pub last_once : (those : List Gid) → AreThose (IsDueLast mid) (gids_of mid) those → StandOnce those
  last_once those are = those_once (IsDueLast mid) (gids_of mid) those (run_once mid) are

  pub last_some : (AreThose (IsDueLast mid) (gids_of mid) [] → ⊥)
      → (those : List Gid)
      × AreThose
      (IsSavedLast old.machine.start (history_after old.machine.past (stop_events (list_any is_stop old.machine.past))))
      (gids_in old.machine.start old.machine.past) those
      × (those ≡ [] → ⊥)
  last_some none =
      let there = those_exist (IsDueLast mid) (λ g. last_or_not mid.machine.start mid.machine.past g) (gids_of mid) in
      (there.0, last_are there.0 there.1, λ is. none (subst (AreThose (IsDueLast mid) (gids_of mid)) is there.1))
