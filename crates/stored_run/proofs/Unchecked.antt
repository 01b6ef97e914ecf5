-- Parts of a turn that check no whole payload, and what comes with them where one is checked.
use Rattle.std.proofs.Common.{◌≡◌, ◌≢◌, ⊎_elim, ℕ, Bool, true, false, List, [], ◌∷◌, ◌++◌, refl, sym, ap, ◌∙◌, subst, arith}
use Rattle.std.specs.Prelude.{Contains}
use Rattle.std.proofs.lemmas.List.{append_assoc, append_cancel_right}
use Rattle.std.proofs.lemmas.List.Elements.{Contains-append_cases, Contains-push_cases}
use Rattle.dl_disk.specs.Files.{Files}
use Rattle.dl_kinds.specs.declared.gid.Gid.{Gid}
use Rattle.dl_kinds.specs.declared.runs.Run.{Run}
use Rattle.engine_turns.specs.ClaimRows.{DueSavePhase, IsSaveDue}
use Rattle.engine_turns.specs.Phases.{AfterDisk, AllRightPhase, AndThen, CheckedPhase, DeadPhase, EndAfterDisk, FindingPhase, JustEvent, LandingsPhase, NoEvent, OpeningPhase, Phase, SavePhase, SettlingPhase, TurnStart, UnlistingPhase, after_finding_phase}
use Rattle.engine_turns.specs.declared.outcome.Outcome.{Outcome}
use Rattle.engine_turns.specs.declared.outcome.Outcome.TheVariants.{Over, Starved, Went}
use Rattle.machine_core.specs.Reads.{IsUnlistedIn}
use Rattle.machine_core.specs.Starts.{Download}
use Rattle.machine_core.specs.declared.ends.End.TheVariants as end
use Rattle.machine_core.specs.declared.events.Event.{Event}
use Rattle.machine_core.specs.declared.events.Event.TheVariants.{Checked, Cleared, Ended, Landed, Saved}
use Rattle.stored_run.specs.Checks.{ChecksOnly, ChecksTruly, IsCheckedBy}
use Rattle.stored_run.specs.Deliveries.{filling_phase}
use Rattle.stored_run.specs.Steps.{DoesPart, turn_from}
use Rattle.stored_run.specs.declared.run.StoredView.{StoredView}
use Rattle.stored_run.proofs.Between.{after_front, came_none, came_one}
use Rattle.stored_run.proofs.Came.{part_came}
use Rattle.stored_run.proofs.OfOne.{AllowsOnly, Each, dead_in, disk_in, else_in, end_disk_in, end_in, event_in, none_in, then_in}

-- it is no check
abbrev pub ChecksNone : Event → Type 0
ChecksNone (Checked gid right) = ⊥
ChecksNone e = Unit {0}

-- all its events are no checks
abbrev pub IsUnchecked : Phase → Type 0
IsUnchecked P = AllowsOnly ChecksNone P

-- ---- parts

module _ (at : TurnStart) (gid : Gid) where
  unchecked_disk : (due : List Event) → Each ChecksNone due → IsUnchecked (AfterDisk at gid due)
  unchecked_disk due none = disk_in ChecksNone at gid due none (λ count. tt)

  pub unchecked_read : IsUnchecked (AfterDisk at gid [])
  unchecked_read = unchecked_disk [] tt

  unchecked_save : IsUnchecked (SavePhase at gid)
  unchecked_save = unchecked_disk (Saved gid at.now ∷ []) (tt, tt)

  pub unchecked_finish : IsUnchecked (EndAfterDisk at gid end.Complete)
  unchecked_finish = end_disk_in ChecksNone at gid end.Complete tt (λ count. tt)

  pub unchecked_end : (right : Bool) → IsUnchecked (CheckedPhase at gid right)
  unchecked_end true = unchecked_finish
  unchecked_end false = end_in ChecksNone (Ended gid end.Checksum) tt

  pub unchecked_landings : (id mirror : ℕ) (runs : List Run) → IsUnchecked (LandingsPhase at gid id mirror runs)
  unchecked_landings id mirror [] = none_in ChecksNone
  unchecked_landings id mirror (run ∷ runs) =
      then_in ChecksNone (AfterDisk at gid (Landed gid id mirror run at.now ∷ [])) (LandingsPhase at gid id mirror runs)
      (unchecked_disk (Landed gid id mirror run at.now ∷ []) (tt, tt)) (unchecked_landings id mirror runs)

  pub unchecked_opening : IsUnchecked (OpeningPhase at gid)
  unchecked_opening past events Went is = subst (Each ChecksNone) (sym is.2) (tt, tt)
  unchecked_opening past events Over is = subst (Each ChecksNone) (sym is.2) (tt, tt)
  unchecked_opening past events Starved is = subst (Each ChecksNone) (sym is) tt

  unchecked_finding : (piece : ℕ) (right : Bool) → IsUnchecked (FindingPhase at gid piece right)
  unchecked_finding piece right past events Went is = subst (Each ChecksNone) (sym is.2) (tt, tt)
  unchecked_finding piece right past events Over is = absurd is
  unchecked_finding piece right past events Starved is = absurd is

  unchecked_unlisting : (piece : ℕ) → IsUnchecked (UnlistingPhase at gid piece)
  unchecked_unlisting piece past =
      else_in ChecksNone (IsUnlistedIn at.start past gid piece) NoEvent (SavePhase at gid) (none_in ChecksNone)
      unchecked_save past

module _ (at : TurnStart) (download : Download) where
  unchecked_after : (piece : ℕ) (right : Bool) → IsUnchecked (after_finding_phase at download piece right)
  unchecked_after piece true = none_in ChecksNone
  unchecked_after piece false =
      then_in ChecksNone (UnlistingPhase at download.gid piece)
      (AndThen (JustEvent (Cleared download.gid piece)) (DeadPhase at download piece))
      (unchecked_unlisting at download.gid piece)
      (then_in ChecksNone (JustEvent (Cleared download.gid piece)) (DeadPhase at download piece)
      (event_in ChecksNone (Cleared download.gid piece) tt) (dead_in ChecksNone at download piece (λ how other. tt)))

  pub unchecked_settling : (piece : ℕ) (right : Bool) → IsUnchecked (SettlingPhase at download piece right)
  unchecked_settling piece right =
      then_in ChecksNone (FindingPhase at download.gid piece right) (after_finding_phase at download piece right)
      (unchecked_finding at download.gid piece right) (unchecked_after piece right)

  unchecked_all_right : (pieces : List ℕ) → IsUnchecked (AllRightPhase at download pieces)
  unchecked_all_right [] = none_in ChecksNone
  unchecked_all_right (piece ∷ pieces) =
      then_in ChecksNone (SettlingPhase at download piece true) (AllRightPhase at download pieces)
      (unchecked_settling piece true) (unchecked_all_right pieces)

  pub unchecked_filling : (listed : Bool) (pieces : List ℕ) → IsUnchecked (filling_phase at download listed pieces)
  unchecked_filling true pieces = none_in ChecksNone
  unchecked_filling false pieces = unchecked_all_right pieces

  pub unchecked_due : IsUnchecked (DueSavePhase at download)
  unchecked_due past =
      else_in ChecksNone (IsSaveDue at past download) (SavePhase at download.gid) NoEvent
      (unchecked_save at download.gid) (none_in ChecksNone) past

-- calls of the disk that failed, whatever was due behind them
pub unchecked_stopped : (at : TurnStart) (gid : Gid) (due past events : List Event) (o : Outcome) → o ≢ Went
    → AfterDisk at gid due past events o → Each ChecksNone events
unchecked_stopped at gid due past events Went stopped is = absurd (stopped refl)
unchecked_stopped at gid due past events Over stopped is = subst (Each ChecksNone) (sym is.2) (tt, tt)
unchecked_stopped at gid due past events Starved stopped is = subst (Each ChecksNone) (sym is) tt

stopped_in : (at : TurnStart) (gid : Gid) (due : List Event) (o : Outcome) → o ≢ Went
    → IsUnchecked (λ past events outcome. (outcome ≡ o) × AfterDisk at gid due past events outcome)
stopped_in at gid due o stopped past events outcome is =
    unchecked_stopped at gid due past events outcome (λ went. stopped (sym is.0 ∙ went)) is.1

-- ---- checks of one download

module _ {D : Type 0} where
  -- each check came that this says
  pub checks_truly : (gid : Gid) (old new : StoredView D) (files : Files) → ChecksOnly gid old new files
      → ChecksTruly old new files
  checks_truly gid old new files is other right came =
      let same : came.newer ≡ is.newer =
      append_cancel_right came.newer is.newer old.machine.past (sym came.grown ∙ is.grown) in
      let it = is.checks other right (subst (λ (xs : List Event). Contains xs (Checked other right)) same came.has) in
      subst (λ (g : Gid). IsCheckedBy new g right files) (sym it.0) it.1

  -- nothing came, or an event that is no check
  pub unchecked_still : (old new : StoredView D) (files : Files) → new.machine.past ≡ old.machine.past
      → ChecksTruly old new files
  unchecked_still old new files same gid right came =
      came_none old.machine.past new.machine.past (Checked gid right) same came

  pub unchecked_one : (old new : StoredView D) (files : Files) (e : Event) → new.machine.past ≡ e ∷ old.machine.past
      → ChecksNone e → ChecksTruly old new files
  unchecked_one old new files e is none gid right came =
      absurd (subst ChecksNone (sym (came_one old.machine.past new.machine.past (Checked gid right) e is came)) none)

  -- nothing came
  pub checks_still : (gid : Gid) (old new : StoredView D) (files : Files) → new.machine.past ≡ old.machine.past
      → ChecksOnly gid old new files
  checks_still gid old new files same = record {
    newer = [];
    grown = same;
    checks = λ other right there. absurd (let within = there.1 in omega arith);
  }

  module _ (P : TurnStart → Phase) (old mid : StoredView D) (f f' : ℕ) (o : Outcome) (did : DoesPart P old f mid f' o)
      (none : IsUnchecked (P (turn_from old f))) where
    abbrev front : List Event
    front = (after_front old.machine.past did.events).0

    front_is : mid.machine.past ≡ front ++ old.machine.past
    front_is = did.grown ∙ (after_front old.machine.past did.events).1

    no_check : (other : Gid) (right : Bool) → Contains front (Checked other right) → ⊥
    no_check other right there =
        part_came ChecksNone P old mid f f' o did none (Checked other right)
        (record { newer = front; grown = front_is; has = there })

    -- no check came
    pub checks_none : (gid : Gid) (files : Files) → ChecksOnly gid old mid files
    checks_none gid files = record {
      newer = front;
      grown = front_is;
      checks = λ other right there. absurd (no_check other right there);
    }

    -- .. and then some did
    pub checks_later : (gid : Gid) (new : StoredView D) (files : Files) → ChecksOnly gid mid new files
        → ChecksOnly gid old new files
    checks_later gid new files is = record {
      newer = is.newer ++ front;
      grown = is.grown
          ∙ (ap (λ (past : List Event). is.newer ++ past) front_is ∙ sym
          (append_assoc is.newer front old.machine.past));
      checks = λ other right there.
          ⊎_elim
          (λ (late : Contains is.newer (Checked other right)). is.checks other right late)
          (λ (early : Contains front (Checked other right)). absurd (no_check other right early))
          (Contains-append_cases is.newer front (Checked other right) there);
    }

    -- .. behind one check
    pub checks_once : (gid : Gid) (before : StoredView D) (right : Bool) (files : Files)
        → old.machine.past ≡ Checked gid right ∷ before.machine.past → IsCheckedBy mid gid right files
        → ChecksOnly gid before mid files
    checks_once gid before right files one is = record {
      newer = front ++ Checked gid right ∷ [];
      grown = front_is
          ∙ (ap (λ (past : List Event). front ++ past) one
          ∙ sym (append_assoc front (Checked gid right ∷ []) before.machine.past));
      checks = λ other told there.
          ⊎_elim
          (λ (late : Contains front (Checked other told)). absurd (no_check other told late))
          (λ (here : Checked gid right ≡ Checked other told).
          let gid_is : other ≡ gid = cc in
          let right_is : right ≡ told = cc in
          (gid_is, subst (λ (b : Bool). IsCheckedBy mid gid b files) right_is is))
          (Contains-push_cases front (Checked gid right) (Checked other told) there);
    }

  -- calls of the disk failed
  pub checks_broken : (old new : StoredView D) (gid : Gid) (f f' : ℕ) (o : Outcome) (due : List Event)
      → DoesPart (λ at. AfterDisk at gid due) old f new f' o → o ≢ Went → (files : Files) → ChecksOnly gid old new files
  checks_broken old new gid f f' o due did stopped files =
      checks_none (λ at past events outcome. (outcome ≡ o) × AfterDisk at gid due past events outcome) old new f f' o
      (record {
        events = did.events;
        grown = did.grown;
        is = λ from below. (refl, did.is from below);
        later = did.later;
        counts = did.counts;
      }) (stopped_in (turn_from old f) gid due o stopped) gid files

  -- .. or read alone
  pub read_unchecked : (old new : StoredView D) (gid : Gid) (f f' : ℕ) (o : Outcome)
      → DoesPart (λ at. AfterDisk at gid []) old f new f' o → (files : Files) → ChecksTruly old new files
  read_unchecked old new gid f f' o did files =
      checks_truly gid old new files
      (checks_none (λ at. AfterDisk at gid []) old new f f' o did (unchecked_read (turn_from old f) gid) gid files)
