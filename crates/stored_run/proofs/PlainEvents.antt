-- What is kept of a run and its disk after an event of one download that changes nothing of what is stored.
use Rattle.std.proofs.Common.{◌≡◌, ℕ, ◌≤◌, ◌-◌, Bool, true, false, Option, Some, None, List, [], ◌∷◌, refl, sym, ap, ◌∙◌, subst, arith}
use Rattle.std.specs.Prelude.{◌==◌, IfSome}
use Rattle.std.proofs.lemmas.Bool.{eqb-true}
use Rattle.control_file.specs.declared.want.Want.{Want}
use Rattle.dl_disk.specs.State.{DiskState}
use Rattle.dl_history.specs.OwnEvents.{OwnEvent}
use Rattle.dl_history.specs.PayloadParts.{is_opened}
use Rattle.dl_kinds.specs.declared.gid.Gid.{Gid}
use Rattle.dl_kinds.specs.declared.runs.Moment.{Moment}
use Rattle.machine_core.specs.MachineViews.{MachineView}
use Rattle.machine_core.specs.OwnParts.{own_of, with_own}
use Rattle.machine_core.specs.Replays.{download_of, replay_of}
use Rattle.machine_core.specs.RunLegal.{MayFollow, disk_fault_of, download_in, moment_of_event}
use Rattle.machine_core.specs.Starts.{Download, RunStart}
use Rattle.machine_core.specs.declared.events.Event.{Event}
use Rattle.stored_run.specs.RunFollows.{RunFollows}
use Rattle.stored_run.specs.Stored.{AreWantsKept, IsStored, IsStoredWith}
use Rattle.engine_turns.proofs.Faults.{counts_still}
use Rattle.engine_turns.specs.Phases.{Phase, TurnStart}
use Rattle.engine_turns.specs.declared.outcome.Outcome.{Outcome}
use Rattle.stored_run.specs.Steps.{Continues, DoesPart, turn_from}
use Rattle.stored_run.specs.Telling.{TellsEvent}
use Rattle.stored_run.specs.Views.{kept_want}
use Rattle.stored_run.specs.declared.run.StoredView.{StoredView}
use Rattle.stored_run.proofs.Doing.{part_event}
use Rattle.stored_run.proofs.Kept.{IsPlain, after_event, kept_then, own_where, plain_opened, plain_stored}

-- the gid of a download that was added
found_gid : (gid : Gid) (ds : List Download) (d : Download) → download_of ds gid ≡ Some d → d.gid ≡ gid
found_gid gid [] d is = absurd cc
found_gid gid (x ∷ ds) d is = by (x.gid.0 == gid.0) refl (found_gid gid ds d)
  where
    by : (b : Bool) → (x.gid.0 == gid.0) ≡ b → (download_of ds gid ≡ Some d → d.gid ≡ gid) → d.gid ≡ gid
    by true here rest =
        let some : Some x ≡ Some d = rw here at is in
        let same : x ≡ d = cc in
        sym (ap (λ (y : Download). y.gid) same) ∙ ap (λ (n : ℕ). record { 0 = n }) (eqb-true x.gid.0 gid.0 here)
    by false here rest = rest (rw here at is)

pub gid_added : (start : RunStart) (past : List Event) (gid : Gid) (d : Download) → download_in start past gid ≡ Some d
    → d.gid ≡ gid
gid_added start past gid d is = found_gid gid (replay_of start past).downloads d is

module _ (laws : RunFollows) (tells : Bool) (faults : ℕ) (disk : DiskState) (start : RunStart) (past : List Event)
    (wants : List (Option Want)) (now : Moment) (was : IsStoredWith tells faults disk start past wants now) where
  -- an event of the download, which is this one of its own
  pub plain_kept : (gid : Gid) (x : OwnEvent) (e : Event) → IsPlain x
      → ((g : Gid) → own_of start (e ∷ past) g ≡ with_own gid g x (own_of start past g)) → MayFollow start past e
      → IfSome (moment_of_event e) (λ m. m.0 ≤ now.0) → IfSome (disk_fault_of e) (λ count. count ≤ faults)
      → IsStoredWith tells faults disk start (e ∷ past) wants now
  plain_kept gid x e plain own may moment fault =
      after_event laws tells faults faults disk disk start past wants now e was (record {
        may = may;
        none = λ g is. own_where
            (λ (ys : List OwnEvent). is_opened ys ≡ true → is_opened (own_of start past g) ≡ true) gid g x
            (own_of start past g) (λ same opened. plain_opened x (own_of start past g) plain opened) (λ opened. opened)
            (subst (λ (ys : List OwnEvent). is_opened ys ≡ true) (own g) is);
        moment = moment;
        more = omega arith;
        fault = fault;
        still = λ told g w goes went is stored. subst (λ (ys : List OwnEvent). IsStored w ys disk) (sym (own g))
            (own_where (λ (ys : List OwnEvent). IsStored w ys disk) gid g x (own_of start past g)
            (λ same. plain_stored w x (own_of start past g) disk plain stored) stored);
      })

-- ---- views

-- what holds of a run as it is seen holds of its fields
pub back_to : {D : Type 0} (P : StoredView D → Type 0) (r v : StoredView D) → r ≡ v → P v → P r
back_to P r v same is = subst P (sym same) is

-- a machine to which an event came
pub told_by : {D : Type 0} (r v : StoredView D) (m : MachineView) (e : Event) → r ≡ v → m.past ≡ e ∷ r.machine.past
    → m.start ≡ r.machine.start → m.spare ≡ r.machine.spare - 1 → TellsEvent e v (record r { machine = m })
told_by r v m e same past start room =
    subst (λ (w : StoredView _). TellsEvent e w (record r { machine = m })) same
    (record { past = past; start = start; room = room; now = refl; wants = refl; disk = refl })

pub plain_after : RunFollows → (tells : Bool) (faults : ℕ) (disk : DiskState) (m new : MachineView)
    (wants : List (Option Want)) (now : Moment) (gid : Gid) (x : OwnEvent) (e : Event)
    → IsStoredWith tells faults disk m.start m.past wants now → IsPlain x
    → ((g : Gid) → own_of m.start (e ∷ m.past) g ≡ with_own gid g x (own_of m.start m.past g))
    → MayFollow m.start m.past e → IfSome (moment_of_event e) (λ at. at.0 ≤ now.0) → disk_fault_of e ≡ None
    → new.past ≡ e ∷ m.past → new.start ≡ m.start → IsStoredWith tells faults disk new.start new.past wants now
plain_after laws tells faults disk m new wants now gid x e was plain own may moment fault past start =
    subst (λ (s : RunStart). IsStoredWith tells faults disk s new.past wants now) (sym start)
    (subst (λ (p : List Event). IsStoredWith tells faults disk m.start p wants now) (sym past)
    (plain_kept laws tells faults disk m.start m.past wants now was gid x e plain own may moment (rw fault tt)))

-- ---- a method that tells one event

module _ {D : Type 0} (laws : RunFollows) (e : Event) (old new : StoredView D) (told : TellsEvent e old new) where
  -- what holds of what is kept then holds of the run after it
  pub told_so : (P : RunStart → List Event → List (Option Want) → Type 0)
      → P old.machine.start (e ∷ old.machine.past) old.wants.items
      → P new.machine.start new.machine.past new.wants.items
  told_so P is =
      subst (λ (s : RunStart). P s new.machine.past new.wants.items) (sym told.start)
      (subst (λ (past : List Event). P old.machine.start past new.wants.items) (sym told.past)
      (subst (λ ws. P old.machine.start (e ∷ old.machine.past) ws.items) (sym told.wants) is))

  pub continues_event : AreWantsKept old.machine.start old.machine.past old.wants.items → Continues 1 old new
  continues_event kept = record {
    start = told.start;
    now = told.now;
    room = omega (arith, told.room);
    wants = λ gid want is. told_so (λ s past ws. kept_want ws s past gid ≡ Some want)
        (kept_then laws old.machine.start old.machine.past e old.wants.items gid want (kept.has gid want is) is);
  }

  pub part_told : (P : TurnStart → Phase) (f f' : ℕ) (o : Outcome) → f' ≡ f → disk_fault_of e ≡ None
      → ((at : TurnStart) → at.start ≡ old.machine.start → at.now ≡ old.now → P at old.machine.past (e ∷ []) o)
      → DoesPart P old f new f' o
  part_told P f f' o still none is =
      part_event P e old new f f' o told.past (counts_still e f f' none still) (λ n below. is (turn_from old n) refl refl)
