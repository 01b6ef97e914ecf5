-- How a download ends that its store refuses to open.
use Rattle.std.proofs.Common.{◌≡◌, ⊎_elim, ℕ, Option, Some, List, ◌∷◌, refl, sym, ◌∙◌, subst}
use Rattle.std.specs.Prelude.{IfSome}
use Rattle.control_file.specs.declared.want.Want.{Want}
use Rattle.dl_disk.specs.Files.{Files}
use Rattle.dl_kinds.specs.declared.gid.Gid.{Gid}
use Rattle.engine_turns.specs.Phases.{EndingOr, NoEvent, OpeningPhase}
use Rattle.engine_turns.specs.declared.outcome.Outcome.{Outcome}
use Rattle.machine_core.specs.Clashes.{HasClash, IsClash}
use Rattle.machine_core.specs.DownloadWants.{HasWant}
use Rattle.machine_core.specs.MachineViews.{MachineView}
use Rattle.machine_core.specs.Starts.{Download, RunStart}
use Rattle.machine_core.specs.declared.ends.End.{End}
use Rattle.machine_core.specs.declared.ends.End.TheVariants as end
use Rattle.machine_core.specs.declared.events.Event.{Event}
use Rattle.machine_core.specs.declared.events.Event.TheVariants.{Ended}
use Rattle.resume_core.specs.Refusals.{IsRefusal, open_refusal}
use Rattle.resume_core.specs.declared.refusing.OpenErr.{OpenErr}
use Rattle.resume_core.specs.declared.refusing.OpenErr.TheVariants as refusal
use Rattle.stored_run.specs.Opening.{end_by_refusal}
use Rattle.stored_run.specs.Refused.{EndsAsRead, IsEndAsRead, IsRefusalEnd, RefusesAsRead}
use Rattle.stored_run.specs.Settlings.{CameBetween}
use Rattle.stored_run.specs.Steps.{DoesPart, turn_from}
use Rattle.stored_run.specs.declared.run.StoredView.{StoredView}
use Rattle.stored_run.proofs.Between.{after_front, came_none, came_one, came_split}
use Rattle.stored_run.proofs.Came.{RefusesNone, part_came, unrefused_ending}

module _ (start : RunStart) (past : List Event) (gid : Gid) (want : Want) (files : Files)
    (has : HasWant start past gid want) where
  as_read : (err : OpenErr) (how : End) → open_refusal want files ≡ Some err
      → ((faults : ℕ) → end_by_refusal err faults ≡ Some how) → RefusesAsRead start past gid how files
  as_read err how found ends = record { want = want; has = has; err = err; found = found; ends = ends }

  ends_by : {Tells : Type 0} (n : ℕ) (err : OpenErr) → (Tells → IsRefusal err → open_refusal want files ≡ Some err)
      → IfSome (end_by_refusal err n) (λ how. Tells → IsRefusalEnd how → RefusesAsRead start past gid how files)
  ends_by n (refusal.Exists length) found = λ told is.
      as_read (refusal.Exists length) (end.Exists length) (found told (λ no. absurd cc, λ no. absurd cc))
      (λ faults. refl)
  ends_by n (refusal.PieceLength have len) found = λ told is.
      as_read (refusal.PieceLength have len) (end.PieceLength have len) (found told (λ no. absurd cc, λ no. absurd cc))
      (λ faults. refl)
  ends_by n (refusal.Length have total) found = λ told is.
      as_read (refusal.Length have total) (end.Length have total) (found told (λ no. absurd cc, λ no. absurd cc))
      (λ faults. refl)
  ends_by n refusal.InfoHash found = λ told is.
      as_read refusal.InfoHash end.InfoHash (found told (λ no. absurd cc, λ no. absurd cc)) (λ faults. refl)
  ends_by n (refusal.Unreadable at) found = λ told is.
      as_read (refusal.Unreadable at) (end.Unreadable at) (found told (λ no. absurd cc, λ no. absurd cc))
      (λ faults. refl)
  ends_by n refusal.Disk found = λ told is. absurd is
  ends_by n refusal.NoMemory found = tt

  -- the end that a refusal makes
  pub refusal_ends : {Tells : Type 0} (n : ℕ) (err : OpenErr) (o : Option End) → o ≡ end_by_refusal err n
      → (Tells → IsRefusal err → open_refusal want files ≡ Some err)
      → IfSome o (λ how. Tells → IsRefusalEnd how → RefusesAsRead start past gid how files)
  refusal_ends {Tells} n err o o_is found =
      subst (λ (x : Option End). IfSome x (λ how. Tells → IsRefusalEnd how → RefusesAsRead start past gid how files))
      (sym o_is) (ends_by n err found)

-- ---- what came

module _ {D : Type 0} (old new : StoredView D) (files : Files) where
  -- nothing
  pub none_ends : new.machine.past ≡ old.machine.past → EndsAsRead old new files
  none_ends same gid how came = came_none old.machine.past new.machine.past (Ended gid how) same came

  -- an event that is no end
  pub no_end : (e : Event) → new.machine.past ≡ e ∷ old.machine.past → ((gid : Gid) (how : End) → Ended gid how ≡ e → ⊥)
      → EndsAsRead old new files
  no_end e is none gid how came =
      absurd (none gid how (came_one old.machine.past new.machine.past (Ended gid how) e is came))

  -- an end
  pub one_end : (gid : Gid) (how : End) → new.machine.past ≡ Ended gid how ∷ old.machine.past
      → IsEndAsRead old gid files how → EndsAsRead old new files
  one_end gid how is ends other why came =
      let same = came_one old.machine.past new.machine.past (Ended other why) (Ended gid how) is came in
      let gid_is : gid ≡ other = cc in
      let how_is : how ≡ why = cc in
      subst (λ (g : Gid). IsEndAsRead old g files why) gid_is (subst (IsEndAsRead old gid files) how_is ends)

-- those of an opening, once the download may end
pub ends_opened : {D : Type 0} (old mid new : StoredView D) (f f' f'' : ℕ) (o o' : Outcome) (gid : Gid)
    (download : Download) (files : Files) → DoesPart (λ at. OpeningPhase at gid) old f mid f' o
    → DoesPart (λ at. EndingOr at download NoEvent) mid f' new f'' o'
    → EndsAsRead old mid files → EndsAsRead old new files
ends_opened old mid new f f' f'' o o' gid download files first second ends other how came =
    let front = after_front old.machine.past first.events in
    let rest = after_front mid.machine.past second.events in
    ⊎_elim
    (λ (early : CameBetween old.machine.past mid.machine.past (Ended other how)). ends other how early)
    (λ (late : CameBetween mid.machine.past new.machine.past (Ended other how)). λ refused.
    absurd (part_came RefusesNone (λ at. EndingOr at download NoEvent) mid new f' f'' o' second
    (unrefused_ending (turn_from mid f') download) (Ended other how) late refused))
    (came_split old.machine.past mid.machine.past new.machine.past (Ended other how) front.0 rest.0
    (first.grown ∙ front.1) (second.grown ∙ rest.1) came)

-- a clash is no refusal of the store
clash_unrefused : (start : RunStart) (past : List Event) (download : Download) (how : End)
    → IsClash start past download how → IsRefusalEnd how → ⊥
clash_unrefused start past download (end.SameFile other) is refused = refused
clash_unrefused start past download (end.SameHash other) is refused = refused
clash_unrefused start past download end.Complete is refused = refused
clash_unrefused start past download (end.Dead piece mark) is refused = refused
clash_unrefused start past download (end.Disk count) is refused = refused
clash_unrefused start past download (end.Exists length) is refused = is
clash_unrefused start past download (end.PieceLength have want) is refused = is
clash_unrefused start past download (end.Length have want) is refused = is
clash_unrefused start past download end.InfoHash is refused = is
clash_unrefused start past download (end.Unreadable at) is refused = is
clash_unrefused start past download (end.TooLarge total) is refused = refused
clash_unrefused start past download end.Checksum is refused = refused

pub clash_ends : {D : Type 0} (old new : StoredView D) (m : MachineView) (files : Files) (gid : Gid) (how : End)
    → HasClash m gid how → new.machine.past ≡ Ended gid how ∷ old.machine.past → EndsAsRead old new files
clash_ends old new m files gid how has is =
    one_end old new files gid how is
    (λ refused. absurd (clash_unrefused m.start m.past has.download how has.clash refused))
