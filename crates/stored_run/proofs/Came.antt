-- What came in a part of a turn is what its phase allows.
use Rattle.std.proofs.Common.{⊎_elim, ℕ, zero, suc, Bool, true, false, List, [], ◌∷◌, refl, sym, subst, arith}
use Rattle.std.specs.Prelude.{Contains}
use Rattle.dl_kinds.specs.declared.gid.Gid.{Gid}
use Rattle.engine_turns.specs.Phases.{AfterDisk, CheckedPhase, CompletionPhase, EndAfterDisk, EndingOr, IsWantedVerified, NoEvent, Phase, TurnStart}
use Rattle.engine_turns.specs.Told.{history_after}
use Rattle.engine_turns.specs.declared.outcome.Outcome.{Outcome}
use Rattle.machine_core.specs.RunLegal.{has_checksum}
use Rattle.machine_core.specs.Starts.{Download}
use Rattle.machine_core.specs.declared.ends.End.TheVariants as end
use Rattle.machine_core.specs.declared.events.Event.{Event}
use Rattle.machine_core.specs.declared.events.Event.TheVariants.{Checked, Ended}
use Rattle.stored_run.specs.Refused.{IsRefusalEnd}
use Rattle.stored_run.specs.Settlings.{CameBetween}
use Rattle.stored_run.specs.Steps.{DoesPart, turn_from}
use Rattle.stored_run.specs.declared.run.StoredView.{StoredView}
use Rattle.stored_run.proofs.Between.{after_front, came_none, came_one, came_split}
use Rattle.stored_run.proofs.OfOne.{AllowsOnly, Each, disk_in, else_in, end_disk_in, end_in, none_in, then_in}

-- each that stands among them is
pub each_there : (E : Event → Type 0) (events : List Event) (e : Event) → Each E events → Contains events e → E e
each_there E [] e all (n, within, is) = absurd (omega (arith, within))
each_there E (x ∷ events) e all (zero, within, is) = subst E is all.0
each_there E (x ∷ events) e all (suc n, within, is) = each_there E events e all.1 (n, omega (arith, within), is)

each_came : (E : Event → Type 0) (past events : List Event) (e : Event) → Each E events
    → CameBetween past (history_after past events) e → E e
each_came E past [] e all came = came_none past past e refl came
each_came E past (x ∷ events) e all came =
    let front = after_front (x ∷ past) events in
    ⊎_elim
    (λ (here : CameBetween past (x ∷ past) e). subst E (sym (came_one past (x ∷ past) e x refl here)) all.0)
    (λ (later : CameBetween (x ∷ past) (history_after (x ∷ past) events) e).
    each_came E (x ∷ past) events e all.1 later)
    (came_split past (x ∷ past) (history_after (x ∷ past) events) e (x ∷ []) front.0 refl front.1 came)

pub part_came : {D : Type 0} (E : Event → Type 0) (P : TurnStart → Phase) (old new : StoredView D) (f f' : ℕ)
    (o : Outcome) → DoesPart P old f new f' o → AllowsOnly E (P (turn_from old f)) → (e : Event)
    → CameBetween old.machine.past new.machine.past e → E e
part_came E P old new f f' o did only e came =
    each_came E old.machine.past did.events e (only old.machine.past did.events o (did.is f (omega arith)))
    (subst (λ (p : List Event). CameBetween old.machine.past p e) did.grown came)

-- ---- refusals

-- it doesn't end a download as refused
abbrev pub RefusesNone : Event → Type 0
RefusesNone (Ended gid how) = IsRefusalEnd how → ⊥
RefusesNone e = Unit {0}

unrefused_fault : (gid : Gid) (count : ℕ) → RefusesNone (Ended gid (end.Disk count))
unrefused_fault gid count is = is

unrefused_finish : (at : TurnStart) (gid : Gid) → AllowsOnly RefusesNone (EndAfterDisk at gid end.Complete)
unrefused_finish at gid = end_disk_in RefusesNone at gid end.Complete (λ is. is) (unrefused_fault gid)

unrefused_checked : (at : TurnStart) (gid : Gid) (right : Bool) → AllowsOnly RefusesNone (CheckedPhase at gid right)
unrefused_checked at gid true = unrefused_finish at gid
unrefused_checked at gid false = end_in RefusesNone (Ended gid end.Checksum) (λ is. is)

unrefused_completion : (at : TurnStart) (gid : Gid) (checks : Bool)
    → AllowsOnly RefusesNone (CompletionPhase at gid checks)
unrefused_completion at gid false past events o is = unrefused_finish at gid past events o is
unrefused_completion at gid true past events o is =
    then_in RefusesNone (AfterDisk at gid (Checked gid is.0 ∷ [])) (CheckedPhase at gid is.0)
    (disk_in RefusesNone at gid (Checked gid is.0 ∷ []) (tt, tt) (unrefused_fault gid))
    (unrefused_checked at gid is.0) past events o is.1

-- no download ends as refused once it is opened
pub unrefused_ending : (at : TurnStart) (download : Download) → AllowsOnly RefusesNone (EndingOr at download NoEvent)
unrefused_ending at download past =
    else_in RefusesNone (IsWantedVerified at.start past download)
    (CompletionPhase at download.gid (has_checksum download)) NoEvent
    (unrefused_completion at download.gid (has_checksum download)) (none_in RefusesNone) past
