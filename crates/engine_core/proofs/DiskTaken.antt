-- A turn that an engine took keeps what is promised.
use Rattle.std.proofs.Common.{◌≡◌, ⊎_elim, inl, inr, ℕ, Bool, true, false, List, [], ◌∷◌, ◌++◌, Some, None, refl, sym, ap, ◌∙◌, subst}
use Rattle.std.specs.Prelude.{IsTrue}
use Rattle.dl_disk.specs.State.{DiskState}
use Rattle.dl_kinds.specs.declared.gid.Gid.{Gid}
use Rattle.machine_core.specs.Claiming.{next_to_open}
use Rattle.machine_core.specs.RunLegal.{IsLegal}
use Rattle.machine_core.specs.Starts.{RunStart}
use Rattle.machine_core.specs.declared.events.Event.{Event}
use Rattle.engine_turns.specs.RunTurns.{MayComeAfter}
use Rattle.engine_turns.specs.Told.{RunTurn, history_of}
use Rattle.engine_turns.specs.TurnLaws.{HandedAreActive}
use Rattle.engine_turns.specs.declared.operations.Said.{Said}
use Rattle.stored_run.proofs.Leaving.{leaves_still}
use Rattle.stored_run.specs.Leavings.{LeavesDisk}
use Rattle.stored_run.specs.Opening.{OpensDisk}
use Rattle.stored_run.specs.RunFollows.{RunFollows}
use Rattle.stored_run.specs.Stored.{IsStoredRun, IsStoredWith}
use Rattle.stored_run.specs.declared.run.StoredView.{StoredView}
use Rattle.engine_core.specs.Askings.{is_opened_in}
use Rattle.engine_core.specs.Disks.{IsAlike, LeavesTurn, LeavesUnopened, OpensNext}
use Rattle.engine_core.specs.Durable.{KeepsPromises}
use Rattle.engine_core.specs.Engines.{past_of, start_of}
use Rattle.engine_core.specs.declared.state.EngineState.{EngineState}
use Rattle.engine_core.proofs.Gone.{IsOpenedNext}
use Rattle.engine_core.proofs.PromisesOn.{promises_on}

-- ---- the same said of another view of the run

module _ {D : Type 0} where
  abbrev seen_at : StoredView D → RunStart → List Event → StoredView D
  seen_at r start past = record r { machine = record r.machine { start = start; past = past } }

  leaves_at : (r s : StoredView D) (a b : DiskState) (start : RunStart) (p q : List Event) → r.machine.start ≡ start
      → r.machine.past ≡ p → s.machine.start ≡ start → s.machine.past ≡ q → LeavesDisk r s a b
      → (x : StoredView D) → LeavesDisk (seen_at r start p) (seen_at x start q) a b
  leaves_at r s a b start p q rs rp ss sp leaves x =
      let here : LeavesDisk (seen_at r r.machine.start r.machine.past) (seen_at x s.machine.start s.machine.past) a b = record {
        time = leaves.time;
        others = leaves.others;
        each = leaves.each;
        left = leaves.left;
      } in
      subst (λ (l : List Event). LeavesDisk (seen_at r start p) (seen_at x start l) a b) sp
      (subst (λ (l : List Event). LeavesDisk (seen_at r start l) (seen_at x start s.machine.past) a b) rp
      (subst (λ (f : RunStart). LeavesDisk (seen_at r start r.machine.past) (seen_at x f s.machine.past) a b) ss
      (subst (λ (f : RunStart). LeavesDisk (seen_at r f r.machine.past) (seen_at x s.machine.start s.machine.past) a b) rs here)))

  opens_at : (gid : Gid) (said : Said) (r s : StoredView D) (a b : DiskState) (start : RunStart) (p q : List Event)
      → r.machine.start ≡ start → r.machine.past ≡ p → s.machine.start ≡ start → s.machine.past ≡ q
      → OpensDisk gid r s said a b → OpensDisk gid (seen_at r start p) (seen_at s start q) said a b
  opens_at gid said r s a b start p q rs rp ss sp opens =
      subst (λ (l : List Event). OpensDisk gid (seen_at r start p) (seen_at s start l) said a b) sp
      (subst (λ (l : List Event). OpensDisk gid (seen_at r start l) (seen_at s start s.machine.past) said a b) rp
      (subst (λ (f : RunStart). OpensDisk gid (seen_at r start r.machine.past) (seen_at s f s.machine.past) said a b) ss
      (subst (λ (f : RunStart). OpensDisk gid (seen_at r f r.machine.past) (seen_at s s.machine.start s.machine.past) said a b) rs opens)))

-- ---- the turn

module _ {D : Type 0} (laws : RunFollows) (handed : HandedAreActive) (tells : Bool) (told_is : IsTrue tells)
    (state : D → DiskState) (faults : D → ℕ) (old new : EngineState D) (told : List RunTurn) (t : RunTurn)
    (turn : LeavesTurn state t.op old new t.answer.said)
    (was : IsStoredRun tells (faults old.run.disk) (state old.run.disk) old.run) (past_is : past_of old ≡ history_of told)
    (past_after : past_of new ≡ history_of (t ∷ told)) (start_is : start_of new ≡ start_of old)
    (legal : IsLegal (start_of new) (past_of new)) (may : MayComeAfter (start_of old) told t)
    (mark : t.before.time ≡ (state old.run.disk).moment)
    (promises : KeepsPromises (start_of old) told (state old.run.disk)) where
  abbrev S : RunStart
  S = start_of old

  abbrev d : DiskState
  d = state old.run.disk

  abbrev after : DiskState
  after = state new.run.disk

  legal_then : IsLegal S (history_of (t ∷ told))
  legal_then = subst (IsLegal S) past_after (subst (λ (s : RunStart). IsLegal s (past_of new)) start_is legal)

  stored : IsStoredWith true (faults old.run.disk) d S (history_of told) old.run.wants.items old.run.now
  stored =
      subst (λ (p : List Event). IsStoredWith true (faults old.run.disk) d S p old.run.wants.items old.run.now) past_is
      (subst (λ (b : Bool). IsStoredWith b (faults old.run.disk) d S (past_of old) old.run.wants.items old.run.now) told_is was)

  stored_by : (mid : StoredView D) → IsAlike old.run mid
      → IsStoredWith true (faults old.run.disk) d S (history_of told) mid.wants.items old.run.now
  stored_by mid alike =
      subst (λ w. IsStoredWith true (faults old.run.disk) d S (history_of told) w.items old.run.now) (sym alike.wants) stored

  -- its downloads stay unopened
  by_leaves : (mid : StoredView D) (alike : IsAlike old.run mid) → LeavesDisk mid new.run d after
      → ((gid : Gid) → IsOpenedNext S (history_of told) t.op gid → is_opened_in S (history_of (t ∷ told)) gid ≡ true
      → is_opened_in S (history_of told) gid ≡ true) → KeepsPromises S (t ∷ told) after
  by_leaves mid alike leaves unopened =
      promises_on laws handed S told t legal_then may (faults old.run.disk) d after mid new.run old.run.now (stored_by mid alike) promises
      (inl (record {
        leaves = leaves_at mid new.run d after S (history_of told) (history_of (t ∷ told)) alike.start (alike.past ∙ past_is) start_is
            past_after leaves new.run;
        unopened = unopened;
      })) mark

  still : IsAlike old.run new.run → KeepsPromises S (t ∷ told) after
  still alike =
      let same : history_of told ≡ history_of (t ∷ told) = sym past_is ∙ (sym alike.past ∙ past_after) in
      let leaves = leaves_still laws tells (faults old.run.disk) old.run d was told_is in
      promises_on laws handed S told t legal_then may (faults old.run.disk) d after old.run new.run old.run.now stored promises
      (inl (record {
        leaves = subst (λ (x : DiskState). LeavesDisk (seen_at old.run S (history_of told)) (seen_at new.run S (history_of (t ∷ told))) d x)
            (ap state (sym alike.disk))
            (leaves_at old.run old.run d d S (history_of told) (history_of (t ∷ told)) refl past_is refl (sym alike.past ∙ past_after)
            leaves new.run);
        unopened = λ gid next opened. subst (λ (p : List Event). is_opened_in S p gid ≡ true) (sym same) opened;
      })) mark

  pub keeps_promises : KeepsPromises S (t ∷ told) after
  keeps_promises = ⊎_elim still
      (λ more. ⊎_elim
      (λ (left : LeavesUnopened state t.op old.run new.run t.answer.said).
      let here = left.leaves in
      by_leaves here.mid here.alike
      (subst (λ (x : D). LeavesDisk here.mid new.run (state x) after) here.alike.disk here.leaves)
      (λ gid next opened.
      absurd (let never : Some gid ≡ None =
      sym next.1 ∙ (ap (next_to_open S) (sym past_is) ∙ left.none next.0) in cc)))
      (λ (opens : OpensNext state t.op old.run new.run t.answer.said).
      let alike = opens.alike in
      promises_on laws handed S told t legal_then may (faults old.run.disk) d after opens.mid new.run old.run.now
      (stored_by opens.mid alike) promises
      (inr (record {
        gid = opens.gid;
        next = (opens.asked, ap (next_to_open S) (sym past_is) ∙ opens.next);
        opens = opens_at opens.gid t.answer.said opens.mid new.run d after S (history_of told) (history_of (t ∷ told)) alike.start
            (alike.past ∙ past_is) start_is past_after
            (subst (λ (x : D). OpensDisk opens.gid opens.mid new.run t.answer.said (state x) after) alike.disk opens.opens);
      })) mark) more) turn

-- ---- no turn

pub no_promises : (start : RunStart) (disk : DiskState) → KeepsPromises start [] disk
no_promises start disk = record {
  asked = λ gid is. absurd (let no : false ≡ true = is in cc);
  ordered = λ want first second is. absurd (let no : false ≡ true = is.opened in cc);
  wants = λ want gid alone is. absurd (let no : false ≡ true = is.opened in cc);
  lengths = λ want gid alone is. absurd (let no : false ≡ true = is.opened in cc);
  marks = λ newer t before cut. by newer t before cut;
}
  where
    by : {P : Type 0} (newer : List RunTurn) (u : RunTurn) (old : List RunTurn) → [] ≡ newer ++ u ∷ old → P
    by [] u old cut = absurd cc
    by (n ∷ newer) u old cut = absurd cc
