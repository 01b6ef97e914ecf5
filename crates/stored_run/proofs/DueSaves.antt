-- When a save is due.
use Rattle.std.proofs.Common.{◌≡◌, ◌≢◌, ◌<◌, ◌≤◌, ◌+◌, ◌*◌, ℕ, Option, Some, None, List, sym, ap, ◌∙◌, subst, arith}
use Rattle.std.proofs.lemmas.Option.{same_Some}
use Rattle.dl_history.specs.Listings.{last_saved}
use Rattle.dl_kinds.specs.declared.runs.Moment.{Moment}
use Rattle.engine_turns.specs.ClaimRows.{IsSaveDue}
use Rattle.machine_core.specs.Choices.{options_now}
use Rattle.machine_core.specs.OwnParts.{own_of}
use Rattle.machine_core.specs.Starts.{Download}
use Rattle.option_set.specs.Values.{number_value}
use Rattle.option_set.specs.declared.kinds.Num.TheVariants.{AutoSaveInterval}
use Rattle.control_file.specs.declared.want.Want.{Want}
use Rattle.dl_history.specs.Accounts.{account_of}
use Rattle.dl_kinds.specs.declared.gid.Gid.{Gid}
use Rattle.machine_core.specs.RunLegal.{IsLegal, known_lengths}
use Rattle.machine_core.specs.Starts.{RunStart}
use Rattle.machine_core.specs.declared.events.Event.{Event}
use Rattle.stored_run.specs.RunFollows.{RunFollows}
use Rattle.stored_run.specs.Steps.{turn_from}
use Rattle.stored_run.specs.Stored.{AreWantsKept}
use Rattle.stored_run.specs.Views.{GoesOpened}
use Rattle.stored_run.proofs.Failing.{opened_want}
use Rattle.stored_run.specs.declared.run.StoredView.{StoredView}

module _ {D : Type 0} (r : StoredView D) (download : Download) (from seconds : ℕ)
    (is : seconds ≡ number_value (options_now r.machine.start r.machine.past download) AutoSaveInterval) where
  pub never_due : seconds ≡ 0 → IsSaveDue (turn_from r from) r.machine.past download → ⊥
  never_due none due = due.on (sym is ∙ none)

  module _ (saved : Moment) (last : last_saved (own_of r.machine.start r.machine.past download.gid) ≡ Some saved) where
    pub is_due : seconds ≢ 0 → saved.0 + 1000 * seconds ≤ r.now.0 → IsSaveDue (turn_from r from) r.machine.past download
    is_due some later = record {
      saved = saved;
      last = last;
      on = λ none. some (is ∙ none);
      later = subst (λ (n : ℕ). saved.0 + 1000 * n ≤ r.now.0) is later;
    }

    pub early_yet : r.now.0 < saved.0 + 1000 * seconds → IsSaveDue (turn_from r from) r.machine.past download → ⊥
    early_yet early due =
        let same = ap (λ (m : Moment). m.0) (same_Some due.saved saved (sym due.last ∙ last)) in
        let later = due.later in
        absurd (omega (arith, same, later, early, is))

  pub unsaved_yet : last_saved (own_of r.machine.start r.machine.past download.gid) ≡ None
      → IsSaveDue (turn_from r from) r.machine.past download → ⊥
  unsaved_yet none due = absurd (let f : None ≡ Some due.saved = sym none ∙ due.last in cc)

-- when the last save of a download that goes on was
pub saved_in : RunFollows → (start : RunStart) (past : List Event) (wants : List (Option Want)) (gid : Gid)
    → AreWantsKept start past wants → IsLegal start past → GoesOpened start past gid
    → (account_of (known_lengths start past gid).total (known_lengths start past gid).piece_len
    (own_of start past gid)).saved ≡ last_saved (own_of start past gid)
saved_in laws start past wants gid kept legal going =
    let l = known_lengths start past gid in
    let w = opened_want start past wants gid kept going.opened in
    (laws.accounts l.total l.piece_len (own_of start past gid) (λ is. w.plan) (laws.legal start past gid legal)).saved
