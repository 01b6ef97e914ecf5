-- What an operation found on the disk, from its beginning on.
use Rattle.std.proofs.Common.{◌≡◌, Some, None, List, sym, ◌∙◌, subst}
use Rattle.dl_disk.specs.State.{DiskState}
use Rattle.dl_kinds.specs.declared.gid.Gid.{Gid}
use Rattle.machine_core.specs.Claiming.{next_to_open}
use Rattle.machine_core.specs.Starts.{RunStart}
use Rattle.machine_core.specs.declared.ends.End.{End}
use Rattle.machine_core.specs.declared.events.Event.{Event}
use Rattle.machine_core.specs.declared.events.Event.TheVariants.{Checked, Ended}
use Rattle.stored_run.proofs.Between.{came_none}
use Rattle.stored_run.specs.Refused.{EndsAsRead, RefusesAsRead}
use Rattle.stored_run.specs.Settlings.{CameBetween}
use Rattle.stored_run.specs.declared.run.StoredView.{StoredView}
use Rattle.engine_core.specs.Disks.{IsAlike}
use Rattle.engine_core.specs.Findings.{ChecksRead, FindsNext}

module _ {D : Type 0} (state : D → DiskState) (old mid : StoredView D) (alike : IsAlike old mid) where
  came_then : (new : StoredView D) (e : Event) → CameBetween old.machine.past new.machine.past e
      → CameBetween mid.machine.past new.machine.past e
  came_then new e came = subst (λ (p : List Event). CameBetween p new.machine.past e) (sym alike.past) came

  -- whole checks
  pub checks_nothing : ChecksRead state old mid
  checks_nothing gid right came = came_none old.machine.past mid.machine.past (Checked gid right) alike.past came

  pub checks_before : (new : StoredView D) → ChecksRead state mid new → ChecksRead state old new
  checks_before new is gid right came = is gid right (came_then new (Checked gid right) came)

  -- .. and an opening
  pub finds_nothing : FindsNext state old mid
  finds_nothing = record {
    checked = checks_nothing;
    refused = λ gid next other how came.
        came_none old.machine.past mid.machine.past (Ended other how) alike.past came;
  }

  refused_before : (gid : Gid) (how : End)
      → RefusesAsRead mid.machine.start mid.machine.past gid how (state mid.disk).seen
      → RefusesAsRead old.machine.start old.machine.past gid how (state old.disk).seen
  refused_before gid how is =
      subst (λ (d : D). RefusesAsRead old.machine.start old.machine.past gid how (state d).seen) alike.disk
      (subst (λ (p : List Event). RefusesAsRead old.machine.start p gid how (state mid.disk).seen) alike.past
      (subst (λ (s : RunStart). RefusesAsRead s mid.machine.past gid how (state mid.disk).seen) alike.start is))

  pub finds_before : (new : StoredView D) → ChecksRead state mid new → EndsAsRead mid new (state mid.disk).seen
      → FindsNext state old new
  finds_before new checks ends = record {
    checked = checks_before new checks;
    refused = λ gid next other how came refusal.
        refused_before other how (ends other how (came_then new (Ended other how) came) refusal);
  }

  pub finds_unopened : (new : StoredView D) → next_to_open old.machine.start old.machine.past ≡ None
      → ChecksRead state mid new → FindsNext state old new
  finds_unopened new none checks = record {
    checked = checks_before new checks;
    refused = λ gid next. absurd (let never : Some gid ≡ None = sym next ∙ none in cc);
  }
