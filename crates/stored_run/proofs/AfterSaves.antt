-- What a call or the stop leaves on the disk, with the saves that come of it.
use Rattle.std.proofs.Common.{◌≡◌, inl, inr, ℕ, Bool, true, false, Some, List, [], ◌∷◌, slice_get, refl, sym, ap, ◌∙◌, subst, arith}
use Rattle.std.specs.Prelude.{Contains, IsTrue}
use Rattle.dl_disk.specs.State.{DiskState}
use Rattle.dl_kinds.specs.declared.gid.Gid.{Gid}
use Rattle.dl_kinds.specs.declared.runs.Moment.{Moment}
use Rattle.engine_turns.specs.CallRows.{stop_events}
use Rattle.engine_turns.specs.Phases.{IsSaveOrFault, SavesPhase, TurnStart}
use Rattle.engine_turns.specs.Told.{history_after}
use Rattle.engine_turns.specs.declared.outcome.Outcome.{Outcome}
use Rattle.machine_core.specs.declared.calls.Call.{Call}
use Rattle.machine_core.specs.declared.ends.End.TheVariants as end
use Rattle.machine_core.specs.declared.events.Event.{Event}
use Rattle.machine_core.specs.declared.events.Event.TheVariants.{Called, Ended, Saved}
use Rattle.stored_run.specs.Leavings.{LeavesDisk}
use Rattle.stored_run.specs.RunFollows.{RunFollows}
use Rattle.stored_run.specs.Saves.{SavesDisk, TellsOnly}
use Rattle.stored_run.specs.Steps.{DoesPart, turn_from}
use Rattle.stored_run.specs.Stored.{IsStoredRun}
use Rattle.stored_run.specs.Views.{IsDoneOf, IsGoing, own_in}
use Rattle.stored_run.specs.declared.run.StoredView.{StoredView}
use Rattle.stored_run.proofs.EachSaved.{HaltsBetween, apart_all, each_none, each_saved, stored_still}
use Rattle.stored_run.proofs.Endings.{unended}
use Rattle.stored_run.proofs.Leaving.{IsIncomplete, kept_ends, none_completes}
use Rattle.stored_run.proofs.Left.{any_none, for_none, held_stored, left_of, not_complete}
use Rattle.stored_run.proofs.OfOne.{Each}

-- ---- events that complete no download

pub called_incomplete : (session : ℕ) (asked : Call) (now : Moment) → Each IsIncomplete (Called session asked now ∷ [])
called_incomplete session asked now = (λ g same. absurd cc, tt)

pub stop_incomplete : (stopped : Bool) → Each IsIncomplete (stop_events stopped)
stop_incomplete true = tt
stop_incomplete false = (λ g same. absurd cc, tt)

save_incomplete : (at : TurnStart) (gid : Gid) (e : Event) → IsSaveOrFault at gid e → IsIncomplete e
save_incomplete at gid e (inl is) g same = absurd (let f : Saved gid at.now ≡ Ended g end.Complete = sym is ∙ same in cc)
save_incomplete at gid e (inr is) g same =
    absurd (let f : Ended gid (end.Disk is.0) ≡ Ended g end.Complete = sym is.2 ∙ same in cc)

saves_in : (at : TurnStart) (gids : List Gid) (past events : List Event) (o : Outcome) → SavesPhase at gids past events o
    → Each IsIncomplete events
saves_in at [] past events o is = subst (Each IsIncomplete) (sym is.0) tt
saves_in at (gid ∷ gids) past events o (inl is) =
    subst (Each IsIncomplete) (sym is.2) (save_incomplete at gid is.0 is.3, saves_in at gids (is.0 ∷ past) is.1 o is.4)
saves_in at (gid ∷ gids) past events o (inr is) = subst (Each IsIncomplete) (sym is.0) tt

-- ---- what is left

module _ {D : Type 0} (laws : RunFollows) (tells : Bool) (F : D → ℕ) (S : D → DiskState) (old mid : StoredView D)
    (run : IsStoredRun tells (F old.disk) (S old.disk) old) (events : List Event) (came : TellsOnly events old mid)
    (between : HaltsBetween old mid) (all : Each IsIncomplete events) (told : IsTrue tells) where
  none_after : (more after : List Event) → after ≡ history_after mid.machine.past more → Each IsIncomplete more → (g : Gid)
      → IsGoing old g → Contains after (Ended g end.Complete) → ⊥
  none_after more after is rest g goes there =
      not_complete old.machine.start old.machine.past g (unended laws old.machine.start old.machine.past g run.legal goes)
      (none_completes events old.machine.past all g
      (none_completes more (history_after old.machine.past events) rest g
      (subst (λ (xs : List Event). Contains xs (Ended g end.Complete))
      (is ∙ ap (λ (past : List Event). history_after past more) came.past) there)))

  -- without any save
  pub halted_leaves : LeavesDisk old mid (S old.disk) (S mid.disk)
  halted_leaves =
      subst (λ (d : D). LeavesDisk old mid (S old.disk) (S d)) (sym came.disk)
      (record {
        time = any_none (S old.disk);
        others = λ other beside. for_none other (S old.disk);
        each = λ g w goes kept.
            kept_ends (IsDoneOf mid g) w (own_in old g) (own_in mid g) (S old.disk) (S old.disk)
            (each_none laws tells (F old.disk) old mid (S old.disk) run between told g w goes kept);
        left = λ g w goes kept.
            left_of mid.machine.start mid.machine.past g w (S old.disk)
            (held_stored w (own_in mid g) (S old.disk)
            (stored_still laws tells (F old.disk) old mid (S old.disk) run between told g w goes kept))
            (none_after [] mid.machine.past refl tt g goes);
      })

  -- after the saves of downloads that went on
  pub saved_leaves : (gids : List Gid) → ((i : ℕ) (g : Gid) → slice_get gids i ≡ Some g → IsGoing old g)
      → (new : StoredView D) (f f' : ℕ) (o : Outcome) → DoesPart (λ at. SavesPhase at gids) mid f new f' o
      → SavesDisk gids mid new (S mid.disk) (S new.disk) → LeavesDisk old new (S old.disk) (S new.disk)
  saved_leaves gids went new f f' o did saves =
      let saved = subst (λ (d : D). SavesDisk gids mid new (S d) (S new.disk)) came.disk saves in
      record {
        time = saved.time;
        others = λ other beside.
            saved.others other (λ i g w at kept. beside g w (went i g at) (between.was_kept g w kept));
        each = λ g w goes kept.
            kept_ends (IsDoneOf new g) w (own_in old g) (own_in new g) (S old.disk) (S new.disk)
            (each_saved laws tells (F old.disk) old mid (S old.disk) run between gids went new (S new.disk) told
            saved.keeps g w goes kept);
        left = λ g w goes kept.
            left_of new.machine.start new.machine.past g w (S new.disk)
            (saved.left g w (between.on.wants g w kept)
            (stored_still laws tells (F old.disk) old mid (S old.disk) run between told g w goes kept)
            (apart_all laws tells (F old.disk) old mid (S old.disk) run between gids went g goes))
            (none_after did.events new.machine.past did.grown
            (saves_in (turn_from mid f) gids mid.machine.past did.events o (did.is f (omega arith))) g goes);
      }
