-- A turn that tells events first, and then saves downloads.
use Rattle.std.proofs.Common.{◌≡◌, ℕ, Bool, List, [], Some, inl, slice_get, refl, sym, ap, ◌∙◌, subst, arith}
use Rattle.std.specs.Prelude.{IsTrue}
use Rattle.dl_disk.specs.State.{DiskState}
use Rattle.dl_kinds.specs.declared.gid.Gid.{Gid}
use Rattle.engine_turns.specs.Phases.{TurnStart}
use Rattle.engine_turns.specs.Standings.{RunStanding}
use Rattle.engine_turns.specs.declared.operations.Said.{Said}
use Rattle.engine_turns.specs.declared.operations.Said.TheVariants.{NoMemory}
use Rattle.machine_core.specs.declared.events.Event.{Event}
use Rattle.stored_run.specs.RunFollows.{RunFollows}
use Rattle.stored_run.specs.Saves.{AreSavable, AreStoredApart, StandOnce, TellsOnly, UnlessStarved}
use Rattle.stored_run.specs.Steps.{DoesRow, RunStays}
use Rattle.stored_run.specs.Stored.{IsStoredRun}
use Rattle.stored_run.specs.Views.{IsGoing}
use Rattle.stored_run.specs.declared.run.StoredView.{StoredView}
use Rattle.stored_run.proofs.EachSaved.{HaltsBetween, savable_still, stored_apart_still}

pub same_view : {D : Type 0} (r : StoredView D) → TellsOnly [] r r
same_view r = record { past = refl; start = refl; now = refl; wants = refl; disk = refl }

-- no event for want of memory
pub row_starved : {D : Type 0} (Row : TurnStart → RunStanding → List Event → Said → Type 0) (F : D → ℕ)
    (old mid : StoredView D) → TellsOnly [] old mid
    → DoesRow (λ at s. UnlessStarved (Row at s)) old (F old.disk) mid (F mid.disk) NoMemory
row_starved Row F old mid same = record {
  events = [];
  grown = same.past;
  is = λ from s below standing. inl (refl, refl);
  later = let is = ap F same.disk in omega arith;
  counts = ap F same.disk;
}

module _ {D : Type 0} (laws : RunFollows) (tells : Bool) (F : D → ℕ) (S : D → DiskState) (old mid : StoredView D)
    (run : IsStoredRun tells (F old.disk) (S old.disk) old) (events : List Event) (came : TellsOnly events old mid)
    (between : HaltsBetween old mid) where
  pub goes_after : (new : StoredView D) → RunStays mid new → RunStays old new
  goes_after new on = record {
    start = on.start ∙ between.on.start;
    now = on.now ∙ between.on.now;
    wants = λ g w is. on.wants g w (between.on.wants g w is);
  }

  pub row_here : (Row : TurnStart → RunStanding → List Event → Said → Type 0) (new : StoredView D) (f' : ℕ) (said : Said)
      → DoesRow Row old (F mid.disk) new f' said → DoesRow Row old (F old.disk) new f' said
  row_here Row new f' said row = subst (λ (d : D). DoesRow Row old (F d) new f' said) came.disk row

  module _ (gids : List Gid) (went : (i : ℕ) (g : Gid) → slice_get gids i ≡ Some g → IsGoing old g) where
    pub may_all : StandOnce gids → AreSavable mid gids
    may_all once = savable_still laws tells (F old.disk) old mid (S old.disk) run between gids went once

    pub stored_all : IsTrue tells → AreStoredApart mid gids (S mid.disk)
    stored_all told =
        subst (λ (d : D). AreStoredApart mid gids (S d)) (sym came.disk)
        (stored_apart_still laws tells (F old.disk) old mid (S old.disk) run between gids went told)
