-- Parts of a run with a disk, one after the other.
use Rattle.std.proofs.Common.{◌≡◌, ℕ, Bool, Some, List, [], ◌∷◌, sym, subst}
use Rattle.std.specs.Prelude.{IsTrue}
use Rattle.control_file.specs.declared.want.Want.{Want}
use Rattle.dl_disk.specs.State.{DiskState}
use Rattle.dl_kinds.specs.declared.gid.Gid.{Gid}
use Rattle.engine_turns.specs.Phases.{Phase, TurnStart}
use Rattle.engine_turns.specs.Told.{history_after}
use Rattle.engine_turns.specs.declared.outcome.Outcome.{Outcome}
use Rattle.machine_core.specs.OwnParts.{own_of}
use Rattle.machine_core.specs.RunLegal.{download_in}
use Rattle.machine_core.specs.Starts.{Download, RunStart}
use Rattle.machine_core.specs.declared.events.Event.{Event}
use Rattle.stored_run.specs.RunFollows.{RunFollows}
use Rattle.stored_run.specs.Steps.{Continues, DoesPart, EndsGid, StoresGid}
use Rattle.stored_run.specs.Stored.{IsStored, IsStoredRun}
use Rattle.stored_run.specs.Views.{IsGoing, kept_want_of, own_in}
use Rattle.stored_run.specs.declared.run.StoredView.{StoredView}
use Rattle.stored_run.proofs.Doing.{IsGrown, ends_on, ends_stored, own_grows_on, stores_on}

-- ---- downloads

added_on : RunFollows → (start : RunStart) (events past : List Event) (gid : Gid) (download : Download)
    → download_in start past gid ≡ Some download → download_in start (history_after past events) gid ≡ Some download
added_on laws start [] past gid download is = is
added_on laws start (e ∷ events) past gid download is =
    added_on laws start events (e ∷ past) gid download (laws.downloads start past e gid download is)

module _ {D : Type 0} (P : TurnStart → Phase) (old mid : StoredView D) (n f f' : ℕ) (o : Outcome) (on : Continues n old mid)
    (did : DoesPart P old f mid f' o) where
  -- a download stays what it was added as
  pub added_still : RunFollows → (gid : Gid) (download : Download)
      → download_in old.machine.start old.machine.past gid ≡ Some download
      → download_in mid.machine.start mid.machine.past gid ≡ Some download
  added_still laws gid download is =
      subst (λ (s : RunStart). download_in s mid.machine.past gid ≡ Some download) (sym on.start)
      (subst (λ (xs : List Event). download_in old.machine.start xs gid ≡ Some download) (sym did.grown)
      (added_on laws old.machine.start did.events old.machine.past gid download is))

  -- its own history grows
  pub grown_by : (gid : Gid) → IsGrown (own_in old gid) (own_in mid gid)
  grown_by gid =
      subst (λ (s : RunStart). IsGrown (own_in old gid) (own_of s mid.machine.past gid)) (sym on.start)
      (subst (λ (xs : List Event). IsGrown (own_in old gid) (own_of old.machine.start xs gid)) (sym did.grown)
      (own_grows_on old.machine.start did.events old.machine.past gid))

-- ---- the disk

module _ {D : Type 0} (tells : Bool) (faults : ℕ) (old mid new : StoredView D) (gid : Gid) (n : ℕ) (a b c : DiskState)
    (on : Continues n old mid) (first : IsGrown (own_in old gid) (own_in mid gid))
    (second : IsGrown (own_in mid gid) (own_in new gid)) (run : IsStoredRun tells faults b mid)
    (going : IsGoing mid gid) (told : IsTrue tells) (front : StoresGid gid old mid a b) where
  stored_mid : (want : Want) → kept_want_of old gid ≡ Some want → IsStored want (own_in mid gid) b
  stored_mid want kept = run.stored told gid want going (on.wants gid want kept)

  pub stores_part : StoresGid gid mid new b c → StoresGid gid old new a c
  stores_part back want kept =
      stores_on want (own_in old gid) (own_in mid gid) (own_in new gid) a b c first second (stored_mid want kept)
      (front want kept) (back want (on.wants gid want kept))

  pub ends_part : EndsGid gid mid new b c → EndsGid gid old new a c
  ends_part back want kept =
      ends_on want (own_in old gid) (own_in mid gid) (own_in new gid) a b c first second (stored_mid want kept)
      (front want kept) (back want (on.wants gid want kept))

pub ends_stored_part : {D : Type 0} (old new : StoredView D) (gid : Gid) (a b : DiskState) → StoresGid gid old new a b
    → EndsGid gid old new a b
ends_stored_part old new gid a b stores want kept =
    ends_stored want (own_in old gid) (own_in new gid) a b (stores want kept)
