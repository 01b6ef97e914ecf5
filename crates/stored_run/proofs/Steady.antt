-- What a part of one event, or of none, says of a run and its disk.
use Rattle.std.proofs.Common.{◌≡◌, ◌≤◌, ℕ, Some, List, [], ◌∷◌, sym, ◌∙◌, subst}
use Rattle.std.proofs.lemmas.Option.{same_Some}
use Rattle.control_file.specs.declared.want.Want.{Want}
use Rattle.dl_disk.specs.Calls.{Stays}
use Rattle.dl_disk.specs.Files.{IsSame}
use Rattle.dl_disk.specs.Passes.{Passes}
use Rattle.dl_disk.specs.State.{DiskState}
use Rattle.dl_history.specs.OwnEvents.{OwnEvent}
use Rattle.dl_kinds.specs.declared.gid.Gid.{Gid}
use Rattle.engine_turns.specs.Faults.{CountsFaults}
use Rattle.engine_turns.specs.Phases.{Did, Phase}
use Rattle.engine_turns.specs.declared.outcome.Outcome.{Outcome}
use Rattle.machine_core.specs.OwnParts.{own_of}
use Rattle.machine_core.specs.Starts.{RunStart}
use Rattle.machine_core.specs.declared.events.Event.{Event}
use Rattle.resume_core.proofs.Filed.{files_kept}
use Rattle.resume_core.specs.States.{SamePayload}
use Rattle.stored_run.specs.RunFollows.{RunFollows}
use Rattle.stored_run.specs.Steps.{EndsOn, KeepsPayload, StoresOn}
use Rattle.stored_run.specs.Stored.{AreWantsKept}
use Rattle.stored_run.specs.Views.{kept_want_of, own_in}
use Rattle.stored_run.specs.declared.run.StoredView.{StoredView}
use Rattle.stored_run.proofs.Doing.{IsGrown, own_grows, stores_none}
use Rattle.stored_run.proofs.Single.{did_none, did_one, moved, read_stores}

-- ---- a run as a method finds it: what its fields hold is what contracts see

module _ {D : Type 0} (u v : StoredView D) (same : u ≡ v) where
  -- an event
  pub one_did : (F : D → ℕ) (P : StoredView D → ℕ → Phase) (past' : List Event) (f' : ℕ) (e : Event) (o : Outcome)
      → past' ≡ e ∷ u.machine.past → CountsFaults (F u.disk) (e ∷ []) f'
      → ((from : ℕ) → from ≤ F u.disk → P u from u.machine.past (e ∷ []) o)
      → Did (P v) v.machine.past (F v.disk) past' f' o
  one_did F P past' f' e o grown counts is =
      subst (λ (w : StoredView D). Did (P w) w.machine.past (F w.disk) past' f' o) same
      (did_one (P u) u.machine.past (F u.disk) past' f' o e grown counts is)

  -- no event
  pub none_did : (F : D → ℕ) (P : StoredView D → ℕ → Phase) (f' : ℕ) (o : Outcome) → f' ≡ F u.disk
      → ((from : ℕ) → from ≤ F u.disk → P u from u.machine.past [] o)
      → Did (P v) v.machine.past (F v.disk) u.machine.past f' o
  none_did F P f' o still is =
      subst (λ (w : StoredView D). Did (P w) w.machine.past (F w.disk) u.machine.past f' o) same
      (did_none (P u) u.machine.past (F u.disk) f' o still is)

  -- its payload reads as it did, where the disk was at most read
  pub payload_read : (S : D → DiskState) (gid : Gid) (b : DiskState) → Stays (S u.disk) b → KeepsPayload gid v (S v.disk) b
  payload_read S gid b stays =
      subst (λ (w : StoredView D). KeepsPayload gid w (S w.disk) b) same
      (λ want is. files_kept want (S u.disk).seen b.seen stays.seen)

  -- .. and where this is known of its want
  pub payload_at : (S : D → DiskState) (gid : Gid) (w : Want) → kept_want_of u gid ≡ Some w → (b : DiskState)
      → SamePayload w (S u.disk) b → KeepsPayload gid v (S v.disk) b
  payload_at S gid w kept_w b payload =
      subst (λ (x : StoredView D). KeepsPayload gid x (S x.disk) b) same
      (λ want is. subst (λ (y : Want). SamePayload y (S u.disk) b) (same_Some w want (sym kept_w ∙ is)) payload)

  module _ (laws : RunFollows) (S : D → DiskState) (start' : RunStart) (past' : List Event) (gid : Gid)
      (kept : AreWantsKept u.machine.start u.machine.past u.wants.items) where
    pub grown_to : (e : Event) → start' ≡ u.machine.start → past' ≡ e ∷ u.machine.past
        → IsGrown (own_in u gid) (own_of start' past' gid)
    grown_to e start_is past_is =
        moved (λ (s : RunStart) (xs : List Event). IsGrown (own_in u gid) (own_of s xs gid)) u.machine.start start'
        (e ∷ u.machine.past) past' start_is past_is (own_grows u.machine.start e u.machine.past gid)

    -- no call of the disk
    pub disk_still : (e : Event) → start' ≡ u.machine.start → past' ≡ e ∷ u.machine.past
        → (want : Want) → kept_want_of v gid ≡ Some want
        → StoresOn want (own_in v gid) (own_of start' past' gid) (S v.disk) (S u.disk)
    disk_still e start_is past_is =
        subst (λ (w : StoredView D). (want : Want) → kept_want_of w gid ≡ Some want
        → StoresOn want (own_in w gid) (own_of start' past' gid) (S w.disk) (S u.disk)) same
        (λ want is. stores_none laws.give want (own_in u gid) (own_of start' past' gid) (S u.disk) (kept.sound gid want is)
        (grown_to e start_is past_is))

    -- reads
    pub disk_read : (grown : IsGrown (own_in u gid) (own_of start' past' gid)) (b : DiskState) → Stays (S u.disk) b
        → Passes IsSame (S u.disk) b → (want : Want) → kept_want_of v gid ≡ Some want
        → StoresOn want (own_in v gid) (own_of start' past' gid) (S v.disk) b
    disk_read grown b stays passes =
        subst (λ (w : StoredView D). (want : Want) → kept_want_of w gid ≡ Some want
        → StoresOn want (own_in w gid) (own_of start' past' gid) (S w.disk) b) same
        (λ want is. subst (λ (own : List OwnEvent). StoresOn want (own_in u gid) own (S u.disk) b) (sym grown.1)
        (read_stores laws want (kept.sound gid want is) (own_in u gid) grown.0 (S u.disk) b stays passes))

    -- what may finish it
    module _ {Whole : Type 0} where
      pub ends_at : (w : Want) → kept_want_of u gid ≡ Some w → (b : DiskState)
          → EndsOn w Whole (own_in u gid) (own_of start' past' gid) (S u.disk) b
          → (want : Want) → kept_want_of v gid ≡ Some want
          → EndsOn want Whole (own_in v gid) (own_of start' past' gid) (S v.disk) b
      ends_at w kept_w b ends =
          subst (λ (x : StoredView D). (want : Want) → kept_want_of x gid ≡ Some want
          → EndsOn want Whole (own_in x gid) (own_of start' past' gid) (S x.disk) b) same
          (λ want is. subst (λ (y : Want). EndsOn y Whole (own_in u gid) (own_of start' past' gid) (S u.disk) b)
          (same_Some w want (sym kept_w ∙ is)) ends)
