-- Events without calls of the disk, and the saves of several downloads after them.
use Rattle.std.proofs.Common.{◌≡◌, ◌≢◌, ◌≤◌, ◌⊎◌, inl, inr, ⊎_elim, ℕ, Bool, true, false, Option, Some, List, [], ◌∷◌, slice_get, refl, sym, ◌∙◌, subst, arith}
use Rattle.std.specs.Prelude.{IfSome, IsTrue}
use Rattle.control_file.specs.Wants.{IsWant}
use Rattle.control_file.specs.declared.want.Want.{Want}
use Rattle.dl_disk.specs.State.{DiskState}
use Rattle.dl_history.specs.OwnEvents.{OwnEvent, Halts}
use Rattle.dl_history.specs.OwnLegal.{MaySave}
use Rattle.dl_history.specs.PayloadParts.{is_ended, is_opened}
use Rattle.dl_kinds.specs.declared.gid.Gid.{Gid}
use Rattle.dl_kinds.specs.declared.runs.Moment.{Moment}
use Rattle.engine_turns.specs.CallRows.{stop_events}
use Rattle.engine_turns.specs.Phases.{Did, Phase, TurnStart}
use Rattle.engine_turns.specs.Told.{history_after}
use Rattle.engine_turns.specs.declared.outcome.Outcome.{Outcome}
use Rattle.machine_core.specs.OwnParts.{halted_where, halts_by, own_of}
use Rattle.machine_core.specs.RunLegal.{MayFollow, disk_fault_of, moment_of_event}
use Rattle.machine_core.specs.Starts.{RunStart}
use Rattle.machine_core.specs.declared.calls.Call.{Call}
use Rattle.machine_core.specs.declared.events.Event.{Event}
use Rattle.machine_core.specs.declared.events.Event.TheVariants.{Called, Stopped}
use Rattle.resume_core.specs.Sharing.{share_names}
use Rattle.stored_run.specs.RunFollows.{RunFollows}
use Rattle.stored_run.specs.Saves.{AreSavable, AreStoredApart, IsApartFrom, SavesKeep, StandOnce, TellsOnly}
use Rattle.stored_run.specs.Steps.{DoesPart, RunStays, IsStoredApart, StoresEach, StoresGid, StoresOn, turn_from}
use Rattle.stored_run.specs.Stored.{AreWantsKept, IsStored, IsStoredRun, IsStoredWith}
use Rattle.stored_run.specs.Views.{GoesOpened, IsGoing, kept_want, kept_want_of, own_in}
use Rattle.stored_run.specs.declared.run.StoredView.{StoredView}
use Rattle.stored_run.proofs.Doing.{IsGrown, grown_none, stores_none}
use Rattle.stored_run.proofs.Endings.{apart_from, unended}
use Rattle.stored_run.proofs.Keeps.{keeps_from, keeps_none}
use Rattle.stored_run.proofs.Kept.{OpensNone, after_event, going_before, kept_before, kept_then}

-- ---- halts alone

-- the own events are the same, or the claims ended
abbrev pub HaltsAtMost : List OwnEvent → List OwnEvent → Type 0
HaltsAtMost was own = (own ≡ was) ⊎ (own ≡ Halts false ∷ was)

halts_where : (b : Bool) (own : List OwnEvent) → HaltsAtMost own (halted_where b own)
halts_where true own = inr refl
halts_where false own = inl refl

halts_so : (P : List OwnEvent → Type 0) (was own : List OwnEvent) → HaltsAtMost was own → P was → P (Halts false ∷ was) → P own
halts_so P was own at same more =
    ⊎_elim (λ (is : own ≡ was). subst P (sym is) same) (λ (is : own ≡ Halts false ∷ was). subst P (sym is) more) at

halts_grown : (was own : List OwnEvent) → HaltsAtMost was own → IsGrown was own
halts_grown was own at =
    halts_so (λ (ys : List OwnEvent). IsGrown was ys) was own at ([], refl) (Halts false ∷ [], refl)

halts_stored : (want : Want) (was own : List OwnEvent) (disk : DiskState) → HaltsAtMost was own → IsStored want was disk
    → IsStored want own disk
halts_stored want was own disk at is =
    halts_so (λ (ys : List OwnEvent). IsStored want ys disk) was own at is (record { held = is.held; right = is.right })

pub halts_opened : (was own : List OwnEvent) → HaltsAtMost was own → is_opened own ≡ is_opened was
halts_opened was own at =
    halts_so (λ (ys : List OwnEvent). is_opened ys ≡ is_opened was) was own at refl refl

pub halts_ended : (was own : List OwnEvent) → HaltsAtMost was own → is_ended own ≡ is_ended was
halts_ended was own at =
    halts_so (λ (ys : List OwnEvent). is_ended ys ≡ is_ended was) was own at refl refl

-- ---- one event that halts at most

abbrev pub HaltsEach : RunStart → List Event → Event → Type 0
HaltsEach start past e = (g : Gid) → HaltsAtMost (own_of start past g) (own_of start (e ∷ past) g)

pub called_halts : (start : RunStart) (past : List Event) (session : ℕ) (asked : Call) (now : Moment)
    → HaltsEach start past (Called session asked now)
called_halts start past session asked now g =
    halts_where (halts_by start past (Called session asked now) asked g) (own_of start past g)

pub halts_none : (start : RunStart) (past : List Event) (e : Event) → HaltsEach start past e → OpensNone start past e
halts_none start past e halts g opened =
    sym (halts_opened (own_of start past g) (own_of start (e ∷ past) g) (halts g)) ∙ opened

-- the run after it
halt_kept : RunFollows → (tells : Bool) (faults : ℕ) (disk : DiskState) (start : RunStart) (past : List Event)
    (wants : List (Option Want)) (now : Moment) (e : Event) → HaltsEach start past e → MayFollow start past e
    → IfSome (moment_of_event e) (λ m. m.0 ≤ now.0) → IfSome (disk_fault_of e) (λ count. count ≤ faults)
    → IsStoredWith tells faults disk start past wants now → IsStoredWith tells faults disk start (e ∷ past) wants now
halt_kept laws tells faults disk start past wants now e halts may moment fault was =
    after_event laws tells faults faults disk disk start past wants now e was (record {
      may = may;
      none = halts_none start past e halts;
      moment = moment;
      more = omega arith;
      fault = fault;
      still = λ told g w goes went had is.
          halts_stored w (own_of start past g) (own_of start (e ∷ past) g) disk (halts g) is;
    })

pub called_kept : RunFollows → (tells : Bool) (faults : ℕ) (disk : DiskState) (start : RunStart) (past : List Event)
    (wants : List (Option Want)) (now : Moment) (session : ℕ) (asked : Call)
    → MayFollow start past (Called session asked now) → IsStoredWith tells faults disk start past wants now
    → IsStoredWith tells faults disk start (Called session asked now ∷ past) wants now
called_kept laws tells faults disk start past wants now session asked may was =
    halt_kept laws tells faults disk start past wants now (Called session asked now)
    (called_halts start past session asked now) may (omega arith) tt was

pub stopped_kept : RunFollows → (tells : Bool) (faults : ℕ) (disk : DiskState) (start : RunStart) (past : List Event)
    (wants : List (Option Want)) (now : Moment) → MayFollow start past Stopped
    → IsStoredWith tells faults disk start past wants now → IsStoredWith tells faults disk start (Stopped ∷ past) wants now
stopped_kept laws tells faults disk start past wants now may was =
    halt_kept laws tells faults disk start past wants now Stopped (λ g. inr refl) may tt tt was

-- ---- two states, with such an event or none between them

-- of each download the events are the same, or its claims ended; what went on goes on or not, and the wants are kept
pub record HaltsBetween {D : Type 0} (old new : StoredView D) : Type 0 where
  pub on : RunStays old new
  pub own : (g : Gid) → HaltsAtMost (own_in old g) (own_in new g)
  pub going : (g : Gid) → IsGoing new g → IsGoing old g
  pub was_kept : (g : Gid) (w : Want) → kept_want_of new g ≡ Some w → kept_want_of old g ≡ Some w

module _ {D : Type 0} (events : List Event) (old new : StoredView D) (tells : TellsOnly events old new) where
  -- what holds of the events holds of the run
  pub told_of : (P : RunStart → List Event → List (Option Want) → Type 0)
      → P old.machine.start (history_after old.machine.past events) old.wants.items
      → P new.machine.start new.machine.past new.wants.items
  told_of P is =
      subst (λ (s : RunStart). P s new.machine.past new.wants.items) (sym tells.start)
      (subst (λ (past : List Event). P old.machine.start past new.wants.items) (sym tells.past)
      (subst (λ ws. P old.machine.start (history_after old.machine.past events) ws.items) (sym tells.wants) is))

pub between_none : {D : Type 0} (old new : StoredView D) → TellsOnly [] old new → HaltsBetween old new
between_none old new tells = record {
  on = record {
    start = tells.start;
    now = tells.now;
    wants = λ g w is. told_of [] old new tells (λ s p ws. kept_want ws s p g ≡ Some w) is;
  };
  own = λ g. told_of [] old new tells (λ s p ws. HaltsAtMost (own_in old g) (own_of s p g)) (inl refl);
  going = λ g. told_of [] old new tells (λ s p ws. GoesOpened s p g → IsGoing old g) (λ goes. goes);
  was_kept = λ g w. told_of [] old new tells (λ s p ws. kept_want ws s p g ≡ Some w → kept_want_of old g ≡ Some w)
      (λ is. is);
}

between_one : {D : Type 0} (laws : RunFollows) (e : Event) (old new : StoredView D)
    → AreWantsKept old.machine.start old.machine.past old.wants.items → HaltsEach old.machine.start old.machine.past e
    → TellsOnly (e ∷ []) old new → HaltsBetween old new
between_one laws e old new are halts tells = record {
  on = record {
    start = tells.start;
    now = tells.now;
    wants = λ g w is. told_of (e ∷ []) old new tells (λ s p ws. kept_want ws s p g ≡ Some w)
        (kept_then laws old.machine.start old.machine.past e old.wants.items g w (are.has g w is) is);
  };
  own = λ g. told_of (e ∷ []) old new tells (λ s p ws. HaltsAtMost (own_in old g) (own_of s p g)) (halts g);
  going = λ g. told_of (e ∷ []) old new tells (λ s p ws. GoesOpened s p g → IsGoing old g)
      (λ goes. going_before laws old.machine.start old.machine.past e old.wants.items g are
      (halts_none old.machine.start old.machine.past e halts) goes);
  was_kept = λ g w. told_of (e ∷ []) old new tells
      (λ s p ws. kept_want ws s p g ≡ Some w → kept_want_of old g ≡ Some w)
      (λ is. kept_before laws old.machine.start old.machine.past e old.wants.items g w are.few is);
}

pub between_called : {D : Type 0} (laws : RunFollows) (session : ℕ) (asked : Call) (now : Moment) (old new : StoredView D)
    → AreWantsKept old.machine.start old.machine.past old.wants.items
    → TellsOnly (Called session asked now ∷ []) old new → HaltsBetween old new
between_called laws session asked now old new are tells =
    between_one laws (Called session asked now) old new are
    (called_halts old.machine.start old.machine.past session asked now) tells

pub between_stopped : {D : Type 0} (laws : RunFollows) (old new : StoredView D)
    → AreWantsKept old.machine.start old.machine.past old.wants.items → TellsOnly (Stopped ∷ []) old new
    → HaltsBetween old new
between_stopped laws old new are tells = between_one laws Stopped old new are (λ g. inr refl) tells

-- ---- the saves after it

module _ {D : Type 0} (laws : RunFollows) (tells : Bool) (faults : ℕ) (old mid : StoredView D) (disk : DiskState)
    (run : IsStoredRun tells faults disk old) (between : HaltsBetween old mid) where
  -- one that went on is stored still
  pub stored_still : IsTrue tells → (g : Gid) (w : Want) → IsGoing old g → kept_want_of old g ≡ Some w
      → IsStored w (own_in mid g) disk
  stored_still told g w goes kept =
      halts_stored w (own_in old g) (own_in mid g) disk (between.own g) (run.stored told g w goes kept)

  pub may_still : (g : Gid) → IsGoing old g → MaySave (own_in mid g)
  may_still g goes = record {
    opened = halts_opened (own_in old g) (own_in mid g) (between.own g) ∙ goes.opened;
    going = halts_ended (own_in old g) (own_in mid g) (between.own g)
        ∙ unended laws old.machine.start old.machine.past g run.legal goes;
  }

  -- two that went on share no name
  apart_still : (one other : Gid) (v w : Want) → IsGoing old one → IsGoing old other → other ≢ one
      → kept_want_of mid one ≡ Some v → kept_want_of mid other ≡ Some w → share_names v w ≡ false
  apart_still one other v w goes goes_other beside kept_v kept_w =
      apart_from tells faults disk old.machine.start old.machine.past old.wants.items old.now one v run goes
      (between.was_kept one v kept_v) other w goes_other beside (between.was_kept other w kept_w)

  -- without any save
  pub each_none : IsTrue tells → StoresEach old mid disk disk
  each_none told g w goes kept =
      keeps_none laws w (own_in old g) (own_in mid g) disk (run.wants_are.sound g w kept)
      (halts_grown (own_in old g) (own_in mid g) (between.own g)) (run.stored told g w goes kept)

  module _ (gids : List Gid) (went : (i : ℕ) (g : Gid) → slice_get gids i ≡ Some g → IsGoing old g) where
    pub savable_still : StandOnce gids → AreSavable mid gids
    savable_still once = record { each = λ i g at. may_still g (went i g at); once = once }

    pub apart_all : (g : Gid) → IsGoing old g → IsApartFrom gids mid g
    apart_all g goes i other v w at beside kept_v kept_w =
        apart_still other g v w (went i other at) goes (λ same. beside (sym same)) kept_v kept_w

    pub stored_apart_still : IsTrue tells → AreStoredApart mid gids disk
    stored_apart_still told = record {
      each = λ i g at. record {
        stored = λ w kept. stored_still told g w (went i g at) (between.was_kept g w kept);
        apart = λ other v w goes beside kept_v kept_w.
            apart_still g other v w (went i g at) (between.going other goes) beside kept_v kept_w;
      };
      apart = λ i g at. apart_all g (went i g at);
    }

    pub each_saved : (new : StoredView D) (after : DiskState) → IsTrue tells → SavesKeep gids mid new disk after
        → StoresEach old new disk after
    each_saved new after told keeps g w goes kept =
        keeps_from w (own_in old g) (own_in mid g) (own_in new g) disk after
        (halts_grown (own_in old g) (own_in mid g) (between.own g))
        (keeps g w (between.on.wants g w kept) (stored_still told g w goes kept) (apart_all g goes))

-- ---- nothing but room changed

module _ {D : Type 0} (old mid : StoredView D) (same : TellsOnly [] old mid) where
  own_roomier : (g : Gid) → own_in mid g ≡ own_in old g
  own_roomier g = told_of [] old mid same (λ s p ws. own_of s p g ≡ own_in old g) refl

  pub stored_roomier : (S : D → DiskState) (gid : Gid) → IsStoredApart old gid (S old.disk)
      → IsStoredApart mid gid (S mid.disk)
  stored_roomier S gid is =
      let between = between_none old mid same in
      record {
        stored = λ w kept. subst (λ (d : D). IsStored w (own_in mid gid) (S d)) (sym same.disk)
            (subst (λ (ys : List OwnEvent). IsStored w ys (S old.disk)) (sym (own_roomier gid))
            (is.stored w (between.was_kept gid w kept)));
        apart = λ other v w goes beside kept_v kept_w.
            is.apart other v w (between.going other goes) beside (between.was_kept gid v kept_v)
            (between.was_kept other w kept_w);
      }

  pub may_roomier : (gid : Gid) → MaySave (own_in old gid) → MaySave (own_in mid gid)
  may_roomier gid may = subst MaySave (sym (own_roomier gid)) may

  pub part_roomier : (P : TurnStart → Phase) (F : D → ℕ) (new : StoredView D) (f' : ℕ) (o : Outcome)
      → DoesPart P mid (F mid.disk) new f' o → DoesPart P old (F old.disk) new f' o
  part_roomier P F new f' o did =
      subst (λ (d : D). DoesPart P old (F d) new f' o) same.disk
      (subst
      (λ (past : List Event). Did (λ n. P (turn_from old n)) past (F mid.disk) new.machine.past f' o) same.past
      (subst
      (λ (s : RunStart). Did (λ n. P (record { start = s; now = old.now; faults = n })) mid.machine.past (F mid.disk) new.machine.past f' o)
      same.start
      (subst
      (λ (m : Moment). Did (λ n. P (record { start = mid.machine.start; now = m; faults = n })) mid.machine.past (F mid.disk) new.machine.past f' o)
      same.now did)))

  pub stores_roomier : (S : D → DiskState) (gid : Gid) (new : StoredView D) (after : DiskState)
      → StoresGid gid mid new (S mid.disk) after → StoresGid gid old new (S old.disk) after
  stores_roomier S gid new after stores w kept =
      subst (λ (d : D). StoresOn w (own_in old gid) (own_in new gid) (S d) after) same.disk
      (subst (λ (ys : List OwnEvent). StoresOn w ys (own_in new gid) (S mid.disk) after) (own_roomier gid)
      (stores w ((between_none old mid same).on.wants gid w kept)))

  pub stores_room : RunFollows → (S : D → DiskState) (gid : Gid)
      → ((w : Want) → kept_want_of old gid ≡ Some w → IsWant w) → StoresGid gid old mid (S old.disk) (S mid.disk)
  stores_room laws S gid sound w kept =
      subst (λ (d : D). StoresOn w (own_in old gid) (own_in mid gid) (S old.disk) (S d)) (sym same.disk)
      (subst (λ (ys : List OwnEvent). StoresOn w (own_in old gid) ys (S old.disk) (S old.disk)) (sym (own_roomier gid))
      (stores_none laws.give w (own_in old gid) (own_in old gid) (S old.disk) (sound w kept)
      (grown_none (own_in old gid))))

-- the stop, where it didn't come before
pub between_stop : {D : Type 0} (laws : RunFollows) (stopped : Bool) (old new : StoredView D)
    → AreWantsKept old.machine.start old.machine.past old.wants.items → TellsOnly (stop_events stopped) old new
    → HaltsBetween old new
between_stop laws true old new are tells = between_none old new tells
between_stop laws false old new are tells = between_stopped laws old new are tells
