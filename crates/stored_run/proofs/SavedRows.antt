-- What the rows of a call and of the stop say, of the saves of the downloads that are due.
use Rattle.std.proofs.Common.{◌≡◌, ◌≤◌, inl, inr, ⊎_elim, ℕ, Bool, true, false, Option, List, [], ◌∷◌, ◌++◌, length, refl, sym, ap, ◌∙◌, subst, arith}
use Rattle.std.specs.Prelude.{Contains}
use Rattle.std.specs.List.{list_any}
use Rattle.std.proofs.lemmas.List.Elements.{Contains-append_cases}
use Rattle.control_file.specs.declared.want.Want.{Want}
use Rattle.dl_history.specs.PayloadParts.{is_opened}
use Rattle.dl_kinds.specs.declared.gid.Gid.{Gid}
use Rattle.dl_kinds.specs.declared.runs.Moment.{Moment}
use Rattle.dl_kinds.specs.declared.status.Status.{Status}
use Rattle.engine_turns.specs.CallRows.{AreThose, CallRow, IsSavedLast, IsSavedOff, IsTakenOff, StopRow, gids_in, is_starved, stop_events}
use Rattle.engine_turns.proofs.Faults.{counts_on}
use Rattle.engine_turns.specs.Faults.{CountsFaults}
use Rattle.engine_turns.specs.Phases.{SavesPhase, TurnStart}
use Rattle.engine_turns.specs.Standings.{AnswersUnlessStarved}
use Rattle.engine_turns.specs.Told.{history_after}
use Rattle.engine_turns.specs.declared.operations.Said.{Said}
use Rattle.engine_turns.specs.declared.operations.Said.TheVariants.{Done, Replied}
use Rattle.engine_turns.specs.declared.outcome.Outcome.{Outcome}
use Rattle.engine_turns.specs.declared.outcome.Outcome.TheVariants.{Starved}
use Rattle.machine_core.specs.MachineViews.{place_in}
use Rattle.machine_core.specs.OwnParts.{own_of}
use Rattle.machine_core.specs.Replays.{is_active_in, queue_in, replay_of}
use Rattle.machine_core.specs.RunLegal.{IsLegal, goes_on_in, is_stop}
use Rattle.machine_core.specs.Starts.{RunStart}
use Rattle.machine_core.specs.declared.calls.Call.{Call}
use Rattle.machine_core.specs.declared.ends.End.TheVariants as end
use Rattle.machine_core.specs.declared.events.Event.{Event}
use Rattle.machine_core.specs.declared.events.Event.TheVariants.{Called, Ended, Stopped}
use Rattle.run_report.specs.Replies.{IsReplyAt}
use Rattle.run_report.specs.declared.kinds.Reply.{Reply}
use Rattle.stored_run.specs.RunFollows.{RunFollows}
use Rattle.stored_run.specs.Saves.{IsDueLastIn, IsDueOffIn, StandOnce, TellsOnly, UnlessStarved, gids_of, is_active_status, is_going_status, is_off_by, noted_status, status_in, statuses_in}
use Rattle.stored_run.specs.Steps.{DoesPart, DoesRow, turn_from}
use Rattle.stored_run.specs.Stored.{AreWantsKept}
use Rattle.stored_run.specs.Views.{GoesOpened}
use Rattle.stored_run.specs.declared.run.StoredView.{StoredView}
use Rattle.stored_run.proofs.Doing.{history_on, part_none}
use Rattle.stored_run.proofs.Dues.{active_status, off_by_active, off_by_going, off_ways, off_went, opened_added, status_had}
use Rattle.stored_run.proofs.EachSaved.{HaltsEach, halts_ended, halts_opened}
use Rattle.stored_run.proofs.Endings.{unended}
use Rattle.stored_run.proofs.OwnGids.{few_apart}
use Rattle.stored_run.proofs.Those.{gids_once, those_alike}

-- ---- lists of those that are due

-- the downloads of a run stand once in it
pub run_once : {D : Type 0} (r : StoredView D) → StandOnce (gids_of r)
run_once r =
    gids_once (replay_of r.machine.start r.machine.past).downloads (few_apart r.machine.start r.machine.past).apart

-- those saves came, or memory ran out first
pub saves_starved : {D : Type 0} (r : StoredView D) (f : ℕ) (those : List Gid) → (those ≡ [] → ⊥)
    → DoesPart (λ at. SavesPhase at those) r f r f Starved
saves_starved r f those some =
    part_none (λ at. SavesPhase at those) r r f f Starved refl refl (λ n below. by those some n)
  where
    by : (those : List Gid) → (those ≡ [] → ⊥) → (n : ℕ) → SavesPhase (turn_from r n) those r.machine.past [] Starved
    by [] some n = absurd (some refl)
    by (gid ∷ gids) some n = inr (refl, refl)

-- ---- those that a call takes off

module _ (laws : RunFollows) (start : RunStart) (past : List Event) (wants : List (Option Want))
    (are : AreWantsKept start past wants) (legal : IsLegal start past) (e : Event) (halts : HaltsEach start past e) where
  opened_before : (gid : Gid) → is_opened (own_of start (e ∷ past) gid) ≡ true → is_opened (own_of start past gid) ≡ true
  opened_before gid opened = sym (halts_opened (own_of start past gid) (own_of start (e ∷ past) gid) (halts gid)) ∙ opened

  -- the status that an opened download had
  had : (gid : Gid) → is_opened (own_of start (e ∷ past) gid) ≡ true
      → noted_status (statuses_in start past) (place_in start (e ∷ past) gid) ≡ status_in start past gid
  had gid opened =
      let added = opened_added start past wants gid are (opened_before gid opened) in
      ap (noted_status (statuses_in start past)) (laws.places start past e gid added.0 added.1)
      ∙ status_had start past gid added.0 added.1

  was_off : (gid : Gid) → IsDueOffIn (statuses_in start past) start (e ∷ past) gid
      → is_off_by (status_in start past gid) (status_in start (e ∷ past) gid) ≡ true
  was_off gid due =
      ap (λ (st : Option Status). is_off_by st (status_in start (e ∷ past) gid)) (sym (had gid due.has.opened)) ∙ due.off

  -- it went on
  pub off_goes : (gid : Gid) → IsDueOffIn (statuses_in start past) start (e ∷ past) gid → GoesOpened start past gid
  off_goes gid due = record {
    opened = opened_before gid due.has.opened;
    goes = off_went (status_in start past gid) (status_in start (e ∷ past) gid) (was_off gid due);
  }

  taken_off : (gid : Gid) → is_off_by (status_in start past gid) (status_in start (e ∷ past) gid) ≡ true
      → IsTakenOff start past (e ∷ past) gid
  taken_off gid off =
      ⊎_elim
      (λ (a : (is_active_status (status_in start past gid) ≡ true)
      × (is_active_status (status_in start (e ∷ past) gid) ≡ false)).
      inl (sym (active_status (queue_in start past) gid) ∙ a.0, sym (active_status (queue_in start (e ∷ past)) gid) ∙ a.1))
      (λ (b : (is_going_status (status_in start past gid) ≡ true)
      × (is_going_status (status_in start (e ∷ past) gid) ≡ false)). inr (b.0, b.1))
      (off_ways (status_in start past gid) (status_in start (e ∷ past) gid) off)

  off_taken : (gid : Gid) → IsTakenOff start past (e ∷ past) gid
      → is_off_by (status_in start past gid) (status_in start (e ∷ past) gid) ≡ true
  off_taken gid taken =
      ⊎_elim
      (λ (a : (is_active_in start past gid ≡ true) × (is_active_in start (e ∷ past) gid ≡ false)).
      off_by_active (status_in start past gid) (status_in start (e ∷ past) gid)
      (active_status (queue_in start past) gid ∙ a.0) (active_status (queue_in start (e ∷ past)) gid ∙ a.1))
      (λ (b : (goes_on_in start past gid ≡ true) × (goes_on_in start (e ∷ past) gid ≡ false)).
      off_by_going (status_in start past gid) (status_in start (e ∷ past) gid) b.0 b.1)
      taken

  pub off_saved : (gid : Gid) → IsDueOffIn (statuses_in start past) start (e ∷ past) gid
      → IsSavedOff start past (e ∷ past) gid
  off_saved gid due = record {
    off = taken_off gid (was_off gid due);
    unsaved = record {
      opened = due.has.opened;
      going = halts_ended (own_of start past gid) (own_of start (e ∷ past) gid) (halts gid)
          ∙ unended laws start past gid legal (off_goes gid due);
      unsaved = due.has.unsaved;
    };
  }

  pub saved_off : (gid : Gid) → IsSavedOff start past (e ∷ past) gid
      → IsDueOffIn (statuses_in start past) start (e ∷ past) gid
  saved_off gid saved = record {
    off = ap (λ (st : Option Status). is_off_by st (status_in start (e ∷ past) gid)) (had gid saved.unsaved.opened)
        ∙ off_taken gid saved.off;
    has = record { opened = saved.unsaved.opened; unsaved = saved.unsaved.unsaved };
  }

  -- those that are due are those that the row names
  pub off_those : (all those : List Gid) → AreThose (IsDueOffIn (statuses_in start past) start (e ∷ past)) all those
      → AreThose (IsSavedOff start past (e ∷ past)) all those
  off_those all those are_those =
      those_alike (IsDueOffIn (statuses_in start past) start (e ∷ past)) (IsSavedOff start past (e ∷ past)) all those
      (λ n gid at. (off_saved gid, saved_off gid)) are_those

-- those that go on with something to save
pub last_those : RunFollows → (start : RunStart) (past : List Event) (all those : List Gid) → IsLegal start past
    → AreThose (IsDueLastIn start past) all those → AreThose (IsSavedLast start past) all those
last_those laws start past all those legal are =
    those_alike (IsDueLastIn start past) (IsSavedLast start past) all those
    (λ n gid at. (
      λ due. record {
        goes = due.goes;
        unsaved = record {
          opened = due.has.opened;
          going = unended laws start past gid legal (record { opened = due.has.opened; goes = due.goes });
          unsaved = due.has.unsaved;
        };
      },
      λ saved. record {
        goes = saved.goes;
        has = record { opened = saved.unsaved.opened; unsaved = saved.unsaved.unsaved };
      },
    )) are

-- ---- rows

-- what came after these events
module _ {D : Type 0} (P : List Gid → TurnStart → List Event → List Event → Outcome → Type 0) (first : List Event)
    (old mid new : StoredView D) (f f' : ℕ) (o : Outcome) (came : TellsOnly first old mid) (those : List Gid)
    (did : DoesPart (λ at. P those at) mid f new f' o) where
  phase_old : (from : ℕ) → from ≤ f
      → P those (turn_from old from) (history_after old.machine.past first) did.events o
  phase_old from below =
      subst (λ (past : List Event). P those (turn_from old from) past did.events o) came.past
      (subst
      (λ (s : RunStart). P those (record { start = s; now = old.now; faults = from }) mid.machine.past did.events o)
      came.start
      (subst
      (λ (m : Moment). P those (record { start = mid.machine.start; now = m; faults = from }) mid.machine.past did.events o)
      came.now (did.is from below)))

  grown_old : new.machine.past ≡ history_after old.machine.past (first ++ did.events)
  grown_old =
      did.grown ∙ (ap (λ (past : List Event). history_after past did.events) came.past
      ∙ sym (history_on old.machine.past first did.events))

pub call_row : {D : Type 0} (old mid new : StoredView D) (session : ℕ) (asked : Call) (f f' : ℕ) (o : Outcome)
    (place : ℕ) (reply : Reply) (starved : Bool) (those : List Gid)
    → TellsOnly (Called session asked old.now ∷ []) old mid
    → AreThose (IsSavedOff old.machine.start old.machine.past (Called session asked old.now ∷ old.machine.past))
    (gids_in old.machine.start (Called session asked old.now ∷ old.machine.past)) those
    → DoesPart (λ at. SavesPhase at those) mid f new f' o → place ≡ length old.machine.past
    → IsReplyAt old.machine.start old.machine.past asked old.now reply → starved ≡ is_starved o
    → DoesRow (λ at s. UnlessStarved (CallRow at s session asked)) old f new f' (Replied place reply starved)
call_row old mid new session asked f f' o place reply starved those came are did place_is is_reply starved_is = record {
  events = Called session asked old.now ∷ did.events;
  grown = grown_old (λ gids at. SavesPhase at gids) (Called session asked old.now ∷ []) old mid new f f' o came those did;
  is = λ from s below standing. inr (record {
    saves = did.events;
    cut = refl;
    those = those;
    those_are = subst
        (λ (p : List Event). AreThose (IsSavedOff old.machine.start p (Called session asked old.now ∷ p))
        (gids_in old.machine.start (Called session asked old.now ∷ p)) those) (sym standing) are;
    outcome = o;
    saved = subst
        (λ (p : List Event). SavesPhase (turn_from old from) those (Called session asked old.now ∷ p) did.events o)
        (sym standing)
        (phase_old (λ gids at. SavesPhase at gids) (Called session asked old.now ∷ []) old mid new f f' o came those did
        from below);
    reply = reply;
    is_reply = subst (λ (p : List Event). IsReplyAt old.machine.start p asked old.now reply) (sym standing) is_reply;
    answer = ap (λ (n : ℕ). Replied n reply starved) place_is
        ∙ (ap (λ (b : Bool). Replied (length old.machine.past) reply b) starved_is
        ∙ ap (λ (p : List Event). Replied (length p) reply (is_starved o)) (sym standing));
  });
  later = did.later;
  counts = (tt, did.counts);
}

-- a stop leaves the count of faults
stop_counts : (stopped : Bool) (f : ℕ) → CountsFaults f (stop_events stopped) f
stop_counts true f = refl
stop_counts false f = (tt, refl)

pub stop_row : {D : Type 0} (old mid new : StoredView D) (f f' : ℕ) (o : Outcome) (said : Said) (those : List Gid)
    → TellsOnly (stop_events (list_any is_stop old.machine.past)) old mid
    → AreThose
    (IsSavedLast old.machine.start (history_after old.machine.past (stop_events (list_any is_stop old.machine.past))))
    (gids_in old.machine.start old.machine.past) those
    → DoesPart (λ at. SavesPhase at those) mid f new f' o → AnswersUnlessStarved Done o said
    → DoesRow StopRow old f new f' said
stop_row old mid new f f' o said those came are did answer =
    let stops = stop_events (list_any is_stop old.machine.past) in
    record {
      events = stops ++ did.events;
      grown = grown_old (λ gids at. SavesPhase at gids) stops old mid new f f' o came those did;
      is = λ from s below standing. record {
        saves = did.events;
        cut = ap (λ (p : List Event). stop_events (list_any is_stop p) ++ did.events) (sym standing);
        those = those;
        those_are = subst
            (λ (p : List Event). AreThose (IsSavedLast old.machine.start (history_after p (stop_events (list_any is_stop p))))
            (gids_in old.machine.start p) those) (sym standing) are;
        outcome = o;
        saved = subst
            (λ (p : List Event). SavesPhase (turn_from old from) those (history_after p (stop_events (list_any is_stop p)))
            did.events o) (sym standing)
            (phase_old (λ gids at. SavesPhase at gids) stops old mid new f f' o came those did from below);
        answer = answer;
      };
      later = did.later;
      counts = counts_on f f f' stops did.events (stop_counts (list_any is_stop old.machine.past) f) did.counts;
    }
