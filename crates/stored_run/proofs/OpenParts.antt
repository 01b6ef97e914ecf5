-- The parts of an opening, one after the other: a place for the want, the store, the event, and the end.
use Rattle.std.proofs.Common.{◌≡◌, ◌≤◌, ◌<◌, inl, inr, ℕ, Bool, Option, Some, None, List, [], ◌∷◌, length, refl, sym, ap, ◌∙◌, subst, arith}
use Rattle.std.specs.Prelude.{Contains, IfNone, IfSome, IsSome}
use Rattle.std.proofs.lemmas.Option.{slice_get_within}
use Rattle.control_file.specs.declared.want.Opened.{Opened}
use Rattle.control_file.specs.declared.want.Want.{Want}
use Rattle.dl_disk.specs.Passes.{present}
use Rattle.dl_disk.specs.State.{DiskState}
use Rattle.dl_history.specs.OwnEvents.{OwnEvent, Opens}
use Rattle.dl_kinds.specs.declared.gid.Gid.{Gid}
use Rattle.dl_kinds.specs.declared.runs.Moment.{Moment}
use Rattle.engine_turns.proofs.Faults.{counts_still}
use Rattle.engine_turns.specs.Faults.{CountsFaults}
use Rattle.engine_turns.specs.Phases.{AndThen, EndingOr, NoEvent, OpeningPhase, Phase, TurnStart}
use Rattle.engine_turns.specs.Standings.{AnswersUnlessStarved}
use Rattle.engine_turns.specs.Told.{history_after}
use Rattle.engine_turns.specs.declared.operations.Said.{Said}
use Rattle.engine_turns.specs.declared.operations.Said.TheVariants.{Done, NoMemory}
use Rattle.engine_turns.specs.declared.outcome.Outcome.{Outcome}
use Rattle.machine_core.proofs.Here.{told_some}
use Rattle.machine_core.specs.Clashes.{HasClash, HasNoClash, IsClash}
use Rattle.machine_core.specs.MachineViews.{IsPlaceOf, MachineView}
use Rattle.machine_core.specs.OwnParts.{own_of}
use Rattle.machine_core.specs.Replays.{replay_of}
use Rattle.machine_core.specs.RunLegal.{disk_fault_of, download_in}
use Rattle.machine_core.specs.Starts.{Download, RunStart}
use Rattle.machine_core.specs.declared.ends.End.{End}
use Rattle.machine_core.specs.declared.ends.End.TheVariants as end
use Rattle.machine_core.specs.declared.events.Event.{Event}
use Rattle.machine_core.specs.declared.events.Event.TheVariants.{Ended, Opened as OpenedEvent}
use Rattle.resume_core.proofs.Fitted.{stretches_same}
use Rattle.resume_core.proofs.Openings.{besides_none}
use Rattle.resume_core.proofs.OverWhole.{for_none, whole_kept}
use Rattle.resume_core.specs.Openings.{is_compared}
use Rattle.resume_core.specs.Refusals.{open_refusal}
use Rattle.stored_run.specs.Opening.{FindsJust, HasFailed, IsDiskEnd, OpenNextRow, OpensJustIn, OpensOn, OpensWith, StandsStill, is_checked_in, is_checked_of}
use Rattle.stored_run.specs.Steps.{Continues, DoesPart, DoesRow, turn_from}
use Rattle.stored_run.specs.Telling.{TellsEvent}
use Rattle.stored_run.specs.Views.{own_in}
use Rattle.stored_run.specs.declared.run.StoredView.{StoredView}
use Rattle.stored_run.proofs.PlainEvents.{gid_added}

-- ---- its place

pub place_there : (o : Option ℕ) (d : Option Download) (download : Download) → d ≡ Some download → IfNone o (d ≡ None)
    → IsSome o
place_there None d download is none = absurd (let f : None ≡ Some download = sym none ∙ is in cc)
place_there (Some n) d download is none = refl

pub place_low : (m : MachineView) (gid : Gid) (o : Option ℕ) (n : ℕ) → o ≡ Some n
    → IfSome o (λ (p : ℕ). IsPlaceOf m gid p) → n < length (replay_of m.start m.past).downloads
place_low m gid o n is found =
    let there = told_some (λ (p : ℕ). IsPlaceOf m gid p) o n is found in
    slice_get_within (replay_of m.start m.past).downloads n there.download there.added

-- ---- nothing happened between

module _ {D : Type 0} where
  pub still_on : (a b c : StoredView D) → StandsStill a b → StandsStill b c → StandsStill a c
  still_on a b c one two = record {
    machine = two.machine ∙ one.machine;
    now = two.now ∙ one.now;
    wants = λ gid. two.wants gid ∙ one.wants gid;
  }

module _ {D : Type 0} (old mid : StoredView D) (still : StandsStill old mid) where
  pub own_still : (gid : Gid) → own_in mid gid ≡ own_in old gid
  own_still gid = ap (λ (m : MachineView). own_of m.start m.past gid) still.machine

  pub continues_still : (n : ℕ) (new : StoredView D) → Continues n mid new → Continues n old new
  continues_still n new on =
      let same = ap (λ (m : MachineView). m.spare) still.machine in
      record {
        start = on.start ∙ ap (λ (m : MachineView). m.start) still.machine;
        now = on.now ∙ still.now;
        room = omega (arith, on.room, same);
        wants = λ gid want kept. on.wants gid want (still.wants gid ∙ kept);
      }

  pub part_still : (P : TurnStart → Phase) (new : StoredView D) (f f' f'' : ℕ) (o : Outcome) → f' ≡ f
      → DoesPart P mid f' new f'' o → DoesPart P old f new f'' o
  part_still P new f f' f'' o same did = record {
    events = did.events;
    grown = did.grown ∙ ap (λ (m : MachineView). history_after m.past did.events) still.machine;
    is = λ from below.
        subst (λ (t : Moment). P (record { start = old.machine.start; now = t; faults = from }) old.machine.past did.events o)
        still.now
        (subst (λ (m : MachineView). P (record { start = m.start; now = mid.now; faults = from }) m.past did.events o)
        still.machine (did.is from (omega (arith, below, same))));
    later = omega (arith, same, did.later);
    counts = subst (λ (n : ℕ). CountsFaults n did.events f'') same did.counts;
  }

  pub opens_still : (gid : Gid) (want : Want) (opened : Opened) (new : StoredView D) → OpensWith gid want opened mid new
      → OpensWith gid want opened old new
  opens_still gid want opened new is = record {
    past = is.past ∙ (ap (λ (t : Moment). OpenedEvent gid opened.verified opened.blocks t ∷ mid.machine.past) still.now
        ∙ ap (λ (m : MachineView). OpenedEvent gid opened.verified opened.blocks old.now ∷ m.past) still.machine);
    own = is.own ∙ (ap (λ (t : Moment). Opens opened.verified opened.blocks t ∷ own_in mid gid) still.now
        ∙ ap (λ (ys : List OwnEvent). Opens opened.verified opened.blocks old.now ∷ ys) (own_still gid));
    kept = is.kept;
    going = is.going;
  }

  module _ (S : D → DiskState) (same : mid.disk ≡ old.disk) (gid : Gid) (want : Want) where
    pub on_still : (b : DiskState) → OpensOn want (is_checked_of mid gid) (S mid.disk) b
        → OpensOn want (is_checked_of old gid) (S old.disk) b
    on_still b on =
        subst (λ (d : D). OpensOn want (is_checked_of old gid) (S d) b) same
        (subst (λ (m : MachineView). OpensOn want (is_checked_in m.start m.past gid) (S mid.disk) b) still.machine on)

    just_still : (opened : Opened) → OpensJustIn mid gid want (S mid.disk) opened
        → OpensJustIn old gid want (S old.disk) opened
    just_still opened just =
        subst (λ (d : D). OpensJustIn old gid want (S d) opened) same
        (subst (λ (m : MachineView). OpensJustIn (record mid { machine = m }) gid want (S mid.disk) opened) still.machine just)

    pub finds_still : (opened : Opened) → FindsJust mid gid want (S mid.disk) opened
        → FindsJust old gid want (S old.disk) opened
    finds_still opened finds = record {
      allowed = subst (λ (d : D). open_refusal want (S d).seen ≡ None) same finds.allowed;
      just = just_still opened finds.just;
    }

-- ---- the store isn't asked

pub opens_none : (want : Want) (check : Bool) (disk : DiskState) → OpensOn want check disk disk
opens_none want check disk = record {
  besides = besides_none want disk;
  sound = λ all image left. all image (present disk image left);
  gives = λ has un image left. record {
    before = image;
    left = present disk image left;
    pieces = λ piece is. is;
    blocks = λ block is. is;
  };
  pieces = λ has all image left. record { before = image; left = present disk image left; pieces = λ piece is. is };
  whole = λ lacks has image left. record {
    before = image;
    left = present disk image left;
    pieces = λ piece is. is;
    blocks = λ block is. is;
  };
  over_whole = λ has. whole_kept want (is_compared want check) disk disk (for_none want disk);
  stretches = stretches_same want disk.seen disk.seen refl;
  refusable = λ reason each. for_none each disk;
}

-- ---- a fault of the disk

pub ended_failed : {D : Type 0} (new : StoredView D) (gid : Gid) (how : End) (past : List Event)
    → new.machine.past ≡ Ended gid how ∷ past → IsDiskEnd how → HasFailed new gid
ended_failed new gid how past is fails = (
  fails.0,
  subst (λ (events : List Event). Contains events (Ended gid (end.Disk fails.0))) (sym is)
      (0, omega arith, ap (λ (h : End). Ended gid h) fails.1),
)

-- ---- the answer

-- a clash is no fault of the disk
clash_faults : (start : RunStart) (past : List Event) (download : Download) (gid : Gid) (how : End)
    → IsClash start past download how → disk_fault_of (Ended gid how) ≡ None
clash_faults start past download gid (end.SameFile other) is = refl
clash_faults start past download gid (end.SameHash other) is = refl
clash_faults start past download gid end.Complete is = absurd is
clash_faults start past download gid (end.Dead piece mark) is = absurd is
clash_faults start past download gid (end.Disk count) is = absurd is
clash_faults start past download gid (end.Exists length) is = absurd is
clash_faults start past download gid (end.PieceLength have want) is = absurd is
clash_faults start past download gid (end.Length have want) is = absurd is
clash_faults start past download gid end.InfoHash is = absurd is
clash_faults start past download gid (end.Unreadable at) is = absurd is
clash_faults start past download gid (end.TooLarge total) is = absurd is
clash_faults start past download gid end.Checksum is = absurd is

pub clash_count : (m : MachineView) (gid : Gid) (how : End) (faults : ℕ) → HasClash m gid how
    → IfSome (disk_fault_of (Ended gid how)) (λ count. count ≤ faults)
clash_count m gid how faults has = rw (clash_faults m.start m.past has.download gid how has.clash) tt

pub clash_row : {D : Type 0} (old new : StoredView D) (gid : Gid) (how : End) (f f' : ℕ) → f' ≡ f
    → HasClash old.machine gid how → TellsEvent (Ended gid how) old new
    → DoesRow (OpenNextRow gid) old f new f' Done
clash_row old new gid how f f' still has told = record {
  events = Ended gid how ∷ [];
  grown = told.past;
  is = λ from s below standing. inr (
    has.download,
    subst (λ (past : List Event). download_in old.machine.start past gid ≡ Some has.download) (sym standing) has.added,
    inl (
      how,
      subst (λ (past : List Event). IsClash old.machine.start past has.download how) (sym standing) has.clash,
      ap (λ (g : Gid). Ended g how ∷ []) (sym (gid_added old.machine.start old.machine.past gid has.download has.added)),
      refl,
    ),
  );
  later = omega (arith, still);
  counts = counts_still (Ended gid how) f f'
      (clash_faults old.machine.start old.machine.past has.download gid how has.clash) still;
}

pub starved_row : {D : Type 0} (r : StoredView D) (gid : Gid) (f : ℕ) → DoesRow (OpenNextRow gid) r f r f NoMemory
starved_row r gid f = record {
  events = [];
  grown = refl;
  is = λ from s below standing. inl (refl, refl);
  later = omega arith;
  counts = refl;
}

pub opened_row : {D : Type 0} (old new : StoredView D) (gid : Gid) (download : Download) (f f' : ℕ) (o : Outcome) (said : Said)
    → download_in old.machine.start old.machine.past gid ≡ Some download
    → HasNoClash old.machine.start old.machine.past download → AnswersUnlessStarved Done o said
    → DoesPart (λ at. AndThen (OpeningPhase at download.gid) (EndingOr at download NoEvent)) old f new f' o
    → DoesRow (OpenNextRow gid) old f new f' said
opened_row old new gid download f f' o said added clear answers did = record {
  events = did.events;
  grown = did.grown;
  is = λ from s below standing. inr (
    download,
    subst (λ (past : List Event). download_in old.machine.start past gid ≡ Some download) (sym standing) added,
    inr (
      subst (λ (past : List Event). HasNoClash old.machine.start past download) (sym standing) clear,
      (
        o,
        subst (λ (past : List Event). AndThen (OpeningPhase (turn_from old from) download.gid)
            (EndingOr (turn_from old from) download NoEvent) past did.events o) (sym standing) (did.is from below),
        answers,
      ),
    ),
  );
  later = did.later;
  counts = did.counts;
}
