-- What an opening leaves on the disk, of its download and of the others.
use Rattle.std.proofs.Common.{◌≡◌, ◌≢◌, ◌⊎◌, inl, inr, ⊎_elim, ℕ, Bool, true, false, Option, Some, None, List, ◌++◌, refl, sym, ap, ◌∙◌, subst, arith}
use Rattle.std.specs.Prelude.{IsSome, IsTrue}
use Rattle.control_file.specs.declared.want.Want.{Want}
use Rattle.dl_disk.specs.State.{DiskState}
use Rattle.dl_history.specs.OwnEvents.{OwnEvent}
use Rattle.dl_history.specs.PayloadParts.{is_ended, is_opened}
use Rattle.dl_kinds.specs.declared.gid.Gid.{Gid}
use Rattle.dl_kinds.specs.declared.runs.Moment.{Moment}
use Rattle.engine_turns.specs.Phases.{OpeningPhase, TurnStart}
use Rattle.engine_turns.specs.Standings.{AnswersUnlessStarved}
use Rattle.engine_turns.specs.declared.operations.Said.{Said}
use Rattle.engine_turns.specs.declared.operations.Said.TheVariants.{Done, NoMemory}
use Rattle.engine_turns.specs.declared.outcome.Outcome.{Outcome}
use Rattle.engine_turns.specs.declared.outcome.Outcome.TheVariants.{Over, Starved, Went}
use Rattle.machine_core.specs.declared.events.Event.TheVariants.{Opened as OpenedEvent}
use Rattle.resume_core.proofs.Openings.{besides_on}
use Rattle.resume_core.specs.Openings.{FitsPayload, KeepsBesides}
use Rattle.resume_core.specs.Refusals.{open_refusal}
use Rattle.resume_core.specs.Sharing.{share_names}
use Rattle.resume_core.specs.Steps.{SameBesides}
use Rattle.resume_core.specs.declared.refusing.OpenErr.{OpenErr}
use Rattle.stored_run.specs.Leavings.{IsLeft, IsLeftHeld, IsLeftOf}
use Rattle.stored_run.specs.Opening.{FindsJust, HasFailed, IsToResume, IsTouched, OpensDisk, OpensOn, OpensWhere, StaysUnopened, TriesWant, is_checked_of}
use Rattle.stored_run.specs.RunFollows.{RunFollows}
use Rattle.stored_run.specs.Steps.{Continues, EndsGid, EndsStored, KeepsPayload, KeepsStored}
use Rattle.stored_run.specs.Stored.{IsStoredRun}
use Rattle.stored_run.specs.Views.{IsDoneOf, IsGoing, kept_want_of, own_in}
use Rattle.stored_run.specs.declared.run.StoredView.{StoredView}
use Rattle.stored_run.proofs.Doing.{IsGrown, grown_none, opened_grown}
use Rattle.stored_run.proofs.Endings.{unended}
use Rattle.stored_run.proofs.Keeps.{keeps_beside, keeps_none}
use Rattle.stored_run.proofs.Kept.{own_beside}
use Rattle.stored_run.proofs.Leaving.{kept_ends}
use Rattle.stored_run.proofs.Left.{any_none, any_of, for_none, held_stored, keeps_for, left_beside, left_of, not_complete}
use Rattle.stored_run.proofs.OfOne.{AllowsOnly, Each, HoldsOfOwn, IsOwnEvent}
use Rattle.stored_run.proofs.Openings.{apart_opening}
use Rattle.stored_run.proofs.Tried.{tries_opened, tries_unopened}

-- ---- events of an opening

opened_event : (gid : Gid) (verified blocks : List Bool) (now : Moment)
    → IsOwnEvent gid (OpenedEvent gid verified blocks now)
opened_event gid verified blocks now start past g apart = own_beside gid g _ _ (λ same. apart (sym same))

-- an opening tells of no other download
pub opening_in : (at : TurnStart) (gid : Gid) → HoldsOfOwn (IsOwnEvent gid) gid
    → AllowsOnly (IsOwnEvent gid) (OpeningPhase at gid)
opening_in at gid all past events Went is =
    subst (Each (IsOwnEvent gid)) (sym is.2) (opened_event gid is.0 is.1 at.now, tt)
opening_in at gid all past events Over is = subst (Each (IsOwnEvent gid)) (sym is.2) (all.ended is.0, tt)
opening_in at gid all past events Starved is = subst (Each (IsOwnEvent gid)) (sym is) tt

-- one that is opened isn't one that is to be opened
pub other_opened : (gid g : Gid) (own : Gid → List OwnEvent) → is_opened (own gid) ≡ false → is_opened (own g) ≡ true
    → g ≢ gid
other_opened gid g own unopened opened same =
    let f : true ≡ false = sym opened ∙ (ap (λ (h : Gid). is_opened (own h)) same ∙ unopened) in cc

-- ---- other downloads

module _ {D : Type 0} (laws : RunFollows) (tells : Bool) (faults : ℕ) (old new : StoredView D) (a : DiskState)
    (run : IsStoredRun tells faults a old) (told : IsTrue tells)
    (own : (g : Gid) → IsGoing old g → own_in new g ≡ own_in old g) where
  kept_going : (g : Gid) (w : Want) → IsGoing old g → kept_want_of old g ≡ Some w
      → KeepsStored w (own_in old g) (own_in old g) a a
  kept_going g w goes kept =
      keeps_none laws w (own_in old g) (own_in old g) a (run.wants_are.sound g w kept) (grown_none (own_in old g))
      (run.stored told g w goes kept)

  ends_as : (b : DiskState) (g : Gid) (w : Want) → IsGoing old g → KeepsStored w (own_in old g) (own_in old g) a b
      → EndsStored w (IsDoneOf new g) (own_in old g) (own_in new g) a b
  ends_as b g w goes keeps =
      kept_ends (IsDoneOf new g) w (own_in old g) (own_in new g) a b
      (subst (λ (ys : List OwnEvent). KeepsStored w (own_in old g) ys a b) (sym (own g goes)) keeps)

  left_as : (b : DiskState) (g : Gid) (w : Want) → IsGoing old g → IsLeftHeld w (own_in old g) b → IsLeft new g w b
  left_as b g w goes held =
      left_of new.machine.start new.machine.past g w b
      (subst (λ (ys : List OwnEvent). IsLeftHeld w ys b) (sym (own g goes)) held)
      (not_complete new.machine.start new.machine.past g
      (ap is_ended (own g goes) ∙ unended laws old.machine.start old.machine.past g run.legal goes))

  held_going : (g : Gid) (w : Want) → IsGoing old g → kept_want_of old g ≡ Some w → IsLeftHeld w (own_in old g) a
  held_going g w goes kept = held_stored w (own_in old g) a (run.stored told g w goes kept)

  -- the store wasn't asked
  pub opens_none_of : (gid : Gid) (said : Said) → is_opened (own_in new gid) ≡ false → OpensDisk gid old new said a a
  opens_none_of gid said unopened = record {
    time = any_none a;
    each = λ g w goes kept. ends_as a g w goes (kept_going g w goes kept);
    left = λ g w goes kept. left_as a g w goes (held_going g w goes kept);
    payloads = λ g goes w kept. refl;
    came = inl (λ other. for_none other a, unopened);
  }

  -- .. or it was
  module _ (b : DiskState) (gid : Gid) (want : Want) (is : IsToResume old.machine gid want)
      (besides : KeepsBesides want a b) where
    apart : (g : Gid) (w : Want) → IsGoing old g → kept_want_of old g ≡ Some w → share_names want w ≡ false
    apart g w goes kept =
        apart_opening old.machine.start old.machine.past old.wants.items old.machine gid want refl refl run.wants_are
        is.has is.before.opening.unopened is.apart g w goes kept

    each_asked : (g : Gid) (w : Want) → IsGoing old g → kept_want_of old g ≡ Some w
        → EndsStored w (IsDoneOf new g) (own_in old g) (own_in new g) a b
    each_asked g w goes kept =
        ends_as b g w goes
        (keeps_beside laws want w (own_in old g) (own_in old g) a a b (apart g w goes kept) (omega arith)
        (kept_going g w goes kept) besides)

    left_asked : (g : Gid) (w : Want) → IsGoing old g → kept_want_of old g ≡ Some w → IsLeft new g w b
    left_asked g w goes kept =
        left_as b g w goes
        (left_beside laws want w (own_in old g) a b (apart g w goes kept) besides (held_going g w goes kept))

    -- the files of the download may have been changed, or none were
    pub opens_asked : (said : Said)
        → StaysUnopened gid new a b ⊎ (IsTouched new gid said × TriesWant gid want old new a b)
        → OpensDisk gid old new said a b
    opens_asked said came = record {
      time = any_of (SameBesides want) a b besides.passes;
      each = each_asked;
      left = left_asked;
      payloads = λ g goes w kept. (keeps_for laws want w a b (apart g w goes kept) besides).seen.files;
      came = ⊎_elim (λ (still : StaysUnopened gid new a b). inl still)
          (λ (asked : IsTouched new gid said × TriesWant gid want old new a b). inr (record {
            want = want;
            sound = is.sound;
            has = is.has;
            touched = asked.0;
            besides = besides;
            tries = asked.1;
          }))
          came;
    }

-- ---- the store was asked

reason_or_none : (o : Option OpenErr) → IsSome o ⊎ (o ≡ None)
reason_or_none None = inr refl
reason_or_none (Some err) = inl refl

-- why it isn't opened
pub stopped_by : {Failed Refused : Type 0} (o : Outcome) (said : Said) → (o ≢ Went) → AnswersUnlessStarved Done o said
    → (o ≡ Over → Failed ⊎ Refused) → Failed ⊎ (said ≡ NoMemory) ⊎ Refused
stopped_by Went said stopped answers reason = absurd (stopped refl)
stopped_by Over said stopped answers reason = ⊎_elim (λ failed. inl failed) (λ refused. inr (inr refused)) (reason refl)
stopped_by Starved said stopped answers reason = inr (inl answers)

module _ {D : Type 0} (laws : RunFollows) (tells : Bool) (faults : ℕ) (old : StoredView D) (a : DiskState)
    (run : IsStoredRun tells faults a old) (told : IsTrue tells) (gid : Gid) (want : Want)
    (is : IsToResume old.machine gid want) where
  module _ (new : StoredView D) (b : DiskState) (own : (g : Gid) → IsGoing old g → own_in new g ≡ own_in old g)
      (on : OpensOn want (is_checked_of old gid) a b) where
    -- for a reason that there was before
    quiet_where : (said : Said) → is_opened (own_in new gid) ≡ false → IsSome (open_refusal want a.seen)
        → StaysUnopened gid new a b ⊎ (IsTouched new gid said × TriesWant gid want old new a b)
    quiet_where said unopened reason = inl (on.refusable reason, unopened)

    -- without one
    tried_where : (said : Said) → is_opened (own_in new gid) ≡ false
        → HasFailed new gid ⊎ (said ≡ NoMemory) ⊎ IsSome (open_refusal want a.seen) → open_refusal want a.seen ≡ None
        → StaysUnopened gid new a b ⊎ (IsTouched new gid said × TriesWant gid want old new a b)
    tried_where said unopened why none =
        let tries = tries_unopened gid want old new a b on none unopened in
        ⊎_elim
        (λ (failed : HasFailed new gid). inr (inr (inl failed), tries))
        (λ (rest : (said ≡ NoMemory) ⊎ IsSome (open_refusal want a.seen)). ⊎_elim
        (λ (starved : said ≡ NoMemory). inr (inr (inr starved), tries))
        (λ (reason : IsSome (open_refusal want a.seen)). quiet_where said unopened reason)
        rest)
        why

    -- it isn't opened
    pub opens_not : (said : Said) → is_opened (own_in new gid) ≡ false
        → HasFailed new gid ⊎ (said ≡ NoMemory) ⊎ IsSome (open_refusal want a.seen) → OpensDisk gid old new said a b
    opens_not said unopened why =
        opens_asked laws tells faults old new a run told own b gid want is on.besides said
        (⊎_elim
        (λ (reason : IsSome (open_refusal want a.seen)). quiet_where said unopened reason)
        (λ (none : open_refusal want a.seen ≡ None). tried_where said unopened why none)
        (reason_or_none (open_refusal want a.seen)))

  -- it is opened, and may end then
  module _ (mid new : StoredView D) (m z : DiskState) (own : (g : Gid) → IsGoing old g → own_in new g ≡ own_in old g)
      (mid_faults : ℕ) (mid_run : IsStoredRun tells mid_faults m mid) (on : OpensOn want (is_checked_of old gid) a m)
      (fits : FitsPayload want a.seen m.seen)
      (opens : OpensWhere (λ opened. IsTrue tells → FindsJust old gid want a opened) gid want old mid) (n : ℕ)
      (rest : Continues n mid new) (grown : IsGrown (own_in mid gid) (own_in new gid)) (ends : EndsGid gid mid new m z)
      (payload : KeepsPayload gid mid m z) (left : IsLeftOf new gid z) where
    end_on : EndsStored want (IsDoneOf new gid) (own_in mid gid) (own_in new gid) m z
    end_on = (ends want opens.2.kept).kept (mid_run.stored told gid want opens.2.going opens.2.kept)

    kept_then : kept_want_of new gid ≡ Some want
    kept_then = rest.wants gid want opens.2.kept

    opened_then : is_opened (own_in new gid) ≡ true
    opened_then = opened_grown (own_in mid gid) (own_in new gid) grown opens.2.going.opened

    pub opens_then : (said : Said) → OpensDisk gid old new said a z
    opens_then said =
        opens_asked laws tells faults old new a run told own z gid want is
        (besides_on want a m z on.besides (ends want opens.2.kept).besides) said
        (inr (
          inl opened_then,
          tries_opened gid want old new a m z on fits (opens.1 told).allowed opens.0 (opens.1 told).just grown.0
              (grown.1 ∙ ap (λ (ys : List OwnEvent). grown.0 ++ ys) opens.2.own) kept_then opened_then is.apart
              (ends want opens.2.kept).besides (payload want opens.2.kept)
              (subst (λ (ys : List OwnEvent). EndsStored want (IsDoneOf new gid) ys (own_in new gid) m z) opens.2.own end_on)
              (left want kept_then),
        ))
