-- A turn and a want: what is kept of it, by what the turn did to the disk.
use Rattle.std.proofs.Common.{◌≡◌, ⊎_elim, inl, inr, ℕ, Bool, true, false, List, [], ◌∷◌, Option, Some, None, refl, sym, ap, arith, ◌∙◌, subst}
use Rattle.std.specs.Prelude.{◌⊎◌, ◌≤◌, ◌≢◌, ◌↔◌, is_some}
use Rattle.std.proofs.lemmas.Bool.{and_parts}
use Rattle.control_file.specs.Wants.{IsListedWant, IsWant}
use Rattle.control_file.specs.declared.want.Want.{Want}
use Rattle.dl_disk.specs.Files.{Files}
use Rattle.dl_disk.specs.State.{DiskState, LeftSince}
use Rattle.dl_history.specs.PayloadParts.{is_opened}
use Rattle.dl_kinds.specs.declared.gid.Gid.{Gid}
use Rattle.dl_kinds.specs.declared.runs.Moment.{Moment}
use Rattle.machine_core.specs.DownloadWants.{HasWant}
use Rattle.machine_core.specs.OwnParts.{own_of}
use Rattle.machine_core.specs.RunLegal.{IsLegal, download_in, goes_on_in}
use Rattle.machine_core.specs.Starts.{Download, RunStart}
use Rattle.engine_turns.specs.RunTurns.{MayComeAfter}
use Rattle.engine_turns.specs.Told.{RunTurn, history_of}
use Rattle.engine_turns.specs.TurnLaws.{HandedAreActive}
use Rattle.engine_turns.specs.declared.operations.Said.{Said}
use Rattle.payload_files.specs.Payload.{HasFiles}
use Rattle.resume_core.specs.Openings.{is_compared}
use Rattle.resume_core.specs.Resume.{AreSound}
use Rattle.resume_core.specs.Sharing.{share_names}
use Rattle.resume_core.specs.Openings.{ComesOfBefore, GivesSeen}
use Rattle.resume_core.specs.States.{KeepsFor}
use Rattle.stored_run.specs.Leavings.{IsLeftIn, LeavesDisk}
use Rattle.stored_run.specs.Opening.{AsksStore, IsLeftEnded, IsLeftOpened, OpensDisk, StaysUnopened, TriesWant, is_checked_of}
use Rattle.stored_run.specs.Steps.{EndsStored, IsLeftWhole}
use Rattle.stored_run.proofs.OpenNext.{before_opening}
use Rattle.stored_run.specs.RunFollows.{RunFollows}
use Rattle.stored_run.specs.Stored.{IsStoredWith}
use Rattle.stored_run.specs.Views.{GoesOpened, IsDoneIn, IsDoneOf, kept_want, own_in}
use Rattle.stored_run.specs.declared.run.StoredView.{StoredView}
use Rattle.engine_core.specs.Askings.{AreAsked, AreInOrder, Asks, IsAskedLater, IsOpenedWant, IsWrittenAlone, is_opened_in}
use Rattle.engine_core.specs.Durable.{AreWants, AllHold, HaveLengths, Holds}
use Rattle.engine_core.proofs.Ending.{agrees_then, now_other, own_then, since_other, since_own}
use Rattle.engine_core.proofs.Gone.{IsOpenedNext, newly_opened}
use Rattle.engine_core.proofs.Keeping.{kept_agrees, kept_now, kept_since, kept_sound}
use Rattle.engine_core.proofs.LeftOver.{now_own}
use Rattle.engine_core.proofs.Opened.{IsFoundLeft, IsFoundOpened, tried_now, tried_since}
use Rattle.engine_core.proofs.Promising.{alone_before, want_later}
use Rattle.engine_core.proofs.Turned.{IsInWay, TurnKeeps, gid_or_not, in_way_or_none, keeps_apart, kept_lengths, wants_of_one_share}

pub gid_equal : (a b : Gid) → a.0 ≡ b.0 → a ≡ b
gid_equal a b is = ap (λ (n : ℕ). record { 0 = n }) is

pub some_of : (o : Option Want) → is_some o ≡ true → (v : Want) × (o ≡ Some v)
some_of None is = absurd cc
some_of (Some v) is = (v, refl)

module _ (laws : RunFollows) (handed : HandedAreActive) (start : RunStart) (told : List RunTurn) (t : RunTurn)
    (legal : IsLegal start (history_of (t ∷ told))) (may : MayComeAfter start told t) (faults : ℕ) (d new : DiskState)
    (wants : List (Option Want)) (moment : Moment) (was : IsStoredWith true faults d start (history_of told) wants moment)
    (asked : AreAsked start told) (ordered : AreInOrder start told) (want : Want)
    (alone : IsWrittenAlone start (t ∷ told) want) where
  abbrev kept : Gid → Option Want
  kept gid = kept_want wants start (history_of told) gid

  -- each download of the want that is opened then was so before
  abbrev pub AreNoneNew : Type 0
  AreNoneNew = (gid : Gid) → IsOpenedWant start (t ∷ told) gid want → is_opened_in start (history_of told) gid ≡ true

  -- no download that went on shares a name with it
  abbrev pub IsApart : Type 0
  IsApart = (gid : Gid) (v : Want) → GoesOpened start (history_of told) gid → kept gid ≡ Some v → share_names v want ≡ false

  pub want_kept : (gid : Gid) → is_opened_in start (history_of told) gid ≡ true → HasWant start (history_of (t ∷ told)) gid want
      → kept gid ≡ Some want
  want_kept gid opened has =
      let v = some_of (kept gid) (was.wants_are.opened gid opened) in
      let later = want_later laws start told t legal gid v.0 (was.wants_are.has gid v.0 v.1) in
      let same = alone gid v.0 (inr (asked gid opened)) later
      (wants_of_one_share start (history_of (t ∷ told)) gid v.0 want later has) in
      v.1 ∙ ap (λ (x : Want). Some x) same

  pub opened_was : (gid : Gid) → is_opened_in start (history_of told) gid ≡ true → HasWant start (history_of (t ∷ told)) gid want
      → IsOpenedWant start told gid want
  opened_was gid opened has = record {
    opened = opened;
    has = was.wants_are.has gid want (want_kept gid opened has);
  }

  pub want_sound : (gid : Gid) → IsOpenedWant start told gid want → IsWant want
  want_sound gid is =
      was.wants_are.sound gid want (want_kept gid is.opened (want_later laws start told t legal gid want is.has))

  gone_by : (gid : Gid) → (goes_on_in start (history_of told) gid ≡ true → ⊥) → goes_on_in start (history_of told) gid ≡ false
  gone_by gid none = by (goes_on_in start (history_of told) gid) refl
    where
      by : (b : Bool) → goes_on_in start (history_of told) gid ≡ b → goes_on_in start (history_of told) gid ≡ false
      by true is = absurd (none is)
      by false is = is

  -- ---- its files stay

  pub kept_gone : IsApart → (gid : Gid) → IsOpenedWant start told gid want → goes_on_in start (history_of told) gid ≡ false
  kept_gone apart gid is = gone_by gid (λ goes.
      let none = apart gid want (record { opened = is.opened; goes = goes })
      (want_kept gid is.opened (want_later laws start told t legal gid want is.has)) in
      absurd (let never : true ≡ false =
      sym (wants_of_one_share start (history_of told) gid want want is.has is.has) ∙ none in cc))

  pub turn_kept : KeepsFor want d new → IsApart → AreNoneNew → AreSound want d.seen d.may_leave
      → TurnKeeps start told t want d new
  turn_kept keeps apart before sound = record {
    sound = kept_sound laws handed start told t legal may want d new keeps sound;
    agrees = kept_agrees laws handed start told t legal may want d new keeps sound;
    now = kept_now laws handed start told t legal may want d new keeps
        (λ gid is.
        let opened = opened_was gid (before gid is) is.has in
        (opened, kept_gone apart gid opened));
    since = kept_since laws handed start told t legal may want d new keeps;
  }

  -- ---- a download of it goes on, or ends

  module _ (star : Gid) (going : GoesOpened start (history_of told) star) (has : HasWant start (history_of told) star want)
      (kept_is : kept star ≡ Some want)
      (ends : EndsStored want (IsDoneIn start (history_of (t ∷ told)) star) (own_of start (history_of told) star)
      (own_of start (history_of (t ∷ told)) star) d new)
      (left : IsLeftIn start (history_of (t ∷ told)) star want new) (later_moment : d.moment ≤ new.moment)
      (before : AreNoneNew) (sound : AreSound want d.seen d.may_leave) where
    is_want : IsWant want
    is_want = was.wants_are.sound star want kept_is

    asked_star : (gid : Gid) → IsOpenedWant start told gid want → gid ≢ star → IsAskedLater start told gid star
    asked_star gid is apart = ordered want gid star is (record { opened = going.opened; has = has }) apart going.goes

    other_gone : (gid : Gid) → IsOpenedWant start told gid want → gid ≢ star → goes_on_in start (history_of told) gid ≡ false
    other_gone gid is apart = gone_by gid (λ goes.
        apart (was.apart gid star want want (record { opened = is.opened; goes = goes }) going
        (want_kept gid is.opened (want_later laws start told t legal gid want is.has)) kept_is
        (wants_of_one_share start (history_of told) gid want want is.has is.has)))

    pub turn_ending : TurnKeeps start told t want d new
    turn_ending = record {
      sound = ends.sound sound;
      agrees = agrees_then laws handed start told t legal was.legal may want star d new is_want going has
          (was.stored refl star want going kept_is) ends left later_moment;
      now = λ holds gid is image there.
          ⊎_elim
          (λ (same : gid ≡ star).
          subst (λ (g : Gid). Holds start (t ∷ told) (t ∷ told) g want new.seen image) (sym same)
          (own_then laws handed start told t legal was.legal may want star d new is_want going has
          (was.stored refl star want going kept_is) ends left later_moment sound image there))
          (λ (apart : gid ≢ star).
          let opened = opened_was gid (before gid is) is.has in
          now_other laws handed start told t legal was.legal may want star d new is_want going has
          (was.stored refl star want going kept_is) ends left later_moment sound holds asked_star gid opened apart
          (other_gone gid opened apart) image there)
          (gid_or_not gid star);
      since = λ holds gid is image there. (
        new.seen,
        (new.moment, later_moment, omega arith, sym new.now_seen),
        ⊎_elim
            (λ (same : gid ≡ star).
            subst (λ (g : Gid). Holds start told (t ∷ told) g want new.seen image) (sym same)
            (since_own laws handed start told t legal was.legal may want star d new is_want going has
            (was.stored refl star want going kept_is) ends left later_moment sound holds asked_star image there))
            (λ (apart : gid ≢ star).
            since_other laws handed start told t legal was.legal may want star d new is_want going has
            (was.stored refl star want going kept_is) ends left later_moment sound holds asked_star gid is apart image there)
            (gid_or_not gid star),
      );
    }

    pub ending_lengths : HasFiles want.dir want.layout new.seen
    ending_lengths = left.files

-- ---- a whole turn

module _ {D : Type 0} (laws : RunFollows) (handed : HandedAreActive) (start : RunStart) (told : List RunTurn) (t : RunTurn)
    (legal : IsLegal start (history_of (t ∷ told))) (may : MayComeAfter start told t) (faults : ℕ) (d new : DiskState)
    (old : StoredView D) (after : StoredView D)
    (moment : Moment)
    (was : IsStoredWith true faults d start (history_of told) old.wants.items moment)
    (asked : AreAsked start told) (ordered : AreInOrder start told) (lengths : HaveLengths start told d) where
  abbrev R : StoredView D
  R = record old { machine = record old.machine { start = start; past = history_of told } }

  abbrev R' : StoredView D
  R' = record after { machine = record after.machine { start = start; past = history_of (t ∷ told) } }

  -- what is kept of each want that is written alone
  pub record KeepsEach : Type 0 where
    pub turn : (want : Want) → IsWrittenAlone start (t ∷ told) want → AreSound want d.seen d.may_leave
        → TurnKeeps start told t want d new
    pub wants : AreWants start (t ∷ told)
    pub files : HaveLengths start (t ∷ told) new
    pub later : d.moment ≤ new.moment
    pub time : (k : ℕ) → k ≤ d.moment → new.seen_at k ≡ d.seen_at k
    pub left : (k : ℕ) (image : Files) → k ≤ d.moment → new.left_at k image ↔ d.left_at k image

  added_of : (gid : Gid) → GoesOpened start (history_of told) gid
      → (x : Download) × (download_in start (history_of told) gid ≡ Some x)
  added_of gid going =
      let v = some_of (kept_want old.wants.items start (history_of told) gid) (was.wants_are.opened gid going.opened) in
      let has = was.wants_are.has gid v.0 v.1 in
      (has.download, has.added)

  module _ (want : Want) (alone : IsWrittenAlone start (t ∷ told) want) where
    alone_was : IsWrittenAlone start told want
    alone_was = alone_before laws start told t legal want alone

    -- a download in the way has this very want
    its_want : (star : Gid) → IsInWay start (history_of told) (kept_want old.wants.items start (history_of told)) want star
        → kept_want old.wants.items start (history_of told) star ≡ Some want
    its_want star way =
        let same = alone_was star way.other (asked star way.going.opened) (was.wants_are.has star way.other way.kept_is) way.shares in
        way.kept_is ∙ ap (λ (x : Want). Some x) same

    opened_sound : (g : Gid) → IsOpenedWant start (t ∷ told) g want → is_opened_in start (history_of told) g ≡ true → IsWant want
    opened_sound g is opened =
        want_sound laws handed start told t legal may faults d new old.wants.items moment was asked ordered want alone g
        (opened_was laws handed start told t legal may faults d new old.wants.items moment was asked ordered want alone g opened is.has)

    -- ---- nothing is opened

    module _ (leaves : LeavesDisk R R' d new)
        (before : (gid : Gid) → IsOpenedWant start (t ∷ told) gid want → is_opened_in start (history_of told) gid ≡ true) where
      left_turn : AreSound want d.seen d.may_leave → TurnKeeps start told t want d new
      left_turn sound = ⊎_elim
          (λ (way : (star : Gid) × IsInWay start (history_of told) (kept_want old.wants.items start (history_of told)) want star).
          let star = way.0 in
          let kept_is = its_want star way.1 in
          turn_ending laws handed start told t legal may faults d new old.wants.items moment was asked ordered want alone star
          way.1.going (was.wants_are.has star want kept_is) kept_is (leaves.each star want way.1.going kept_is)
          (leaves.left star want way.1.going kept_is) leaves.time.later before sound)
          (λ apart.
          turn_kept laws handed start told t legal may faults d new old.wants.items moment was asked ordered want alone
          (leaves.others want (λ gid v going kept_is. apart gid v going kept_is))
          (λ gid v going kept_is. apart gid v going kept_is) before sound)
          (in_way_or_none start (history_of told) (kept_want old.wants.items start (history_of told)) want added_of)

      left_lengths : (gid : Gid) → IsOpenedWant start (t ∷ told) gid want → HasFiles want.dir want.layout new.seen
      left_lengths gid is = ⊎_elim
          (λ (way : (star : Gid) × IsInWay start (history_of told) (kept_want old.wants.items start (history_of told)) want star).
          (leaves.left way.0 want way.1.going (its_want way.0 way.1)).files)
          (λ apart.
          let opened = opened_was laws handed start told t legal may faults d new old.wants.items moment was asked ordered want
          alone gid (before gid is) is.has in
          kept_lengths want d new (leaves.others want (λ g v going kept_is. apart g v going kept_is))
          (lengths want gid alone_was opened))
          (in_way_or_none start (history_of told) (kept_want old.wants.items start (history_of told)) want added_of)

    -- ---- a download is opened, or its store was asked

    module _ (gid : Gid) (said_is : Said) (asked_now : Asks start told t gid) (asks : AsksStore gid R R' said_is d new)
        (opens : OpensDisk gid R R' said_is d new)
        (before : (g : Gid) → is_opened_in start (history_of (t ∷ told)) g ≡ true
        → (is_opened_in start (history_of told) g ≡ true) ⊎ (g ≡ gid))
        (same : asks.want ≡ want) (apart : IsApart laws handed start told t legal may faults d new old.wants.items moment was asked
        ordered want alone) where
      want_is : IsWant want
      want_is = subst IsWant same asks.sound

      has : HasWant start (history_of told) gid want
      has = subst (HasWant start (history_of told) gid) same asks.has

      tries : TriesWant gid want R R' d new
      tries = subst (λ (w : Want). TriesWant gid w R R' d new) same asks.tries

      abbrev compared : Bool
      compared = is_compared want (is_checked_of R gid)

      listed_where : compared ≡ true → IsListedWant want
      listed_where is = (and_parts (is_checked_of R gid) (is_some want.info_hash) is).1

      gone : (g : Gid) → IsOpenedWant start told g want → goes_on_in start (history_of told) g ≡ false
      gone = kept_gone laws handed start told t legal may faults d new old.wants.items moment was asked ordered want alone apart

      whole : (g : Gid) → IsOpenedWant start told g want → HasFiles want.dir want.layout d.seen
      whole g is = lengths want g alone_was is

      found_opened : is_opened (own_in R' gid) ≡ true → IsFoundOpened compared want old.now (own_in R gid) (own_in R' gid) d
      found_opened opened =
          let came = tries.opened opened in
          record { opened = came.opened; just = came.just; later = came.later; cut = came.own }

      found_images : HasFiles want.dir want.layout d.seen → (image : Files) → LeftSince new d.moment image
          → ComesOfBefore want d image ⊎ GivesSeen compared want d.seen image
          ⊎ IsFoundLeft compared want old.now (own_in R gid) (own_in R' gid) d image
          ⊎ ((is_opened (own_in R' gid) ≡ true) × IsLeftWhole want (IsDoneOf R' gid) (own_in R' gid) d new image)
      found_images files image there = ⊎_elim (λ (comes : ComesOfBefore want d image). inl comes)
          (λ more. inr (⊎_elim (λ (gives : GivesSeen compared want d.seen image). inl gives)
          (λ (ended : IsLeftEnded gid want R R' d new image). inr (⊎_elim
          (λ (left : IsLeftOpened gid want R R' d image).
          inl (record { opened = left.opened; just = left.just; stored = left.stored }))
          (λ (whole : _ × IsLeftWhole want (IsDoneOf R' gid) (own_in R' gid) d new image). inr whole) ended)) more))
          (tries.images files image there)

      since : AreSound want d.seen d.may_leave → AllHold start told want d.seen d.may_leave → (g : Gid)
          → IsOpenedWant start told g want → (image : Files) → LeftSince new d.moment image
          → Holds start told (t ∷ told) g want new.seen image
      since sound holds g is =
          tried_since laws handed start told t legal was.legal may want gid d new want_is old.now asked_now has compared listed_where
          tries.refusable opens.time.later (whole g is) (tries.payload (whole g is)) (found_images (whole g is))
          (λ opened. found_opened opened) sound holds g is

      then : AreSound want d.seen d.may_leave → AllHold start told want d.seen d.may_leave → (g : Gid)
          → IsOpenedWant start told g want → (image : Files) → new.may_leave image
          → Holds start (t ∷ told) (t ∷ told) g want new.seen image
      then sound holds g is =
          tried_now laws handed start told t legal was.legal may want gid d new want_is old.now asked_now has compared listed_where
          tries.refusable opens.time.later (whole g is) (tries.payload (whole g is)) (found_images (whole g is))
          (λ opened. found_opened opened) sound holds g is (gone g is)

      own_now : AreSound want d.seen d.may_leave → is_opened_in start (history_of (t ∷ told)) gid ≡ true → (image : Files)
          → new.may_leave image → Holds start (t ∷ told) (t ∷ told) gid want new.seen image
      own_now sound opened =
          now_own laws start (t ∷ told) want gid d new want_is legal (want_later laws start told t legal gid want has) opened
          (tries.opened opened).left
          (λ all image there. tries.sound all image
          (new.moment, opens.time.later, omega arith, (new.now_left image).1 there))
          (tries.right opened) sound

      tried_turn : AreSound want d.seen d.may_leave → TurnKeeps start told t want d new
      tried_turn sound = record {
        sound = tries.sound sound;
        agrees = tries.agrees sound;
        now = λ holds g is image there. ⊎_elim
            (λ (opened : is_opened_in start (history_of told) g ≡ true).
            then sound holds g
            (opened_was laws handed start told t legal may faults d new old.wants.items moment was asked ordered want alone g opened
            is.has) image there)
            (λ (own : g ≡ gid).
            subst (λ (x : Gid). Holds start (t ∷ told) (t ∷ told) x want new.seen image) (sym own)
            (own_now sound (subst (λ (x : Gid). is_opened_in start (history_of (t ∷ told)) x ≡ true) own is.opened) image there))
            (before g is.opened);
        since = λ holds g is image there. (
          new.seen,
          (new.moment, opens.time.later, omega arith, sym new.now_seen),
          since sound holds g is image there,
        );
      }

      tried_lengths : (g : Gid) → IsOpenedWant start (t ∷ told) g want → HasFiles want.dir want.layout new.seen
      tried_lengths g is = ⊎_elim
          (λ (opened : is_opened_in start (history_of told) g ≡ true).
          tries.files (whole g
          (opened_was laws handed start told t legal may faults d new old.wants.items moment was asked ordered want alone g opened
          is.has)))
          (λ (own : g ≡ gid).
          (tries.opened (subst (λ (x : Gid). is_opened_in start (history_of (t ∷ told)) x ≡ true) own is.opened)).left.files)
          (before g is.opened)

    -- ---- whatever it was

    module _ (gid : Gid) (next : IsOpenedNext start (history_of told) t.op gid) (opens : OpensDisk gid R R' t.answer.said d new) where
      next_alone : (g : Gid) → IsOpenedNext start (history_of told) t.op g → g ≡ gid
      next_alone g is = let some : Some g ≡ Some gid = sym is.1 ∙ next.1 in cc

      opened_before : (g : Gid) → is_opened_in start (history_of (t ∷ told)) g ≡ true
          → (is_opened_in start (history_of told) g ≡ true) ⊎ (g ≡ gid)
      opened_before g is = ⊎_elim (λ (opened : is_opened_in start (history_of told) g ≡ true). inl opened)
          (λ (then : IsOpenedNext start (history_of told) t.op g). inr (next_alone g then))
          (newly_opened laws handed start told t was.legal may g is)

      as_left : ((other : Want) → KeepsFor other d new) → LeavesDisk R R' d new
      as_left all = record {
        time = opens.time;
        others = λ other apart. all other;
        each = opens.each;
        left = opens.left;
      }

      none_opened : is_opened_in start (history_of (t ∷ told)) gid ≡ false → (g : Gid) → IsOpenedWant start (t ∷ told) g want
          → is_opened_in start (history_of told) g ≡ true
      none_opened unopened g is = ⊎_elim (λ (opened : is_opened_in start (history_of told) g ≡ true). opened)
          (λ (own : g ≡ gid).
          absurd (let never : true ≡ false =
          sym is.opened ∙ (ap (is_opened_in start (history_of (t ∷ told))) own ∙ unopened) in cc))
          (opened_before g is.opened)

      asked_by : AsksStore gid R R' t.answer.said d new → Asks start told t gid
      asked_by asks = record { asked = next.0; next = next.1; came = asks.touched }

      -- of a download that is opened then, and was asked for with another want, nothing shares a name
      its_own : (asks : AsksStore gid R R' t.answer.said d new) → HasWant start (history_of (t ∷ told)) gid want
          → asks.want ≡ want
      its_own asks has =
          let later = want_later laws start told t legal gid asks.want asks.has in
          alone gid asks.want (inl (asked_by asks)) later
          (wants_of_one_share start (history_of (t ∷ told)) gid asks.want want later has)

      unopened_was : is_opened_in start (history_of told) gid ≡ false
      unopened_was =
          (before_opening laws (record { start = start; past = history_of told; spare = 0; mark_spares = [] }) gid was.legal next.1).opening.unopened

      beside_unopened : (star : Gid) → IsInWay start (history_of told) (kept_want old.wants.items start (history_of told)) want star
          → (asks : AsksStore gid R R' t.answer.said d new) → (g : Gid) → IsOpenedWant start (t ∷ told) g want
          → is_opened_in start (history_of told) g ≡ true
      beside_unopened star way asks g is = ⊎_elim (λ (opened : is_opened_in start (history_of told) g ≡ true). opened)
          (λ (own : g ≡ gid).
          let opened = subst (λ (x : Gid). is_opened_in start (history_of (t ∷ told)) x ≡ true) own is.opened in
          let has = subst (λ (x : Gid). HasWant start (history_of (t ∷ told)) x want) own is.has in
          let same = its_own asks has in
          let kept_is = its_want star way in
          let apart : star.0 ≢ gid.0 = λ equal.
          absurd (let never : true ≡ false = sym way.going.opened
          ∙ (ap (is_opened_in start (history_of told)) (gid_equal star gid equal) ∙ unopened_was) in cc) in
          let none = (asks.tries.opened opened).apart asks.want star want asks.has
          (record { apart = apart; opened = way.going.opened; going = way.going.goes }) (was.wants_are.has star want kept_is) in
          absurd (let never : true ≡ false =
          sym (wants_of_one_share start (history_of (t ∷ told)) gid asks.want want
          (want_later laws start told t legal gid asks.want asks.has) has) ∙ none in cc))
          (opened_before g is.opened)

      apart_unopened : (asks : AsksStore gid R R' t.answer.said d new) → share_names asks.want want ≡ false → (g : Gid)
          → IsOpenedWant start (t ∷ told) g want → is_opened_in start (history_of told) g ≡ true
      apart_unopened asks none g is = ⊎_elim (λ (opened : is_opened_in start (history_of told) g ≡ true). opened)
          (λ (own : g ≡ gid).
          let has = subst (λ (x : Gid). HasWant start (history_of (t ∷ told)) x want) own is.has in
          absurd (let never : true ≡ false =
          sym (wants_of_one_share start (history_of (t ∷ told)) gid asks.want want
          (want_later laws start told t legal gid asks.want asks.has) has) ∙ none in cc))
          (opened_before g is.opened)

      sound_next : (g : Gid) → IsOpenedWant start (t ∷ told) g want → IsWant want
      sound_next g is = ⊎_elim
          (λ (still : StaysUnopened gid R' d new). opened_sound g is (none_opened still.1 g is))
          (λ (asks : AsksStore gid R R' t.answer.said d new). ⊎_elim
          (λ (opened : is_opened_in start (history_of told) g ≡ true). opened_sound g is opened)
          (λ (own : g ≡ gid).
          subst IsWant (its_own asks (subst (λ (x : Gid). HasWant start (history_of (t ∷ told)) x want) own is.has)) asks.sound)
          (opened_before g is.opened))
          opens.came

      -- what is kept of the want, and of its files
      pub record KeepsOne : Type 0 where
        pub one : AreSound want d.seen d.may_leave → TurnKeeps start told t want d new
        pub sizes : (g : Gid) → IsOpenedWant start (t ∷ told) g want → HasFiles want.dir want.layout new.seen

      -- the files of wants that share no name with the one that was asked for
      beside_leaves : (asks : AsksStore gid R R' t.answer.said d new) → (star : Gid)
          → IsInWay start (history_of told) (kept_want old.wants.items start (history_of told)) want star → KeepsOne
      beside_leaves asks star way =
          let kept_is = its_want star way in
          let before = beside_unopened star way asks in
          record {
            one = λ sound.
                turn_ending laws handed start told t legal may faults d new old.wants.items moment was asked ordered want alone star
                way.going (was.wants_are.has star want kept_is) kept_is (opens.each star want way.going kept_is)
                (opens.left star want way.going kept_is) opens.time.later before sound;
            sizes = λ g is. (opens.left star want way.going kept_is).files;
          }

      open_one : KeepsOne
      open_one = ⊎_elim
          (λ (still : StaysUnopened gid R' d new).
          record {
            one = left_turn (as_left still.0) (none_opened still.1);
            sizes = left_lengths (as_left still.0) (none_opened still.1);
          })
          (λ (asks : AsksStore gid R R' t.answer.said d new). ⊎_elim
          (λ (way : (star : Gid) × IsInWay start (history_of told) (kept_want old.wants.items start (history_of told)) want star).
          beside_leaves asks way.0 way.1)
          (λ apart. by asks apart (share_names asks.want want) refl)
          (in_way_or_none start (history_of told) (kept_want old.wants.items start (history_of told)) want added_of))
          opens.came
        where
          by : (asks : AsksStore gid R R' t.answer.said d new)
              → ((g : Gid) (v : Want) → GoesOpened start (history_of told) g
              → kept_want old.wants.items start (history_of told) g ≡ Some v → share_names v want ≡ false)
              → (b : Bool) → share_names asks.want want ≡ b → KeepsOne
          by asks apart true shares =
              let same = alone gid asks.want (inl (asked_by asks)) (want_later laws start told t legal gid asks.want asks.has) shares in
              record {
                one = tried_turn gid t.answer.said (asked_by asks) asks opens opened_before same (λ g v going kept_is. apart g v going kept_is);
                sizes = tried_lengths gid t.answer.said (asked_by asks) asks opens opened_before same (λ g v going kept_is. apart g v going kept_is);
              }
          by asks apart false none =
              let keeps = keeps_apart laws asks.want want d new none asks.besides in
              record {
                one = turn_kept laws handed start told t legal may faults d new old.wants.items moment was asked ordered want alone keeps
                    (λ g v going kept_is. apart g v going kept_is) (apart_unopened asks none);
                sizes = λ g is.
                    kept_lengths want d new keeps
                    (lengths want g alone_was
                    (opened_was laws handed start told t legal may faults d new old.wants.items moment was asked ordered want alone g
                    (apart_unopened asks none g is) is.has));
              }

  -- what a turn did to the disk
  pub record TurnsNone : Type 0 where
    pub leaves : LeavesDisk R R' d new
    pub unopened : (gid : Gid) → IsOpenedNext start (history_of told) t.op gid
        → is_opened_in start (history_of (t ∷ told)) gid ≡ true → is_opened_in start (history_of told) gid ≡ true

  pub record TurnsOne : Type 0 where
    pub gid : Gid
    pub next : IsOpenedNext start (history_of told) t.op gid
    pub opens : OpensDisk gid R R' t.answer.said d new

  none_new : TurnsNone → (want : Want) (gid : Gid) → IsOpenedWant start (t ∷ told) gid want
      → is_opened_in start (history_of told) gid ≡ true
  none_new turns want gid is = ⊎_elim (λ (opened : is_opened_in start (history_of told) gid ≡ true). opened)
      (λ (next : IsOpenedNext start (history_of told) t.op gid). turns.unopened gid next is.opened)
      (newly_opened laws handed start told t was.legal may gid is.opened)

  pub keeps_each : TurnsNone ⊎ TurnsOne → KeepsEach
  keeps_each turns = ⊎_elim
      (λ (none : TurnsNone). record {
        turn = λ want alone. left_turn want alone none.leaves (none_new none want);
        wants = λ want gid alone is. opened_sound want alone gid is (none_new none want gid is);
        files = λ want gid alone is. left_lengths want alone none.leaves (none_new none want) gid is;
        later = none.leaves.time.later;
        time = none.leaves.time.seen;
        left = none.leaves.time.left;
      })
      (λ (one : TurnsOne). record {
        turn = λ want alone. (open_one want alone one.gid one.next one.opens).one;
        wants = λ want gid alone is. sound_next want alone one.gid one.next one.opens gid is;
        files = λ want gid alone is. (open_one want alone one.gid one.next one.opens).sizes gid is;
        later = one.opens.time.later;
        time = one.opens.time.seen;
        left = one.opens.time.left;
      }) turns
