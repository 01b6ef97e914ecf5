-- A turn in which a download that is opened goes on, or ends.
use Rattle.std.proofs.Common.{◌≡◌, ⊎_elim, inl, inr, ℕ, Bool, true, false, List, [], ◌∷◌, ◌++◌, Some, None, refl, sym, ap, arith, append_assoc, ◌∙◌, subst}
use Rattle.std.specs.Prelude.{◌⊎◌, ◌≤◌, ◌≢◌, slice_get}
use Rattle.std.proofs.lemmas.List.{append_cancel_right}
use Rattle.control_file.specs.Wants.{IsListedWant, IsWant}
use Rattle.control_file.specs.declared.want.Want.{Want}
use Rattle.dl_disk.specs.Files.{Files}
use Rattle.dl_disk.specs.State.{DiskState, LeftSince}
use Rattle.dl_kinds.specs.declared.gid.Gid.{Gid}
use Rattle.dl_history.specs.Listings.{listing_in}
use Rattle.dl_history.specs.OwnEvents.{OwnEvent}
use Rattle.dl_history.specs.OwnLegal.{LegalOwn}
use Rattle.dl_history.specs.PayloadParts.{is_opened, is_verified_in}
use Rattle.durable_progress.specs.Held.{IsHeld, IsHeldByEither}
use Rattle.durable_progress.specs.Promises.{GivesPromised, StandsWhole, is_block_promised, is_piece_promised}
use Rattle.durable_progress.specs.PromiseLaws.{IsOpenedOwn}
use Rattle.durable_progress.proofs.Promised.{legal_before, listed_verified, listing_promised, pieces_stay, verified_later, verified_listed}
use Rattle.machine_core.specs.DownloadWants.{HasWant}
use Rattle.machine_core.specs.OwnParts.{own_of}
use Rattle.machine_core.specs.RunLegal.{IsLegal, goes_on_in}
use Rattle.machine_core.specs.Starts.{RunStart}
use Rattle.engine_turns.specs.RunTurns.{MayComeAfter}
use Rattle.engine_turns.specs.Told.{RunTurn, history_of}
use Rattle.engine_turns.specs.TurnLaws.{HandedAreActive}
use Rattle.resume_core.specs.Resume.{Agrees, AreSound, HasDigest, ResumesPiece, Sound}
use Rattle.resume_core.specs.Steps.{IsFinished}
use Rattle.resume_core.specs.Wants.{files_in}
use Rattle.stored_run.specs.Leavings.{IsLeftIn}
use Rattle.stored_run.specs.RunFollows.{RunFollows}
use Rattle.stored_run.specs.Steps.{EndsStored, GivesSaved, IsLeftStored, IsLeftWhole}
use Rattle.stored_run.specs.Stored.{IsStored, saved_listing}
use Rattle.stored_run.specs.Views.{GoesOpened, IsDoneIn}
use Rattle.stored_run.proofs.Doing.{opened_behind, own_grows_on}
use Rattle.stored_run.proofs.Own.{own_legal}
use Rattle.engine_core.specs.Askings.{IsAskedLater, IsDoneSince, IsOpenedWant, IsReopened, is_completed_in}
use Rattle.engine_core.specs.Durable.{AllHold, GivesSaves, Holds}
use Rattle.engine_core.proofs.Keeping.{completed, halted, halted_promised}
use Rattle.engine_core.proofs.LeftOver.{done_now, ended_agrees, digest_now, gives_own, gives_pieces, going_uncompleted, now_own, promised_verified, stands_whole, stored_gives}
use Rattle.engine_core.proofs.Promising.{fewer_promised, opened_on, want_later}

-- ---- the download itself

module _ (laws : RunFollows) (handed : HandedAreActive) (start : RunStart) (told : List RunTurn) (t : RunTurn)
    (legal : IsLegal start (history_of (t ∷ told))) (legal_was : IsLegal start (history_of told))
    (may : MayComeAfter start told t) (want : Want) (star : Gid) (d new : DiskState) (is_want : IsWant want)
    (going : GoesOpened start (history_of told) star) (has : HasWant start (history_of told) star want)
    (stored : IsStored want (own_of start (history_of told) star) d)
    (ends : EndsStored want (IsDoneIn start (history_of (t ∷ told)) star) (own_of start (history_of told) star)
    (own_of start (history_of (t ∷ told)) star) d new)
    (left : IsLeftIn start (history_of (t ∷ told)) star want new) (later_moment : d.moment ≤ new.moment) where
  abbrev total : ℕ
  total = want.plan.total

  abbrev len : ℕ
  len = want.plan.piece_len

  abbrev was : List OwnEvent
  was = own_of start (history_of told) star

  abbrev own : List OwnEvent
  own = own_of start (history_of (t ∷ told)) star

  has_now : HasWant start (history_of (t ∷ told)) star want
  has_now = want_later laws start told t legal star want has

  own_is_legal : LegalOwn total len own
  own_is_legal = own_legal laws start (history_of (t ∷ told)) star want legal has_now

  opened_now : is_opened own ≡ true
  opened_now = opened_on start (history_of told) t.events star going.opened

  grown : (more : List OwnEvent) × (own ≡ more ++ was)
  grown = own_grows_on start t.events (history_of told) star

  -- what its last save listed before the turn
  abbrev Listed : ℕ → Type 0
  Listed p = slice_get (saved_listing want was).pieces p ≡ Some true

  listed_then : (p : ℕ) → Listed p → is_verified_in own p ≡ true
  listed_then p listed =
      subst (λ (l : List OwnEvent). is_verified_in l p ≡ true) (sym grown.1)
      (verified_later p grown.0 was (listed_verified total len p was listed))

  verified_then : (p : ℕ) → is_verified_in was p ≡ true → is_verified_in own p ≡ true
  verified_then p is = subst (λ (l : List OwnEvent). is_verified_in l p ≡ true) (sym grown.1) (verified_later p grown.0 was is)

  -- its last save lists so still
  listed_still : (p : ℕ) → Listed p → slice_get (saved_listing want own).pieces p ≡ Some true
  listed_still p listed =
      subst (λ (l : List OwnEvent). slice_get (saved_listing want l).pieces p ≡ Some true) (sym grown.1)
      (pieces_stay total len p grown.0 was (subst (LegalOwn total len) grown.1 own_is_legal) listed)

  -- ---- whatever a crash within the turn leaves

  between_legal : (first rest : List OwnEvent) → own ≡ rest ++ (first ++ was) → LegalOwn total len (first ++ was)
  between_legal first rest cut = legal_before total len rest (first ++ was) (subst (LegalOwn total len) cut own_is_legal)

  left_promised : (later : List OwnEvent) (image : Files) → own ≡ later ++ was → IsLeftStored want was own image
      → GivesPromised want later was false false image
  left_promised later image is gives =
      let first = gives.1.first in
      let rest = gives.1.rest in
      let cut = gives.1.to ∙ ap (λ (l : List OwnEvent). rest ++ l) gives.1.from in
      let legal_there = between_legal first rest cut in
      let same : later ≡ rest ++ first =
      append_cancel_right later (rest ++ first) was (sym is ∙ (cut ∙ sym (append_assoc rest first was))) in
      let opened : IsOpenedOwn want (first ++ was) = record {
        want_is = is_want;
        legal = legal_there;
        opened = opened_behind first was going.opened;
      } in
      let there = listing_promised want was laws.sound first image opened
      (subst (λ (l : List OwnEvent). GivesSaved want l image) gives.1.from gives.2) in
      record {
        pieces = there.pieces;
        blocks = λ again b promised. there.blocks again b
            (fewer_promised laws start told t legal len rest first was b
            (subst (λ (l : List OwnEvent). is_block_promised len l was b ≡ true) same promised));
      }

  -- ---- once the turn is taken

  now_since : (image : Files) → new.may_leave image → LeftSince new d.moment image
  now_since image is = (new.moment, later_moment, omega arith, (new.now_left image).1 is)

  -- what is left of the download itself
  sound_now : AreSound want d.seen d.may_leave → (image : Files) → new.may_leave image → Sound want image
  sound_now sound image there = ends.sound sound image (now_since image there)

  done_then : IsDoneIn start (history_of (t ∷ told)) star → (gid : Gid) → (star ≡ gid) ⊎ IsAskedLater start (t ∷ told) gid star
      → IsDoneSince start (t ∷ told) gid want
  done_then = done_now laws start (t ∷ told) want star d new is_want legal has_now opened_now left sound_now ends.right

  digest_then : AreSound want d.seen d.may_leave → IsListedWant want → (p : ℕ) → is_verified_in own p ≡ true
      → HasDigest want (files_in want new.seen) p
  digest_then = digest_now laws start (t ∷ told) want star d new is_want legal has_now opened_now left sound_now ends.right

  pub agrees_then : (image : Files) → new.may_leave image → Agrees want new.seen image
  agrees_then = ended_agrees laws start (t ∷ told) want star d new is_want legal has_now opened_now left sound_now ends.right

  pub own_then : AreSound want d.seen d.may_leave → (image : Files) → new.may_leave image
      → Holds start (t ∷ told) (t ∷ told) star want new.seen image
  own_then = now_own laws start (t ∷ told) want star d new is_want legal has_now opened_now left sound_now ends.right

  held_gives_listed : (image : Files) → IsHeldByEither want (saved_listing want own) (listing_in total len own) new.seen image
      → (p : ℕ) → Listed p → ResumesPiece want image p
  held_gives_listed image held p listed = ⊎_elim
      (λ (last : IsHeld want (saved_listing want own) new.seen image).
      ((laws.give want (saved_listing want own) new.seen image is_want last).pieces p).1 (listed_still p listed))
      (λ (saved : IsHeld want (listing_in total len own) new.seen image).
      ((laws.give want (listing_in total len own) new.seen image is_want saved).pieces p).1
      (verified_listed total len p own own_is_legal (listed_then p listed))) held

  -- ---- all that is promised

  module _ (sound : AreSound want d.seen d.may_leave) (holds : AllHold start told want d.seen d.may_leave)
      (asked : (gid : Gid) → IsOpenedWant start told gid want → gid ≢ star → IsAskedLater start told gid star) where
    -- each piece that is promised of an earlier download is listed
    listed_by : (gid : Gid) → IsOpenedWant start told gid want → (p : ℕ)
        → is_piece_promised (is_completed_in (history_of told) gid) (own_of start (history_of told) gid) p ≡ true → Listed p
    listed_by gid is p promised =
        let held = stored.held d.seen d.own_image in
        ⊎_elim
        (λ (gives : GivesSaves start told gid want [] (own_of start (history_of told) gid)
        (is_completed_in (history_of told) gid) d.seen).
        ((laws.give want (saved_listing want was) d.seen d.seen is_want held).pieces p).0
        ((gives true (λ again. refl)).pieces p promised))
        (λ (stands : _ × StandsWhole want (own_of start (history_of told) gid) (is_completed_in (history_of told) gid) d.seen d.seen).
        absurd (let no : Some _ ≡ None = sym held.bytes ∙ stands.1.gone in cc))
        (holds gid is d.seen d.own_image [] refl)

    reopened_by : (gid : Gid) → IsOpenedWant start told gid want → gid ≢ star → IsReopened start (t ∷ told) gid want
    reopened_by gid is apart = record { other = star; later = inr (asked gid is apart); has = has_now }

    -- of what was promised before the turn, while it is taken
    pub since_other : (gid : Gid) → IsOpenedWant start told gid want → gid ≢ star → (image : Files) → LeftSince new d.moment image
        → Holds start told (t ∷ told) gid want new.seen image
    since_other gid is apart image there later cut =
        let own_gid = own_of start (history_of told) gid in
        let complete = is_completed_in (history_of told) gid in
        ⊎_elim
        (λ (gives : IsLeftStored want was own image).
        inl (gives_pieces start (t ∷ told) gid want later own_gid complete image (reopened_by gid is apart)
        (λ p promised. stored_gives want was own own_is_legal image gives p (listed_by gid is p promised))))
        (λ (whole : IsLeftWhole want _ own d new image).
        inr (
          done_then whole.verified gid (inr (inr (asked gid is apart))),
          stands_whole want own_gid complete new.seen image whole.finished
              (λ listed p promised. whole.right sound listed p (listed_then p (listed_by gid is p promised))),
        )) (ends.images image there)

    pub since_own : (image : Files) → LeftSince new d.moment image → Holds start told (t ∷ told) star want new.seen image
    since_own image there later cut =
        let complete = is_completed_in (history_of told) star in
        let going_on = going_uncompleted laws start (history_of told) star legal_was going.goes in
        ⊎_elim
        (λ (gives : IsLeftStored want was own image).
        inl (gives_own start (t ∷ told) star want later was complete image going_on (left_promised later image cut gives)))
        (λ (whole : IsLeftWhole want _ own d new image).
        inr (
          done_then whole.verified star (inl refl),
          stands_whole want was complete new.seen image whole.finished
              (λ listed p promised. whole.right sound listed p
              (verified_then p (promised_verified complete was p promised))),
        )) (ends.images image there)

    -- of what is promised then
    pub now_other : (gid : Gid) → IsOpenedWant start told gid want → gid ≢ star
        → goes_on_in start (history_of told) gid ≡ false → (image : Files) → new.may_leave image
        → Holds start (t ∷ told) (t ∷ told) gid want new.seen image
    now_other gid is apart gone image there later cut =
        let own_gid = own_of start (history_of (t ∷ told)) gid in
        let complete = is_completed_in (history_of (t ∷ told)) gid in
        let halts = halted laws handed start told t legal may gid gone in
        let before : (p : ℕ) → is_piece_promised complete own_gid p ≡ true → Listed p =
        λ p promised. listed_by gid is p
        (sym (halted_promised p (is_completed_in (history_of told) gid) halts.more (own_of start (history_of told) gid) halts.halts)
        ∙ (ap (λ (l : List OwnEvent). is_piece_promised (is_completed_in (history_of told) gid) l p) (sym halts.is)
        ∙ (ap (λ (c : Bool). is_piece_promised c own_gid p) (sym (completed laws handed start told t legal may gid gone)) ∙ promised))) in
        ⊎_elim
        (λ (held : IsHeldByEither want (saved_listing want own) (listing_in total len own) new.seen image).
        inl (gives_pieces start (t ∷ told) gid want later own_gid complete image (reopened_by gid is apart)
        (λ p promised. held_gives_listed image held p (before p promised))))
        (λ (whole : IsDoneIn start (history_of (t ∷ told)) star × IsFinished want new.seen image).
        inr (
          done_then whole.0 gid (inr (inr (asked gid is apart))),
          stands_whole want own_gid complete new.seen image whole.1
              (λ listed p promised. digest_then sound listed p (listed_then p (before p promised))),
        )) (left.images image there)
