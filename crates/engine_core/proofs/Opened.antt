-- A turn that has the store open a download.
use Rattle.std.proofs.Common.{◌≡◌, ⊎_elim, inl, inr, ℕ, Bool, true, false, List, [], ◌∷◌, ◌++◌, Option, Some, None, length, refl, sym, ap, arith, ◌∙◌, subst}
use Rattle.std.specs.Prelude.{◌⊎◌, ◌≤◌, ◌<◌, ◌≢◌, IsSome, IsSomeAnd, if◌then◌else◌, is_some, option_map}
use Rattle.std.proofs.lemmas.List.Elements.{All-head}
use Rattle.control_file.specs.Wants.{IsListedWant, IsWant}
use Rattle.control_file.specs.declared.want.Want.{Want}
use Rattle.dl_disk.specs.Files.{Files}
use Rattle.dl_disk.specs.State.{DiskState, LeftSince}
use Rattle.dl_kinds.specs.declared.gid.Gid.{Gid}
use Rattle.dl_kinds.specs.declared.runs.Moment.{Moment}
use Rattle.dl_history.specs.OwnEvents.{OwnEvent, Opens}
use Rattle.dl_history.specs.OwnLegal.{LegalOwn}
use Rattle.dl_history.specs.PayloadParts.{is_opened, is_verified_in}
use Rattle.durable_progress.specs.Promises.{StandsWhole, is_piece_promised}
use Rattle.durable_progress.proofs.Promised.{listed_verified, verified_later}
use Rattle.machine_core.specs.DownloadWants.{HasWant}
use Rattle.machine_core.specs.OwnParts.{own_of}
use Rattle.machine_core.specs.RunLegal.{IsLegal, goes_on_in}
use Rattle.machine_core.specs.Starts.{RunStart}
use Rattle.engine_turns.specs.RunTurns.{MayComeAfter}
use Rattle.engine_turns.specs.Told.{RunTurn, history_of}
use Rattle.engine_turns.specs.TurnLaws.{HandedAreActive}
use Rattle.payload_files.specs.Names.{name_of}
use Rattle.payload_files.specs.Payload.{HasFiles}
use Rattle.span_map.specs.declared.files.FileLen.{FileLen}
use Rattle.resume_core.specs.Found.{found}
use Rattle.resume_core.specs.Lens.{first_len, lens_in, lens_of_files}
use Rattle.control_file.specs.declared.want.Opened.{Opened}
use Rattle.resume_core.specs.Openings.{ComesOfBefore, GivesSeen, OpensJust, OpensPiece}
use Rattle.resume_core.specs.Refusals.{open_refusal, refused_over}
use Rattle.resume_core.specs.Resume.{AreSound, HasDigest, PieceResumed, ResumesPiece}
use Rattle.resume_core.specs.Wants.{control_name, files_in}
use Rattle.resume_core.specs.declared.refusing.OpenErr.TheVariants.{Exists}
use Rattle.resume_core.proofs.Reaching.{reach_piece}
use Rattle.stored_run.specs.RunFollows.{RunFollows}
use Rattle.stored_run.specs.Steps.{IsLeftStored, IsLeftWhole}
use Rattle.stored_run.specs.Views.{IsDoneIn}
use Rattle.stored_run.proofs.Own.{own_legal, verified_within}
use Rattle.engine_core.specs.Askings.{Asks, IsDoneSince, IsOpenedWant, IsReopened, is_completed_in}
use Rattle.engine_core.specs.Durable.{AllHold, GivesSaves, Holds}
use Rattle.engine_core.proofs.Keeping.{holds_after, holds_before}
use Rattle.engine_core.proofs.LeftOver.{gives_pieces, promised_verified, stands_whole, stored_gives}
use Rattle.engine_core.proofs.Promising.{gives_same, want_later}

-- what the disk's files gave was opened, and from the image an opening gives what a save lists since, or would list
pub record IsFoundLeft (compared : Bool) (want : Want) (now : Moment) (was own : List OwnEvent) (before : DiskState) (image : Files)
    : Type 0 where
  pub opened : Opened
  pub just : OpensJust compared want before.seen opened
  pub stored : IsLeftStored want (Opens opened.verified opened.blocks now ∷ was) own image

-- it was opened with just what the disk's files gave
pub record IsFoundOpened (compared : Bool) (want : Want) (now : Moment) (was own : List OwnEvent) (before : DiskState) : Type 0
  where
    pub opened : Opened
    pub just : OpensJust compared want before.seen opened
    pub later : List OwnEvent
    pub cut : own ≡ later ++ Opens opened.verified opened.blocks now ∷ was

-- ---- whole files without a control file

some_first : (o : Option (List ℕ)) (n : ℕ) (rest : List (Option ℕ)) → IsSomeAnd o (λ bytes. length bytes ≡ n)
    → (len : ℕ) × (first_len (option_map length o ∷ rest) ≡ Some len)
some_first None n rest is = absurd is
some_first (Some bytes) n rest is = (length bytes, refl)

first_stands : (dir : List ℕ) (files : List FileLen) (seen : Files) → files ≢ [] → HasFiles dir files seen
    → (len : ℕ) × (first_len (lens_of_files dir files seen) ≡ Some len)
first_stands dir [] seen some has = absurd (some refl)
first_stands dir (file ∷ files) seen some has =
    some_first (seen (name_of dir file.path)) file.len (lens_of_files dir files seen)
    (All-head (λ (f : FileLen). IsSomeAnd (seen (name_of dir f.path)) (λ bytes. length bytes ≡ f.len)) file files has)

listed_or_not : (o : Option (List ℕ)) → (IsSome o) ⊎ (o ≡ None)
listed_or_not None = inr refl
listed_or_not (Some hash) = inl refl

-- such a payload is in the way of a want without digests
unlisted_refused : {P : Type 0} (want : Want) (seen : Files) → IsWant want → HasFiles want.dir want.layout seen
    → want.info_hash ≡ None → seen (control_name want) ≡ None → open_refusal want seen ≡ None → P
unlisted_refused want seen is whole unlisted gone allowed =
    let standing = first_len (lens_in want seen) in
    let stands = first_stands want.dir want.layout seen is.layout.some whole in
    let none : refused_over want None standing ≡ None =
    subst (λ (o : Option (List ℕ)). refused_over want o standing ≡ None) gone allowed in
    let exists : option_map Exists standing ≡ None =
    subst (λ (o : Option (List ℕ)). (if is_some o then None else option_map Exists standing) ≡ None) unlisted none in
    absurd (let no : Some (Exists stands.0) ≡ None = sym (ap (option_map Exists) stands.1) ∙ exists in cc)

-- ---- the store is asked

module _ (laws : RunFollows) (handed : HandedAreActive) (start : RunStart) (told : List RunTurn) (t : RunTurn)
    (legal : IsLegal start (history_of (t ∷ told))) (legal_was : IsLegal start (history_of told))
    (may : MayComeAfter start told t) (want : Want) (star : Gid) (d new : DiskState) (is_want : IsWant want) (now : Moment)
    (asks : Asks start told t star) (has : HasWant start (history_of told) star want) (compared : Bool)
    (listed_where : compared ≡ true → IsListedWant want) (allowed : open_refusal want d.seen ≡ None)
    (later_moment : d.moment ≤ new.moment) (whole_files : HasFiles want.dir want.layout d.seen)
    (payload : files_in want new.seen ≡ files_in want d.seen)
    (images : (image : Files) → LeftSince new d.moment image
    → ComesOfBefore want d image ⊎ GivesSeen compared want d.seen image
    ⊎ IsFoundLeft compared want now (own_of start (history_of told) star) (own_of start (history_of (t ∷ told)) star) d image
    ⊎ ((is_opened (own_of start (history_of (t ∷ told)) star) ≡ true)
    × IsLeftWhole want (IsDoneIn start (history_of (t ∷ told)) star) (own_of start (history_of (t ∷ told)) star) d new image))
    (opens : is_opened (own_of start (history_of (t ∷ told)) star) ≡ true
    → IsFoundOpened compared want now (own_of start (history_of told) star) (own_of start (history_of (t ∷ told)) star) d)
    (sound : AreSound want d.seen d.may_leave) (holds : AllHold start told want d.seen d.may_leave) where
  abbrev total : ℕ
  total = want.plan.total

  abbrev len : ℕ
  len = want.plan.piece_len

  abbrev was : List OwnEvent
  was = own_of start (history_of told) star

  abbrev own : List OwnEvent
  own = own_of start (history_of (t ∷ told)) star

  has_now : HasWant start (history_of (t ∷ told)) star want
  has_now = want_later laws start told t legal star want has

  own_is_legal : LegalOwn total len own
  own_is_legal = own_legal laws start (history_of (t ∷ told)) star want legal has_now

  -- ---- what an earlier download of the want is promised, its files give

  module _ (gid : Gid) (is : IsOpenedWant start told gid want) where
    abbrev own_gid : List OwnEvent
    own_gid = own_of start (history_of told) gid

    abbrev complete : Bool
    complete = is_completed_in (history_of told) gid

    numbered : (p : ℕ) → is_piece_promised complete own_gid p ≡ true → p < want.plan.pieces
    numbered p promised =
        subst (λ (n : ℕ). p < n) (sym is_want.pieces)
        (verified_within total len own_gid p (own_legal laws start (history_of told) gid want legal_was is.has)
        (promised_verified complete own_gid p promised))

    by_control : (c : Bool) → (c ≡ true → IsListedWant want) → (p : ℕ) → p < want.plan.pieces → ResumesPiece want d.seen p
        → OpensPiece c want d.seen p
    by_control false listed p below resumes = resumes
    by_control true listed p below resumes = record {
      numbered = below;
      reaches = resumes.0;
      digest = (sound d.seen d.own_image).0.right (listed refl) p resumes;
    }

    by_digest : (c : Bool) → IsListedWant want → d.seen (control_name want) ≡ None → (p : ℕ) → p < want.plan.pieces
        → HasDigest want (files_in want d.seen) p → OpensPiece c want d.seen p
    by_digest false listed gone p below digest =
        subst (λ (o : Option (List ℕ)). PieceResumed want (found want o) (files_in want d.seen) p) (sym gone)
        (reach_piece want is_want d.seen whole_files p, inr (listed, below, digest))
    by_digest true listed gone p below digest = record {
      numbered = below;
      reaches = reach_piece want is_want d.seen whole_files p;
      digest = digest;
    }

    found_piece : (p : ℕ) → is_piece_promised complete own_gid p ≡ true → OpensPiece compared want d.seen p
    found_piece p promised = ⊎_elim
        (λ (gives : GivesSaves start told gid want [] own_gid complete d.seen).
        by_control compared listed_where p (numbered p promised) ((gives true (λ again. refl)).pieces p promised))
        (λ (stands : IsDoneSince start told gid want × StandsWhole want own_gid complete d.seen d.seen).
        ⊎_elim
        (λ (listed : IsListedWant want).
        by_digest compared listed stands.1.gone p (numbered p promised) (stands.1.right listed p promised))
        (λ (unlisted : want.info_hash ≡ None).
        unlisted_refused want d.seen is_want whole_files unlisted stands.1.gone allowed)
        (listed_or_not want.info_hash))
        (holds gid is d.seen d.own_image [] refl)

    reopened : IsReopened start (t ∷ told) gid want
    reopened = record { other = star; later = inl (is.opened, asks); has = has_now }

    opened_verified : is_opened own ≡ true → (p : ℕ) → is_piece_promised complete own_gid p ≡ true → is_verified_in own p ≡ true
    opened_verified opened p promised =
        let came = opens opened in
        let first = Opens came.opened.verified came.opened.blocks now ∷ was in
        subst (λ (l : List OwnEvent). is_verified_in l p ≡ true) (sym came.cut)
        (verified_later p came.later first (listed_verified total len p first ((came.just.pieces p).1 (found_piece p promised))))

    -- whatever a crash within the turn leaves
    pub tried_since : (image : Files) → LeftSince new d.moment image → Holds start told (t ∷ told) gid want new.seen image
    tried_since image there = ⊎_elim
        (λ (comes : ComesOfBefore want d image).
        holds_before laws start told t legal gid want new.seen image
        (λ later cut. gives_same start told gid want later own_gid complete d.seen new.seen comes.before image comes.same payload
        (holds gid is comes.before comes.left later cut)))
        (λ more. ⊎_elim
        (λ (gives : GivesSeen compared want d.seen image) later cut.
        inl (gives_pieces start (t ∷ told) gid want later own_gid complete image reopened
        (λ p promised. gives.pieces p (found_piece p promised))))
        (λ ended. ⊎_elim
        (λ (opened : IsFoundLeft compared want now was own d image) later cut.
        let first = Opens opened.opened.verified opened.opened.blocks now ∷ was in
        inl (gives_pieces start (t ∷ told) gid want later own_gid complete image reopened
        (λ p promised. stored_gives want first own own_is_legal image opened.stored p
        ((opened.just.pieces p).1 (found_piece p promised)))))
        (λ (whole : (is_opened own ≡ true) × IsLeftWhole want (IsDoneIn start (history_of (t ∷ told)) star) own d new image) later cut.
        inr (
          record {
            other = star;
            later = inr (inl (is.opened, asks));
            opened = record { opened = whole.0; has = has_now };
            done = whole.1.verified;
          },
          stands_whole want own_gid complete new.seen image whole.1.finished
              (λ listed p promised. whole.1.right sound listed p (opened_verified whole.0 p promised)),
        )) ended) more) (images image there)

    -- and once it is taken
    pub tried_now : goes_on_in start (history_of told) gid ≡ false → (image : Files) → new.may_leave image
        → Holds start (t ∷ told) (t ∷ told) gid want new.seen image
    tried_now gone image there =
        holds_after laws handed start told t legal may gid gone want new.seen image
        (tried_since image (new.moment, later_moment, omega arith, (new.now_left image).1 there))
