-- What is kept of one download on the disk while calls are made for others.
use Rattle.std.proofs.Common.{◌≡◌, ◌≤◌, inl, inr, ⊎_elim, ℕ, false, Option, List, sym, subst, arith}
use Rattle.std.specs.Prelude.{IsSome}
use Rattle.control_file.specs.Wants.{IsWant}
use Rattle.control_file.specs.declared.want.Want.{Want}
use Rattle.dl_disk.specs.Files.{Files}
use Rattle.dl_disk.specs.Passes.{since_split}
use Rattle.dl_disk.specs.State.{DiskState, LeftSince}
use Rattle.dl_history.specs.Listings.{Listing, listing_in}
use Rattle.dl_history.specs.OwnEvents.{OwnEvent}
use Rattle.durable_progress.specs.Held.{GivesListing}
use Rattle.resume_core.specs.Openings.{KeepsBesides}
use Rattle.resume_core.specs.Resume.{AreSound}
use Rattle.resume_core.specs.Sharing.{share_names}
use Rattle.resume_core.specs.Steps.{SameBesides, SameFor}
use Rattle.resume_core.proofs.Same.{give_same, sound_same}
use Rattle.stored_run.specs.RunFollows.{RunFollows}
use Rattle.stored_run.specs.Steps.{GivesSaved, KeepsStored, StoresOn}
use Rattle.stored_run.specs.Stored.{IsStored, saved_listing}
use Rattle.stored_run.proofs.Doing.{IsGrown, between_from, between_to, stores_none}

-- ---- images with the same files of a want

listing_same : (want : Want) (listing : Listing) (a b : Files) → SameFor want a b → GivesListing want listing a
    → GivesListing want listing b
listing_same want listing a b same gives =
    let both = give_same want a b same in
    record {
      pieces = λ piece. (
        λ is. (gives.pieces piece).0 ((both.pieces piece).0 is),
        λ is. (both.pieces piece).1 ((gives.pieces piece).1 is),
      );
      blocks = λ block. (
        λ is. (gives.blocks block).0 ((both.blocks block).0 is),
        λ is. (both.blocks block).1 ((gives.blocks block).1 is),
      );
    }

saved_same : (want : Want) (own : List OwnEvent) (a b : Files) → SameFor want a b → GivesSaved want own a
    → GivesSaved want own b
saved_same want own a b same gives =
    ⊎_elim
    (λ (last : GivesListing want (saved_listing want own) a).
    inl (listing_same want (saved_listing want own) a b same last))
    (λ (now : GivesListing want (listing_in want.plan.total want.plan.piece_len own) a).
    inr (listing_same want (listing_in want.plan.total want.plan.piece_len own) a b same now))
    gives

-- ---- calls for another download

module _ (laws : RunFollows) (other want : Want) (was own : List OwnEvent) (a b c : DiskState)
    (apart : share_names other want ≡ false) (later : a.moment ≤ b.moment) (front : KeepsStored want was own a b)
    (besides : KeepsBesides other b c) where
  -- an image since then has the want's files of one before
  kept_late : (image : Files) → LeftSince c b.moment image
      → (before : Files) × LeftSince b a.moment before × SameFor want before image
  kept_late image left =
      let from = besides.passes.images left.0 image left.1 left.2 left.3 in (
        from.0,
        (b.moment, later, omega arith, (b.now_left from.0).1 from.1),
        laws.files other want from.0 image (record { apart = apart; besides = from.2 }),
      )

  pub keeps_beside : KeepsStored want was own a c
  keeps_beside = record {
    images = λ image left. ⊎_elim (λ (early : LeftSince b a.moment image). front.images image early)
        (λ (late : LeftSince c b.moment image).
        let from = kept_late image late in
        let gives = front.images from.0 from.1 in
        (gives.0, gives.1, saved_same want gives.0 from.0 image from.2 gives.2))
        (since_split (SameBesides other) a.moment b c besides.passes image left);
    sound = λ sound image left. ⊎_elim (λ (early : LeftSince b a.moment image). front.sound sound image early)
        (λ (late : LeftSince c b.moment image).
        let from = kept_late image late in
        sound_same want from.0 image from.2 (front.sound sound from.0 from.1))
        (since_split (SameBesides other) a.moment b c besides.passes image left);
    control =
        let same = laws.files other want b.seen c.seen (record { apart = apart; besides = besides.seen }) in
        subst (λ (o : Option (List ℕ)). IsSome o) (sym same.control) front.control;
  }

-- ---- calls for the download itself

module _ (want : Want) (was mid own : List OwnEvent) (a b c : DiskState) (first : IsGrown was mid)
    (second : IsGrown mid own) (later : a.moment ≤ b.moment) (front : KeepsStored want was mid a b)
    (stored : IsStored want mid b) (back : StoresOn want mid own b c) where
  between_sound : AreSound want a.seen a.may_leave → AreSound want b.seen b.may_leave
  between_sound sound image left = (
    front.sound sound image (b.moment, later, omega arith, (b.now_left image).1 left),
    (stored.held image left).agrees,
  )

  pub keeps_on : KeepsStored want was own a c
  keeps_on = record {
    images = λ image left. ⊎_elim
        (λ (early : LeftSince b a.moment image).
        let gives = front.images image early in
        (gives.0, between_to was gives.0 mid own second gives.1, gives.2))
        (λ (late : LeftSince c b.moment image).
        let gives = (back.kept stored).images image late in
        (gives.0, between_from was mid gives.0 own first gives.1, gives.2))
        (since_split (SameBesides want) a.moment b c back.besides.passes image left);
    sound = λ sound image left. ⊎_elim
        (λ (early : LeftSince b a.moment image). front.sound sound image early)
        (λ (late : LeftSince c b.moment image). (back.kept stored).sound (between_sound sound) image late)
        (since_split (SameBesides want) a.moment b c back.besides.passes image left);
    control = (back.kept stored).control;
  }

-- ---- events alone

-- from an earlier history
pub keeps_from : (want : Want) (was mid own : List OwnEvent) (a c : DiskState) → IsGrown was mid
    → KeepsStored want mid own a c → KeepsStored want was own a c
keeps_from want was mid own a c grown keeps = record {
  images = λ image left.
      let gives = keeps.images image left in (gives.0, between_from was mid gives.0 own grown gives.1, gives.2);
  sound = keeps.sound;
  control = keeps.control;
}

-- no call of the disk
pub keeps_none : RunFollows → (want : Want) (was own : List OwnEvent) (disk : DiskState) → IsWant want → IsGrown was own
    → IsStored want was disk → KeepsStored want was own disk disk
keeps_none laws want was own disk is grown stored = (stores_none laws.give want was own disk is grown).kept stored
