-- What is held of an opened download keeps its promises.
use Rattle.std.specs.Prelude.{◌≡◌, ◌⊎◌, ℕ, Bool, true, false, Some, List, ◌++◌, slice_get}
use Rattle.dl_disk.specs.Files.{Files}
use Rattle.control_file.specs.Wants.{IsWant, IsListedWant}
use Rattle.control_file.specs.declared.want.Want.{Want}
use Rattle.dl_history.specs.Listings.{last_listing, listing_in}
use Rattle.dl_history.specs.OwnEvents.{OwnEvent}
use Rattle.dl_history.specs.OwnLegal.{LegalOwn}
use Rattle.dl_history.specs.PayloadParts.{is_opened, is_verified_in}
use Rattle.resume_core.specs.Resume.{HasDigest}
use Rattle.resume_core.specs.Steps.{SameFor, IsFinished}
use Rattle.resume_core.specs.Wants.{files_in}
use Rattle.durable_progress.specs.Held.{GivesListing, IsHeld}
use Rattle.durable_progress.specs.Promises.{GivesPromised, HoldsPromised, StandsWhole, is_piece_saved, is_block_promised}

-- a legal history of the want's download, which is opened
pub record IsOpenedOwn (want : Want) (own : List OwnEvent) : Type 0 where
  pub want_is : IsWant want
  pub legal : LegalOwn want.plan.total want.plan.piece_len own
  pub opened : is_opened own ≡ true

-- each saved piece, and each promised block, is listed by the last save, that of later events
abbrev pub SavedAreListed : Type 0
SavedAreListed =
    (want : Want) (later own : List OwnEvent) (p : ℕ) → IsOpenedOwn want (later ++ own) → is_piece_saved own p ≡ true
    → slice_get (last_listing want.plan.total want.plan.piece_len (later ++ own)).pieces p ≡ Some true

abbrev pub PromisedAreListed : Type 0
PromisedAreListed =
    (want : Want) (later own : List OwnEvent) (b : ℕ) → IsOpenedOwn want (later ++ own)
    → is_block_promised want.plan.piece_len later own b ≡ true
    → slice_get (last_listing want.plan.total want.plan.piece_len (later ++ own)).blocks b ≡ Some true

-- and so is each piece that an earlier listing had
abbrev pub ListedPiecesStay : Type 0
ListedPiecesStay =
    (want : Want) (later own : List OwnEvent) (p : ℕ) → IsOpenedOwn want (later ++ own)
    → slice_get (last_listing want.plan.total want.plan.piece_len own).pieces p ≡ Some true
    → slice_get (last_listing want.plan.total want.plan.piece_len (later ++ own)).pieces p ≡ Some true

-- so an image that is held by it gives what is promised
abbrev pub HeldGivePromised : Type 0
HeldGivePromised =
    (want : Want) (later own : List OwnEvent) (seen image : Files) → IsOpenedOwn want (later ++ own)
    → IsHeld want (last_listing want.plan.total want.plan.piece_len (later ++ own)) seen image
    → GivesPromised want later own false false image

-- so does one that gives what the last save lists, or what a save would list now
abbrev pub ListingsGivePromised : Type 0
ListingsGivePromised =
    (want : Want) (later own : List OwnEvent) (image : Files) → IsOpenedOwn want (later ++ own)
    → GivesListing want (last_listing want.plan.total want.plan.piece_len (later ++ own)) image
    ⊎ GivesListing want (listing_in want.plan.total want.plan.piece_len (later ++ own)) image
    → GivesPromised want later own false false image

-- what a history promised is promised by a longer one, for whatever comes later still
pub record AreStillPromised (len : ℕ) (later more own : List OwnEvent) : Type 0 where
  pub pieces : (p : ℕ) → is_piece_saved own p ≡ true → is_piece_saved (more ++ own) p ≡ true
  pub blocks : (b : ℕ) → is_block_promised len (later ++ more) own b ≡ true
      → is_block_promised len later (more ++ own) b ≡ true

abbrev pub PromisesStay : Type 0
PromisesStay =
    (want : Want) (later more own : List OwnEvent) → IsOpenedOwn want (more ++ own)
    → AreStillPromised want.plan.piece_len later more own

-- once it completed, the payload stands without its control file, and the promised pieces are verified
abbrev pub FinishedStandWhole : Type 0
FinishedStandWhole =
    (want : Want) (own : List OwnEvent) (seen image : Files) → IsOpenedOwn want own
    → (IsListedWant want → (p : ℕ) → is_verified_in own p ≡ true → HasDigest want (files_in want seen) p)
    → IsFinished want seen image → StandsWhole want own true seen image

-- what leaves the want's files as they were, there and in what is read, keeps them
abbrev pub SameKeepPromises : Type 0
SameKeepPromises =
    (want : Want) (later own : List OwnEvent) (complete again verified : Bool) (was now before image : Files)
    → SameFor want before image → SameFor want was now
    → HoldsPromised want later own complete again verified was before
    → HoldsPromised want later own complete again verified now image
