-- An image with a new control file gives what it lists.
use Rattle.std.proofs.Common.{◌≡◌, inl, inr, ⊎_elim, ℕ, Bool, true, ◌&&◌, List, Some, eq-eqb, refl, ap, ◌∙◌}
use Rattle.std.proofs.lemmas.Slice.Eq.{bytes_eq-Decides}
use Rattle.std.specs.Str.{bytes_eq}
use Rattle.dl_disk.specs.Files.{Files}
use Rattle.dl_kinds.specs.Plan.{piece_of}
use Rattle.payload_files.specs.Payload.{HasFiles}
use Rattle.control_file.specs.Laws.{WrittenIsReadBack}
use Rattle.control_file.specs.Spelling.{control_bytes}
use Rattle.control_file.specs.declared.control.Control.{Control}
use Rattle.control_file.specs.declared.fields.ByteOrder.TheVariants.{Big}
use Rattle.control_file.specs.declared.want.Want.{Want}
use Rattle.resume_core.specs.Found.{Used, is_control_of, judged, found, found_in}
use Rattle.resume_core.specs.Listing.{IsListingOf, GivesJust, MatchesListed}
use Rattle.resume_core.specs.Resume.{Sound, Agrees}
use Rattle.resume_core.specs.Steps.{IsSaved}
use Rattle.control_file.specs.Wants.{IsWant}
use Rattle.resume_core.proofs.Reaching.{reach_piece, reach_block}

all_three : (a b c : Bool) → a ≡ true → b ≡ true → c ≡ true → (a && b && c) ≡ true
all_three a b c p q r = rw (p, q, r) refl

same_bytes : (a b : List ℕ) → a ≡ b → bytes_eq a b ≡ true
same_bytes a b same = (bytes_eq-Decides a b).1 same

pub listing_is_of : (want : Want) (control : Control) → IsListingOf want control → is_control_of want control ≡ true
listing_is_of want control listing =
    all_three _ _ _ (same_bytes _ _ listing.hash) (eq-eqb _ _ listing.piece_len) (eq-eqb _ _ listing.total)

pub written_is_used : WrittenIsReadBack → (want : Want) (control : Control) → IsListingOf want control
    → found want (Some (control_bytes Big control)) ≡ Used control
written_is_used back want control listing =
    ap (judged want) (back control listing.rules) ∙ rw (listing_is_of want control listing) refl

pub agrees_saved : (want : Want) (bytes : List ℕ) (seen image : Files) → IsSaved want bytes seen image
    → Agrees want seen image
agrees_saved want bytes seen image saved block gives i below = rw saved.files refl

module _ (back : WrittenIsReadBack) (want : Want) (control : Control) (seen image : Files) (is : IsWant want)
    (listing : IsListingOf want control) (has : HasFiles want.dir want.layout seen)
    (saved : IsSaved want (control_bytes Big control) seen image) where
  used : found_in want image ≡ Used control
  used = ap (found want) saved.control ∙ written_is_used back want control listing

  pub gives_just : GivesJust want control image
  gives_just = record {
    pieces = λ piece. rw (used, saved.files) (
      λ gives. ⊎_elim (λ lists. lists) (λ hashed. absurd hashed) gives.1,
      λ lists. (reach_piece want is seen has piece, inl lists),
    );
    blocks = λ block. rw (used, saved.files) (
      λ gives. ⊎_elim (λ of_piece. inl (of_piece.0, ⊎_elim (λ lists. lists) (λ hashed. absurd hashed) of_piece.1.1))
          (λ in_flight. inr in_flight.1) gives,
      λ lists. ⊎_elim (λ of_piece. inl
          (of_piece.0, (reach_piece want is seen has (piece_of want.plan.piece_len block), inl of_piece.1)))
          (λ in_flight. inr (reach_block want is seen has block, in_flight)) lists,
    );
  }

  pub sound_saved : MatchesListed want control seen → Sound want image
  sound_saved right = record {
    right = λ listed piece gives. rw saved.files (right listed piece ((gives_just.pieces piece).0 gives));
    pieces = λ piece lists. rw saved.files (reach_piece want is seen has piece);
    blocks = λ block lists. rw saved.files (reach_block want is seen has block);
  }
