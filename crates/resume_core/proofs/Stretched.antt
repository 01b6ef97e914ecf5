-- Under a control file that stands, files that get their lengths give what they gave.
use Rattle.std.proofs.Common.{◌≡◌, inl, inr, ⊎_elim, ℕ, ◌+◌, ◌*◌, arith, List, Option, Some, sym, subst, ap, ◌∙◌}
use Rattle.std.specs.Prelude.{IsSome}
use Rattle.payload_files.specs.Changes.{Stretches}
use Rattle.sha1.specs.Sha1.{sha1}
use Rattle.dl_disk.specs.Files.{Files}
use Rattle.dl_kinds.specs.Plan.{piece_start, piece_end, block_start, block_end, piece_of, place_of}
use Rattle.dl_kinds.specs.declared.plan.TheConstants.{BLOCK_LEN}
use Rattle.control_file.specs.declared.want.Want.{Want}
use Rattle.resume_core.specs.Found.{Found, Absent, Refused, Used, ControlStands, found, found_in, ListsPiece, ListsInFlight}
use Rattle.resume_core.specs.Resume.{PieceResumed, BlockResumed, ResumesPiece, ResumesBlock, IsHashed, ReachesPiece, ReachesBlock, Sound, GiveSame, Agrees, byte_at}
use Rattle.resume_core.specs.StretchLaws.{StretchedUnder}
use Rattle.resume_core.specs.Wants.{control_name, files_in}
use Rattle.resume_core.proofs.Apart.{control_other}
use Rattle.resume_core.proofs.Stretching.{kept, reach_kept, bytes_kept}

-- a block that is given lies within the files
pub block_reached : (want : Want) (f : Found) (contents : List (Option (List ℕ))) (block : ℕ)
    → BlockResumed want f contents block
    → ReachesBlock want contents block
block_reached want f contents block gives i below = ⊎_elim
    (λ of_piece.
    let piece = piece_of want.plan.piece_len block in
    let place = place_of want.plan.piece_len block * BLOCK_LEN in
    let start = piece_start want.plan.piece_len piece in
    let at : start + (place + i) ≡ block_start want.plan.piece_len block + i = omega arith in
    subst (λ (n : ℕ). IsSome (byte_at want.layout contents n)) at (of_piece.1.0 (place + i) (omega (arith, below))))
    (λ in_flight. in_flight.0 i below)
    gives

-- where a control file stands nothing is given by digests
no_hash : (want : Want) (f : Found) (contents : List (Option (List ℕ))) (piece : ℕ) → ControlStands f
    → IsHashed want f contents piece → ⊥
no_hash want Absent contents piece stands hashed = stands
no_hash want Refused contents piece stands hashed = hashed
no_hash want (Used control) contents piece stands hashed = hashed

module _ (want : Want) (old new : Files) (under : StretchedUnder want old new) where
  control : new (control_name want) ≡ old (control_name want)
  control = under.files.others (control_name want) (control_other want under.want_is)

  same_found : found_in want new ≡ found_in want old
  same_found = ap (found want) control

  piece_reach : (piece : ℕ) → ReachesPiece want (files_in want old) piece → ReachesPiece want (files_in want new) piece
  piece_reach piece = reach_kept want old new under.files (piece_start want.plan.piece_len piece)
      (piece_end want.plan.total want.plan.piece_len piece)

  block_reach : (block : ℕ) → ReachesBlock want (files_in want old) block → ReachesBlock want (files_in want new) block
  block_reach block = reach_kept want old new under.files (block_start want.plan.piece_len block)
      (block_end want.plan.total want.plan.piece_len block)

  given : (piece : ℕ) → PieceResumed want (found_in want old) (files_in want old) piece
      → PieceResumed want (found_in want old) (files_in want new) piece
  given piece gives = (
    piece_reach piece gives.0,
    ⊎_elim
        (λ lists. inl lists)
        (λ hashed. absurd (no_hash want (found_in want old) (files_in want old) piece under.stands hashed)) gives.1,
  )

  block_given : (block : ℕ) → BlockResumed want (found_in want old) (files_in want old) block
      → BlockResumed want (found_in want old) (files_in want new) block
  block_given block gives = ⊎_elim
      (λ of_piece. inl (of_piece.0, given (piece_of want.plan.piece_len block) of_piece.1))
      (λ in_flight. inr (block_reach block in_flight.0, in_flight.1))
      gives

  pub still_piece : (piece : ℕ) → ResumesPiece want old piece → ResumesPiece want new piece
  still_piece piece gives = subst (λ (f : Found). PieceResumed want f (files_in want new) piece) (sym same_found)
      (given piece gives)

  pub still_block : (block : ℕ) → ResumesBlock want old block → ResumesBlock want new block
  still_block block gives = subst (λ (f : Found). BlockResumed want f (files_in want new) block) (sym same_found)
      (block_given block gives)

  -- and nothing more, where the image was sound
  module _ (sound : Sound want old) where
    listed_before : (piece : ℕ) → ResumesPiece want new piece → ListsPiece (found_in want old) piece
    listed_before piece gives = ⊎_elim
        (λ lists. subst (λ (f : Found). ListsPiece f piece) same_found lists)
        (λ hashed. absurd (no_hash want (found_in want old) (files_in want new) piece under.stands
        (subst (λ (f : Found). IsHashed want f (files_in want new) piece) same_found hashed))) gives.1

    was_piece : (piece : ℕ) → ResumesPiece want new piece → ResumesPiece want old piece
    was_piece piece gives = let lists = listed_before piece gives in (sound.pieces piece lists, inl lists)

    was_block : (block : ℕ) → ResumesBlock want new block → ResumesBlock want old block
    was_block block gives = ⊎_elim
        (λ of_piece. inl (of_piece.0, was_piece (piece_of want.plan.piece_len block) of_piece.1))
        (λ in_flight.
        let lists = subst (λ (f : Found). ListsInFlight want.plan.piece_len f block) same_found in_flight.1 in
        inr (sound.blocks block lists, lists))
        gives

    pub gives_the_same : GiveSame want old new
    gives_the_same = record {
      pieces = λ piece. (was_piece piece, still_piece piece);
      blocks = λ block. (was_block block, still_block block);
    }

    pub sound_still : Sound want new
    sound_still = record {
      right = λ listed piece gives.
          let before = was_piece piece gives in
          sound.right listed piece before
          ∙ ap (λ (bytes : List ℕ). Some (sha1 bytes))
          (sym (bytes_kept want old new under.files (piece_start want.plan.piece_len piece)
          (piece_end want.plan.total want.plan.piece_len piece) before.0));
      pieces = λ piece lists. piece_reach piece
          (sound.pieces piece (subst (λ (f : Found). ListsPiece f piece) same_found lists));
      blocks = λ block lists. block_reach block
          (sound.blocks block (subst (λ (f : Found). ListsInFlight want.plan.piece_len f block) same_found lists));
    }

    pub agrees_still : (was now : Files) → Stretches want.dir want.layout was now → Agrees want was old
        → Agrees want now new
    agrees_still was now change agrees block gives i below =
        let before = was_block block gives in
        let there = block_reached want (found_in want old) (files_in want old) block before i below in
        let at = block_start want.plan.piece_len block + i in
        let same = agrees block before i below in
        kept want old new under.files at there ∙ same
        ∙ sym (kept want was now change at (subst (λ (o : Option ℕ). IsSome o) same there))
