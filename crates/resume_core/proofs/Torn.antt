-- A write of a run that an image doesn't give leaves what the image gives.
use Rattle.std.proofs.Common.{◌≡◌, ◌∙◌, inl, inr, ⊎_elim, ℕ, ◌+◌, ◌-◌, ◌*◌, ◌<◌, ◌≤◌, ◌⊎◌, arith, List, map, Option, Some, sym, subst, ap}
use Rattle.std.specs.Prelude.{IsSome, unwrap_or}
use Rattle.std.specs.List.{range_with_len}
use Rattle.std.proofs.lemmas.Bool.{cases_lt}
use Rattle.std.proofs.lemmas.List.{same_lists}
use Rattle.std.proofs.lemmas.List.FromFn.{get_or-map-range_with_len, length-map-range_with_len}
use Rattle.sha1.specs.Sha1.{sha1}
use Rattle.dl_disk.specs.Files.{Files}
use Rattle.dl_kinds.specs.Plan.{piece_start, piece_end, block_start, block_end, piece_of, place_of}
use Rattle.dl_kinds.specs.PlanLaws.{BlocksFollow}
use Rattle.dl_kinds.specs.declared.plan.TheConstants.{BLOCK_LEN}
use Rattle.dl_kinds.specs.declared.runs.Run.{Run}
use Rattle.span_map.specs.Jobs.{run_start, run_end}
use Rattle.payload_files.specs.Payload.{HasFiles}
use Rattle.control_file.specs.declared.want.Want.{Want}
use Rattle.resume_core.specs.Found.{Found, Absent, Refused, Used, found, found_in, ListsPiece, ListsInFlight}
use Rattle.resume_core.specs.Resume.{PieceResumed, BlockResumed, ResumesPiece, ResumesBlock, IsHashed, Reach, piece_payload, ReachesPiece, ReachesBlock, Sound, GiveSame, Agrees, byte_at}
use Rattle.resume_core.specs.RunLaws.{TornUnder}
use Rattle.resume_core.specs.Runs.{IsBlockOf, IsControlUsed, TornRun, ListsWithin, run_len}
use Rattle.control_file.specs.Wants.{IsWant}
use Rattle.resume_core.specs.Wants.{control_name, files_in}
use Rattle.resume_core.proofs.Apart.{control_other}
use Rattle.resume_core.proofs.Reaching.{reach_piece, reach_block}
use Rattle.resume_core.proofs.RunBytes.{IsInBlock, IsInPiece, one_piece, one_block, piece_of_block, run_has_bytes, block_in_run}
use Rattle.resume_core.proofs.Tearing.{byte_same, byte_there}

pub sound_within : (want : Want) (image : Files) → Sound want image → ListsWithin want image
sound_within want image sound = record { pieces = sound.pieces; blocks = sound.blocks }

pub whole_within : (want : Want) (image : Files) → IsWant want → HasFiles want.dir want.layout image
    → ListsWithin want image
whole_within want image is has = record {
  pieces = λ piece lists. reach_piece want is image has piece;
  blocks = λ block lists. reach_block want is image has block;
}

-- a block that is given lies within the files
block_reached : (want : Want) (f : Found) (contents : List (Option (List ℕ))) (block : ℕ)
    → BlockResumed want f contents block
    → ReachesBlock want contents block
block_reached want f contents block gives i below = ⊎_elim
    (λ of_piece.
    let piece = piece_of want.plan.piece_len block in
    let place = place_of want.plan.piece_len block * BLOCK_LEN in
    let start = piece_start want.plan.piece_len piece in
    let at : start + (place + i) ≡ block_start want.plan.piece_len block + i = omega arith in
    subst (λ (n : ℕ). IsSome (byte_at want.layout contents n)) at (of_piece.1.0 (place + i) (omega (arith, below))))
    (λ in_flight. in_flight.0 i below)
    gives

-- where a control file is used nothing is given by digests
no_hash : (want : Want) (f : Found) (contents : List (Option (List ℕ))) (piece : ℕ) → IsControlUsed f
    → IsHashed want f contents piece → ⊥
no_hash want Absent contents piece used hashed = used
no_hash want Refused contents piece used hashed = hashed
no_hash want (Used control) contents piece used hashed = hashed

module _ (follow : BlocksFollow) (want : Want) (run : Run) (old new : Files) (under : TornUnder want run old new) where
  control : new (control_name want) ≡ old (control_name want)
  control = under.tears.others (control_name want) (control_other want under.want_is)

  same_found : found_in want new ≡ found_in want old
  same_found = ap (found want) control

  -- ---- what lies outside of the run

  -- the byte is before the run or behind it
  abbrev IsOutside : ℕ → Type 0
  IsOutside i = (i < run_start want.plan run) ⊎ (run_start want.plan run + run_len want.plan run ≤ i)

  outside_where : (i : ℕ)
      → ((c : ℕ) → IsBlockOf run c → IsInBlock want.plan.total want.plan.piece_len c i → ⊥) → IsOutside i
  outside_where i none = ⊎_elim
      (λ before. inl before)
      (λ from. ⊎_elim
      (λ inside.
      let found = block_in_run follow want run under.want_is.plan under.run_is i from inside in
      absurd (none found.0 found.1 found.2))
      (λ behind.
      let some = run_has_bytes follow want run under.want_is.plan under.run_is in
      inr (omega (arith, some, behind)))
      (cases_lt i (run_end want.plan run)))
      (cases_lt i (run_start want.plan run))

  block_outside : (block i : ℕ) → ResumesBlock want old block → IsInBlock want.plan.total want.plan.piece_len block i
      → IsOutside i
  block_outside block i gives inside = outside_where i
      (λ c of_run in_c.
      let same : block ≡ c = one_block want.plan.total want.plan.piece_len block c i inside in_c in
      under.lacks.blocks c of_run (subst (λ (b : ℕ). ResumesBlock want old b) same gives))

  piece_outside : (piece i : ℕ) → ResumesPiece want old piece → IsInPiece want.plan.total want.plan.piece_len piece i
      → IsOutside i
  piece_outside piece i gives inside = outside_where i
      (λ c of_run in_c.
      let same : piece ≡ piece_of want.plan.piece_len c =
      one_piece want.plan.total want.plan.piece_len piece (piece_of want.plan.piece_len c) i inside
      (piece_of_block want.plan.total want.plan.piece_len c i in_c) in
      under.lacks.blocks c of_run
      (inl (omega (arith, of_run.before, under.run_is.within), subst (λ (p : ℕ). ResumesPiece want old p) same gives)))

  same_byte : (i : ℕ) → IsOutside i → IsSome (byte_at want.layout (files_in want old) i)
      → byte_at want.layout (files_in want new) i ≡ byte_at want.layout (files_in want old) i
  same_byte = byte_same want.dir old new (run_start want.plan run) (run_len want.plan run) want.layout under.tears.each

  reach_kept : (start end : ℕ) → Reach want (files_in want old) start end → Reach want (files_in want new) start end
  reach_kept start end reach i below =
      byte_there want.dir old new (run_start want.plan run) (run_len want.plan run) want.layout under.tears.each
      (start + i) (reach i below)

  piece_reach : (piece : ℕ) → ReachesPiece want (files_in want old) piece → ReachesPiece want (files_in want new) piece
  piece_reach piece = reach_kept (piece_start want.plan.piece_len piece)
      (piece_end want.plan.total want.plan.piece_len piece)

  block_reach : (block : ℕ) → ReachesBlock want (files_in want old) block → ReachesBlock want (files_in want new) block
  block_reach block = reach_kept (block_start want.plan.piece_len block)
      (block_end want.plan.total want.plan.piece_len block)

  -- ---- what was given

  given : (piece : ℕ) → PieceResumed want (found_in want old) (files_in want old) piece
      → PieceResumed want (found_in want old) (files_in want new) piece
  given piece gives = (
    piece_reach piece gives.0,
    ⊎_elim
        (λ lists. inl lists)
        (λ hashed. absurd (no_hash want (found_in want old) (files_in want old) piece under.lacks.used hashed)) gives.1,
  )

  block_given : (block : ℕ) → BlockResumed want (found_in want old) (files_in want old) block
      → BlockResumed want (found_in want old) (files_in want new) block
  block_given block gives = ⊎_elim
      (λ of_piece. inl (of_piece.0, given (piece_of want.plan.piece_len block) of_piece.1))
      (λ in_flight. inr (block_reach block in_flight.0, in_flight.1))
      gives

  pub still_piece : (piece : ℕ) → ResumesPiece want old piece → ResumesPiece want new piece
  still_piece piece gives = subst (λ (f : Found). PieceResumed want f (files_in want new) piece) (sym same_found)
      (given piece gives)

  pub still_block : (block : ℕ) → ResumesBlock want old block → ResumesBlock want new block
  still_block block gives = subst (λ (f : Found). BlockResumed want f (files_in want new) block) (sym same_found)
      (block_given block gives)

  -- and nothing more, where nothing was listed past the end of a file
  module _ (within : ListsWithin want old) where
    listed_before : (piece : ℕ) → ResumesPiece want new piece → ListsPiece (found_in want old) piece
    listed_before piece gives = ⊎_elim
        (λ lists. subst (λ (f : Found). ListsPiece f piece) same_found lists)
        (λ hashed. absurd (no_hash want (found_in want old) (files_in want new) piece under.lacks.used
        (subst (λ (f : Found). IsHashed want f (files_in want new) piece) same_found hashed))) gives.1

    was_piece : (piece : ℕ) → ResumesPiece want new piece → ResumesPiece want old piece
    was_piece piece gives = let lists = listed_before piece gives in (within.pieces piece lists, inl lists)

    was_block : (block : ℕ) → ResumesBlock want new block → ResumesBlock want old block
    was_block block gives = ⊎_elim
        (λ of_piece. inl (of_piece.0, was_piece (piece_of want.plan.piece_len block) of_piece.1))
        (λ in_flight.
        let lists = subst (λ (f : Found). ListsInFlight want.plan.piece_len f block) same_found in_flight.1 in
        inr (within.blocks block lists, lists))
        gives

    pub gives_the_same : GiveSame want old new
    gives_the_same = record {
      pieces = λ piece. (was_piece piece, still_piece piece);
      blocks = λ block. (was_block block, still_block block);
    }

    pub agrees_still : (was now : Files) → TornRun want run was now → Agrees want was old → Agrees want now new
    agrees_still was now change agrees block gives i below =
        let before = was_block block gives in
        let there = block_reached want (found_in want old) (files_in want old) block before i below in
        let at = block_start want.plan.piece_len block + i in
        let same = agrees block before i below in
        let outside = block_outside block at before (record { from = omega arith; before = below }) in
        same_byte at outside there ∙ same
        ∙ sym (byte_same want.dir was now (run_start want.plan run)
        (run_len want.plan run) want.layout change.each at outside
        (subst (λ (o : Option ℕ). IsSome o) same there))

  -- the bytes of a piece that is given
  piece_bytes_kept : (piece : ℕ) → ResumesPiece want old piece
      → piece_payload want (files_in want new) piece ≡ piece_payload want (files_in want old) piece
  piece_bytes_kept piece gives =
      let start = piece_start want.plan.piece_len piece in
      let end = piece_end want.plan.total want.plan.piece_len piece in
      let count = end - start in
      let was = λ (i : ℕ). unwrap_or (byte_at want.layout (files_in want old) (start + i)) 0 in
      let now = λ (i : ℕ). unwrap_or (byte_at want.layout (files_in want new) (start + i)) 0 in
      let long_was = length-map-range_with_len was 0 count in
      let long_now = length-map-range_with_len now 0 count in
      same_lists (map now (range_with_len 0 count)) (map was (range_with_len 0 count)) (long_now ∙ sym long_was)
      (λ k d inside.
      let below : k < count = omega (arith, inside, long_now) in
      let in_piece : start + k < end = omega (arith, below) in
      get_or-map-range_with_len now 0 count k k d below (omega arith)
      ∙ ap (λ (o : Option ℕ). unwrap_or o 0)
      (same_byte (start + k) (piece_outside piece (start + k) gives (record { from = omega arith; before = in_piece }))
      (gives.0 k in_piece))
      ∙ sym (get_or-map-range_with_len was 0 count k k d below (omega arith)))

  pub sound_still : Sound want old → Sound want new
  sound_still sound = record {
    right = λ listed piece gives.
        let before = was_piece (sound_within want old sound) piece gives in
        sound.right listed piece before
        ∙ ap (λ (bytes : List ℕ). Some (sha1 bytes)) (sym (piece_bytes_kept piece before));
    pieces = λ piece lists. piece_reach piece
        (sound.pieces piece (subst (λ (f : Found). ListsPiece f piece) same_found lists));
    blocks = λ block lists. block_reach block
        (sound.blocks block (subst (λ (f : Found). ListsInFlight want.plan.piece_len f block) same_found lists));
  }
