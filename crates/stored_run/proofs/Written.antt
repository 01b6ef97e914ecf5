-- A write of a run of open blocks: what it leaves stored.
use Rattle.std.proofs.Common.{◌≡◌, ◌≢◌, ◌⊎◌, inl, inr, ⊎_elim, ℕ, ◌<◌, ◌≤◌, ◌+◌, ◌-◌, true, false, Option, Some, List, [], ◌++◌, map, refl, sym, ap, ◌∙◌, arith}
use Rattle.std.specs.Prelude.{nat_le, nat_lt, unwrap_or}
use Rattle.std.specs.List.{range_with_len}
use Rattle.std.proofs.lemmas.Bool.{cases_lt, le-leb, lt-ltb}
use Rattle.std.proofs.lemmas.List.{same_lists}
use Rattle.std.proofs.lemmas.List.FromFn.{get_or-map-range_with_len, length-map-range_with_len}
use Rattle.sha1.specs.Sha1.{sha1}
use Rattle.control_file.specs.Wants.{IsWant}
use Rattle.control_file.specs.declared.want.Want.{Want}
use Rattle.dl_disk.specs.Files.{Files}
use Rattle.dl_disk.specs.State.{DiskState}
use Rattle.dl_history.specs.OwnEvents.{OwnEvent}
use Rattle.dl_history.specs.OwnLegal.{LegalOwn, MayLand}
use Rattle.dl_history.specs.PayloadParts.{is_landed_in, is_verified_in}
use Rattle.dl_history.proofs.Bools.{and_both, true_not_false}
use Rattle.dl_kinds.specs.Plan.{blocks_of, piece_end, piece_of, piece_start}
use Rattle.dl_kinds.specs.PlanLaws.{BlocksAreOfPieces, BlocksFollow}
use Rattle.dl_kinds.specs.declared.runs.Run.{Run}
use Rattle.durable_progress.specs.HeldLaws.{ListsNoneOf}
use Rattle.durable_progress.specs.HeldSteps.{StaysHeld}
use Rattle.payload_files.specs.Payload.{HasFiles}
use Rattle.piece_table.specs.Changes.{is_in}
use Rattle.resume_core.specs.Openings.{KeepsBesides}
use Rattle.resume_core.specs.Resume.{HasDigest, byte_at, piece_payload}
use Rattle.resume_core.specs.Runs.{IsBlockOf, TornRun, run_len}
use Rattle.resume_core.specs.States.{StaysSound}
use Rattle.resume_core.specs.Wants.{files_in}
use Rattle.resume_core.proofs.Reaching.{reach_piece}
use Rattle.resume_core.proofs.RunBytes.{IsInPiece, block_in_run, one_piece, piece_of_block, run_has_bytes}
use Rattle.resume_core.proofs.Tearing.{byte_same}
use Rattle.span_map.specs.Jobs.{IsRun, run_end, run_start}
use Rattle.stored_run.specs.RunFollows.{RunFollows}
use Rattle.stored_run.specs.Steps.{StoresOn}
use Rattle.stored_run.specs.Stored.{IsStored, saved_listing}
use Rattle.stored_run.proofs.Doing.{held_control}
use Rattle.stored_run.proofs.Own.{verified_within}
use Rattle.stored_run.proofs.Unlisted.{unlanded_unlisted}

-- ---- the bytes of other pieces

module _ (follow : BlocksFollow) (want : Want) (run : Run) (old new : Files) (is : IsWant want)
    (is_run : IsRun want.plan run) (tears : TornRun want run old new) (files : HasFiles want.dir want.layout old) where
  -- no block of the run is one of the piece
  abbrev IsApart : ℕ → Type 0
  IsApart p = (b : ℕ) → IsBlockOf run b → piece_of want.plan.piece_len b ≢ p

  outside : (p i : ℕ) → IsApart p → IsInPiece want.plan.total want.plan.piece_len p i
      → (i < run_start want.plan run) ⊎ (run_start want.plan run + run_len want.plan run ≤ i)
  outside p i apart inside = ⊎_elim
      (λ (before : i < run_start want.plan run). inl before)
      (λ (from : run_start want.plan run ≤ i). ⊎_elim
      (λ (within : i < run_end want.plan run).
      let found = block_in_run follow want run is.plan is_run i from within in
      let at = piece_of_block want.plan.total want.plan.piece_len found.0 i found.2 in
      absurd (apart found.0 found.1
      (one_piece want.plan.total want.plan.piece_len (piece_of want.plan.piece_len found.0) p i at inside)))
      (λ (behind : run_end want.plan run ≤ i).
      let some = run_has_bytes follow want run is.plan is_run in inr (omega (arith, some, behind)))
      (cases_lt i (run_end want.plan run)))
      (cases_lt i (run_start want.plan run))

  piece_kept : (p : ℕ) → IsApart p → piece_payload want (files_in want new) p ≡ piece_payload want (files_in want old) p
  piece_kept p apart =
      let start = piece_start want.plan.piece_len p in
      let end = piece_end want.plan.total want.plan.piece_len p in
      let count = end - start in
      let was = λ (i : ℕ). unwrap_or (byte_at want.layout (files_in want old) (start + i)) 0 in
      let now = λ (i : ℕ). unwrap_or (byte_at want.layout (files_in want new) (start + i)) 0 in
      let long_was = length-map-range_with_len was 0 count in
      let long_now = length-map-range_with_len now 0 count in
      same_lists (map now (range_with_len 0 count)) (map was (range_with_len 0 count)) (long_now ∙ sym long_was)
      (λ k d inside.
      let below : k < count = omega (arith, inside, long_now) in
      let in_piece : start + k < end = omega (arith, below) in
      get_or-map-range_with_len now 0 count k k d below (omega arith)
      ∙ ap (λ (o : Option ℕ). unwrap_or o 0)
      (byte_same want.dir old new (run_start want.plan run) (run_len want.plan run) want.layout tears.each (start + k)
      (outside p (start + k) apart (record { from = omega arith; before = in_piece }))
      (reach_piece want is old files p k in_piece))
      ∙ sym (get_or-map-range_with_len was 0 count k k d below (omega arith)))

  pub digest_kept : (p : ℕ) → IsApart p → HasDigest want (files_in want old) p → HasDigest want (files_in want new) p
  digest_kept p apart has = has ∙ ap (λ (bytes : List ℕ). Some (sha1 bytes)) (sym (piece_kept p apart))

-- ---- blocks that may land

pub is_in_run : (run : Run) (b : ℕ) → IsBlockOf run b → is_in b run ≡ true
is_in_run run b of_run =
    and_both (nat_le run.first b) (nat_lt b (run.first + run.count)) (le-leb run.first b of_run.from)
    (lt-ltb b (run.first + run.count) of_run.before)

module _ (laws : RunFollows) (follow : BlocksFollow) (of_pieces : BlocksAreOfPieces) (want : Want) (own : List OwnEvent)
    (is : IsWant want) (legal : LegalOwn want.plan.total want.plan.piece_len own) (id mirror : ℕ) (run : Run)
    (may : MayLand own id mirror run) where
  pub block_unlanded : (b : ℕ) → IsBlockOf run b
      → (b < blocks_of want.plan.total want.plan.piece_len) × (is_landed_in want.plan.piece_len own b ≡ false)
  block_unlanded b of_run =
      let un = laws.sound.open_blocks want.plan.total want.plan.piece_len own may.claim b legal may.stands
      (may.open_in b (is_in_run run b of_run)) in
      (un.within, un.unlanded)

  pub landing_run : IsRun want.plan run
  landing_run =
      let last = block_unlanded (run.first + (run.count - 1))
      (let some = may.some in record { from = omega arith; before = omega arith }) in
      let some = may.some in
      let within = last.0 in
      record { some = omega arith; within = omega arith }

  -- no save lists a block of it
  pub landing_unlisted : ListsNoneOf (saved_listing want own) run
  landing_unlisted b of_run =
      let un = block_unlanded b of_run in
      unlanded_unlisted laws.sound laws.accounts of_pieces want.plan.total want.plan.piece_len b is.plan un.0 own legal un.1

  -- and none is of a verified piece
  verified_apart : (p : ℕ) → is_verified_in own p ≡ true → (b : ℕ) → IsBlockOf run b → piece_of want.plan.piece_len b ≢ p
  verified_apart p verified b of_run at =
      let un = block_unlanded b of_run in
      let below = verified_within want.plan.total want.plan.piece_len own p legal verified in
      let full = laws.sound.verified want.plan.total want.plan.piece_len own p is.plan legal below verified in
      true_not_false (is_landed_in want.plan.piece_len own b) (full b un.0 at) un.1

  -- ---- what is stored

  module _ (old new : DiskState) (later : old.moment ≤ new.moment)
      (held : StaysHeld want (saved_listing want own) old new) (tears : TornRun want run old.seen new.seen) where
    pub landing_stored : IsStored want own old → IsStored want own new
    landing_stored stored = record {
      held = λ image left. held stored.held image (new.moment, later, omega arith, (new.now_left image).1 left);
      right = λ listed p verified. ⊎_elim (λ there. inl there)
          (λ has. inr (digest_kept follow want run old.seen new.seen is landing_run tears
          (stored.held old.seen old.own_image).files p (verified_apart p verified) has))
          (stored.right listed p verified);
    }

    pub stores_landing : (more : List OwnEvent) → KeepsBesides want old new → StaysSound want old new
        → StoresOn want own (more ++ own) old new
    stores_landing more besides sound = record {
      besides = besides;
      kept = λ stored. record {
        images = λ image left. (
          own,
          record { first = []; from = refl; rest = more; to = refl },
          inl (laws.give want (saved_listing want own) new.seen image is (held stored.held image left)),
        );
        sound = λ all image left. (sound all image left).0;
        control = held_control want (saved_listing want own) new.seen new.seen
            (held stored.held new.seen (new.moment, later, omega arith, (new.now_left new.seen).1 new.own_image));
      };
    }
