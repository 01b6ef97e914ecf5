-- What is kept since the first mark of a run is kept from the disk on that it was given.
use Rattle.std.proofs.Common.{◌≡◌, ◌⊎◌, ⊎_elim, inl, inr, ℕ, ◌&&◌, true, false, List, [], ◌∷◌, ◌++◌, length, refl, sym, ap, ◌∙◌, subst, arith}
use Rattle.std.specs.Prelude.{IsSome, Option, Some, slice_index_or}
use Rattle.control_file.specs.Wants.{IsListedWant}
use Rattle.control_file.specs.declared.want.Want.{Want}
use Rattle.dl_disk.specs.Files.{Files}
use Rattle.dl_disk.specs.State.{DiskState}
use Rattle.dl_history.specs.PayloadParts.{is_verified_in}
use Rattle.dl_history.proofs.Bools.{or_right}
use Rattle.dl_kinds.specs.declared.gid.Gid.{Gid}
use Rattle.durable_progress.specs.Promises.{is_piece_promised, is_piece_saved}
use Rattle.durable_progress.proofs.Promised.{both_true}
use Rattle.engine_core.specs.Askings.{IsOpenedWant, is_completed_in}
use Rattle.engine_core.specs.Durable.{AllHold, GivesSaves, Holds, IsKeptSince, KeepsSince}
use Rattle.engine_turns.specs.Told.{RunTurn, history_of}
use Rattle.machine_core.specs.OwnParts.{PayloadLengths, own_of}
use Rattle.machine_core.specs.RunLegal.{info_hash_by, known_lengths}
use Rattle.machine_core.specs.Starts.{Download, Listed, RunStart, Subject, Unlisted}
use Rattle.machine_core.specs.Wanted.{wanted_pieces}
use Rattle.metainfo.specs.declared.meta.Meta.{Meta}
use Rattle.resume_core.specs.Resume.{Agrees, AreSound, ReachesPiece, Sound}
use Rattle.resume_core.proofs.Reaching.{reach_piece}
use Rattle.stored_run.specs.RunFollows.{RunFollows}
use Rattle.run_lifecycle.specs.Promises.{HaveDigests, IsRun, IsRightPiece, SurvivesCrash, WasSound}
use Rattle.run_lifecycle.proofs.Completed.{completed_done, completion_found, known_listed, lengths_told}

-- the oldest of some turns
record HasOldest (told : List RunTurn) : Type 0 where
  newer : List RunTurn
  oldest : RunTurn
  is : told ≡ newer ++ oldest ∷ []

oldest_of : (t : RunTurn) (told : List RunTurn) → HasOldest (t ∷ told)
oldest_of t [] = record { newer = []; oldest = t; is = refl }
oldest_of t (u ∷ told) =
    let of = oldest_of u told in
    record { newer = t ∷ of.newer; oldest = of.oldest; is = ap (λ (ts : List RunTurn). t ∷ ts) of.is }

some_turns : (told : List RunTurn) → (told ≡ []) ⊎ HasOldest told
some_turns [] = inl refl
some_turns (t ∷ told) = inr (oldest_of t told)

-- nothing is opened without a turn
none_opened : (start : RunStart) (gid : Gid) (want : Want) → IsOpenedWant start [] gid want → ⊥
none_opened start gid want is = let no : false ≡ true = is.opened in absurd cc

module _ {D : Type 0} (state : D → DiskState) (laws : RunFollows) (start : RunStart) (told : List RunTurn) (given now : D)
    (run : IsRun state start told given now) (want : Want) (was : WasSound start told (state given) want) where
  abbrev pub since : ℕ
  since = (state given).moment

  -- the disk tells of the given moment what the given disk told
  sound_then : AreSound want ((state now).seen_at since) ((state now).left_at since)
  sound_then image left =
      let passes = run.goes_on.passes in
      let good = was.sound image (((state given).now_left image).0 ((passes.left since image (omega arith)).0 left)) in (
        good.0,
        subst (λ (seen : Files). Agrees want seen image)
            (sym (passes.seen since (omega arith) ∙ (state given).now_seen)) good.1,
      )

  kept_from : HasOldest told → IsKeptSince start [] told want since (state now)
  kept_from of =
      let mark = run.keeps.marks of.newer of.oldest [] of.is in
      let keeps = subst (λ (k : ℕ). KeepsSince start [] told k (state now)) (run.goes_on.first of.newer of.oldest of.is) mark.1 in
      keeps want was.alone sound_then

  kept : IsKeptSince start [] told want since (state now)
  kept = ⊎_elim
      (λ (none : told ≡ []). absurd (let some = run.some in let nothing = ap length none in omega (arith, some, nothing)))
      kept_from (some_turns told)

  none_held : AllHold start [] want ((state now).seen_at since) ((state now).left_at since)
  none_held other is image left = absurd (none_opened start other want is)

  holds : (gid : Gid) → IsOpenedWant start told gid want → (image : Files) → (state now).may_leave image
      → Holds start told told gid want (state now).seen image
  holds gid opened image left = (kept.hold none_held).0 gid opened image left

  pub survives : SurvivesCrash start told since (state now) want
  survives = record { sound = kept.sound; agrees = kept.agrees; holds = holds }

  sound_now : (image : Files) → (state now).may_leave image → Sound want image
  sound_now image left = kept.sound image
      ((state now).moment, run.goes_on.passes.later, omega arith, ((state now).now_left image).1 left)

  -- a verified piece of a completed download is right
  completed_right : (gid : Gid) → IsOpenedWant start told gid want → is_completed_in (history_of told) gid ≡ true
      → IsListedWant want → (piece : ℕ)
      → is_verified_in (own_of start (history_of told) gid) piece ≡ true → (image : Files) → (state now).may_leave image
      → IsRightPiece want image piece
  completed_right gid opened complete listed piece verified image left =
      let own = own_of start (history_of told) gid in
      let done = is_completed_in (history_of told) gid in
      let promised : is_piece_promised done own piece ≡ true = or_right (is_piece_saved own piece) (done && is_verified_in own piece)
      (both_true done (is_verified_in own piece) complete verified) in
      ⊎_elim
      (λ (gives : GivesSaves start told gid want [] own done image).
      let resumes = (gives true (λ again. refl)).pieces piece promised in
      (resumes.0, (sound_now image left).right listed piece resumes))
      (λ whole. (
        subst (λ (files : List (Option (List ℕ))). ReachesPiece want files piece) (sym whole.1.files)
            (reach_piece want (run.keeps.wants want gid was.alone opened) (state now).seen
            (run.keeps.lengths want gid was.alone opened) piece),
        whole.1.right listed piece promised,
      ))
      (holds gid opened image left [] refl)

-- ---- a listed download

one : (x y : Download) → Some x ≡ Some y → x ≡ y
one x y is = cc

-- whose want is listed, has a metainfo file
record HasMeta (download : Download) : Type 0 where
  meta : Meta
  uris : List (List ℕ)
  is : download.subject ≡ Listed meta uris

meta_of : (download : Download) (subject : Subject) → download.subject ≡ subject → IsSome (info_hash_by subject)
    → HasMeta download
meta_of download (Listed meta uris) is some = record { meta = meta; uris = uris; is = is }
meta_of download (Unlisted uris) is some = absurd cc

module _ {D : Type 0} (state : D → DiskState) (laws : RunFollows) (start : RunStart) (told : List RunTurn) (given now : D)
    (run : IsRun state start told given now) where
  pub have_digests : HaveDigests start told (state given) (state now)
  have_digests gid want is was piece wanted image left =
      let past = history_of told in
      let done = completed_done laws start gid past run.legal is.complete in
      let same : wanted.download ≡ done.download = one wanted.download done.download (sym wanted.added ∙ done.added) in
      let has = is.opened.has in
      let its : has.download ≡ done.download = one has.download done.download (sym has.added ∙ done.added) in
      let listed : IsSome (info_hash_by has.download.subject) = subst IsSome has.is.info_hash is.listed in
      let of = meta_of done.download done.download.subject refl
      (subst (λ (d : Download). IsSome (info_hash_by d.subject)) its listed) in
      let known = known_listed start past gid done.download of.meta of.uris done.added of.is in
      let is_wanted : slice_index_or (wanted_pieces done.download (lengths_told of.meta)) piece false ≡ true =
      subst (λ (l : PayloadLengths). slice_index_or (wanted_pieces done.download l) piece false ≡ true) known
      (subst (λ (d : Download). slice_index_or (wanted_pieces d (known_lengths start past gid)) piece false ≡ true) same wanted.wanted) in
      completed_right state laws start told given now run want was gid is.opened (completion_found laws start gid past is.complete)
      is.listed piece (done.done of.meta of.uris of.is piece is_wanted) image left
